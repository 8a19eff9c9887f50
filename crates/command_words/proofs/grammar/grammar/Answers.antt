use Rattle.std.proofs.Common.{rules, ◌≡◌, codes, refl}
use Rattle.std.proofs.lemmas.Result.{IfOk-weaker}
use Rattle.clap.specs.Words.{App, app_of, rule_of, with_rule, with_subcommand}
use Rattle.command_words.specs.Reading.{desk_commands, needed_rule, nodes_rule, one_app}
use Rattle.command_words.proofs.Shapes.{told_more, told_one}
use Rattle.command_words.proofs.grammar.grammar.Goals as goal

pub returns : goal.returns
returns c =
    let whatif : App = with_rule (one_app (codes "whatif") (codes "member")) nodes_rule in
    let opening : App = with_rule (one_app (codes "open") (codes "lines")) nodes_rule in
    let opencheck : App = one_app (codes "opencheck") (codes "lines") in
    let one : App = with_subcommand desk_commands whatif.top in
    let two : App = with_subcommand one opening.top in
    let lines : rule_of c.needed.result ≡ needed_rule (codes "lines") = search rules in
    let first : app_of c.in_ok-first.first ≡ one =
    told_more desk_commands whatif c.in_ok-desk.desk c.in_ok-first.first c.with_nodes.result c.in_ok-desk.ensures.shape c.with_nodes.ensures.shape refl c.in_ok-first.ensures.shape in
    let second : app_of c.in_ok-second.second ≡ two =
    told_more one opening c.in_ok-first.first c.in_ok-second.second c.with_nodes-2.result first c.with_nodes-2.ensures.shape refl c.in_ok-second.ensures.shape in
    let opencheck_is = told_one (codes "opencheck") (codes "opencheck") (rule_of c.needed.result) (needed_rule (codes "lines")) c.with_one.result refl lines c.with_one.ensures.shape in
    record {
      shape = IfOk-weaker c.and_command-3.result _ _
          (λ m h. told_more two opencheck c.in_ok-second.second m c.with_one.result second opencheck_is refl h) c.and_command-3.ensures.shape;
    }
