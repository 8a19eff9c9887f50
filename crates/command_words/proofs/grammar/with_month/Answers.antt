use Rattle.std.proofs.Common.{rules, ◌≡◌, codes, refl}
use Rattle.std.proofs.lemmas.Result.{IfOk-weaker}
use Rattle.clap.specs.Words.{App, app_of, new_app, rule_of, with_rule, with_subcommand}
use Rattle.command_words.specs.Reading.{nodes_rule, needed_rule}
use Rattle.command_words.proofs.Shapes.{told_command, told_more, told_one}
use Rattle.command_words.proofs.grammar.with_month.Goals as goal

pub returns : goal.returns
returns c =
    let one : App = with_subcommand (new_app (codes "pbs")) (new_app (codes "check")).top in
    let award : App = with_rule (new_app (codes "award")) nodes_rule in
    let show : App = with_rule (new_app (codes "show")) (needed_rule (codes "member")) in
    let member : rule_of c.needed.result ≡ needed_rule (codes "member") = search rules in
    let pbs_is : app_of c.new.result ≡ new_app (codes "pbs") = search rules in
    let check_is : app_of c.new-2.result ≡ new_app (codes "check") = search rules in
    let first : app_of c.in_ok-program.program ≡ one =
    told_command (new_app (codes "pbs")) (new_app (codes "check")) c.new.result c.new-2.result c.in_ok-program.program pbs_is check_is refl c.in_ok-program.ensures in
    let award_is = told_one (codes "award") (codes "award") (rule_of c.nodes.result) nodes_rule c.with_one.result refl c.nodes.ensures.rule c.with_one.ensures.shape in
    let show_is = told_one (codes "show") (codes "show") (rule_of c.needed.result) (needed_rule (codes "member")) c.with_one-2.result refl member c.with_one-2.ensures.shape in
    let second : app_of c.in_ok-program-2.program ≡ with_subcommand one award.top =
    told_more one award c.in_ok-program.program c.in_ok-program-2.program c.with_one.result first award_is refl c.in_ok-program-2.ensures.shape in
    record {
      shape = IfOk-weaker c.and_command-2.result _ _
          (λ m h. told_more (with_subcommand one award.top) show c.in_ok-program-2.program m c.with_one-2.result second show_is refl h) c.and_command-2.ensures.shape;
    }
