use Rattle.std.proofs.Common.{rules, ◌≡◌, ◌∙◌, ap, codes}
use Rattle.std.proofs.lemmas.Result.{IfOk-weaker}
use Rattle.clap.specs.Words.{App, app_of, new_app, rule_of, with_rule}
use Rattle.command_words.specs.Reading.{needed_rule}
use Rattle.command_words.proofs.Shapes.{told_rule}
use Rattle.command_words.proofs.grammar.with_sizes.Goals as goal

pub returns : goal.returns
returns c =
    let one : App = with_rule (new_app c.args.name.now) (needed_rule (codes "number")) in
    let two : App = with_rule one (needed_rule (codes "members")) in
    let number : rule_of c.needed.result ≡ needed_rule (codes "number") = search rules in
    let members : rule_of c.needed-2.result ≡ needed_rule (codes "members") = search rules in
    let pairings : rule_of c.needed-3.result ≡ needed_rule (codes "pairings") = search rules in
    let first : app_of c.in_ok-first.first ≡ one = c.in_ok-first.ensures.shape ∙ ap (with_rule (new_app c.args.name.now)) number in
    let second : app_of c.in_ok-second.second ≡ two =
    told_rule one (needed_rule (codes "members")) c.in_ok-first.first c.in_ok-second.second c.needed-2.result first c.in_ok-second.ensures members c.needed-2.ensures.here in
    record {
      shape = IfOk-weaker c.arg-2.result _ _
          (λ m h. told_rule two (needed_rule (codes "pairings")) c.in_ok-second.second m c.needed-3.result second h pairings c.needed-3.ensures.here) c.arg-2.ensures;
    }
