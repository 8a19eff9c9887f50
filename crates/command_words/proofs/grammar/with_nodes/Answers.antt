use Rattle.std.proofs.Common.{rules, ◌≡◌, ◌∙◌, ap}
use Rattle.std.proofs.lemmas.Result.{IfOk-weaker}
use Rattle.clap.specs.Words.{app_of, new_app, rule_of, with_rule}
use Rattle.command_words.specs.Reading.{needed_rule, nodes_rule, one_app}
use Rattle.command_words.proofs.Shapes.{told_rule}
use Rattle.command_words.proofs.grammar.with_nodes.Goals as goal

pub returns : goal.returns
returns c =
    let argument : rule_of c.needed.result ≡ needed_rule c.args.id.now = search rules in
    let one : app_of c.in_ok-one.one ≡ one_app c.args.name.now c.args.id.now =
    c.in_ok-one.ensures.shape ∙ ap (with_rule (new_app c.args.name.now)) argument in
    record {
      shape = IfOk-weaker c.arg.result _ _
          (λ m h. told_rule (one_app c.args.name.now c.args.id.now) nodes_rule c.in_ok-one.one m c.nodes.result one h c.nodes.ensures.rule c.nodes.ensures.here) c.arg.ensures;
    }
