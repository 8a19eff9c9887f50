use Rattle.std.proofs.Common.{rules, ◌≡◌, codes}
use Rattle.std.proofs.lemmas.Result.{IfOk-weaker}
use Rattle.clap.specs.Words.{app_of}
use Rattle.command_words.specs.Reading.{nodes_rule, sized_app}
use Rattle.command_words.proofs.Shapes.{told_rule}
use Rattle.command_words.proofs.grammar.trial.Goals as goal

pub returns : goal.returns
returns c =
    let sized : app_of c.in_ok-sized.sized ≡ sized_app (codes "trial") = search rules in
    record {
      shape = IfOk-weaker c.arg.result _ _
          (λ m h. told_rule (sized_app (codes "trial")) nodes_rule c.in_ok-sized.sized m c.nodes.result sized h c.nodes.ensures.rule c.nodes.ensures.here) c.arg.ensures;
    }
