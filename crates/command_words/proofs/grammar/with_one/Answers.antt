use Rattle.std.proofs.Common.{refl}
use Rattle.std.proofs.lemmas.Result.{IfOk-weaker}
use Rattle.clap.specs.Words.{new_app, rule_of}
use Rattle.command_words.proofs.Shapes.{told_rule}
use Rattle.command_words.proofs.grammar.with_one.Goals as goal

pub returns : goal.returns
returns c = record {
  shape = IfOk-weaker c.arg.result _ _
      (λ m h. told_rule (new_app c.args.name.now) (rule_of c.args.argument) c.new.result m c.args.argument c.new.ensures.app h refl c.requires.here) c.arg.ensures;
}
