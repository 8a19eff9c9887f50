use Rattle.std.proofs.Common.{◌∙◌, sym, rules}
use Rattle.command_words.proofs.Steps.{option_missing}
use Rattle.command_words.proofs.spelling.has_option.Goals as goal

pub returns-then-i-words : goal.returns-then-i-words
returns-then-i-words c = record {
  value = sym (option_missing c.args.words.now c.args.arguments.now c.args.nodes.now c.loop-i.i c.args.nodes (search rules) (search rules))
      ∙ c.loop-i.invariant.same;
}
