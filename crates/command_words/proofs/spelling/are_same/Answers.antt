use Rattle.std.proofs.Common.{◌∙◌}
use Rattle.command_words.proofs.Steps.{same_texts}
use Rattle.command_words.proofs.spelling.are_same.Goals as goal

pub returns : goal.returns
returns c = record { value = c.eq.ensures ∙ same_texts c.args.words.now c.args.arguments.now }
