use Rattle.std.proofs.Common.{sym}
use Rattle.command_words.proofs.Numbers.{long_word}
use Rattle.command_words.proofs.number.number_within.Goals as goal

pub returns-then-word-gt5 : goal.returns-then-word-gt5
returns-then-word-gt5 c = record { value = sym (long_word c.args.least c.args.most c.args.word.now c.requires.small c.if-word-gt5.true) }
