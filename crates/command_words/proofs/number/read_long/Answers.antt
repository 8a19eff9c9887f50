use Rattle.std.proofs.Common.{sym}
use Rattle.command_words.proofs.Numbers.{longer_word}
use Rattle.command_words.proofs.number.read_long.Goals as goal

pub returns-then-word-gt20 : goal.returns-then-word-gt20
returns-then-word-gt20 c = record { value = sym (longer_word c.args.word.now c.if-word-gt20.true) }
