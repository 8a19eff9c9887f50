use Rattle.std.proofs.Common.{◌≡◌, ◌++◌, drop}
use Rattle.answer_texts.specs.OpenTexts.{spaced}
use Rattle.answer_texts.proofs.open_ends.put_names.Given as goal

abbrev pub invariant-loop-name : goal.invariant-loop-name
invariant-loop-name l = l.out ++ spaced (drop l.name-index l.names) ≡ l.fn.out ++ spaced l.names
