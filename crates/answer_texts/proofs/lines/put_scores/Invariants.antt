use Rattle.std.proofs.Common.{◌≡◌, ◌++◌, take}
use Rattle.answer_texts.specs.Lines.{numbers}
use Rattle.answer_texts.proofs.lines.put_scores.Given as goal

abbrev pub invariant-loop-score : goal.invariant-loop-score
invariant-loop-score l = l.out ≡ l.fn.out ++ numbers (take l.score-index l.scores)
