use Rattle.std.proofs.Common.{◌≡◌, ◌++◌, drop}
use Rattle.answer_texts.specs.OpenTexts.{row_lines}
use Rattle.answer_texts.proofs.open_ends.put_rows.Given as goal

abbrev pub invariant-loop-row : goal.invariant-loop-row
invariant-loop-row l = l.out ++ row_lines (drop l.row-index l.rows) ≡ l.fn.out ++ row_lines l.rows
