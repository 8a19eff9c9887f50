use Rattle.std.proofs.Common.{◌≡◌, ◌+◌, ◌++◌, drop}
use Rattle.pairing_files.specs.Texts.{lines, duty_rows}
use Rattle.pairing_files.proofs.lines.put_duty_lines.Given as goal

abbrev pub invariant-loop-i : goal.invariant-loop-i
invariant-loop-i l = l.out ++ lines (duty_rows l.horizon l.name (l.i + 1) (drop l.i l.duties)) ≡ l.fn.out ++ lines (duty_rows l.horizon l.name 1 l.duties)
