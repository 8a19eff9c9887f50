use Rattle.std.proofs.Common.{◌≡◌, ◌++◌, drop}
use Rattle.pairing_files.specs.Texts.{lines, all_duty_rows}
use Rattle.pairing_files.proofs.lines.put_all_duty_lines.Given as goal

abbrev pub invariant-loop-pairing : goal.invariant-loop-pairing
invariant-loop-pairing l = l.out ++ lines (all_duty_rows l.horizon (drop l.pairing-index l.list)) ≡ l.fn.out ++ lines (all_duty_rows l.horizon l.list)
