use Rattle.std.proofs.Common.{◌≡◌, ◌++◌, drop}
use Rattle.pairing_files.specs.Texts.{lines, pairing_rows}
use Rattle.pairing_files.proofs.lines.put_pairing_lines.Given as goal

abbrev pub invariant-loop-pairing : goal.invariant-loop-pairing
invariant-loop-pairing l = l.out ++ lines (pairing_rows (drop l.pairing-index l.list)) ≡ l.fn.out ++ lines (pairing_rows l.list)
