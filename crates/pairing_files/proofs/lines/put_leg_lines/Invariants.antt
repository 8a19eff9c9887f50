use Rattle.std.proofs.Common.{◌≡◌, ◌++◌, drop}
use Rattle.pairing_files.specs.Texts.{lines, leg_rows}
use Rattle.pairing_files.proofs.lines.put_leg_lines.Given as goal

abbrev pub invariant-loop-leg : goal.invariant-loop-leg
invariant-loop-leg l = l.out ++ lines (leg_rows l.horizon l.name l.number (drop l.leg-index l.legs)) ≡ l.fn.out ++ lines (leg_rows l.horizon l.name l.number l.legs)
