use Rattle.std.proofs.Common.{◌≡◌, take}
use Rattle.line_items.specs.Clear.{duties_of}
use Rattle.line_items.specs.WindowMinutes.{window_minutes, spread}
use Rattle.line_items.proofs.windows.pairing_usage.Given as goal

abbrev pub invariant-loop-k : goal.invariant-loop-k
invariant-loop-k g l = l.amounts ≡ spread g.row.N (window_minutes (duties_of l.pairing)) (take l.k l.windows)
