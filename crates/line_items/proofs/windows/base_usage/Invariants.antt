use Rattle.std.proofs.Common.{◌≡◌, take}
use Rattle.line_items.specs.Clear.{base_of}
use Rattle.line_items.specs.WindowMinutes.{window_minutes, spread}
use Rattle.line_items.proofs.windows.base_usage.Given as goal

abbrev pub invariant-loop-k : goal.invariant-loop-k
invariant-loop-k g l = l.amounts ≡ spread g.row.N (window_minutes (base_of l.problem l.member)) (take l.k l.windows)
