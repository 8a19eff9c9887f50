use Rattle.std.proofs.Common.{◌≡◌, take}
use Rattle.line_items.specs.WindowMinutes.{kind_limit, spread}
use Rattle.line_items.proofs.windows.window_caps.Given as goal

abbrev pub invariant-loop-k : goal.invariant-loop-k
invariant-loop-k g l = l.caps ≡ spread g.row.N (λ w. kind_limit w.kind) (take l.k l.windows)
