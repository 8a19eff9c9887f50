use Rattle.std.proofs.Common.{ap, subst, ◌∙◌, ◌<◌}
use Rattle.line_items.specs.Clear.{base_of}
use Rattle.line_items.specs.WindowMinutes.{spread, window_minutes}
use Rattle.std.proofs.Common.{◌≤◌}
use Rattle.line_items.proofs.WindowSteps.{spread_none, spread_step, spread_end}
use Rattle.line_items.proofs.windows.base_usage.Goals as goal

pub loop-k-init : goal.loop-k-init
loop-k-init g c = spread_none g.row.N _

pub loop-k-preserved : goal.loop-k-preserved
loop-k-preserved g c =
    spread_step g.row.N c.loop-k.k _ c.as_slice-windows.result.now _ _ _ (subst (λ n. c.loop-k.k < n) c.min-k-end.ensures c.loop-k-test.true) c.loop-k.invariant c.base_minutes.ensures.minutes

pub returns : goal.returns
returns g c = record { usage = spread_end g.row.N c.loop-k.k _ _ _ (subst (λ n. n ≤ c.loop-k.k) c.min-k-end.ensures c.loop-k-test.false) c.loop-k.invariant ∙ ap (λ ws. spread g.row.N (window_minutes (base_of c.args.problem.now c.args.member)) ws) c.as_slice-windows.ensures }
