use Rattle.line_items.proofs.DayMaskSteps.{fixed_count}
use Rattle.line_items.proofs.days.fixed_busy_days.Goals as goal

pub returns-then-lens : goal.returns-then-lens
returns-then-lens c = record { count = fixed_count c.args.problem.now c.args.member c.args.lens.now c.fixed_days.result c.if-lens.true c.fixed_days.ensures.busy }
