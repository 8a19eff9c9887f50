use Rattle.line_items.proofs.WindowSteps.{legs_total}
use Rattle.line_items.proofs.windows.duty_minutes.Goals as goal

pub returns-in-Flying : goal.returns-in-Flying
returns-in-Flying c = record { count = legs_total c.args.counted.minutes c.args.duty.now _ c.args.counted.from c.args.counted.to _ c.in-Flying.is c.as_slice.ensures c.requires.order c.leg_minutes.ensures.count }
