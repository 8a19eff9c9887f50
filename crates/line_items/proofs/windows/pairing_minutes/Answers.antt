use Rattle.std.proofs.Common.{arith, sym, ◌∙◌}
use Rattle.line_items.specs.Clear.{duties_of}
use Rattle.line_items.proofs.WindowSteps.{duties_total}
use Rattle.line_items.proofs.windows.pairing_minutes.Goals as goal

pub overflow_cast-result : goal.overflow_cast-result
overflow_cast-result c =
    let total = duties_total c.counted_in.result.minutes c.counted_in.result.from c.counted_in.result.to _ _ c.args.pairing.now.duties c.as_slice.ensures c.duties_minutes.ensures.count c.counted_in.ensures.order c.counted_in.ensures.width in
    omega (arith, total.1)

pub returns : goal.returns
returns c =
    let total = duties_total c.counted_in.result.minutes c.counted_in.result.from c.counted_in.result.to _ _ c.args.pairing.now.duties c.as_slice.ensures c.duties_minutes.ensures.count c.counted_in.ensures.order c.counted_in.ensures.width in
    record { minutes = total.0 ∙ sym (c.counted_in.ensures.minutes (duties_of c.args.pairing.now)) }
