use Rattle.std.proofs.Common.{arith, sym, subst, ◌∙◌}
use Rattle.std.specs.Prelude.{All}
use Rattle.duty_calendar.specs.Events.{IsEvent, HasFlightsApart}
use Rattle.line_items.specs.Clear.{base_of}
use Rattle.line_items.proofs.WindowSteps.{history_apart, fixed_forms, fixed_apart, base_total}
use Rattle.line_items.proofs.windows.base_minutes.Goals as goal

pub events_minutes-past-requires-clause-apart : goal.events_minutes-past-requires-clause-apart
events_minutes-past-requires-clause-apart c = subst HasFlightsApart (sym c.history_of.ensures.events) (history_apart c.args.problem.now c.args.member)

pub events_minutes-coming-requires-clause-forms : goal.events_minutes-coming-requires-clause-forms
events_minutes-coming-requires-clause-forms c = subst (All IsEvent) (sym c.fixed_of.ensures.events) (fixed_forms c.args.problem.now c.args.member)

pub events_minutes-coming-requires-clause-apart : goal.events_minutes-coming-requires-clause-apart
events_minutes-coming-requires-clause-apart c = subst HasFlightsApart (sym c.fixed_of.ensures.events) (fixed_apart c.args.problem.now c.args.member)

pub overflow_add-result : goal.overflow_add-result
overflow_add-result c =
    let total = base_total c.args.problem.now c.args.member c.counted_in-counted.result.minutes c.counted_in-counted.result.from c.counted_in-counted.result.to _ _ _ _ c.history_of.ensures.events c.fixed_of.ensures.events c.events_minutes-past.ensures.count c.events_minutes-coming.ensures.count c.counted_in-counted.ensures.order c.counted_in-counted.ensures.width in
    omega (arith, total.1)

pub overflow_cast-result : goal.overflow_cast-result
overflow_cast-result c =
    let total = base_total c.args.problem.now c.args.member c.counted_in-counted.result.minutes c.counted_in-counted.result.from c.counted_in-counted.result.to _ _ _ _ c.history_of.ensures.events c.fixed_of.ensures.events c.events_minutes-past.ensures.count c.events_minutes-coming.ensures.count c.counted_in-counted.ensures.order c.counted_in-counted.ensures.width in
    omega (arith, total.1)

pub returns : goal.returns
returns c =
    let total = base_total c.args.problem.now c.args.member c.counted_in-counted.result.minutes c.counted_in-counted.result.from c.counted_in-counted.result.to _ _ _ _ c.history_of.ensures.events c.fixed_of.ensures.events c.events_minutes-past.ensures.count c.events_minutes-coming.ensures.count c.counted_in-counted.ensures.order c.counted_in-counted.ensures.width in
    record { minutes = total.0 ∙ sym (c.counted_in-counted.ensures.minutes (base_of c.args.problem.now c.args.member)) }
