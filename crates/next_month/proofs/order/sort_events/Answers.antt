use Rattle.std.proofs.Common.{rules}
use Rattle.std.proofs.lemmas.List.Sorted.{IsNonDecreasingBy-from_sort_by_key}
use Rattle.duty_calendar.specs.declared.event.Event.{Event}
use Rattle.next_month.proofs.order.sort_events.Goals as goal

pub returns-clause-sorted : goal.returns-clause-sorted
returns-clause-sorted c = IsNonDecreasingBy-from_sort_by_key (λ (e : Event). e.report) _ c.in_ok-sort_by_key.ensures.sorted (λ a r f h. search rules)
