use Rattle.std.proofs.Common.{◌≡◌}
use Rattle.std.specs.Prelude.{filter, nat_le, nat_lt}
use Rattle.next_month.proofs.parts.part_events.Given as goal

abbrev pub invariant-loop-event : goal.invariant-loop-event
invariant-loop-event l = record {
  history : l.parts.history ≡ filter (λ e. nat_lt e.report 525600) l.yielded;
  fixed : l.parts.fixed ≡ filter (λ e. nat_le 525600 e.report) l.yielded;
}
