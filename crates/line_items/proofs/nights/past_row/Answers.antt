use Rattle.std.proofs.Common.{ℕ, ◌+◌, drop, refl, sym, ◌∙◌, subst}
use Rattle.line_items.proofs.NightLoops.{IsPast, past_more, past_passed}
use Rattle.line_items.proofs.nights.past_row.Goals as goal
use Rattle.line_items.proofs.nights.past_row.Goals.{then-is_flight, else-is_flight}

pub loop-event-preserved : goal.loop-event-preserved
loop-event-preserved c =
    elim c.if-is_flight.branch [
      | then-is_flight w ↦
          subst (λ (n : ℕ). IsPast c.args.events.now (drop (c.loop-event.event-index + 1) c.args.events.now) n c.if-is_flight.released) (sym w.row-is)
          (subst (λ (n : ℕ). IsPast c.args.events.now (drop (c.loop-event.event-index + 1) c.args.events.now) w.past_with-row.result n) (sym w.released-is)
          (past_more c.args.events.now c.loop-event.event-index c.event-item.result c.event-item.result c.loop-event.row c.loop-event.released
          w.past_with-row.result c.event-item.result.release c.loop-event-test.true c.event-item.is
          (sym c.is_flight.ensures.flight ∙ w.if-is_flight.true) w.past_with-row.ensures.row refl c.loop-event.invariant))
      | else-is_flight w ↦
          subst (λ (n : ℕ). IsPast c.args.events.now (drop (c.loop-event.event-index + 1) c.args.events.now) n c.if-is_flight.released) (sym w.row-is)
          (subst (λ (n : ℕ). IsPast c.args.events.now (drop (c.loop-event.event-index + 1) c.args.events.now) c.loop-event.row n) (sym w.released-is)
          (past_passed c.args.events.now c.loop-event.event-index c.event-item.result c.event-item.result c.loop-event.row c.loop-event.released
          c.loop-event-test.true c.event-item.is (sym c.is_flight.ensures.flight ∙ w.if-is_flight.false) c.loop-event.invariant))
    ]
