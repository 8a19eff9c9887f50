use Rattle.term_lines.proofs.CountOrders.{stands_seen}
use Rattle.term_lines.proofs.question.TermQuestion.best_counted.Goals as goal

pub best_by_count-requires-clause-stands : goal.best_by_count-requires-clause-stands
best_by_count-requires-clause-stands g c = stands_seen c.in_ok-lines.ensures.stands c.as_slice.result.now c.as_slice.ensures
