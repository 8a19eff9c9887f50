use Rattle.std.proofs.Common.{◌≡◌, rules}
use Rattle.term_lines.proofs.CountOrders.{stands_for, stands_seen, uncounted_is}
use Rattle.term_lines.proofs.question.TermQuestion.over_in_graph.Goals as goal

pub over_by_order-requires-clause-stands : goal.over_by_order-requires-clause-stands
over_by_order-requires-clause-stands g c =
    let none : c.args.self.now.terms.now.counted ≡ 0 = search rules in
    stands_for (stands_seen c.in_ok-lines.ensures.stands c.as_slice-adds.result.now c.as_slice-adds.ensures) c.args.self.now.terms.now (uncounted_is c.args.self.now.terms.now none)

pub over_by_count-requires-clause-stands : goal.over_by_count-requires-clause-stands
over_by_count-requires-clause-stands g c = stands_seen c.in_ok-lines.ensures.stands c.as_slice-adds.result.now c.as_slice-adds.ensures
