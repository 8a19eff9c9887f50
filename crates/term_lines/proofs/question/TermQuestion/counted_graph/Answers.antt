use Rattle.term_lines.proofs.CountOrders.{counting_order}
use Rattle.term_lines.proofs.LineWeights.{chains_heavy}
use Rattle.term_lines.proofs.question.TermQuestion.counted_graph.Goals as goal

pub count_graph-requires : goal.count_graph-requires
count_graph-requires g c = record { member = c.requires.asked.in_range; counted = c.requires.asked.counted; per_arc = c.requires.stands.per_arc }

pub returns-clause-stands : goal.returns-clause-stands
returns-clause-stands g c = c.in_ok-counting.ensures.stands c.args.self.now.node.now c.args.self.now.lens.now c.args.self.now.weights.now c.requires.stands

pub returns-clause-caps : goal.returns-clause-caps
returns-clause-caps g c = c.in_ok-counting.ensures.caps c.args.self.now.terms.now.high c.requires.caps

pub returns-clause-heavy : goal.returns-clause-heavy
returns-clause-heavy g c = chains_heavy (c.in_ok-counting.ensures.stands c.args.self.now.node.now c.args.self.now.lens.now c.args.self.now.weights.now c.requires.stands) c.requires.asked.small

pub returns-clause-order : goal.returns-clause-order
returns-clause-order g c =
    counting_order g.B.Resource.extend g.B.Resource.done c.args.self.now.problem.now c.args.self.now.member c.args.self.now.terms.now c.args.graph.now c.args.adds.now c.in_ok-counting.counting c.in_ok-counting.ensures.drawn
