use Rattle.take_graphs.proofs.take_lines.take_graph.Goals as goal

pub returns-clause-stands : goal.returns-clause-stands
returns-clause-stands g c = rw (c.from_arcs.ensures.graph, c.from_vec.ensures.elements) c.in_ok-ends.ensures.stands

pub returns-clause-caps : goal.returns-clause-caps
returns-clause-caps g c = rw c.from_arcs.ensures.graph c.in_ok-ends.ensures.caps

pub returns-clause-few : goal.returns-clause-few
returns-clause-few g c = rw c.from_arcs.ensures.graph c.in_ok-ends.ensures.few

pub returns-clause-labels : goal.returns-clause-labels
returns-clause-labels g c = rw c.from_arcs.ensures.graph c.in_ok-ends.ensures.labels
