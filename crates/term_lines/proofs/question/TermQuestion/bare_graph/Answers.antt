use Rattle.std.proofs.Common.{ap, ◌∙◌}
use Rattle.lens_classes.specs.declared.terms.Terms.{Terms}
use Rattle.count_graphs.specs.Counts.{uncounted}
use Rattle.term_lines.proofs.CountOrders.{stands_for}
use Rattle.term_lines.proofs.LineWeights.{chains_heavy}
use Rattle.term_lines.proofs.question.TermQuestion.bare_graph.Goals as goal

pub returns-clause-stands : goal.returns-clause-stands
returns-clause-stands g c = stands_for c.in_ok-lines.ensures.stands (uncounted c.args.self.now.terms.now) c.uncounted-plain.ensures.uncounted

pub returns-clause-caps : goal.returns-clause-caps
returns-clause-caps g c = λ number arc at. c.in_ok-lines.ensures.caps number arc at ∙ ap (λ (t : Terms). t.high) c.uncounted-plain.ensures.uncounted

pub returns-clause-heavy : goal.returns-clause-heavy
returns-clause-heavy g c = chains_heavy c.in_ok-lines.ensures.stands c.requires.asked.small
