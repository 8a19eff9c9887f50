use Rattle.std.proofs.Common.{arith, length}
use Rattle.term_lines.proofs.CountOrders.{stands_seen}
use Rattle.term_lines.proofs.StepBound.{few_for, no_steps}
use Rattle.term_lines.proofs.HourLenses.{hour_items}
use Rattle.term_lines.proofs.question.TermQuestion.best_in_graph.Goals as goal

pub returns-in_err-lines-clause-few : goal.returns-in_err-lines-clause-few
returns-in_err-lines-clause-few g c none hour = no_steps c.args.self.now.problem.now c.args.self.now.member c.args.steps.now

pub returns-in_err-best-clause-few : goal.returns-in_err-best-clause-few
returns-in_err-best-clause-few g c none hour =
    few_for
    c.args.self.now.problem.now
    c.args.self.now.member
    c.args.steps.now
    c.best_chain.new.steps
    (length c.in_ok-lines.lines.graph.arcs)
    (let few = c.in_ok-lines.ensures.few in let count = hour_items c.args.self.now.problem.now c.args.self.now.member c.args.self.now.lens.now hour in omega arith)
    (c.best_chain.ensures.steps _ (c.in_ok-lines.ensures.labels hour))
    (λ few. c.best_chain.ensures.once (let count = c.len-count.ensures in omega arith) _ (c.in_ok-lines.ensures.labels hour))

pub best_line-requires-clause-stands : goal.best_line-requires-clause-stands
best_line-requires-clause-stands g c = stands_seen c.in_ok-lines.ensures.stands c.as_slice.result.now c.as_slice.ensures

pub returns-clause-few : goal.returns-clause-few
returns-clause-few g c none hour =
    few_for
    c.args.self.now.problem.now
    c.args.self.now.member
    c.args.steps.now
    c.best_chain.new.steps
    (length c.in_ok-lines.lines.graph.arcs)
    (let few = c.in_ok-lines.ensures.few in let count = hour_items c.args.self.now.problem.now c.args.self.now.member c.args.self.now.lens.now hour in omega arith)
    (c.best_chain.ensures.steps _ (c.in_ok-lines.ensures.labels hour))
    (λ few. c.best_chain.ensures.once (let count = c.len-count.ensures in omega arith) _ (c.in_ok-lines.ensures.labels hour))
