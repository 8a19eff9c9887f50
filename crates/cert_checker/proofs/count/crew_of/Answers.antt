use Rattle.std.proofs.Common.{false, true}
use Rattle.cert_checker.proofs.Crews.{decided_counted, few_decided, left_counted}
use Rattle.cert_checker.proofs.count.crew_of.Goals as goal

pub overflow_sub-result : goal.overflow_sub-result
overflow_sub-result c =
    few_decided c.args.problem.now c.decisions-decisions.result.now c.args.node.now c.args.pairing false c.count_on-2.result c.len.result
    c.count_on-2.ensures c.len.ensures c.decisions-decisions.ensures.order c.requires.node

pub returns-clause-decided : goal.returns-clause-decided
returns-clause-decided c =
    decided_counted c.args.problem.now c.decisions-decisions.result.now c.args.node.now c.args.pairing true c.count_on.result c.count_on.ensures
    c.decisions-decisions.ensures.order c.requires.node

pub returns-clause-possible : goal.returns-clause-possible
returns-clause-possible c =
    left_counted c.args.problem.now c.decisions-decisions.result.now c.args.node.now c.args.pairing c.count_on-2.result c.len.result
    c.count_on-2.ensures c.len.ensures c.decisions-decisions.ensures.order c.requires.node
