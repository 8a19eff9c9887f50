use Rattle.std.proofs.Common.{arith}
use Rattle.weight_certificates.specs.Columns.{IsHeavyEnough}
use Rattle.weight_certificates.proofs.Evened.{evened_none, evened_more, evened_small, evened_all, small_weights}
use Rattle.weight_certificates.proofs.rounds.rounds_over.Goals as goal

pub loop-init : goal.loop-init
loop-init c = record {
  evened = evened_none c.args.problem.now c.args.goal.now c.args.node.now c.args.weights.now c.requires.zero;
  columns = c.requires.columns;
  last_is = λ lt. absurd (omega (arith, lt));
}

pub next_round-requires-clause-small : goal.next_round-requires-clause-small
next_round-requires-clause-small c =
    small_weights c.loop.weights
    (evened_small c.args.problem.now c.args.goal.now c.args.node.now c.loop.counter c.loop.weights (omega (arith, c.loop-test.true, c.requires.few_rounds)) c.loop.invariant.evened)

pub loop-preserved : goal.loop-preserved
loop-preserved c =
    let enough : IsHeavyEnough c.args.problem.now c.args.goal.now c.args.node.now c.loop.weights c.next_round.new.miss c.in-Round.round = rw c.in-Round.is at c.in_ok-round.ensures.next in
    record {
      evened =
          evened_more c.args.problem.now c.args.goal.now c.args.node.now c.loop.weights c.next_round.new.miss c.subtract.new.from c.in-Round.round c.loop.counter
          c.loop.invariant.evened enough (omega arith) c.subtract.ensures.less;
      columns = c.in_ok-round.ensures.columns;
      last_is = λ lt. enough.is_round;
    }

pub returns : goal.returns
returns c = record {
  ended =
      evened_all c.args.problem.now c.args.goal.now c.args.node.now c.loop.counter c.args.count c.loop.weights c.loop.last (omega arith) c.loop.invariant.evened
      (c.loop.invariant.last_is (omega arith));
  columns = c.loop.invariant.columns;
}
