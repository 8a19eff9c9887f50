use Rattle.std.proofs.Common.{arith}
use Rattle.open_time.proofs.Moving.{kept_same, kept_more, open_few}
use Rattle.open_time.proofs.Sweeping.{sweep_settled}
use Rattle.open_time.proofs.placing.placed.Goals as goal

pub sweep-requires-clause-complete : goal.sweep-requires-clause-complete
sweep-requires-clause-complete c = c.loop-sweep.invariant.kept.good.complete

pub loop-sweep-init : goal.loop-sweep-init
loop-sweep-init c = record {
  kept = kept_same c.args.problem.now c.args.crew c.args.roster c.requires.complete;
  few = omega arith;
}

pub loop-sweep-preserved : goal.loop-sweep-preserved
loop-sweep-preserved c = record {
  kept = kept_more c.args.problem.now c.args.crew c.args.roster c.loop-sweep.current c.in_ok-swept.swept.roster c.loop-sweep.invariant.kept c.in_ok-swept.ensures.swept.kept;
  few = omega (arith, c.in_ok-swept.ensures.swept.fewer c.if-not-moves.false, c.loop-sweep.invariant.few);
}

pub returns-then-not-moves-clause-kept : goal.returns-then-not-moves-clause-kept
returns-then-not-moves-clause-kept c =
    kept_more c.args.problem.now c.args.crew c.args.roster c.loop-sweep.current c.in_ok-swept.swept.roster c.loop-sweep.invariant.kept c.in_ok-swept.ensures.swept.kept

pub returns-then-not-moves-clause-settled : goal.returns-then-not-moves-clause-settled
returns-then-not-moves-clause-settled c =
    sweep_settled c.args.problem.now c.args.crew _ c.loop-sweep.current c.in_ok-swept.swept.roster c.in_ok-swept.swept.moves
    c.loop-sweep.invariant.kept.good.complete c.if-not-moves.true (omega arith) c.in_ok-swept.ensures.swept

pub unreachable-requires : goal.unreachable-requires
unreachable-requires c =
    let few = open_few c.args.problem.now c.args.roster c.args.crew c.requires.complete in
    omega (arith, few, c.loop-sweep.invariant.few, c.loop-sweep-test.false)
