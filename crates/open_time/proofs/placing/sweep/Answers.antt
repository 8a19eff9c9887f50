use Rattle.std.proofs.Common.{ℕ, ◌≡◌, length, subst, arith}
use Rattle.open_time.specs.Moves.{IsSwept}
use Rattle.open_time.proofs.Sweeping.{sweep_begun}
use Rattle.open_time.proofs.placing.sweep.Goals as goal

pub sweep_line-requires-clause-complete : goal.sweep_line-requires-clause-complete
sweep_line-requires-clause-complete c = c.loop-giver.invariant.kept.good.complete

pub loop-giver-init : goal.loop-giver-init
loop-giver-init c = sweep_begun c.args.problem.now c.args.crew c.args.roster c.requires.complete

pub loop-giver-preserved : goal.loop-giver-preserved
loop-giver-preserved c = c.in_ok-current.ensures.swept c.args.roster c.loop-giver.invariant

pub returns : goal.returns
returns c =
    let all : c.loop-giver.giver ≡ length c.args.problem.now.base.members =
    omega (arith, c.loop-giver-test.false, c.len-giver-end.ensures, c.loop-giver.auto.giver-end (omega (arith, c.requires.crew, c.len-giver-end.ensures))) in
    record {
      swept = subst (λ (k : ℕ). IsSwept c.args.problem.now c.args.crew k 0 c.args.roster c.loop-giver.current.roster c.loop-giver.current.moves) all c.loop-giver.invariant;
    }
