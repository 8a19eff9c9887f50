use Rattle.std.proofs.Common.{refl, arith}
use Rattle.roster_model.specs.Rosters.{line_at}
use Rattle.roster_model.specs.Timelines.{credit_of}
use Rattle.open_time.proofs.Moving.{summed_more}
use Rattle.open_time.proofs.exchanging.vacant_credit.Goals as goal

pub loop-member-preserved : goal.loop-member-preserved
loop-member-preserved c = record {
  sum = summed_more (λ m. credit_of c.args.problem.now m (line_at c.args.roster.now m)) c.args.crew c.loop-member.member c.loop-member.total c.credit_at-total.result _
      c.loop-member.auto.member c.loop-member.invariant.sum c.credit_at-total.ensures.value refl;
  few = omega (arith, c.loop-member.invariant.few, c.credit_at-total.ensures.few);
}
