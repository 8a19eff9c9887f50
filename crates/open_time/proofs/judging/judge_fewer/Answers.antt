use Rattle.std.proofs.Common.{rules}
use Rattle.open_time.proofs.Judgings.{refuted}
use Rattle.open_time.proofs.judging.judge_fewer.Goals as goal

pub returns-in-Ok-judge_none-clause-accepted : goal.returns-in-Ok-judge_none-clause-accepted
returns-in-Ok-judge_none-clause-accepted c =
    refuted c.args.problem.now c.args.less c.args.proof.now c.in-Ok.made c.in-Ok.ensures.made c.in-Ok-judge_none.ensures.accepted

pub returns : goal.returns
returns c = record {
  accepted = tt;
  fault = record {
    made = c.in-Ok.made;
    of = c.in-Ok.ensures.made;
    known = search rules;
    stops = c.in-Err-judge_none.ensures.first;
    closes_not = search rules;
  };
}
