use Rattle.std.proofs.Common.{arith}
use Rattle.weight_certificates.proofs.rosters.is_whole.Goals as goal

pub returns-in-Ok : goal.returns-in-Ok
returns-in-Ok c = record {
  whole =
      λ yes.
      record {
        complete = c.in-Ok.ensures.ok;
        meets = c.all_meet.ensures.meet c.if-not-all_meet.false;
        obeys = λ m lt. (c.requires.round.each m (omega (arith, lt, c.requires.round.lines))).passes.obeys;
      };
}
