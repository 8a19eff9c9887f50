use Rattle.closer_tests.proofs.OtherBids.{first_greatest}
use Rattle.closer_tests.proofs.again.later.Goals as goal

pub award_from-done-requires-clause-greatest : goal.award_from-done-requires-clause-greatest
award_from-done-requires-clause-greatest g c =
    first_greatest c.args.problem.now c.in-Award.kept c.in-Award._proofs
    (rw c.in-Award.is at (rw c.expect-done.ensures at c.award.ensures.seniority)) c.requires.members
