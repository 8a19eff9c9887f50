use Rattle.weight_certificates.proofs.closing.whole_roster.Goals as goal

pub is_whole-requires-clause-round : goal.is_whole-requires-clause-round
is_whole-requires-clause-round c =
    rw c.in-Some.is at (c.in_ok-round.ensures.round c.args.problem.now c.args.goal.now c.args.node.now c.in_ok-columns.ensures.columns)
