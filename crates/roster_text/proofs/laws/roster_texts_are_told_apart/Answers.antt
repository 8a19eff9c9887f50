use Rattle.roster_text.proofs.RowLaws.{one_roster}
use Rattle.roster_text.proofs.FaultLaws.{one_fault, not_both}
use Rattle.roster_text.proofs.laws.roster_texts_are_told_apart.Goals as goal

pub returns-clause-one_roster : goal.returns-clause-one_roster
returns-clause-one_roster c = one_roster c.args.problem.now

pub returns-clause-one_fault : goal.returns-clause-one_fault
returns-clause-one_fault c = one_fault c.args.problem.now

pub returns-clause-not_both : goal.returns-clause-not_both
returns-clause-not_both c = not_both c.args.problem.now
