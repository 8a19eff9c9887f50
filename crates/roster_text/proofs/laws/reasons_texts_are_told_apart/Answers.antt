use Rattle.roster_text.proofs.ReasonLines.{one_list, one_fault, not_both}
use Rattle.roster_text.proofs.laws.reasons_texts_are_told_apart.Goals as goal

pub returns-clause-one_list : goal.returns-clause-one_list
returns-clause-one_list c = one_list c.args.problem.now

pub returns-clause-one_fault : goal.returns-clause-one_fault
returns-clause-one_fault c = one_fault c.args.problem.now

pub returns-clause-not_both : goal.returns-clause-not_both
returns-clause-not_both c = not_both c.args.problem.now
