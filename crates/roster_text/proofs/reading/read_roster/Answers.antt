use Rattle.roster_text.proofs.RowSteps.{is_read, is_form, is_fault, is_only, is_first}
use Rattle.roster_text.proofs.reading.read_roster.Goals as goal

pub returns-clause-read : goal.returns-clause-read
returns-clause-read c = is_read c.args.problem.now c.args.text.now c.whole_of.result c.whole_of.ensures.read

pub returns-clause-valid : goal.returns-clause-valid
returns-clause-valid c = is_form c.args.problem.now c.args.text.now c.whole_of.result c.whole_of.ensures.read

pub returns-clause-fault : goal.returns-clause-fault
returns-clause-fault c = is_fault c.args.problem.now c.args.text.now c.whole_of.result c.whole_of.ensures.read

pub returns-clause-only : goal.returns-clause-only
returns-clause-only c = is_only c.args.problem.now c.args.text.now c.whole_of.result c.whole_of.ensures.read

pub returns-clause-first : goal.returns-clause-first
returns-clause-first c = is_first c.args.problem.now c.args.text.now c.whole_of.result c.whole_of.ensures.read
