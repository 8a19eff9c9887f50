use Rattle.month_files.proofs.OneMonth.{one_problem, one_fault, never_both}
use Rattle.month_files.proofs.laws.texts_name_one_month.Goals as goal

pub returns : goal.returns
returns c = record { one_problem = one_problem; one_fault = one_fault; never_both = never_both }
