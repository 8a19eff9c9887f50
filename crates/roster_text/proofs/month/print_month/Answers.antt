use Rattle.roster_model.specs.Rosters.{line_at}
use Rattle.roster_text.proofs.MonthOrder.{listed_in_time}
use Rattle.roster_text.proofs.month.print_month.Goals as goal

pub returns-in_err-put_month-clause-order : goal.returns-in_err-put_month-clause-order
returns-in_err-put_month-clause-order c =
    listed_in_time c.args.problem.now c.args.member (line_at c.args.roster.now c.args.member)

pub returns-clause-order : goal.returns-clause-order
returns-clause-order c =
    listed_in_time c.args.problem.now c.args.member (line_at c.args.roster.now c.args.member)
