use Rattle.month_commands.proofs.MakeLaws.{is_made}
use Rattle.month_commands.proofs.making.made_drafts.Goals as goal

pub returns : goal.returns
returns c = record {
  made = is_made c.args.number c.args.members c.args.pairings c.in_ok-problem.problem c.in_ok-problem.ensures.made c.month_drafts.result c.month_drafts.ensures.drafts c.month_drafts.ensures.again;
}
