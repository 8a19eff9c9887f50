use Rattle.month_commands.proofs.TrialLaws.{is_trial}
use Rattle.month_commands.proofs.trying.trial.Goals as goal

pub returns : goal.returns
returns g c = record {
  trial = is_trial c.args.number c.args.members c.args.pairings c.args.nodes c.in_ok-problem.problem c.in_ok-problem.ensures.made c.try_month.result c.try_month.ensures.tried;
}
