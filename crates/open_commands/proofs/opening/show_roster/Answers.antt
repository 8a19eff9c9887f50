use Rattle.open_commands.proofs.OpeningLaws.{in_range}
use Rattle.open_commands.proofs.opening.show_roster.Goals as goal

pub scores_of-requires-clause-pairings : goal.scores_of-requires-clause-pairings
scores_of-requires-clause-pairings c = in_range c.args.made.now c.args.roster.now c.requires.complete
