use Rattle.open_time.proofs.Moving.{lines_known}
use Rattle.open_time.proofs.moves.known_scores.Goals as goal

pub scores_of-requires-clause-pairings : goal.scores_of-requires-clause-pairings
scores_of-requires-clause-pairings c = lines_known c.args.problem.now c.args.roster.now c.requires.complete
