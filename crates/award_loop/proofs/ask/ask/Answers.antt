use Rattle.std.proofs.Common.{refl}
use Rattle.roster_model.specs.Awards.{floor_goal}
use Rattle.completion_search.proofs.Grown.{AddsSearch-none}
use Rattle.award_loop.proofs.ask.ask.Goals as goal

pub returns-in_err-goal-clause-adds : goal.returns-in_err-goal-clause-adds
returns-in_err-goal-clause-adds g c =
    AddsSearch-none c.args.problem.now (floor_goal c.args.before.now c.args.floor) c.args.ledger.now c.args.ledger.now refl c.requires.orderly
