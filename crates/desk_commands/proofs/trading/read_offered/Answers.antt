use Rattle.desk_commands.proofs.TradeLaws.{two_more}
use Rattle.desk_commands.proofs.trading.read_offered.Goals as goal

pub returns-clause-logged : goal.returns-clause-logged
returns-clause-logged g c = two_more _ _ _ _ _ _ _ c.in_ok-inputs.ensures.logged c.in_ok-roster.ensures.logged c.in_ok-trades.ensures.logged
