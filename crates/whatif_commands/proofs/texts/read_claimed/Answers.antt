use Rattle.whatif_commands.proofs.AskingLaws.{one_more}
use Rattle.whatif_commands.proofs.texts.read_claimed.Goals as goal

pub returns-clause-logged : goal.returns-clause-logged
returns-clause-logged g c = one_more _ _ _ _ _ c.in_ok-roster.ensures.logged c.in_ok-reasons.ensures.logged
