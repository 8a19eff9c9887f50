use Rattle.whatif_commands.proofs.AskingLaws.{two_more}
use Rattle.whatif_commands.proofs.texts.read_asked.Goals as goal

pub returns-clause-logged : goal.returns-clause-logged
returns-clause-logged g c = two_more _ _ _ _ _ _ _ c.in_ok-inputs.ensures.logged c.in_ok-certificate.ensures.logged c.in_ok-bids.ensures.logged
