use Rattle.next_folder.proofs.Found.{logged-more}
use Rattle.next_folder.proofs.reading.read_month_texts.Goals as goal

pub returns-clause-logged : goal.returns-clause-logged
returns-clause-logged g c = logged-more _ _ _ _ _ c.in_ok-inputs.ensures.logged c.in_ok-roster.ensures.logged
