use Rattle.next_folder.proofs.Found.{logged-four}
use Rattle.next_folder.proofs.reading.read_next_texts.Goals as goal

pub returns-clause-logged : goal.returns-clause-logged
returns-clause-logged g c =
    logged-four _ _ _ _ _ _ _ _ _ c.in_ok-rules.ensures.logged c.in_ok-crew.ensures.logged c.in_ok-history.ensures.logged c.in_ok-fixed.ensures.logged
