use Rattle.month_files.proofs.Logged.{eight}
use Rattle.month_files.proofs.reading.read_texts.Goals as goal

pub returns-clause-logged : goal.returns-clause-logged
returns-clause-logged g c =
    eight _ _ _ _ _ _ _ _ _ _ _ _ _ _ _ _ _ c.in_ok-rules.ensures.logged c.in_ok-pairings.ensures.logged c.in_ok-duties.ensures.logged c.in_ok-legs.ensures.logged
    c.in_ok-crew.ensures.logged c.in_ok-history.ensures.logged c.in_ok-fixed.ensures.logged c.in_ok-bids.ensures.logged
