use Rattle.open_commands.proofs.OpenCheckingLaws.{all_more}
use Rattle.open_commands.proofs.open_checking.read_lodged.Goals as goal

pub returns-clause-logged : goal.returns-clause-logged
returns-clause-logged g c =
    all_more _ _ _ _ _ _ _ _ _ _ _ c.in_ok-inputs.ensures.logged c.in_ok-none.ensures.logged c.in_ok-certificate.ensures.logged
    c.in_ok-reasons.ensures.logged c.in_ok-roster.ensures.logged
