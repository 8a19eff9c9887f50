use Rattle.next_folder.proofs.Spares.{spares_ended}
use Rattle.next_folder.proofs.rolling.roll_over.Goals as goal

pub returns-in-Ok-clause-spared : goal.returns-in-Ok-clause-spared
returns-in-Ok-clause-spared g c =
    spares_ended c.args.is_forced _ _ _ c.in-Ok.rolled _ _ c.write_rolled.result c.in-Ok.ensures.spared c.in-Ok.ensures.others c.write_rolled.ensures.left c.write_rolled.ensures.ended
