use Rattle.instance_maker.proofs.Kept.{crew_more}
use Rattle.instance_maker.proofs.month.crew.Goals as goal

pub loop-number-preserved : goal.loop-number-preserved
loop-number-preserved c =
    crew_more c.loop-number.number c.loop-number.list c.add.new.list c.in_ok-made.made c.loop-number.invariant
    c.in_ok-made.ensures.value c.in_ok-add.ensures.ok
