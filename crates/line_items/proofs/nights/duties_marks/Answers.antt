use Rattle.line_items.proofs.NightLoops.{marks_counted}
use Rattle.line_items.proofs.nights.duties_marks.Goals as goal

pub returns : goal.returns
returns c = record {
  marks = marks_counted c.args.begins c.args.until c.args.duties.now c.loop-duty.duty-index c.loop-duty.count.row c.loop-duty.count.released
      c.loop-duty.count.lead c.loop-duty.count.is_one c.loop-duty.count.is_short c.marks_by.result c.loop-duty-test.false
      c.loop-duty.invariant.counts c.marks_by.ensures.marks;
}
