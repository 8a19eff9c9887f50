use Rattle.std.proofs.Common.{◌≤◌, drop, map}
use Rattle.roster_model.specs.Spans.{duty_event}
use Rattle.line_items.proofs.NightLoops.{CountsOn}
use Rattle.line_items.proofs.nights.duties_marks.Given as goal

abbrev pub invariant-loop-duty : goal.invariant-loop-duty
invariant-loop-duty l = record {
  row : l.count.row ≤ l.duty-index;
  lead : l.count.lead ≤ l.duty-index;
  counts : CountsOn l.begins (map duty_event l.duties) (map duty_event (drop l.duty-index l.duties)) l.count.row l.count.released l.count.lead l.count.is_one l.count.is_short;
}
