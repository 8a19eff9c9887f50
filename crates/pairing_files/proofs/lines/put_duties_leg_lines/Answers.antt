use Rattle.std.proofs.Common.{◌≡◌, ◌+◌, ◌++◌, ◌∙◌, List, ap, drop}
use Rattle.duty_calendar.specs.declared.pairing.Leg.{Leg}
use Rattle.pairing_files.specs.Texts.{lines, leg_rows, duties_leg_rows}
use Rattle.pairing_files.proofs.LineFacts.{write-block, write-end, duties_leg-next, duties_leg-done}
use Rattle.pairing_files.proofs.lines.put_duties_leg_lines.Goals as goal

pub loop-i-preserved : goal.loop-i-preserved
loop-i-preserved c =
    let text : c.put_leg_lines.new.out ≡ c.loop-i.out ++ lines (leg_rows c.args.horizon.now c.args.name.now (c.loop-i.i + 1) c.index-duties-i.result.legs) = c.in_ok-put_leg_lines.ensures.whole ∙ ap (λ (ls : List Leg). c.loop-i.out ++ lines (leg_rows c.args.horizon.now c.args.name.now (c.loop-i.i + 1) ls)) c.as_slice.ensures in
    write-block c.loop-i.out c.put_leg_lines.new.out c.args.out.now (leg_rows c.args.horizon.now c.args.name.now (c.loop-i.i + 1) c.index-duties-i.result.legs) (duties_leg_rows c.args.horizon.now c.args.name.now (c.loop-i.i + 1) (drop c.loop-i.i c.args.duties.now)) (duties_leg_rows c.args.horizon.now c.args.name.now (c.loop-i.i + 1 + 1) (drop (c.loop-i.i + 1) c.args.duties.now)) (duties_leg_rows c.args.horizon.now c.args.name.now 1 c.args.duties.now)
    text (duties_leg-next c.args.horizon.now c.args.name.now c.args.duties.now c.loop-i.i c.index-duties-i.result c.loop-i-test.true c.index-duties-i.is) c.loop-i.invariant

pub returns : goal.returns
returns c = record {
  whole = write-end c.loop-i.out c.args.out.now (duties_leg_rows c.args.horizon.now c.args.name.now (c.loop-i.i + 1) (drop c.loop-i.i c.args.duties.now)) (duties_leg_rows c.args.horizon.now c.args.name.now 1 c.args.duties.now) (duties_leg-done c.args.horizon.now c.args.name.now c.args.duties.now c.loop-i.i (c.loop-i.i + 1) c.loop-i-test.false) c.loop-i.invariant;
}
