use Rattle.std.proofs.Common.{◌≡◌, ◌+◌, ◌++◌, drop}
use Rattle.pairing_files.specs.Texts.{leg_fields, leg_rows}
use Rattle.field_text.specs.Rows.{line}
use Rattle.pairing_files.proofs.LineFacts.{write-step, write-end, leg-next, leg-done}
use Rattle.pairing_files.proofs.lines.put_leg_lines.Goals as goal

pub loop-leg-preserved : goal.loop-leg-preserved
loop-leg-preserved c =
    let text : c.put_leg_line.new.out ≡ c.loop-leg.out ++ line (leg_fields c.args.horizon.now c.args.name.now c.args.number c.leg-item.result) = c.in_ok-put_leg_line.ensures.whole in
    write-step c.loop-leg.out c.put_leg_line.new.out c.args.out.now (leg_fields c.args.horizon.now c.args.name.now c.args.number c.leg-item.result) (leg_rows c.args.horizon.now c.args.name.now c.args.number (drop c.loop-leg.leg-index c.args.legs.now)) (leg_rows c.args.horizon.now c.args.name.now c.args.number (drop (c.loop-leg.leg-index + 1) c.args.legs.now)) (leg_rows c.args.horizon.now c.args.name.now c.args.number c.args.legs.now)
    text (leg-next c.args.horizon.now c.args.name.now c.args.number c.args.legs.now c.loop-leg.leg-index c.leg-item.result c.loop-leg-test.true c.leg-item.is) c.loop-leg.invariant

pub returns : goal.returns
returns c = record {
  whole = write-end c.loop-leg.out c.args.out.now (leg_rows c.args.horizon.now c.args.name.now c.args.number (drop c.loop-leg.leg-index c.args.legs.now)) (leg_rows c.args.horizon.now c.args.name.now c.args.number c.args.legs.now) (leg-done c.args.horizon.now c.args.name.now c.args.number c.args.legs.now c.loop-leg.leg-index c.loop-leg-test.false) c.loop-leg.invariant;
}
