use Rattle.std.proofs.Common.{◌≡◌, ◌+◌, ◌++◌, drop}
use Rattle.pairing_files.specs.Texts.{duty_fields, duty_rows}
use Rattle.field_text.specs.Rows.{line}
use Rattle.pairing_files.proofs.LineFacts.{write-step, write-end, duty-next, duty-done}
use Rattle.pairing_files.proofs.lines.put_duty_lines.Goals as goal

pub loop-i-preserved : goal.loop-i-preserved
loop-i-preserved c =
    let text : c.put_duty_line.new.out ≡ c.loop-i.out ++ line (duty_fields c.args.horizon.now c.args.name.now (c.loop-i.i + 1) c.index-duties-i.result) = c.in_ok-put_duty_line.ensures.whole in
    write-step c.loop-i.out c.put_duty_line.new.out c.args.out.now (duty_fields c.args.horizon.now c.args.name.now (c.loop-i.i + 1) c.index-duties-i.result) (duty_rows c.args.horizon.now c.args.name.now (c.loop-i.i + 1) (drop c.loop-i.i c.args.duties.now)) (duty_rows c.args.horizon.now c.args.name.now (c.loop-i.i + 1 + 1) (drop (c.loop-i.i + 1) c.args.duties.now)) (duty_rows c.args.horizon.now c.args.name.now 1 c.args.duties.now)
    text (duty-next c.args.horizon.now c.args.name.now c.args.duties.now c.loop-i.i c.index-duties-i.result c.loop-i-test.true c.index-duties-i.is) c.loop-i.invariant

pub returns : goal.returns
returns c = record {
  whole = write-end c.loop-i.out c.args.out.now (duty_rows c.args.horizon.now c.args.name.now (c.loop-i.i + 1) (drop c.loop-i.i c.args.duties.now)) (duty_rows c.args.horizon.now c.args.name.now 1 c.args.duties.now) (duty-done c.args.horizon.now c.args.name.now c.args.duties.now c.loop-i.i (c.loop-i.i + 1) c.loop-i-test.false) c.loop-i.invariant;
}
