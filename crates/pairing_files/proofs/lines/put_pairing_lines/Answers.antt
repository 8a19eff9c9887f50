use Rattle.std.proofs.Common.{◌≡◌, ◌+◌, ◌++◌, drop}
use Rattle.pairing_files.specs.Texts.{pairing_fields, pairing_rows}
use Rattle.field_text.specs.Rows.{line}
use Rattle.pairing_files.proofs.LineFacts.{write-step, write-end, pairing-next, pairing-done}
use Rattle.pairing_files.proofs.lines.put_pairing_lines.Goals as goal

pub loop-pairing-preserved : goal.loop-pairing-preserved
loop-pairing-preserved c =
    let text : c.put_pairing_line.new.out ≡ c.loop-pairing.out ++ line (pairing_fields c.pairing-item.result) = c.in_ok-put_pairing_line.ensures.whole in
    write-step c.loop-pairing.out c.put_pairing_line.new.out c.args.out.now (pairing_fields c.pairing-item.result) (pairing_rows (drop c.loop-pairing.pairing-index c.args.list.now)) (pairing_rows (drop (c.loop-pairing.pairing-index + 1) c.args.list.now)) (pairing_rows c.args.list.now)
    text (pairing-next c.args.list.now c.loop-pairing.pairing-index c.pairing-item.result c.loop-pairing-test.true c.pairing-item.is) c.loop-pairing.invariant

pub returns : goal.returns
returns c = record {
  whole = write-end c.loop-pairing.out c.args.out.now (pairing_rows (drop c.loop-pairing.pairing-index c.args.list.now)) (pairing_rows c.args.list.now) (pairing-done c.args.list.now c.loop-pairing.pairing-index c.loop-pairing-test.false) c.loop-pairing.invariant;
}
