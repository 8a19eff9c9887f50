use Rattle.std.proofs.Common.{◌≡◌, ℕ, ◌+◌, ◌++◌, ◌∙◌, List, ap, drop}
use Rattle.duty_calendar.specs.declared.pairing.Duty.{Duty}
use Rattle.pairing_files.specs.Texts.{lines, duty_rows, all_duty_rows}
use Rattle.pairing_files.proofs.LineFacts.{write-block, write-end, duties-next, duties-done}
use Rattle.pairing_files.proofs.lines.put_all_duty_lines.Goals as goal

pub loop-pairing-preserved : goal.loop-pairing-preserved
loop-pairing-preserved c =
    let text : c.put_duty_lines.new.out ≡ c.loop-pairing.out ++ lines (duty_rows c.args.horizon.now c.pairing-item.result.name 1 c.pairing-item.result.duties) = c.in_ok-put_duty_lines.ensures.whole
    ∙ ap (λ (n : List ℕ). c.loop-pairing.out ++ lines (duty_rows c.args.horizon.now n 1 c.as_slice.result.now)) c.bytes.ensures.value
    ∙ ap (λ (ds : List Duty). c.loop-pairing.out ++ lines (duty_rows c.args.horizon.now c.pairing-item.result.name 1 ds)) c.as_slice.ensures in
    write-block c.loop-pairing.out c.put_duty_lines.new.out c.args.out.now (duty_rows c.args.horizon.now c.pairing-item.result.name 1 c.pairing-item.result.duties) (all_duty_rows c.args.horizon.now (drop c.loop-pairing.pairing-index c.args.list.now)) (all_duty_rows c.args.horizon.now (drop (c.loop-pairing.pairing-index + 1) c.args.list.now)) (all_duty_rows c.args.horizon.now c.args.list.now)
    text (duties-next c.args.horizon.now c.args.list.now c.loop-pairing.pairing-index c.pairing-item.result c.loop-pairing-test.true c.pairing-item.is) c.loop-pairing.invariant

pub returns : goal.returns
returns c = record {
  whole = write-end c.loop-pairing.out c.args.out.now (all_duty_rows c.args.horizon.now (drop c.loop-pairing.pairing-index c.args.list.now)) (all_duty_rows c.args.horizon.now c.args.list.now) (duties-done c.args.horizon.now c.args.list.now c.loop-pairing.pairing-index c.loop-pairing-test.false) c.loop-pairing.invariant;
}
