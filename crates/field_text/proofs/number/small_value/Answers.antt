use Rattle.std.proofs.Common.{arith, get_or}
use Rattle.std.proofs.lemmas.Int.Digits.{digits_value_more}
use Rattle.std.proofs.lemmas.Str.{digit_value_digit}
use Rattle.std.proofs.lemmas.Str.Parse.{digit_at}
use Rattle.field_text.proofs.Hours.{tens-next}
use Rattle.field_text.proofs.number.small_value.Goals as goal

pub overflow_sub-b : goal.overflow_sub-b
overflow_sub-b c = (digit_at c.args.digits.now c.loop-b.b-index c.requires.digits (omega arith)).0

pub loop-b-preserved : goal.loop-b-preserved
loop-b-preserved c =
    let d = digit_at c.args.digits.now c.loop-b.b-index c.requires.digits (omega arith) in
    record {
      value = omega (arith, digits_value_more 10 c.args.digits.now c.loop-b.b-index (omega arith), digit_value_digit (get_or c.args.digits.now c.loop-b.b-index 0) d);
      small = tens-next c.loop-b.b-index c.loop-b.value c.from.result (omega arith) c.loop-b.invariant.small (omega arith);
    }
