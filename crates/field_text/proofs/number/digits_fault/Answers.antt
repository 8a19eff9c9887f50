use Rattle.std.proofs.Common.{◌∙◌, sym, arith}
use Rattle.std.proofs.lemmas.Int.Digits.{digits_more}
use Rattle.field_text.proofs.Numbers.{digits-next, digits-stop, digits-end}
use Rattle.field_text.proofs.number.digits_fault.Goals as goal

pub loop-i-preserved : goal.loop-i-preserved
loop-i-preserved c = record {
  digits = digits_more 10 c.args.text.now c.loop-i.i (omega arith) c.loop-i.invariant.digits c.if-not-is_ascii_digit.ensures.bound;
  same = sym (digits-next c.args.column c.loop-i.i c.args.text.now (omega arith) (sym c.if-not-is_ascii_digit.ensures.value)) ∙ c.loop-i.invariant.same;
}

pub returns-then-not-is_ascii_digit-clause-value : goal.returns-then-not-is_ascii_digit-clause-value
returns-then-not-is_ascii_digit-clause-value c =
    sym (sym c.loop-i.invariant.same ∙ digits-stop c.args.column c.loop-i.i c.args.text.now (omega arith) (sym c.if-not-is_ascii_digit.ensures.value))

pub returns-clause-value : goal.returns-clause-value
returns-clause-value c = sym (sym c.loop-i.invariant.same ∙ digits-end c.args.column c.loop-i.i c.args.text.now (omega arith))
