use Rattle.std.proofs.Common.{◌∙◌, sym, arith}
use Rattle.std.proofs.lemmas.Bool.Decides.{nat_tests}
use Rattle.field_text.proofs.Numbers.{zero-alone, zero-more, other-first, digit-first, nothing-there}
use Rattle.field_text.proofs.number.number_fault.Goals as goal
use Rattle.field_text.proofs.number.number_fault.Goals.{then-first-lt49-via-then-first-lt49, then-first-lt49-via-else-first-lt49+then-first-gt57}

pub returns-in_default-clause-value : goal.returns-in_default-clause-value
returns-in_default-clause-value c = sym (nothing-there c.args.text.now c.in_default.ensures.cases)

pub returns-then-is_empty-clause-value : goal.returns-then-is_empty-clause-value
returns-then-is_empty-clause-value c = sym (zero-alone c.args.text.now c.in-Some.first.now c.in-Some.rest.now c.in-Some.ensures.cases.0 (omega arith) (grind (arith, nat_tests, c.if-is_empty.ensures)))

pub returns-else-is_empty-clause-value : goal.returns-else-is_empty-clause-value
returns-else-is_empty-clause-value c = sym (zero-more c.args.text.now c.in-Some.first.now c.in-Some.rest.now c.in-Some.ensures.cases.0 (omega arith) (grind (arith, nat_tests, c.if-is_empty.ensures)))

pub returns-then-first-lt49-clause-value : goal.returns-then-first-lt49-clause-value
returns-then-first-lt49-clause-value c = sym (other-first c.args.text.now c.in-Some.first.now c.in-Some.rest.now c.in-Some.ensures.cases.0 (omega arith)
    (elim c.then-first-lt49.branch [ then-first-lt49-via-then-first-lt49 w ↦ omega arith | then-first-lt49-via-else-first-lt49+then-first-gt57 w ↦ omega arith ]))

pub returns-clause-value : goal.returns-clause-value
returns-clause-value c = c.digits_fault.ensures.value ∙ sym (digit-first c.args.text.now c.in-Some.first.now c.in-Some.rest.now c.in-Some.ensures.cases.0 (omega arith) (omega arith))
