use Rattle.std.proofs.Common.{arith}
use Rattle.field_text.proofs.Hours.{hours-zero, hours-none, hours-one-ends, hours-one, hours-two-ends, hours-two, hours-three}
use Rattle.field_text.proofs.number.hour_digits.Goals as goal

pub returns-then-text-eq48-clause-rest : goal.returns-then-text-eq48-clause-rest
returns-then-text-eq48-clause-rest c = λ _. hours-zero c.args.text.now c.requires.some c.if-text-eq48.true

pub returns-then-not-contains-clause-none : goal.returns-then-not-contains-clause-none
returns-then-not-contains-clause-none c = λ _. hours-none c.args.text.now c.requires.some c.if-text-eq48.false (cc)

pub returns-then-text-eq1-clause-rest : goal.returns-then-text-eq1-clause-rest
returns-then-text-eq1-clause-rest c = λ _. hours-one-ends c.args.text.now (omega arith) c.if-text-eq48.false (cc)

pub returns-then-not-is_ascii_digit-clause-rest : goal.returns-then-not-is_ascii_digit-clause-rest
returns-then-not-is_ascii_digit-clause-rest c = λ _. hours-one c.args.text.now (omega arith) c.if-text-eq48.false (cc) (cc)

pub returns-then-text-eq2-clause-rest : goal.returns-then-text-eq2-clause-rest
returns-then-text-eq2-clause-rest c = λ _. hours-two-ends c.args.text.now (omega arith) c.if-text-eq48.false (cc) (cc)

pub returns-then-not-is_ascii_digit-2-clause-rest : goal.returns-then-not-is_ascii_digit-2-clause-rest
returns-then-not-is_ascii_digit-2-clause-rest c = λ _. hours-two c.args.text.now (omega arith) c.if-text-eq48.false (cc) (cc) (cc)

pub returns-clause-rest : goal.returns-clause-rest
returns-clause-rest c = λ _. hours-three c.args.text.now (omega arith) c.if-text-eq48.false (cc) (cc) (cc)
