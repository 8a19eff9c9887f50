use Rattle.std.proofs.Common.{◌≡◌, ◌+◌, take, drop}
use Rattle.std.specs.Str.Parse.{AllDigits}
use Rattle.field_text.specs.declared.form.Class.TheVariants.{Digit}
use Rattle.field_text.specs.Form.{fault_from, many, finished}
use Rattle.field_text.proofs.number.digits_fault.Given as goal

abbrev pub invariant-loop-i : goal.invariant-loop-i
invariant-loop-i l = record {
  digits : AllDigits 10 (take l.i l.text);
  same : fault_from (l.column + l.i) (many Digit finished) (drop l.i l.text) ≡ fault_from l.column (many Digit finished) l.text;
}
