use Rattle.std.proofs.Common.{◌≡◌, ◌+◌, ◌≤◌, drop, length}
use Rattle.field_text.specs.Form.{fault_from, row}
use Rattle.field_text.proofs.form.row_fault.Given as goal

abbrev pub invariant-loop-i : goal.invariant-loop-i
invariant-loop-i l = record {
  within : l.i ≤ length l.text;
  same : fault_from (l.column + l.i) (row (drop l.i l.classes)) (drop l.i l.text) ≡ fault_from l.column (row l.classes) l.text;
}
