use Rattle.std.proofs.Common.{◌≡◌, ◌+◌, ◌≤◌, ◌-◌, take, drop, true}
use Rattle.std.specs.List.{list_all}
use Rattle.duty_calendar.specs.Forms.{is_name_byte}
use Rattle.field_text.specs.declared.form.Class.TheVariants.{NameByte}
use Rattle.field_text.specs.Form.{fault_from, up_to, finished}
use Rattle.field_text.proofs.word.name_fault.Given as goal

abbrev pub invariant-loop-i : goal.invariant-loop-i
invariant-loop-i l = record {
  few : l.i ≤ 16;
  bytes : list_all is_name_byte (take l.i l.text) ≡ true;
  same : fault_from (l.i + 1) (up_to (16 - l.i) NameByte finished) (drop l.i l.text) ≡ fault_from 1 (up_to 16 NameByte finished) l.text;
}
