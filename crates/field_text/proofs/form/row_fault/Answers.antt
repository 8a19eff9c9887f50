use Rattle.std.proofs.Common.{◌≡◌, ◌+◌, ◌<◌, ◌∙◌, sym, ap, arith, get_or, length, true, false, Some}
use Rattle.field_text.specs.declared.form.Class.TheVariants.{Digit}
use Rattle.field_text.specs.Form.{is_in}
use Rattle.field_text.proofs.RowForms.{fault_from-next, fault_from-stops, fault_from-at_end, fault_from-whole, fault_from-more, row_from_none}
use Rattle.field_text.proofs.form.row_fault.Goals as goal
use Rattle.field_text.proofs.form.row_fault.Goals.{then-i-text-via-then-i-text, then-i-text-via-else-i-text+then-not-contains}

pub returns-then-text-classes-clause-value : goal.returns-then-text-classes-clause-value
returns-then-text-classes-clause-value c =
    sym (sym c.loop-i.invariant.same ∙ fault_from-whole (c.args.column + c.loop-i.i) c.loop-i.i c.args.classes.now c.args.text.now (omega arith) (omega arith))

pub returns-then-text-classes-clause-row : goal.returns-then-text-classes-clause-row
returns-then-text-classes-clause-row c =
    row_from_none c.args.column c.args.classes.now c.args.text.now (sym c.loop-i.invariant.same ∙ fault_from-whole (c.args.column + c.loop-i.i) c.loop-i.i c.args.classes.now c.args.text.now (omega arith) (omega arith))

pub returns-else-text-classes-clause-value : goal.returns-else-text-classes-clause-value
returns-else-text-classes-clause-value c = sym (sym c.loop-i.invariant.same ∙ fault_from-more (c.args.column + c.loop-i.i) c.loop-i.i c.args.classes.now c.args.text.now (omega arith) (omega arith) ∙ ap Some (omega arith))

pub loop-i-preserved : goal.loop-i-preserved
loop-i-preserved c =
    let q : c.loop-i.i < length c.args.text.now = omega arith in
    let h : is_in (get_or c.args.classes.now c.loop-i.i Digit) (get_or c.args.text.now c.loop-i.i 0) ≡ true = grind (arith, c.contains.ensures, c.if-not-contains.false) in
    record {
      within = omega arith;
      same = sym (fault_from-next (c.args.column + c.loop-i.i) (c.args.column + (c.loop-i.i + 1)) c.loop-i.i c.args.classes.now c.args.text.now (omega arith) (omega arith) q h) ∙ c.loop-i.invariant.same;
    }

pub returns-then-i-text-clause-value : goal.returns-then-i-text-clause-value
returns-then-i-text-clause-value c =
    elim c.then-i-text.branch [
      | then-i-text-via-then-i-text w ↦
          sym (sym c.loop-i.invariant.same ∙ fault_from-at_end (c.args.column + c.loop-i.i) c.loop-i.i c.args.classes.now c.args.text.now (omega arith) (omega arith))
      | then-i-text-via-else-i-text+then-not-contains w ↦
          let h : is_in (get_or c.args.classes.now c.loop-i.i Digit) (get_or c.args.text.now c.loop-i.i 0) ≡ false = grind (arith, w.contains.ensures, w.if-not-contains.true) in
          sym (sym c.loop-i.invariant.same ∙ fault_from-stops (c.args.column + c.loop-i.i) c.loop-i.i c.args.classes.now c.args.text.now (omega arith) (omega arith) h)
    ]
