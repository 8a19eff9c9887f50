use Rattle.std.proofs.Common.{◌≡◌, ◌+◌, ◌-◌, ◌∙◌, sym, ap, Some, Bool, true, arith, refl}
use Rattle.std.specs.Prelude.{◌&&◌}
use Rattle.std.proofs.lemmas.List.Folds.{list_all_more}
use Rattle.duty_calendar.specs.Forms.{is_name_byte}
use Rattle.field_text.proofs.Names.{name-same, name-next, name-stop, name-full, name-end}
use Rattle.field_text.proofs.word.name_fault.Goals as goal

and_true : {a b : Bool} → a ≡ true → b ≡ true → (a && b) ≡ true
and_true p q = rw (p, q) refl

pub returns-then-i-eq16-clause-value : goal.returns-then-i-eq16-clause-value
returns-then-i-eq16-clause-value c =
    sym (name-same c.args.text.now c.requires.some ∙ sym c.loop-i.invariant.same ∙ name-full (c.loop-i.i + 1) c.loop-i.i (16 - c.loop-i.i) c.args.text.now (omega arith) (omega arith) ∙ ap Some (omega arith))

pub returns-then-not-contains-clause-value : goal.returns-then-not-contains-clause-value
returns-then-not-contains-clause-value c =
    sym (name-same c.args.text.now c.requires.some ∙ sym c.loop-i.invariant.same ∙ name-stop (c.loop-i.i + 1) c.loop-i.i (16 - c.loop-i.i) c.args.text.now (omega arith) (cc))

pub loop-i-preserved : goal.loop-i-preserved
loop-i-preserved c = record {
  few = omega arith;
  bytes = list_all_more is_name_byte c.args.text.now c.loop-i.i 0 (omega arith) ∙ and_true c.loop-i.invariant.bytes (cc);
  same = sym (name-next (c.loop-i.i + 1) c.loop-i.i (16 - c.loop-i.i) (16 - (c.loop-i.i + 1)) c.args.text.now (omega arith) (omega arith) (cc)) ∙ c.loop-i.invariant.same;
}

pub returns-clause-value : goal.returns-clause-value
returns-clause-value c = sym (name-same c.args.text.now c.requires.some ∙ sym c.loop-i.invariant.same ∙ name-end (c.loop-i.i + 1) c.loop-i.i (16 - c.loop-i.i) c.args.text.now (omega arith))
