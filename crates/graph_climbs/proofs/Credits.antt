-- The credit of a label is a number that steps add to, up to their cap.
use Rattle.std.proofs.Common.{◌≡◌, ℕ, ◌+◌, ◌^◌, ◌≤◌, min, List, Option, Some, None, Bool, inl, inr, arith, sym, ap, ◌∙◌}
use Rattle.std.specs.Prelude.{slice_get, nat_le, if◌then◌else◌}
use Rattle.std.proofs.lemmas.Bool.{cases_Bool}
use Rattle.std.proofs.lemmas.Bool.Decides.{nat_tests}
use Rattle.label_lattice.specs.declared.pairs.Pair.{Pair}
use Rattle.label_lattice.specs.declared.spans.Span.{Span}
use Rattle.label_lattice.specs.declared.spans.SpanStep.{SpanStep}
use Rattle.label_lattice.specs.Pair.{both_of}
use Rattle.label_lattice.specs.Span.{span_extend}
use Rattle.label_setter.specs.declared.graph.Arc.{Arc}
use Rattle.label_setter.specs.Meters.{IsMeter}
use Rattle.graph_climbs.specs.Parts.{PartsOf, PartsStepOf, parts_extend}

first_there : {A B : Type 0} (o : Option A) (p : Option B) (c : Pair A B) → both_of o p ≡ Some c → o ≡ Some c.first
first_there (Some a) (Some b) c e = cc
first_there None p c e = cc
first_there (Some a) None c e = cc

some_down : (a b : Span) → Some a ≡ Some b → b.down ≡ a.down
some_down a b e = cc

none_some : {X : Type 0} {Q : Type 0} (a : X) → ◌≡◌ {A = Option X} None (Some a) → Q
none_some a e = cc

record IsAdded (a b : Span) (step : SpanStep) : Type 0 where
  sum : b.down ≡ a.down + step.down
  within : b.down ≤ step.cap

added : (a b : Span) (step : SpanStep) → span_extend a step ≡ Some b → IsAdded a b step
added a b step e = elim (cases_Bool (nat_le (a.down + step.down) step.cap)) [
  | inl fits ↦
      let is : Some (record { down = a.down + step.down; up = min (a.up + step.up) (2 ^ 31) }) ≡ Some b =
      sym (ap (λ (t : Bool). if t then Some (record { down = a.down + step.down; up = min (a.up + step.up) (2 ^ 31) }) else None) fits) ∙ e in
      let sum = some_down (record { down = a.down + step.down; up = min (a.up + step.up) (2 ^ 31) }) b is in
      let le : a.down + step.down ≤ step.cap = grind (arith, nat_tests) in
      record { sum = sum; within = omega (arith, sum, le) }
  | inr over ↦ none_some b (sym (ap (λ (t : Bool). if t then Some (record { down = a.down + step.down; up = min (a.up + step.up) (2 ^ 31) }) else None) over) ∙ e)
]

taken : {B S : Type 0} (extend : B → S → Option B) (step : PartsStepOf S) (a b : PartsOf B) → parts_extend extend a step ≡ Some b → IsAdded a.first b.first step.0
taken extend step a b e = added a.first b.first step.0 (first_there _ _ b e)

pub credit_meter : {B S : Type 0} (extend : B → S → Option B) (arcs : List (Arc (PartsStepOf S))) (cap : ℕ)
    → ((number : ℕ) (arc : Arc (PartsStepOf S)) → slice_get arcs number ≡ Some arc → arc.step.0.cap ≡ cap)
    → IsMeter (parts_extend extend) arcs (λ label. label.first.down) (λ step. step.0.down) cap
credit_meter extend arcs cap caps = record {
  sum = λ number arc a b here e. (taken extend arc.step a b e).sum;
  capped = λ number arc a b here e. let within = (taken extend arc.step a b e).within in let same = caps number arc here in omega (arith, within, same);
}
