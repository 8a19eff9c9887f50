-- The chains of a graph that counts are chains of the other, with what these leave of what is wanted.
use Rattle.std.proofs.Common.{◌≡◌, ℕ, zero, suc, ◌+ℤ◌, Bool, true, false, ◌&&◌, List, [], ◌∷◌, Option, Some, None, length, refl, ap, sym, ◌∙◌, subst, arith}
use Rattle.std.specs.Prelude.{slice_get, slice_index_or}
use Rattle.label_lattice.specs.Pair.{both_of}
use Rattle.label_lattice.specs.Mask.{mask_extend}
use Rattle.label_lattice.specs.Span.{span_extend}
use Rattle.label_lattice.specs.Tally.{counters_less}
use Rattle.label_lattice.specs.declared.masks.Mask.{Mask}
use Rattle.label_lattice.specs.declared.spans.Span.{Span}
use Rattle.label_lattice.specs.declared.tallies.Tally.{Tally}
use Rattle.label_setter.specs.declared.graph.Arc.{Arc}
use Rattle.label_setter.specs.Chains.{Leads, Reached, Takes}
use Rattle.count_graphs.specs.CountGraphs.{counted_arc, counted_arcs}
use Rattle.graph_climbs.specs.Parts.{PartsOf, PartsStepOf, parts_extend}
use Rattle.count_graphs.specs.CountLabels.{CountOf, CountStepOf, count_extend, counted_label}

-- what is left of what is wanted along arcs
abbrev pub left_along : (ℕ → List ℕ) → List ℕ → List ℕ → List ℕ
left_along taken wanted [] = wanted
left_along taken wanted (number ∷ chain) = left_along taken (counters_less wanted (taken number)) chain

-- a label without what is wanted
abbrev pub bare : {B : Type 0} → CountOf B → PartsOf B
bare a = record { first = a.first; second = record { first = a.second.first; second = a.second.second.second } }

abbrev pub wanted_in : {B : Type 0} → CountOf B → List ℕ
wanted_in a = a.second.second.first.wanted

abbrev pub bare_at : {B : Type 0} → Reached (CountOf B) → Reached (PartsOf B)
bare_at a = record { place = a.place; gain = a.gain; resource = bare a.resource }

abbrev pub counted_at : {B : Type 0} → List ℕ → Reached (PartsOf B) → Reached (CountOf B)
counted_at wanted a = record { place = a.place; gain = a.gain; resource = counted_label wanted a.resource }

-- what a step that succeeds makes of the parts
pub record Back {B : Type 0} (o : Option (PartsOf B)) (t : Tally 8) (c : CountOf B) : Type 0 where
  pub there : o ≡ Some (bare c)
  pub tally : wanted_in c ≡ t.wanted

pub back_of : {B : Type 0} (s : Option Span) (m : Option Mask) (t : Tally 8) (b : Option B) (c : CountOf B)
    → both_of s (both_of m (both_of (Some t) b)) ≡ Some c → Back (both_of s (both_of m b)) t c
back_of None m t b c e = cc
back_of (Some s) None t b c e = cc
back_of (Some s) (Some m) t None c e = cc
back_of {B} (Some s) (Some m) t (Some b) c e =
    let is : ◌≡◌ {A = CountOf B} (record { first = s; second = record { first = m; second = record { first = t; second = b } } }) c = cc in
    record { there = ap (λ (x : CountOf B). Some (bare x)) is; tally = ap (λ (x : CountOf B). wanted_in x) (sym is) }

pub on_of : {B : Type 0} (s : Option Span) (m : Option Mask) (t : Tally 8) (b : Option B) (c : PartsOf B)
    → both_of s (both_of m b) ≡ Some c → both_of s (both_of m (both_of (Some t) b)) ≡ Some (counted_label t.wanted c)
on_of None m t b c e = cc
on_of (Some s) None t b c e = cc
on_of (Some s) (Some m) t None c e = cc
on_of {B} (Some s) (Some m) t (Some b) c e =
    let is : ◌≡◌ {A = PartsOf B} (record { first = s; second = record { first = m; second = b } }) c = cc in
    ap (λ (x : PartsOf B). Some (counted_label t.wanted x)) is

-- an arc of the one is an arc of the other
pub record HasBare {S : Type 0} (amounts : List ℕ) (found : Option (Arc (PartsStepOf S))) (arc : Arc (CountStepOf S)) : Type 0 where
  pub bare : Arc (PartsStepOf S)
  pub is : found ≡ Some bare
  pub same : counted_arc amounts bare ≡ arc

pub arc_back : {S : Type 0} (amounts : ℕ → List ℕ) (count : ℕ) (adds : List ℕ) (arcs : List (Arc (PartsStepOf S))) (number : ℕ) (arc : Arc (CountStepOf S))
    → slice_get (counted_arcs amounts adds arcs) number ≡ Some arc → HasBare (amounts (slice_index_or adds number count)) (slice_get arcs number) arc
arc_back amounts count [] arcs number arc e = cc
arc_back amounts count (p ∷ adds) [] number arc e = cc
arc_back amounts count (p ∷ adds) (a ∷ arcs) zero arc e = record { bare = a; is = refl; same = cc }
arc_back amounts count (p ∷ adds) (a ∷ arcs) (suc number) arc e = arc_back amounts count adds arcs number arc e

pub arc_on : {S : Type 0} (amounts : ℕ → List ℕ) (count : ℕ) (adds : List ℕ) (arcs : List (Arc (PartsStepOf S))) → length adds ≡ length arcs
    → (number : ℕ) (arc : Arc (PartsStepOf S)) → slice_get arcs number ≡ Some arc
    → slice_get (counted_arcs amounts adds arcs) number ≡ Some (counted_arc (amounts (slice_index_or adds number count)) arc)
arc_on amounts count [] [] long number arc e = cc
arc_on amounts count [] (a ∷ arcs) long number arc e = absurd (omega (arith, long))
arc_on amounts count (p ∷ adds) [] long number arc e = cc
arc_on {S} amounts count (p ∷ adds) (a ∷ arcs) long zero arc e =
    let same : a ≡ arc = cc in ap (λ (x : Arc (PartsStepOf S)). Some (counted_arc (amounts p) x)) same
arc_on amounts count (p ∷ adds) (a ∷ arcs) long (suc number) arc e = arc_on amounts count adds arcs (omega (arith, long)) number arc e

module _ {B S : Type 0} (extend : B → S → Option B) (amounts : ℕ → List ℕ) (count : ℕ) (adds : List ℕ) (arcs : List (Arc (PartsStepOf S))) where
  abbrev pub taken : ℕ → List ℕ
  taken number = amounts (slice_index_or adds number count)

  pub record IsBare (a : Reached (CountOf B)) (chain : List ℕ) (b : Reached (CountOf B)) : Type 0 where
    pub leads : Leads (parts_extend extend) arcs (bare_at a) chain (bare_at b)
    pub left : wanted_in b.resource ≡ left_along taken (wanted_in a.resource) chain

  pub leads_back : (chain : List ℕ) (a b : Reached (CountOf B)) → Leads (count_extend extend) (counted_arcs amounts adds arcs) a chain b → IsBare a chain b
  leads_back [] a b l = record { leads = ap bare_at l; left = ap (λ (x : Reached (CountOf B)). wanted_in x.resource) (sym l) }
  leads_back (number ∷ chain) a b l =
      let c = l.0 in
      let takes = l.1 in
      let found = arc_back amounts count adds arcs number takes.arc takes.is in
      let extends : count_extend extend a.resource (counted_arc (taken number) found.bare).step ≡ Some c.resource =
      subst (λ (x : Arc (CountStepOf S)). count_extend extend a.resource x.step ≡ Some c.resource) (sym found.same) takes.extends in
      let parts = back_of (span_extend a.resource.first found.bare.step.0) (mask_extend a.resource.second.first found.bare.step.1.0)
      (record { wanted = counters_less (wanted_in a.resource) (taken number) }) (extend a.resource.second.second.second found.bare.step.1.1) c.resource extends in
      let rest = leads_back chain c b l.2 in
      let one : Takes (parts_extend extend) arcs (bare_at a) number (bare_at c) = record {
        arc = found.bare;
        is = found.is;
        from = ap (λ (x : Arc (CountStepOf S)). x.from) found.same ∙ takes.from;
        to = ap (λ (x : Arc (CountStepOf S)). x.to) found.same ∙ takes.to;
        gain = takes.gain ∙ ap (λ (x : Arc (CountStepOf S)). a.gain +ℤ x.gain) (sym found.same);
        extends = parts.there;
      } in
      record { leads = (bare_at c, one, rest.leads); left = rest.left ∙ ap (λ (ws : List ℕ). left_along taken ws chain) parts.tally }

  pub leads_on : length adds ≡ length arcs → (chain : List ℕ) (a b : Reached (PartsOf B)) (wanted : List ℕ) → Leads (parts_extend extend) arcs a chain b
      → Leads (count_extend extend) (counted_arcs amounts adds arcs) (counted_at wanted a) chain (counted_at (left_along taken wanted chain) b)
  leads_on long [] a b wanted l = ap (counted_at wanted) l
  leads_on long (number ∷ chain) a b wanted l =
      let c = l.0 in
      let takes = l.1 in
      let one : Takes (count_extend extend) (counted_arcs amounts adds arcs) (counted_at wanted a) number (counted_at (counters_less wanted (taken number)) c) = record {
        arc = counted_arc (taken number) takes.arc;
        is = arc_on amounts count adds arcs long number takes.arc takes.is;
        from = takes.from;
        to = takes.to;
        gain = takes.gain;
        extends =
            on_of (span_extend a.resource.first takes.arc.step.0) (mask_extend a.resource.second.first takes.arc.step.1.0)
            (record { wanted = counters_less wanted (taken number) }) (extend a.resource.second.second takes.arc.step.1.1) c.resource takes.extends;
      } in
      (counted_at (counters_less wanted (taken number)) c, one, leads_on long chain c b (counters_less wanted (taken number)) l.2)

-- what is asked at the end
pub done_back : (a b t d : Bool) → (a && (b && (t && d))) ≡ true → ((a && (b && d)) ≡ true) × (t ≡ true)
done_back true true true d e = (e, refl)
done_back true true false d e = cc
done_back true false t d e = cc
done_back false b t d e = cc

pub done_on : (a b t d : Bool) → (a && (b && d)) ≡ true → t ≡ true → (a && (b && (t && d))) ≡ true
done_on true true t d e h = rw h e
done_on true false t d e h = e
done_on false b t d e h = e
