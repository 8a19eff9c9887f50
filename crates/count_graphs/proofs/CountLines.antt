-- The lines of a graph that counts are those lines of the other that have what the terms count.
use Rattle.std.proofs.Common.{◌≡◌, ℕ, ℤ, ◌-◌, ◌≤◌, Bool, true, false, List, [], ◌∷◌, Option, Some, None, length, map, get_or, refl, ap, sym, ◌∙◌, subst, arith, inl, inr}
use Rattle.std.specs.Prelude.{count_by, nat_le, slice_get, slice_index_or, if◌then◌else◌}
use Rattle.std.specs.List.{list_all}
use Rattle.std.specs.Option.{option_map_or}
use Rattle.std.proofs.lemmas.Bool.{false≢true}
use Rattle.std.proofs.lemmas.Bool.Decides.{nat_tests}
use Rattle.std.proofs.lemmas.Option.{slice_get_past}
use Rattle.duty_calendar.specs.declared.pairing.Pairing.{Pairing}
use Rattle.label_lattice.specs.Usage.{counters_below}
use Rattle.label_lattice.specs.Mask.{mask_done}
use Rattle.label_lattice.specs.Span.{span_done}
use Rattle.label_setter.specs.declared.graph.Arc.{Arc}
use Rattle.label_setter.specs.Chains.{GraphOf, IsFeasible, Leads, source}
use Rattle.roster_model.specs.declared.bid.Bid.{Bid}
use Rattle.roster_model.specs.declared.bid.Wish.{Wish}
use Rattle.roster_model.specs.declared.bid.Wish.TheVariants.{Fly, Avoid, Prefer, Off, CreditBelow, CreditAbove, DaysOff}
use Rattle.roster_model.specs.declared.node.Decision.{Decision}
use Rattle.roster_model.specs.declared.problem.Problem.{Problem}
use Rattle.roster_model.specs.declared.proof.Lens.{Lens}
use Rattle.roster_model.specs.Filters.{is_passing_atom}
use Rattle.roster_model.specs.Scores.{bids_of, is_granted, is_granting}
use Rattle.roster_model.specs.Weights.{weight_of}
use Rattle.lens_classes.specs.declared.terms.Terms.{Terms}
use Rattle.lens_classes.specs.Classes.{is_counting}
use Rattle.lens_classes.specs.TermLines.{IsTermLine, is_counted}
use Rattle.lens_classes.proofs.ClassLines.{few_bids}
use Rattle.lens_classes.proofs.Plain.{none_counted}
use Rattle.line_lens.specs.LineGraphs.{line_along}
use Rattle.take_graphs.specs.ArcLines.{StandsByArcs}
use Rattle.count_graphs.specs.Counts.{AreCounted, AreSlots, amounts_of, counts_for, is_about, uncounted, wanted_by, wanted_of, wants}
use Rattle.count_graphs.specs.CountGraphs.{IsCountGraph, counted_arcs}
use Rattle.graph_climbs.specs.Parts.{PartsEndOf, PartsOf, PartsStepOf, parts_done, parts_extend}
use Rattle.count_graphs.specs.CountLabels.{CountEndOf, CountOf, CountStepOf, count_done, count_extend, counted_label}
use Rattle.count_graphs.proofs.CountChains.{arc_back, bare, done_back, done_on, leads_back, leads_on, left_along, wanted_in}
use Rattle.count_graphs.proofs.Counted.{added_counts, along, each_none, left_is, none_each, weights_by, weights_long}

-- a wish for several pairings is granted where the line has so many
wish_granted : (problem : Problem) (member : ℕ) (line : List ℕ) (wish : Wish) → is_counting wish ≡ true
    → is_granting problem member line wish ≡ nat_le (wants wish) (count_by (λ p. is_about problem p wish) line)
wish_granted problem member line (Fly p) h = cc
wish_granted problem member line (Avoid f) h = cc
wish_granted problem member line (Prefer n f) h = refl
wish_granted problem member line (Off first last) h = cc
wish_granted problem member line (CreditBelow m) h = cc
wish_granted problem member line (CreditAbove m) h = cc
wish_granted problem member line (DaysOff n) h = cc

bid_granted : (problem : Problem) (member : ℕ) (line : List ℕ) (o : Option Bid) → option_map_or (λ (b : Bid). is_counting b.wish) o false ≡ true
    → option_map_or (λ (b : Bid). is_granting problem member line b.wish) o false
    ≡ nat_le (option_map_or (λ (b : Bid). wants b.wish) o 0) (count_by (λ p. option_map_or (λ (b : Bid). is_about problem p b.wish) o false) line)
bid_granted problem member line None h = cc
bid_granted problem member line (Some b) h = wish_granted problem member line b.wish h

-- what is no pairing counts for nothing
about_past : (problem : Problem) (p : ℕ) → length problem.base.pairings ≤ p → (wish : Wish) → is_about problem p wish ≡ false
about_past problem p le (Fly q) = refl
about_past problem p le (Avoid f) = refl
about_past problem p le (Prefer n f) =
    ap (λ (o : Option Pairing). option_map_or (λ (x : Pairing). list_all (is_passing_atom problem.base.rules.horizon p x) f) o false) (slice_get_past problem.base.pairings p le)
about_past problem p le (Off first last) = refl
about_past problem p le (CreditBelow m) = refl
about_past problem p le (CreditAbove m) = refl
about_past problem p le (DaysOff n) = refl

counts_past : (problem : Problem) (p : ℕ) → length problem.base.pairings ≤ p → (o : Option Bid) → option_map_or (λ (b : Bid). is_about problem p b.wish) o false ≡ false
counts_past problem p le None = refl
counts_past problem p le (Some b) = about_past problem p le b.wish

-- a bid that is not there wants nothing
wants_none : (problem : Problem) (member bid : ℕ) → 64 ≤ bid → wanted_by problem member bid ≡ 0
wants_none problem member bid le =
    let few = few_bids problem member in
    ap (λ (o : Option Bid). option_map_or (λ (b : Bid). wants b.wish) o 0) (slice_get_past (bids_of problem member) bid (omega (arith, few, le)))

enough : (a b : ℕ) → a - b ≡ 0 → nat_le a b ≡ true
enough a b e = grind (arith, nat_tests)

none_wanted : (a b : ℕ) → nat_le a b ≡ true → a - b ≡ 0
none_wanted a b e = grind (arith, nat_tests)

module _ (problem : Problem) (member : ℕ) (terms : Terms) (line : List ℕ) (node : List Decision) (lens : Lens) where
  without_counts : IsTermLine problem member node lens terms line → IsTermLine problem member node lens (uncounted terms) line
  without_counts is = record {
    ascending = is.ascending;
    in_range = is.in_range;
    obeys = is.obeys;
    apart = is.apart;
    rested = is.rested;
    least_credit = is.least_credit;
    most_credit = is.most_credit;
    floor = is.floor;
    grant = is.grant;
    counts = λ bid h. absurd (false≢true (sym (none_counted (uncounted terms) refl bid) ∙ h));
    free = is.free;
    nights = is.nights;
    enough_days_off = is.enough_days_off;
    windows = is.windows;
  }

  with_counts : IsTermLine problem member node lens (uncounted terms) line → ((bid : ℕ) → is_counted terms bid ≡ true → is_granted problem member bid line ≡ true)
      → IsTermLine problem member node lens terms line
  with_counts is counts = record {
    ascending = is.ascending;
    in_range = is.in_range;
    obeys = is.obeys;
    apart = is.apart;
    rested = is.rested;
    least_credit = is.least_credit;
    most_credit = is.most_credit;
    floor = is.floor;
    grant = is.grant;
    counts = counts;
    free = is.free;
    nights = is.nights;
    enough_days_off = is.enough_days_off;
    windows = is.windows;
  }

module _ {B S E : Type 0} (extend : B → S → Option B) (done : B → E → Bool) (problem : Problem) (member : ℕ) (terms : Terms)
    (graph : GraphOf (PartsOf B) (PartsStepOf S) (PartsEndOf E)) (adds : List ℕ) (counting : GraphOf (CountOf B) (CountStepOf S) (CountEndOf E))
    (is : IsCountGraph problem member terms graph adds counting) (counted : AreCounted problem member terms) (per_arc : length adds ≡ length graph.arcs) where
  abbrev count : ℕ
  count = length problem.base.pairings

  -- how many of the pairings that a chain adds count for the bid
  abbrev had : ℕ → List ℕ → ℕ
  had bid chain = along (λ number. if counts_for problem member bid (slice_index_or adds number count) then 1 else 0) chain

  abbrev left : List ℕ → List ℕ
  left chain = left_along (λ number. amounts_of problem member is.slots (slice_index_or adds number count)) (wanted_of problem member is.slots) chain

  left_of : (chain : List ℕ) → left chain ≡ map (λ bid. wanted_by problem member bid - had bid chain) is.slots
  left_of chain =
      left_is (λ number bid. if counts_for problem member bid (slice_index_or adds number count) then 1 else 0) is.slots chain (wanted_by problem member)

  -- without what is wanted the chain is one of the other graph
  pub record IsPlainChain (chain : List ℕ) (gain : ℤ) : Type 0 where
    pub feasible : IsFeasible (parts_extend extend) (parts_done done) graph chain gain
    pub none : counters_below (left chain) [] ≡ true

  pub plain_chain : (chain : List ℕ) (gain : ℤ) → IsFeasible (count_extend extend) (count_done done) counting chain gain → IsPlainChain chain gain
  plain_chain chain gain f =
      let to : Leads (count_extend extend) counting.arcs (source (counted_label (wanted_of problem member is.slots) graph.start)) chain (record { place = graph.places - 1; gain = gain; resource = f.last }) =
      moved counting.start (counted_label (wanted_of problem member is.slots) graph.start) counting.places graph.places is.start is.places f.leads in
      let over : Leads (count_extend extend) (counted_arcs (amounts_of problem member is.slots) adds graph.arcs) (source (counted_label (wanted_of problem member is.slots) graph.start)) chain (record { place = graph.places - 1; gain = gain; resource = f.last }) =
      subst (λ (arcs : List (Arc (CountStepOf S))). Leads (count_extend extend) arcs (source (counted_label (wanted_of problem member is.slots) graph.start)) chain (record { place = graph.places - 1; gain = gain; resource = f.last })) is.arcs to in
      let back = leads_back extend (amounts_of problem member is.slots) count adds graph.arcs chain
      (source (counted_label (wanted_of problem member is.slots) graph.start)) (record { place = graph.places - 1; gain = gain; resource = f.last }) over in
      let ends : count_done done f.last (graph.end.0, (graph.end.1.0, (tt, graph.end.1.1))) ≡ true =
      subst (λ (e : CountEndOf E). count_done done f.last e ≡ true) is.end f.is_done in
      let both = done_back (span_done f.last.first graph.end.0) (mask_done f.last.second.first graph.end.1.0) (counters_below (wanted_in f.last) []) (done f.last.second.second.second graph.end.1.1) ends in
      record {
        feasible = record { last = bare f.last; leads = back.leads; is_done = both.0 };
        none = ap (λ (ws : List ℕ). counters_below ws []) (sym back.left) ∙ both.1;
      }
    where
      moved : (a b : CountOf B) (m n : ℕ) → a ≡ b → m ≡ n → Leads (count_extend extend) counting.arcs (source a) chain (record { place = m - 1; gain = gain; resource = f.last })
          → Leads (count_extend extend) counting.arcs (source b) chain (record { place = n - 1; gain = gain; resource = f.last })
      moved a b m n p q l = rw (← p, ← q) l

  pub counted_chain : (chain : List ℕ) (gain : ℤ) → IsFeasible (parts_extend extend) (parts_done done) graph chain gain → counters_below (left chain) [] ≡ true
      → IsFeasible (count_extend extend) (count_done done) counting chain gain
  counted_chain chain gain f none =
      let on = leads_on extend (amounts_of problem member is.slots) count adds graph.arcs per_arc chain (source graph.start) (record { place = graph.places - 1; gain = gain; resource = f.last }) (wanted_of problem member is.slots) f.leads in
      let over = subst (λ (arcs : List (Arc (CountStepOf S))). Leads (count_extend extend) arcs (source (counted_label (wanted_of problem member is.slots) graph.start)) chain (record { place = graph.places - 1; gain = gain; resource = counted_label (left chain) f.last })) (sym is.arcs) on in
      let ends = done_on (span_done f.last.first graph.end.0) (mask_done f.last.second.first graph.end.1.0) (counters_below (left chain) []) (done f.last.second.second graph.end.1.1) f.is_done none in
      record {
        last = counted_label (left chain) f.last;
        leads = moved (counted_label (wanted_of problem member is.slots) graph.start) counting.start graph.places counting.places (sym is.start) (sym is.places) over;
        is_done = subst (λ (e : CountEndOf E). count_done done (counted_label (left chain) f.last) e ≡ true) (sym is.end) ends;
      }
    where
      moved : (a b : CountOf B) (m n : ℕ) → a ≡ b → m ≡ n → Leads (count_extend extend) counting.arcs (source a) chain (record { place = m - 1; gain = gain; resource = counted_label (left chain) f.last })
          → Leads (count_extend extend) counting.arcs (source b) chain (record { place = n - 1; gain = gain; resource = counted_label (left chain) f.last })
      moved a b m n p q l = rw (← p, ← q) l

  module _ (node : List Decision) (lens : Lens) (weights : List ℤ)
      (stands : StandsByArcs (parts_extend extend) (parts_done done) graph adds problem member node lens (uncounted terms) weights) where
    had_is : (chain : List ℕ) (gain : ℤ) → IsFeasible (parts_extend extend) (parts_done done) graph chain gain → (bid : ℕ)
        → had bid chain ≡ count_by (counts_for problem member bid) (line_along count adds chain)
    had_is chain gain f bid =
        added_counts (counts_for problem member bid) count (λ p le. counts_past problem p le (slice_get (bids_of problem member) bid)) adds chain (line_along count adds chain)
        (stands.once chain gain f (weights_by (counts_for problem member bid) count) (weights_long (counts_for problem member bid) count))

    -- the line of a chain that leaves nothing wanted has what is counted
    granted_by : (chain : List ℕ) (gain : ℤ) → IsPlainChain chain gain → (bid : ℕ) → is_counted terms bid ≡ true
        → is_granted problem member bid (line_along count adds chain) ≡ true
    granted_by chain gain plain bid h =
        let slot = is.are_slots.all bid h in
        let none = each_none (λ b. wanted_by problem member b - had b chain) is.slots (ap (λ (ws : List ℕ). counters_below ws []) (sym (left_of chain)) ∙ plain.none) slot.0 slot.1 in
        let here : wanted_by problem member bid - had bid chain ≡ 0 = ap (λ (b : ℕ). wanted_by problem member b - had b chain) (sym slot.2) ∙ none in
        let has = had_is chain gain plain.feasible bid in
        bid_granted problem member (line_along count adds chain) (slice_get (bids_of problem member) bid) (counted.counting bid h)
        ∙ enough (wanted_by problem member bid) (count_by (counts_for problem member bid) (line_along count adds chain))
        (ap (λ (n : ℕ). wanted_by problem member bid - n) (sym has) ∙ here)

    -- and where the line has it, nothing is left
    left_none : (chain : List ℕ) (gain : ℤ) → IsFeasible (parts_extend extend) (parts_done done) graph chain gain
        → ((bid : ℕ) → is_counted terms bid ≡ true → is_granted problem member bid (line_along count adds chain) ≡ true) → counters_below (left chain) [] ≡ true
    left_none chain gain f granted =
        ap (λ (ws : List ℕ). counters_below ws []) (left_of chain)
        ∙ none_each (λ b. wanted_by problem member b - had b chain) is.slots (λ k lt. elim (is.are_slots.only k lt) [
          | inl none ↦ let e = wants_none problem member (get_or is.slots k 64) none in omega (arith, e)
          | inr h ↦
              let bid = get_or is.slots k 64 in
              let has = had_is chain gain f bid in
              let le = sym (bid_granted problem member (line_along count adds chain) (slice_get (bids_of problem member) bid) (counted.counting bid h)) ∙ granted bid h in
              ap (λ (n : ℕ). wanted_by problem member bid - n) has
              ∙ none_wanted (wanted_by problem member bid) (count_by (counts_for problem member bid) (line_along count adds chain)) le
        ])

    pub stands_counted : StandsByArcs (count_extend extend) (count_done done) counting adds problem member node lens terms weights
    stands_counted = record {
      per_arc = stands.per_arc ∙ sym (arcs_long (amounts_of problem member is.slots) adds graph.arcs per_arc) ∙ ap (λ (xs : List (Arc (CountStepOf S))). length xs) (sym is.arcs);
      lines = λ chain gain f.
          let plain = plain_chain chain gain f in
          with_counts problem member terms (line_along count adds chain) node lens (stands.lines chain gain plain.feasible) (granted_by chain gain plain);
      weighs = λ chain gain f. stands.weighs chain gain (plain_chain chain gain f).feasible;
      once = λ chain gain f. stands.once chain gain (plain_chain chain gain f).feasible;
      chains = λ line h.
          let c = stands.chains line (without_counts problem member terms line node lens h) in
          let none = left_none c.0 (weight_of weights line) c.1 (λ bid e. subst (λ (l : List ℕ). is_granted problem member bid l ≡ true) (sym c.2) (h.counts bid e)) in
          (c.0, counted_chain c.0 (weight_of weights line) c.1 none, c.2);
    }
      where
        arcs_long : (amounts : ℕ → List ℕ) (adds : List ℕ) (arcs : List (Arc (PartsStepOf S))) → length adds ≡ length arcs → length (counted_arcs amounts adds arcs) ≡ length arcs
        arcs_long amounts [] [] e = refl
        arcs_long amounts [] (a ∷ arcs) e = absurd (omega (arith, e))
        arcs_long amounts (p ∷ adds) [] e = absurd (omega (arith, e))
        arcs_long amounts (p ∷ adds) (a ∷ arcs) e = let rest = arcs_long amounts adds arcs (omega (arith, e)) in omega (arith, rest)

  -- the caps of credit are the same
  pub counted_caps : (cap : ℕ) → ((number : ℕ) (arc : Arc (PartsStepOf S)) → slice_get graph.arcs number ≡ Some arc → arc.step.0.cap ≡ cap)
      → (number : ℕ) (arc : Arc (CountStepOf S)) → slice_get counting.arcs number ≡ Some arc → arc.step.0.cap ≡ cap
  counted_caps cap caps number arc e =
      let at = subst (λ (arcs : List (Arc (CountStepOf S))). slice_get arcs number ≡ Some arc) is.arcs e in
      let found = arc_back (amounts_of problem member is.slots) count adds graph.arcs number arc at in
      ap (λ (x : Arc (CountStepOf S)). x.step.0.cap) (sym found.same) ∙ caps number found.bare found.is

-- what the function draws
pub count_is : {B S E : Type 0} (problem : Problem) (member : ℕ) (terms : Terms) (graph : GraphOf (PartsOf B) (PartsStepOf S) (PartsEndOf E)) (adds : List ℕ)
    (counting : GraphOf (CountOf B) (CountStepOf S) (CountEndOf E)) (slots wanted : List ℕ) (places : ℕ) (start : PartsOf B) (end : PartsEndOf E) (given : List (Arc (PartsStepOf S))) (arcs : List (Arc (CountStepOf S)))
    → AreSlots terms slots
    → counting ≡ record { places = places; start = counted_label wanted start; end = (end.0, (end.1.0, (tt, end.1.1))); arcs = arcs }
    → places ≡ graph.places → start ≡ graph.start → wanted ≡ wanted_of problem member slots → end ≡ graph.end
    → arcs ≡ counted_arcs (amounts_of problem member slots) adds given → given ≡ graph.arcs
    → IsCountGraph problem member terms graph adds counting
count_is {B} {S} {E} problem member terms graph adds counting slots wanted places start end given arcs are is p s w e a g = record {
  slots = slots;
  are_slots = are;
  places = ap (λ (x : GraphOf (CountOf B) (CountStepOf S) (CountEndOf E)). x.places) is ∙ p;
  start =
      ap (λ (x : GraphOf (CountOf B) (CountStepOf S) (CountEndOf E)). x.start) is
      ∙ ap (λ (ws : List ℕ). counted_label ws start) w ∙ ap (λ (x : PartsOf B). counted_label (wanted_of problem member slots) x) s;
  end =
      ap (λ (x : GraphOf (CountOf B) (CountStepOf S) (CountEndOf E)). x.end) is
      ∙ ap (λ (x : PartsEndOf E). (x.0, (x.1.0, (tt, x.1.1)))) e;
  arcs =
      ap (λ (x : GraphOf (CountOf B) (CountStepOf S) (CountEndOf E)). x.arcs) is
      ∙ a ∙ ap (λ (xs : List (Arc (PartsStepOf S))). counted_arcs (amounts_of problem member slots) adds xs) g;
}
