-- Arcs in the order of the places to which they lead, and those that lead to one place.
use Rattle.std.proofs.Common.{◌≡◌, ◌≢◌, ℕ, zero, suc, [], ◌∷◌, ◌++◌, ◌+◌, ◌-◌, ◌<◌, ◌≤◌, List, Option, Some, None, inl, inr, refl, sym, ◌∙◌, ap, subst, arith, length, get_or, drop}
use Rattle.std.specs.Prelude.{All, Contains, slice_get, slice_range, option_map, unwrap_or}
use Rattle.std.specs.List.{range_with_len}
use Rattle.std.proofs.lemmas.List.FromFn.{length-range_with_len, get_or-range_with_len}
use Rattle.std.proofs.lemmas.List.Sorted.{Contains-permutation, IsPermutation-sym, length_permutation}
use Rattle.std.proofs.lemmas.Bool.{cases_lt}
use Rattle.std.proofs.lemmas.List.{get_or-take, get_or-drop, length-drop, length-take-le}
use Rattle.std.proofs.lemmas.Option.{slice_get-get_or, slice_get_cases, slice_get_within, get_or_from_slice_get}
use Rattle.label_setter.proofs.ListReads.{below_or_at, contains_read, read_contains, same_some}
use Rattle.label_setter.proofs.TableRows.{fits_at}
use Rattle.label_setter.specs.declared.graph.Arc.{Arc}
use Rattle.label_setter.specs.Arrivals.{Arriving, ArrivesAt}
use Rattle.label_setter.specs.Chains.{end_of}
use Rattle.label_setter.specs.Graphs.{FitsPlaces}
use Rattle.label_setter.specs.Orders.{IsArcOrder, IsUpTo}

-- reads of a part of a list
range_get : {X : Type 0} (xs : List X) (a b k : ℕ) (d : X) → k < b - a → get_or (slice_range xs a b) k d ≡ get_or xs (a + k) d
range_get xs a b k d lt = get_or-take (b - a) (drop a xs) k d lt ∙ get_or-drop a xs k d

pub range_long : {X : Type 0} (xs : List X) (a b : ℕ) → b ≤ length xs → length (slice_range xs a b) ≡ b - a
range_long xs a b le =
    let rest = length-drop a xs in
    length-take-le (b - a) (drop a xs) (omega (arith, rest, le))

zero_more : (n : ℕ) → 0 + n ≡ n
zero_more n = omega arith

range_more : (start n : ℕ) → range_with_len start (suc n) ≡ range_with_len start n ++ (start + n) ∷ []
range_more start zero = ap (λ k. k ∷ []) (omega arith)
range_more start (suc n) =
    ap (λ (xs : List ℕ). start ∷ xs) (range_more (start + 1) n ∙ ap (λ k. range_with_len (start + 1) n ++ k ∷ []) (omega arith))

pub range_one_more : (n : ℕ) → range_with_len 0 (n + 1) ≡ range_with_len 0 n ++ n ∷ []
range_one_more n =
    let one : n + 1 ≡ suc n = omega arith in
    ap (range_with_len 0) one ∙ range_more 0 n ∙ ap (λ k. range_with_len 0 n ++ k ∷ []) (zero_more n)

strictly : (a b : ℕ) → b ≤ a → a ≢ b → b + 1 ≤ a
strictly a b le ne = grind arith

le_trans : (a b c : ℕ) → a ≤ b → b ≤ c → a ≤ c
le_trans a b c p q = omega arith

some_within : {X : Type 0} (xs : List X) (k : ℕ) → k < length xs → slice_get xs k ≡ None → ⊥
some_within {X = X} xs k lt e = elim (slice_get_cases xs k).1 [
  | inl found ↦ (let n : ◌≡◌ {A = Option X} None (Some found.0) = sym e ∙ found.2 in cc)
  | inr past ↦ (let le = past.0 in omega arith)
]

-- the arcs that come next, all of which lead to the place
pub record Runs {S : Type 0} (arcs : List (Arc S)) (order : List ℕ) (next end place : ℕ) : Type 0 where
  pub low : next ≤ end
  pub inside : end ≤ length order
  pub here : (k number : ℕ) → next ≤ k → k < end → slice_get order k ≡ Some number → end_of arcs number ≡ place

module _ {S : Type 0} (arcs : List (Arc S)) (order : List ℕ) (is : IsArcOrder arcs order) where
  -- each arc stands in the order
  has_arc : (number : ℕ) → number < length arcs → Contains order number
  has_arc number lt =
      Contains-permutation (range_with_len 0 (length arcs)) order number is.moved
      (number, (let long = length-range_with_len 0 (length arcs) in omega arith), get_or-range_with_len 0 (length arcs) number number lt ∙ zero_more number)

  -- and nothing else
  arc_there : (k number : ℕ) → slice_get order k ≡ Some number → number < length arcs
  arc_there k number at =
      let there = Contains-permutation order (range_with_len 0 (length arcs)) number (IsPermutation-sym _ _ is.moved) (contains_read order k number at) in
      let long = length-range_with_len 0 (length arcs) in
      let lt : there.0 < length arcs = (let l = there.1 in omega arith) in
      let value : number ≡ 0 + there.0 = sym there.2 ∙ get_or-range_with_len 0 (length arcs) there.0 number lt in
      omega arith

  sorted_reads : (i j a b : ℕ) → i ≤ j → slice_get order i ≡ Some a → slice_get order j ≡ Some b → end_of arcs a ≤ end_of arcs b
  sorted_reads i j a b le at_i at_j =
      let s = is.sorted i j a le (slice_get_within order j b at_j) in
      let first = get_or_from_slice_get order i a a at_i in
      let second = get_or_from_slice_get order j b a at_j in
      subst (λ x. end_of arcs x ≤ end_of arcs b) first (subst (λ y. end_of arcs (get_or order i a) ≤ end_of arcs y) second s)

  pub order_long : length order ≡ length arcs
  order_long = length_permutation (range_with_len 0 (length arcs)) order is.moved ∙ length-range_with_len 0 (length arcs)

  pub starts : All (FitsPlaces 2000) arcs → IsUpTo arcs order 0 1
  starts fit = record {
    within = omega arith;
    before = λ k number lt at. absurd (omega arith);
    after = λ k number le at. later number (arc_there k number at) (slice_get arcs number) refl;
  }
    where
      later : (number : ℕ) → number < length arcs → (o : Option (Arc S)) → slice_get arcs number ≡ o → 1 ≤ end_of arcs number
      later number lt (Some arc) e =
          let forward = (fits_at 2000 arcs number arc fit e).forward in
          let ends : end_of arcs number ≡ arc.to = ap (λ o. unwrap_or (option_map (λ (a : Arc S). a.to) o) 0) e in
          omega arith
      later number lt None e = absurd (some_within arcs number lt e)

  module _ (next place : ℕ) (up_to : IsUpTo arcs order next place) where
    pub Runs-start : Runs arcs order next next place
    Runs-start = record { low = omega arith; inside = up_to.within; here = λ k number le lt at. absurd (omega arith) }

    pub Runs-more : (end number : ℕ) → slice_get order end ≡ Some number → end_of arcs number ≡ place → Runs arcs order next end place → Runs arcs order next (end + 1) place
    Runs-more end number at leads runs =
        let low = runs.low in
        let inside = slice_get_within order end number at in
        record {
          low = omega arith;
          inside = omega arith;
          here = λ k other le lt is. elim (below_or_at k end lt) [
            | inl earlier ↦ runs.here k other le earlier is
            | inr now ↦ ap (end_of arcs) (same_some _ other number is (subst (λ n. slice_get order n ≡ Some number) (sym now) at)) ∙ leads
          ];
        }

    -- what is known where the run ends
    pub record RunEnd (end : ℕ) : Type 0 where
      pub ordered : next ≤ end
      pub up : IsUpTo arcs order end (place + 1)
      pub arriving : Arriving arcs place (slice_range order next end)

    ended : (end : ℕ) → Runs arcs order next end place → ((k number : ℕ) → end ≤ k → slice_get order k ≡ Some number → place + 1 ≤ end_of arcs number) → RunEnd end
    ended end runs later = record {
      ordered = runs.low;
      up = record { within = runs.inside; before = before; after = later };
      arriving = record { listed = listed; right = right };
    }
      where
        before : (k number : ℕ) → k < end → slice_get order k ≡ Some number → end_of arcs number < place + 1
        before k number lt at = elim (cases_lt k next) [
          | inl early ↦ (let e = up_to.before k number early at in omega arith)
          | inr le ↦ (let e = runs.here k number le lt at in omega arith)
        ]

        long : length (slice_range order next end) ≡ end - next
        long = range_long order next end runs.inside

        listed : (number : ℕ) (arc : Arc S) → slice_get arcs number ≡ Some arc → arc.to ≡ place → Contains (slice_range order next end) number
        listed number arc at leads =
            let there = has_arc number (slice_get_within arcs number arc at) in
            let read = read_contains order number there in
            let ends : end_of arcs number ≡ place = ap (λ o. unwrap_or (option_map (λ (a : Arc S). a.to) o) 0) at ∙ leads in
            let low : next ≤ there.0 = elim (cases_lt there.0 next) [
              | inl early ↦ (let e = up_to.before there.0 number early read in absurd (omega arith))
              | inr le ↦ le
            ] in
            let high : there.0 < end = elim (cases_lt there.0 end) [
              | inl lt ↦ lt
              | inr le ↦ (let e = later there.0 number le read in absurd (omega arith))
            ] in (
              there.0 - next,
              omega (arith, low, high, long),
              range_get order next end (there.0 - next) number (omega (arith, low, high)) ∙ (ap (λ n. get_or order n number) (omega (arith, low)) ∙ there.2),
            )

        right : All (ArrivesAt arcs place) (slice_range order next end)
        right k d lt =
            let small : k < end - next = omega (arith, lt, long) in
            let number : ℕ = get_or order (next + k) d in
            let inside = runs.inside in
            let read : slice_get order (next + k) ≡ Some number = slice_get-get_or order (next + k) d (omega arith) in
            let arc_lt = arc_there (next + k) number read in
            arrives (get_or (slice_range order next end) k d) number (range_get order next end k d small) arc_lt (runs.here (next + k) number (omega arith) (omega arith) read)
          where
            arrives : (n number : ℕ) → n ≡ number → number < length arcs → end_of arcs number ≡ place → ArrivesAt arcs place n
            arrives n number same lt leads = go (slice_get arcs number) refl where
              go : (o : Option (Arc S)) → slice_get arcs number ≡ o → ArrivesAt arcs place n
              go (Some arc) e = record { arc = arc; is = ap (slice_get arcs) same ∙ e; to = sym (ap (λ o. unwrap_or (option_map (λ (a : Arc S). a.to) o) 0) e) ∙ leads }
              go None e = absurd (some_within arcs number lt e)

    pub run_ended : (end number : ℕ) → slice_get order end ≡ Some number → end_of arcs number ≢ place → Runs arcs order next end place → RunEnd end
    run_ended end number at other runs =
        let least : place ≤ end_of arcs number = up_to.after end number runs.low at in
        let more : place + 1 ≤ end_of arcs number = strictly (end_of arcs number) place least other in
        ended end runs (λ k later le is. le_trans (place + 1) (end_of arcs number) (end_of arcs later) more (sorted_reads end k number later le at is))

    pub run_over : Runs arcs order next (length order) place → RunEnd (length order)
    run_over runs = ended (length order) runs (λ k number le at. let lt = slice_get_within order k number at in absurd (omega arith))
