-- The arcs that lead to a place.
use Rattle.std.proofs.Common.{◌≡◌, ◌≢◌, ℕ, ◌+◌, ◌*◌, ◌<◌, ◌≤◌, List, [], ◌∷◌, ◌++◌, Some, inl, inr, refl, sym, ◌∙◌, ap, subst, arith, length, get_or, set, map, Vec}
use Rattle.std.specs.declared.alloc.Global.{Global}
use Rattle.std.specs.Prelude.{Contains, slice_get, All, option_map}
use Rattle.std.proofs.lemmas.Option.{slice_get_read, slice_get_within, slice_get-map}
use Rattle.std.proofs.lemmas.List.{map-set}
use Rattle.std.proofs.lemmas.List.Elements.{All-nil, All-push, All-map, All-contains, Contains-push, Contains-append_left}
use Rattle.std.proofs.Math.Nat.{mul-le-mul_left}
use Rattle.label_setter.proofs.ListReads.{below_or_at, contains_read, same_or_not, same_some, set_read_same, set_read_other}
use Rattle.label_setter.specs.declared.graph.Arc.{Arc}
use Rattle.label_setter.specs.Graphs.{FitsPlaces, IsGraph}
use Rattle.label_setter.specs.Arrivals.{ArrivesAt, Arriving}

pub record Listed {S : Type 0} (arcs : List (Arc S)) (place i : ℕ) (numbers : List ℕ) : Type 0 where
  pub listed : (number : ℕ) (arc : Arc S) → number < i → slice_get arcs number ≡ Some arc → arc.to ≡ place → Contains numbers number
  pub right : All (ArrivesAt arcs place) numbers

module _ {S : Type 0} (arcs : List (Arc S)) (place : ℕ) where
  pub Listed-start : Listed arcs place 0 []
  Listed-start = record { listed = λ number arc l is to. absurd (omega arith); right = All-nil (ArrivesAt arcs place) }

  pub Listed-yes : (i : ℕ) (numbers : List ℕ) (arc : Arc S) → i < length arcs → arc ≡ get_or arcs i arc → arc.to ≡ place → Listed arcs place i numbers → Listed arcs place (i + 1) (numbers ++ i ∷ [])
  Listed-yes i numbers arc within read to so_far =
      let is : slice_get arcs i ≡ Some arc = slice_get_read arcs (length arcs) i arc refl within read in
      record {
        listed = λ number other l other_is other_to. elim (below_or_at number i l) [
          | inl earlier ↦ Contains-append_left numbers (i ∷ []) number (so_far.listed number other earlier other_is other_to)
          | inr now ↦ subst (λ n. Contains (numbers ++ i ∷ []) n) (sym now) (Contains-push numbers i)
        ];
        right = All-push (ArrivesAt arcs place) numbers i so_far.right (record { arc = arc; is = is; to = to });
      }

  pub Listed-no : (i : ℕ) (numbers : List ℕ) (arc : Arc S) → i < length arcs → arc ≡ get_or arcs i arc → arc.to ≢ place → Listed arcs place i numbers → Listed arcs place (i + 1) numbers
  Listed-no i numbers arc within read other_place so_far =
      let is : slice_get arcs i ≡ Some arc = slice_get_read arcs (length arcs) i arc refl within read in
      record {
        listed = λ number other l other_is other_to. elim (below_or_at number i l) [
          | inl earlier ↦ so_far.listed number other earlier other_is other_to
          | inr now ↦ (
              let same : other ≡ arc = same_some _ other arc other_is (subst (λ n. slice_get arcs n ≡ Some arc) (sym now) is) in
              absurd (other_place (ap (λ (a : Arc S). a.to) (sym same) ∙ other_to)))
        ];
        right = so_far.right;
      }

  pub Listed-all : (numbers : List ℕ) → Listed arcs place (length arcs) numbers → Arriving arcs place numbers
  Listed-all numbers all = record {
    listed = λ number arc is to. all.listed number arc (slice_get_within arcs number arc is) is to;
    right = all.right;
  }

list_there : (lists : List (Vec ℕ Global)) (place : ℕ) (list : Vec ℕ Global) → place < length lists → list ≡ get_or lists place list → slice_get (map (λ l. l.items) lists) place ≡ Some list.items
list_there lists place list within read =
    slice_get-map (λ (l : Vec ℕ Global). l.items) lists place ∙ ap (option_map (λ (l : Vec ℕ Global). l.items)) (slice_get_read lists (length lists) place list refl within read)

-- the list of one place
pub arriving_there : {S : Type 0} (arcs : List (Arc S)) (lists : List (Vec ℕ Global)) (places place : ℕ) (list : Vec ℕ Global) → length lists ≡ places → place < places → list ≡ get_or lists place list → ((p : ℕ) (numbers : List ℕ) → slice_get (map (λ l. l.items) lists) p ≡ Some numbers → Arriving arcs p numbers) → Arriving arcs place list.items
arriving_there arcs lists places place list count within read each = each place list.items (list_there lists place list (omega (arith, count, within)) read)

-- the lists of all places, after the first arcs
pub record Grouped {S : Type 0} (arcs : List (Arc S)) (i : ℕ) (lists : List (List ℕ)) : Type 0 where
  pub each : (place : ℕ) (numbers : List ℕ) → slice_get lists place ≡ Some numbers → Listed arcs place i numbers

module _ {S : Type 0} (arcs : List (Arc S)) where
  pub Grouped-start : (lists : List (Vec ℕ Global)) → All (λ list. list.items ≡ []) lists → Grouped arcs 0 (map (λ list. list.items) lists)
  Grouped-start lists empty = record {
    each = λ place numbers is.
        let none : numbers ≡ [] = All-contains (λ (ns : List ℕ). ns ≡ []) (map (λ list. list.items) lists) numbers (All-map (λ (ns : List ℕ). ns ≡ []) (λ (list : Vec ℕ Global). list.items) lists empty) (contains_read (map (λ list. list.items) lists) place numbers is) in
        subst (Listed arcs place 0) (sym none) (Listed-start arcs place);
  }

  pub Grouped-takes : (lists : List (List ℕ)) (i : ℕ) (arc : Arc S) (old : List ℕ) → i < length arcs → arc ≡ get_or arcs i arc → slice_get lists arc.to ≡ Some old → Grouped arcs i lists → Grouped arcs (i + 1) (set lists arc.to (old ++ i ∷ []))
  Grouped-takes lists i arc old within read old_is so_far = record {
    each = λ place numbers is. elim (same_or_not place arc.to) [
      | inl same ↦ (
          let new_is : old ++ i ∷ [] ≡ numbers = set_read_same lists arc.to (old ++ i ∷ []) numbers (subst (λ p. slice_get (set lists arc.to (old ++ i ∷ [])) p ≡ Some numbers) same is) in
          subst (Listed arcs place (i + 1)) new_is
          (Listed-yes arcs place i old arc within read (sym same) (so_far.each place old (subst (λ p. slice_get lists p ≡ Some old) (sym same) old_is))))
      | inr other ↦ Listed-no arcs place i numbers arc within read (λ e. other (sym e)) (so_far.each place numbers (set_read_other lists arc.to place (old ++ i ∷ []) numbers other is))
    ];
  }

  pub Grouped-adds : (lists : List (Vec ℕ Global)) (places i : ℕ) (arc : Arc S) (list new : Vec ℕ Global) → All (FitsPlaces places) arcs → length lists ≡ places → i < length arcs → arc ≡ get_or arcs i arc → list ≡ get_or lists arc.to list → new.items ≡ list.items ++ i ∷ [] → Grouped arcs i (map (λ list. list.items) lists)
      → Grouped arcs (i + 1) (map (λ list. list.items) (set lists arc.to new))
  Grouped-adds lists places i arc list new fit count within read list_read adds so_far =
      let fits : FitsPlaces places arc = subst (FitsPlaces places) (sym read) (fit i arc within) in
      let inside : arc.to < length lists = (let end = fits.within in omega arith) in
      let list_is = list_there lists arc.to list inside list_read in
      rw (map-set (λ (l : Vec ℕ Global). l.items) lists arc.to new, adds) (Grouped-takes (map (λ (l : Vec ℕ Global). l.items) lists) i arc list.items within read list_is so_far)

pub steps_next : (s0 s1 s2 most a b : ℕ) → s1 ≤ s0 + most * a → s2 ≤ s1 + most * b → s2 ≤ s0 + most * (a + b)
steps_next s0 s1 s2 most a b p q = omega arith

pub steps_within : (s0 s1 most a n : ℕ) → s1 ≤ s0 + most * a → a ≤ n → s1 ≤ s0 + most * n
steps_within s0 s1 most a n p q = omega (arith, mul-le-mul_left most q)

pub fits_any : {S : Type 0} (places : ℕ) (arcs : List (Arc S)) → IsGraph places arcs → All (FitsPlaces 2000) arcs
fits_any places arcs graph k d within =
    let fits = graph.arcs_fit k d within in
    let most = graph.most in
    let below = fits.within in
    record { forward = fits.forward; within = omega arith; gain_low = fits.gain_low; gain_high = fits.gain_high }
