-- What holds of a line's events and spans, pairing by pairing.
use Rattle.std.proofs.Common.{◌≡◌, ◌≢◌, ℕ, suc, ◌+◌, ◌≤◌, Bool, true, false, ◌&&◌, ◌||◌, List, [], ◌∷◌, ◌++◌, Option, Some, None, refl, ap, sym, ◌∙◌, subst, arith, inl, inr, ◌⊎◌, ◌==◌}
use Rattle.std.specs.Prelude.{nat_le, AllPairs, map}
use Rattle.std.specs.List.{list_any, AllByRecursion, filter_map, flat_map, cons_option}
use Rattle.std.proofs.lemmas.Bool.{and_parts, false≢true, cases_Bool, leb-true}
use Rattle.std.proofs.lemmas.Bool.Decides.{nat_tests}
use Rattle.std.proofs.lemmas.List.Folds.{list_any-append}
use Rattle.std.proofs.lemmas.List.Kept.{AllPairs-cons}
use Rattle.std.proofs.lemmas.List.Elements.{recursion_from_All, All-from_recursion}
use Rattle.duty_calendar.specs.declared.event.Event.{Event}
use Rattle.duty_calendar.specs.declared.pairing.Pairing.{Pairing}
use Rattle.duty_calendar.specs.Minutes.{is_flight}
use Rattle.roster_model.specs.Ascending.{ascends_from}
use Rattle.roster_model.specs.Scores.{is_flown}
use Rattle.line_items.specs.Clear.{is_tiring, is_tired_by}
use Rattle.line_items.proofs.Resting.{or_false, or_false_first, or_false_second}

-- a test of a list of events that fails of two lists together exactly where it fails of both
pub record Splits (c : List Event → Bool) : Type 0 where
  pub none : c [] ≡ false
  pub join : (a b : List Event) → c a ≡ false → c b ≡ false → c (a ++ b) ≡ false
  pub first : (a b : List Event) → c (a ++ b) ≡ false → c a ≡ false
  pub second : (a b : List Event) → c (a ++ b) ≡ false → c b ≡ false

pub flights_split : (events : List Event) → Splits (λ flights. is_tired_by flights events)
flights_split events = record {
  none = refl;
  join = λ a b p q. same a b ∙ or_false (is_tired_by a events) (is_tired_by b events) p q;
  first = λ a b p. or_false_first (is_tired_by a events) (is_tired_by b events) (sym (same a b) ∙ p);
  second = λ a b p. or_false_second (is_tired_by a events) (is_tired_by b events) (sym (same a b) ∙ p);
}
  where
    same : (a b : List Event) → is_tired_by (a ++ b) events ≡ (is_tired_by a events || is_tired_by b events)
    same a b = list_any-append (λ (e : Event). is_flight e.kind && list_any (is_tiring e.report) events) a b

pub events_split : (flights : List Event) → Splits (λ events. is_tired_by flights events)
events_split flights = record { none = no_events flights; join = λ a b. joins a b flights; first = λ a b. firsts a b flights; second = λ a b. seconds a b flights }
  where
    and_false : (x : Bool) → (x && false) ≡ false
    and_false true = refl
    and_false false = refl

    no_events : (flights : List Event) → is_tired_by flights [] ≡ false
    no_events [] = refl
    no_events (e ∷ es) = or_false (is_flight e.kind && false) (is_tired_by es []) (and_false (is_flight e.kind)) (no_events es)

    and_join : (f x y z : Bool) → z ≡ (x || y) → (f && x) ≡ false → (f && y) ≡ false → (f && z) ≡ false
    and_join true x y z e p q = e ∙ or_false x y p q
    and_join false x y z e p q = refl

    and_first : (f x y z : Bool) → z ≡ (x || y) → (f && z) ≡ false → (f && x) ≡ false
    and_first true x y z e p = or_false_first x y (sym e ∙ p)
    and_first false x y z e p = refl

    and_second : (f x y z : Bool) → z ≡ (x || y) → (f && z) ≡ false → (f && y) ≡ false
    and_second true x y z e p = or_false_second x y (sym e ∙ p)
    and_second false x y z e p = refl

    joins : (a b flights : List Event) → is_tired_by flights a ≡ false → is_tired_by flights b ≡ false → is_tired_by flights (a ++ b) ≡ false
    joins a b [] p q = refl
    joins a b (e ∷ es) p q =
        let t = is_tiring e.report in
        let f = is_flight e.kind in
        or_false (f && list_any t (a ++ b)) (is_tired_by es (a ++ b))
        (and_join f (list_any t a) (list_any t b) (list_any t (a ++ b)) (list_any-append t a b) (or_false_first (f && list_any t a) (is_tired_by es a) p) (or_false_first (f && list_any t b) (is_tired_by es b) q))
        (joins a b es (or_false_second (f && list_any t a) (is_tired_by es a) p) (or_false_second (f && list_any t b) (is_tired_by es b) q))

    firsts : (a b flights : List Event) → is_tired_by flights (a ++ b) ≡ false → is_tired_by flights a ≡ false
    firsts a b [] p = refl
    firsts a b (e ∷ es) p =
        let t = is_tiring e.report in
        let f = is_flight e.kind in
        or_false (f && list_any t a) (is_tired_by es a)
        (and_first f (list_any t a) (list_any t b) (list_any t (a ++ b)) (list_any-append t a b) (or_false_first (f && list_any t (a ++ b)) (is_tired_by es (a ++ b)) p))
        (firsts a b es (or_false_second (f && list_any t (a ++ b)) (is_tired_by es (a ++ b)) p))

    seconds : (a b flights : List Event) → is_tired_by flights (a ++ b) ≡ false → is_tired_by flights b ≡ false
    seconds a b [] p = refl
    seconds a b (e ∷ es) p =
        let t = is_tiring e.report in
        let f = is_flight e.kind in
        or_false (f && list_any t b) (is_tired_by es b)
        (and_second f (list_any t a) (list_any t b) (list_any t (a ++ b)) (list_any-append t a b) (or_false_first (f && list_any t (a ++ b)) (is_tired_by es (a ++ b)) p))
        (seconds a b es (or_false_second (f && list_any t (a ++ b)) (is_tired_by es (a ++ b)) p))

-- membership of a line
pub flown_head : (n : ℕ) (line : List ℕ) → is_flown (n ∷ line) n ≡ true
flown_head n line = let t : (n == n) ≡ true = grind (arith, nat_tests) in rw t refl

pub flown_tail : (n k : ℕ) (line : List ℕ) → is_flown line k ≡ true → is_flown (n ∷ line) k ≡ true
flown_tail n k line h = go (n == k) h
  where
    go : (b : Bool) → is_flown line k ≡ true → (b || is_flown line k) ≡ true
    go true h = refl
    go false h = h

pub flown_cases : (n k : ℕ) (line : List ℕ) → is_flown (n ∷ line) k ≡ true → (n ≡ k) ⊎ (is_flown line k ≡ true)
flown_cases n k line h = elim (cases_Bool (n == k)) [ inl e ↦ inl (grind (arith, nat_tests)) | inr d ↦ inr (rw d at h) ]

pub flown_above : (low k : ℕ) (line : List ℕ) → ascends_from low line ≡ true → is_flown line k ≡ true → low ≤ k
flown_above low k [] up h = absurd (false≢true h)
flown_above low k (n ∷ line) up h =
    let parts = and_parts (nat_le low n) (ascends_from (n + 1) line) up in
    let le = leb-true _ _ parts.0 in
    elim (flown_cases n k line h) [ inl e ↦ omega arith | inr later ↦ let r = flown_above (n + 1) k line parts.1 later in omega arith ]

-- P of each pairing of the line
abbrev pub EachOf : (ℕ → Option Pairing) → List ℕ → (Pairing → Type 0) → Type 0
EachOf h line P = (n : ℕ) (x : Pairing) → is_flown line n ≡ true → h n ≡ Some x → P x

rest_of : (h : ℕ → Option Pairing) (n : ℕ) (line : List ℕ) (P : Pairing → Type 0) → EachOf h (n ∷ line) P → EachOf h line P
rest_of h n line P each = λ k x f is. each k x (flown_tail n k line f) is

module _ (h : ℕ → Option Pairing) where
  module _ (g : Pairing → List Event) (c : List Event → Bool) (splits : Splits c) where
    pub joined : (line : List ℕ) → EachOf h line (λ x. c (g x) ≡ false) → c (flat_map g (filter_map h line)) ≡ false
    joined [] each = splits.none
    joined (n ∷ line) each = go (h n) refl (joined line (rest_of h n line (λ x. c (g x) ≡ false) each))
      where
        go : (o : Option Pairing) → h n ≡ o → c (flat_map g (filter_map h line)) ≡ false → c (flat_map g (cons_option o (filter_map h line))) ≡ false
        go None e rest = rest
        go (Some x) e rest = splits.join (g x) (flat_map g (filter_map h line)) (each n x (flown_head n line) e) rest

    pub parted : (line : List ℕ) → c (flat_map g (filter_map h line)) ≡ false → EachOf h line (λ x. c (g x) ≡ false)
    parted [] none k x f is = absurd (false≢true f)
    parted (n ∷ line) none k x f is = go (h n) refl none (flown_cases n k line f) (λ none later. parted line none k x later is)
      where
        one : (y : Pairing) → h n ≡ Some y → n ≡ k → y ≡ x
        one y e same = let t : Some y ≡ Some x = sym e ∙ ap h same ∙ is in cc

        go : (o : Option Pairing) → h n ≡ o → c (flat_map g (cons_option o (filter_map h line))) ≡ false → (n ≡ k) ⊎ (is_flown line k ≡ true)
            → (c (flat_map g (filter_map h line)) ≡ false → is_flown line k ≡ true → c (g x) ≡ false) → c (g x) ≡ false
        go None e none (inl same) rest = let t : ◌≡◌ {A = Option Pairing} None (Some x) = sym e ∙ ap h same ∙ is in cc
        go None e none (inr later) rest = rest none later
        go (Some y) e none (inl same) rest = subst (λ (z : Pairing). c (g z) ≡ false) (one y e same) (splits.first (g y) (flat_map g (filter_map h line)) none)
        go (Some y) e none (inr later) rest = rest (splits.second (g y) (flat_map g (filter_map h line)) none) later

  -- of all events of the line
  pub all_flat : (g : Pairing → List Event) (P : Event → Type 0) (line : List ℕ) → EachOf h line (λ x. AllByRecursion P (g x)) → AllByRecursion P (flat_map g (filter_map h line))
  all_flat g P [] each = tt
  all_flat g P (n ∷ line) each = go (h n) refl (all_flat g P line (rest_of h n line (λ x. AllByRecursion P (g x)) each))
    where
      joins : (a b : List Event) → AllByRecursion P a → AllByRecursion P b → AllByRecursion P (a ++ b)
      joins [] b p q = q
      joins (e ∷ a) b p q = (p.0, joins a b p.1 q)

      go : (o : Option Pairing) → h n ≡ o → AllByRecursion P (flat_map g (filter_map h line)) → AllByRecursion P (flat_map g (cons_option o (filter_map h line)))
      go None e rest = rest
      go (Some x) e rest = joins (g x) (flat_map g (filter_map h line)) (each n x (flown_head n line) e) rest

  -- of all pairings at once
  pub all_of : {Y : Type 0} (f : Pairing → Y) (P : Y → Type 0) (line : List ℕ) → EachOf h line (λ x. P (f x)) → AllByRecursion P (map f (filter_map h line))
  all_of f P [] each = tt
  all_of {Y} f P (n ∷ line) each = go (h n) refl (all_of f P line (rest_of h n line (λ x. P (f x)) each))
    where
      go : (o : Option Pairing) → h n ≡ o → AllByRecursion P (map f (filter_map h line)) → AllByRecursion P (map f (cons_option o (filter_map h line)))
      go None e rest = rest
      go (Some x) e rest = (each n x (flown_head n line) e, rest)

  pub each_of : {Y : Type 0} (f : Pairing → Y) (P : Y → Type 0) (line : List ℕ) → AllByRecursion P (map f (filter_map h line)) → EachOf h line (λ x. P (f x))
  each_of f P [] all k x fl is = absurd (false≢true fl)
  each_of {Y} f P (n ∷ line) all k x fl is = go (h n) refl all (flown_cases n k line fl) (λ rest later. each_of f P line rest k x later is)
    where
      one : (y : Pairing) → h n ≡ Some y → n ≡ k → y ≡ x
      one y e same = let t : Some y ≡ Some x = sym e ∙ ap h same ∙ is in cc

      go : (o : Option Pairing) → h n ≡ o → AllByRecursion P (map f (cons_option o (filter_map h line))) → (n ≡ k) ⊎ (is_flown line k ≡ true)
          → (AllByRecursion P (map f (filter_map h line)) → is_flown line k ≡ true → P (f x)) → P (f x)
      go None e all (inl same) rest = let t : ◌≡◌ {A = Option Pairing} None (Some x) = sym e ∙ ap h same ∙ is in cc
      go None e all (inr later) rest = rest all later
      go (Some y) e all (inl same) rest = subst (λ (z : Pairing). P (f z)) (one y e same) all.0
      go (Some y) e all (inr later) rest = rest all.1 later

-- R of each element and each later one
abbrev pub PairsBy : {X : Type 0} → (X → X → Type 0) → List X → Type 0
PairsBy R [] = Unit {0}
PairsBy R (x ∷ xs) = AllByRecursion (R x) xs × PairsBy R xs

pub pairs_to : {X : Type 0} (R : X → X → Type 0) (xs : List X) → AllPairs R xs → PairsBy R xs
pairs_to R [] all = tt
pairs_to R (x ∷ xs) all = (recursion_from_All (R x) xs (λ k d lt. all 0 (suc k) d (omega arith) (omega arith)), pairs_to R xs (λ i j d a b. all (suc i) (suc j) d (omega arith) (omega arith)))

pub pairs_from : {X : Type 0} (R : X → X → Type 0) (xs : List X) → PairsBy R xs → AllPairs R xs
pairs_from R [] pairs = λ i j d a b. absurd (omega arith)
pairs_from R (x ∷ xs) pairs = AllPairs-cons R x xs (All-from_recursion (R x) xs pairs.0) (pairs_from R xs pairs.1)

pub all_join : {X : Type 0} (P : X → Type 0) (a b : List X) → AllByRecursion P a → AllByRecursion P b → AllByRecursion P (a ++ b)
all_join P [] b p q = q
all_join P (x ∷ a) b p q = (p.0, all_join P a b p.1 q)

pub all_first : {X : Type 0} (P : X → Type 0) (a b : List X) → AllByRecursion P (a ++ b) → AllByRecursion P a
all_first P [] b p = tt
all_first P (x ∷ a) b p = (p.0, all_first P a b p.1)

pub all_second : {X : Type 0} (P : X → Type 0) (a b : List X) → AllByRecursion P (a ++ b) → AllByRecursion P b
all_second P [] b p = p
all_second P (x ∷ a) b p = all_second P a b p.1

pub pairs_join : {X : Type 0} (R : X → X → Type 0) (a b : List X) → PairsBy R a → PairsBy R b → AllByRecursion (λ x. AllByRecursion (R x) b) a → PairsBy R (a ++ b)
pairs_join R [] b p q cross = q
pairs_join R (x ∷ a) b p q cross = (all_join (R x) a b p.0 cross.0, pairs_join R a b p.1 q cross.1)

pub pairs_first : {X : Type 0} (R : X → X → Type 0) (a b : List X) → PairsBy R (a ++ b) → PairsBy R a
pairs_first R [] b p = tt
pairs_first R (x ∷ a) b p = (all_first (R x) a b p.0, pairs_first R a b p.1)

pub pairs_second : {X : Type 0} (R : X → X → Type 0) (a b : List X) → PairsBy R (a ++ b) → PairsBy R b
pairs_second R [] b p = p
pairs_second R (x ∷ a) b p = pairs_second R a b p.1

pub pairs_cross : {X : Type 0} (R : X → X → Type 0) (a b : List X) → PairsBy R (a ++ b) → AllByRecursion (λ x. AllByRecursion (R x) b) a
pairs_cross R [] b p = tt
pairs_cross R (x ∷ a) b p = (all_second (R x) a b p.0, pairs_cross R a b p.1)

module _ {Y : Type 0} (h : ℕ → Option Pairing) (f : Pairing → Y) (R : Y → Y → Type 0) (symmetric : (a b : Y) → R a b → R b a) where
  -- R of each two pairings of the line
  abbrev pub EachTwo : List ℕ → Type 0
  EachTwo line = (n k : ℕ) (x y : Pairing) → is_flown line n ≡ true → is_flown line k ≡ true → n ≢ k → h n ≡ Some x → h k ≡ Some y → R (f x) (f y)

  pub two_to : (low : ℕ) (line : List ℕ) → ascends_from low line ≡ true → EachTwo line → PairsBy R (map f (filter_map h line))
  two_to low [] up each = tt
  two_to low (n ∷ line) up each =
      let parts = and_parts (nat_le low n) (ascends_from (n + 1) line) up in
      go (h n) refl (two_to (n + 1) line parts.1 (λ i j x y a b ne p q. each i j x y (flown_tail n i line a) (flown_tail n j line b) ne p q))
      (λ x e. all_of h f (R (f x)) line (λ k y fl is. each n k x y (flown_head n line) (flown_tail n k line fl) (λ same. let r = flown_above (n + 1) k line parts.1 fl in omega arith) e is))
    where
      go : (o : Option Pairing) → h n ≡ o → PairsBy R (map f (filter_map h line)) → ((x : Pairing) → h n ≡ Some x → AllByRecursion (R (f x)) (map f (filter_map h line))) → PairsBy R (map f (cons_option o (filter_map h line)))
      go None e rest first = rest
      go (Some x) e rest first = (first x e, rest)

  pub two_from : (line : List ℕ) → PairsBy R (map f (filter_map h line)) → EachTwo line
  two_from [] pairs n k x y a b ne p q = absurd (false≢true a)
  two_from (m ∷ line) pairs n k x y a b ne p q =
      go (h m) refl pairs (flown_cases m n line a) (flown_cases m k line b) (λ rest c d. two_from line rest n k x y c d ne p q)
    where
      one : (l : ℕ) (z w : Pairing) → h m ≡ Some z → m ≡ l → h l ≡ Some w → z ≡ w
      one l z w e same is = let t : Some z ≡ Some w = sym e ∙ ap h same ∙ is in cc

      gone : {Q : Type 0} (l : ℕ) (w : Pairing) → h m ≡ None → m ≡ l → h l ≡ Some w → Q
      gone l w e same is = let t : ◌≡◌ {A = Option Pairing} None (Some w) = sym e ∙ ap h same ∙ is in cc

      go : (o : Option Pairing) → h m ≡ o → PairsBy R (map f (cons_option o (filter_map h line)))
          → (m ≡ n) ⊎ (is_flown line n ≡ true) → (m ≡ k) ⊎ (is_flown line k ≡ true)
          → (PairsBy R (map f (filter_map h line)) → is_flown line n ≡ true → is_flown line k ≡ true → R (f x) (f y)) → R (f x) (f y)
      go o e pairs (inl c) (inl d) rest = absurd (ne (sym c ∙ d))
      go None e pairs (inl c) (inr d) rest = gone n x e c p
      go None e pairs (inr c) (inl d) rest = gone k y e d q
      go None e pairs (inr c) (inr d) rest = rest pairs c d
      go (Some z) e pairs (inl c) (inr d) rest = subst (λ (w : Pairing). R (f w) (f y)) (one n z x e c p) (each_of h f (R (f z)) line pairs.0 k y d q)
      go (Some z) e pairs (inr c) (inl d) rest = symmetric (f y) (f x) (subst (λ (w : Pairing). R (f w) (f x)) (one k z y e d q) (each_of h f (R (f z)) line pairs.0 n x c p))
      go (Some z) e pairs (inr c) (inr d) rest = rest pairs.1 c d
