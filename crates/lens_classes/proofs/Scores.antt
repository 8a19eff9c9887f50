-- What a lens counts of a line's bids, beside what the lens of a class counts and what the class loses.
use Rattle.std.proofs.Common.{◌≡◌, ℕ, suc, ◌+◌, ◌≤◌, Bool, true, false, not, ◌||◌, ◌&&◌, List, [], ◌∷◌, Some, refl, sym, subst, arith}
use Rattle.std.specs.Prelude.{sum_by, slice_get, if◌then◌else◌}
use Rattle.std.specs.List.{enumerate_from}
use Rattle.std.proofs.lemmas.List.Sums.{sum_by-cons}
use Rattle.roster_model.specs.declared.bid.Bid.{Bid}
use Rattle.roster_model.specs.declared.bid.Wish.{Wish}
use Rattle.roster_model.specs.declared.proof.Lens.{Lens}
use Rattle.roster_model.specs.Lenses.{is_tracked, is_trackable, is_whole}
use Rattle.lens_classes.specs.Classes.{lost_among}

-- what is counted of bids by their numbers
abbrev pub counted_by : (ℕ → Bool) → (Wish → Bool) → ℕ → List Bid → ℕ
counted_by tracks grants n bids =
    sum_by (λ nb. if not (tracks nb.0) || grants nb.1.wish then nb.1.weight else 0) (enumerate_from n bids)

-- a premise on the bids from a number on, for those behind the first
abbrev pub Each : (ℕ → Bid → Type 0) → ℕ → List Bid → Type 0
Each P n bids = (k : ℕ) (b : Bid) → slice_get bids k ≡ Some b → P (n + k) b

pub each_first : (P : ℕ → Bid → Type 0) (n : ℕ) (b : Bid) (bids : List Bid) → Each P n (b ∷ bids) → P n b
each_first P n b bids each = let e : n + 0 ≡ n = omega arith in subst (λ (m : ℕ). P m b) e (each 0 b refl)

pub each_rest : (P : ℕ → Bid → Type 0) (n : ℕ) (b : Bid) (bids : List Bid) → Each P n (b ∷ bids) → Each P (n + 1) bids
each_rest P n b bids each = λ k y is. let e : n + suc k ≡ (n + 1) + k = omega arith in subst (λ (m : ℕ). P m y) e (each (suc k) y is)

pub each_of : (P : ℕ → Bid → Type 0) (bids : List Bid) → ((k : ℕ) (b : Bid) → slice_get bids k ≡ Some b → P k b) → Each P 0 bids
each_of P bids h = λ k y is. let e : k ≡ 0 + k = omega arith in subst (λ (m : ℕ). P m y) e (h k y is)

module _ (lens : Lens) (narrow : ℕ → Bool) (granted : ℕ → Bool) (at own : Wish → Bool) where
  -- the lens of the class tracks the bid where a pairing can decide it, and then both grants are one
  pub record IsNarrow (n : ℕ) (b : Bid) : Type 0 where
    pub tracks : narrow n ≡ (is_tracked lens n && is_trackable b.wish)
    pub kind : is_tracked lens n ≡ true → is_whole b.wish ≡ not (is_trackable b.wish)
    pub same : is_trackable b.wish ≡ true → at b.wish ≡ own b.wish

  -- the class grants just what the line grants at the credit
  pub record IsTrue (n : ℕ) (b : Bid) : Type 0 where
    pub narrows : IsNarrow n b
    pub granted_is : is_tracked lens n ≡ true → is_whole b.wish ≡ true → granted n ≡ at b.wish

  -- the line grants what the class does
  pub record IsKept (n : ℕ) (b : Bid) : Type 0 where
    pub narrows : IsNarrow n b
    pub kept : is_tracked lens n ≡ true → is_whole b.wish ≡ true → granted n ≡ true → at b.wish ≡ true

  below : (t r v a o g c : Bool) (w : ℕ) → c ≡ (t && r) → (t ≡ true → v ≡ not r) → (r ≡ true → a ≡ o) → (t ≡ true → v ≡ true → g ≡ a)
      → (if not t || a then w else 0) + (if t && (v && not g) then w else 0) ≤ (if not c || o then w else 0)
  below false r v a o g c w e k s h = rw e (omega arith)
  below true true true a o g c w e k s h = absurd (cc (k refl))
  below true true false a o g c w e k s h = rw (e, sym (s refl)) (left a)
    where
      left : (a : Bool) → (if a then w else 0) + 0 ≤ (if a then w else 0)
      left true = omega arith
      left false = omega arith
  below true false false a o g c w e k s h = absurd (cc (k refl))
  below true false true a o g c w e k s h = rw (e, h refl refl) (left a)
    where
      left : (a : Bool) → (if a then w else 0) + (if not a then w else 0) ≤ w
      left true = omega arith
      left false = omega arith

  above : (t r v a o g c : Bool) (w : ℕ) → c ≡ (t && r) → (t ≡ true → v ≡ not r) → (r ≡ true → a ≡ o) → (t ≡ true → v ≡ true → g ≡ true → a ≡ true)
      → (if not c || o then w else 0) ≤ (if not t || a then w else 0) + (if t && (v && not g) then w else 0)
  above false r v a o g c w e k s h = rw e (omega arith)
  above true true true a o g c w e k s h = absurd (cc (k refl))
  above true true false a o g c w e k s h = rw (e, sym (s refl)) (left a)
    where
      left : (a : Bool) → (if a then w else 0) ≤ (if a then w else 0) + 0
      left true = omega arith
      left false = omega arith
  above true false false a o g c w e k s h = absurd (cc (k refl))
  above true false true a o true c w e k s h = let f : a ≡ true = h refl refl refl in rw (e, f) (omega arith)
  above true false true a o false c w e k s h = rw e (left a)
    where
      left : (a : Bool) → w ≤ (if a then w else 0) + w
      left true = omega arith
      left false = omega arith

  pub true_counts : (n : ℕ) (bids : List Bid) (lost : ℕ) → Each IsTrue n bids
      → counted_by (is_tracked lens) at n bids + lost_among lens granted n bids lost ≤ counted_by narrow own n bids + lost
  true_counts n [] lost each = omega arith
  true_counts n (b ∷ bids) lost each =
      let here = each_first IsTrue n b bids each in
      let one = below (is_tracked lens n) (is_trackable b.wish) (is_whole b.wish) (at b.wish) (own b.wish) (granted n) (narrow n) b.weight here.narrows.tracks here.narrows.kind here.narrows.same here.granted_is in
      let rest = true_counts (n + 1) bids (lost + (if is_tracked lens n && (is_whole b.wish && not (granted n)) then b.weight else 0)) (each_rest IsTrue n b bids each) in
      let first = sum_by-cons (λ (nb : ℕ × Bid). if not (is_tracked lens nb.0) || at nb.1.wish then nb.1.weight else 0) (n, b) (enumerate_from (n + 1) bids) in
      let second = sum_by-cons (λ (nb : ℕ × Bid). if not (narrow nb.0) || own nb.1.wish then nb.1.weight else 0) (n, b) (enumerate_from (n + 1) bids) in
      omega (arith, one, rest, first, second)

  pub kept_counts : (n : ℕ) (bids : List Bid) (lost : ℕ) → Each IsKept n bids
      → counted_by narrow own n bids + lost ≤ counted_by (is_tracked lens) at n bids + lost_among lens granted n bids lost
  kept_counts n [] lost each = omega arith
  kept_counts n (b ∷ bids) lost each =
      let here = each_first IsKept n b bids each in
      let one = above (is_tracked lens n) (is_trackable b.wish) (is_whole b.wish) (at b.wish) (own b.wish) (granted n) (narrow n) b.weight here.narrows.tracks here.narrows.kind here.narrows.same here.kept in
      let rest = kept_counts (n + 1) bids (lost + (if is_tracked lens n && (is_whole b.wish && not (granted n)) then b.weight else 0)) (each_rest IsKept n b bids each) in
      let first = sum_by-cons (λ (nb : ℕ × Bid). if not (is_tracked lens nb.0) || at nb.1.wish then nb.1.weight else 0) (n, b) (enumerate_from (n + 1) bids) in
      let second = sum_by-cons (λ (nb : ℕ × Bid). if not (narrow nb.0) || own nb.1.wish then nb.1.weight else 0) (n, b) (enumerate_from (n + 1) bids) in
      omega (arith, one, rest, first, second)
