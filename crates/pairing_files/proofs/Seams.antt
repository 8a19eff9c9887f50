-- A list at a place: what stands before it, the element there, and what comes after it.
use Rattle.std.proofs.Common.{◌≡◌, ◌≢◌, ℕ, suc, ◌+◌, ◌-◌, ◌<◌, List, [], ◌∷◌, ◌++◌, length, Bool, true, false, not, cond, ◌||◌, nat_lt, nat_eq, Some, None, slice_get, slice_set, position, All, AllPairs, refl, arith, sym, ap, ◌∙◌, append_assoc, append-nil, length-append}
use Rattle.std.specs.Cmp.Lexicographic.{pointwise}
use Rattle.std.specs.List.{list_any, position_or_len}
use Rattle.std.proofs.lemmas.Bool.{and_parts}
use Rattle.std.proofs.lemmas.Bool.Decides.{nat_tests}
use Rattle.std.proofs.lemmas.Option.{slice_get_within}
use Rattle.pairing_files.specs.Faults.{last_of}
use Rattle.pairing_files.proofs.ListFacts.{all-get, all-from, pairs-get, get-left}

pub seam-get : {X : Type 0} (xs : List X) (y : X) (zs : List X) → slice_get (xs ++ y ∷ zs) (length xs) ≡ Some y
seam-get [] y zs = refl
seam-get (x ∷ xs) y zs = seam-get xs y zs

pub seam-set : {X : Type 0} (xs : List X) (y z : X) (zs : List X) → slice_set (xs ++ y ∷ zs) (length xs) z ≡ xs ++ z ∷ zs
seam-set [] y z zs = refl
seam-set {X} (x ∷ xs) y z zs = ap (λ (t : List X). x ∷ t) (seam-set xs y z zs)

pub seam-next : {X : Type 0} (xs : List X) (y : X) (zs : List X) → (xs ++ y ∷ []) ++ zs ≡ xs ++ y ∷ zs
seam-next xs y zs = append_assoc xs (y ∷ []) zs

pub seam-size : {X : Type 0} (xs : List X) (y : X) → length (xs ++ y ∷ []) ≡ length xs + 1
seam-size xs y = length-append xs (y ∷ [])

pub seam-short : {X : Type 0} (xs : List X) (y : X) (zs : List X) → length xs < length (xs ++ y ∷ zs)
seam-short xs y zs = omega (arith, length-append xs (y ∷ zs))

pub seam-all : {X : Type 0} (P : X → Type 0) (xs : List X) (y : X) (zs : List X) → All P (xs ++ y ∷ zs) → P y
seam-all P xs y zs all = all-get P (xs ++ y ∷ zs) (length xs) y all (seam-get xs y zs)

pub seam-pairs : {X : Type 0} (R : X → X → Type 0) (xs : List X) (y : X) (zs : List X) → AllPairs R (xs ++ y ∷ zs) → All (λ x. R x y) xs
seam-pairs {X} R xs y zs pairs = all-from (λ (x : X). R x y) xs (λ (k : ℕ) (x : X). λ at.
    pairs-get R (xs ++ y ∷ zs) k (length xs) x y pairs (slice_get_within xs k x at) (get-left xs (y ∷ zs) k x at) (seam-get xs y zs))

pub all-head : {X : Type 0} (P : X → Type 0) (x : X) (xs : List X) → All P (x ∷ xs) → P x
all-head P x xs all = all 0 x (omega arith)

pub all-tail : {X : Type 0} (P : X → Type 0) (x : X) (xs : List X) → All P (x ∷ xs) → All P xs
all-tail P x xs all k d within = all (suc k) d (omega arith)

pub all-last : {X : Type 0} (P : X → Type 0) (xs : List X) (l : X) → All P xs → last_of xs ≡ Some l → P l
all-last P xs l all e = all-get P xs (length xs - 1) l all e

module _ {X : Type 0} (p : X → Bool) where
  pub none-any : (xs : List X) → All (λ x. p x ≡ false) xs → list_any p xs ≡ false
  none-any [] all = refl
  none-any (x ∷ xs) all =
      ap (λ (b : Bool). b || list_any p xs) (all-head (λ (y : X). p y ≡ false) x xs all) ∙ none-any xs (all-tail (λ (y : X). p y ≡ false) x xs all)

  none-before : (xs ys : List X) → All (λ x. p x ≡ false) xs → position_or_len p (xs ++ ys) ≡ length xs + position_or_len p ys
  none-before [] ys all = omega arith
  none-before (x ∷ xs) ys all =
      let first : p x ≡ false = all-head (λ (y : X). p y ≡ false) x xs all in
      let more = none-before xs ys (all-tail (λ (y : X). p y ≡ false) x xs all) in
      ap (λ (b : Bool). cond (not b) (1 + position_or_len p (xs ++ ys)) 0) first ∙ omega (arith, more)

  -- a search finds the first one that passes
  pub seam-found : (xs : List X) (y : X) (zs : List X) → All (λ x. p x ≡ false) xs → p y ≡ true → position p (xs ++ y ∷ zs) ≡ Some (length xs)
  seam-found xs y zs all hit =
      let here : position_or_len p (y ∷ zs) ≡ 0 = ap (λ (b : Bool). cond (not b) (1 + position_or_len p zs) 0) hit in
      let at : position_or_len p (xs ++ y ∷ zs) ≡ length xs = omega (arith, none-before xs (y ∷ zs) all, here) in
      let short = seam-short xs y zs in
      let inside : nat_lt (length xs) (length (xs ++ y ∷ zs)) ≡ true = grind (arith, nat_tests) in
      ap (λ (n : ℕ). cond (nat_lt n (length (xs ++ y ∷ zs))) (Some n) None) at ∙ ap (λ (b : Bool). cond b (Some (length xs)) None) inside

  -- and nothing where none passes
  pub none-found : (xs : List X) → All (λ x. p x ≡ false) xs → position p xs ≡ None
  none-found xs all =
      let at : position_or_len p (xs ++ []) ≡ length xs + 0 = none-before xs [] all in
      let same : xs ++ [] ≡ xs = append-nil xs in
      let end : position_or_len p xs ≡ length xs = ap (position_or_len p) (sym same) ∙ at ∙ omega arith in
      let outside : nat_lt (length xs) (length xs) ≡ false = grind (arith, nat_tests) in
      ap (λ (n : ℕ). cond (nat_lt n (length xs)) (Some n) None) end ∙ ap (λ (b : Bool). cond b (Some (length xs)) None) outside

-- bytes that are told apart differ
pub same-bytes : (xs ys : List ℕ) → pointwise nat_eq xs ys ≡ true → xs ≡ ys
same-bytes [] [] h = refl
same-bytes [] (y ∷ ys) h = absurd (cc h)
same-bytes (x ∷ xs) [] h = absurd (cc h)
same-bytes (x ∷ xs) (y ∷ ys) h =
    let p = and_parts (nat_eq x y) (pointwise nat_eq xs ys) h in
    let first : nat_eq x y ≡ true = p.0 in
    let same : x ≡ y = grind (arith, nat_tests) in
    ap (λ (b : ℕ). b ∷ xs) same ∙ ap (λ (t : List ℕ). y ∷ t) (same-bytes xs ys p.1)

pub apart-bytes : (xs ys : List ℕ) → ys ≢ xs → pointwise nat_eq xs ys ≡ false
apart-bytes xs ys h = go (pointwise nat_eq xs ys) refl
  where
    go : (b : Bool) → pointwise nat_eq xs ys ≡ b → b ≡ false
    go true e = absurd (h (sym (same-bytes xs ys e)))
    go false e = refl
