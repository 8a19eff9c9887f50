-- Records beside a header.
use Rattle.std.proofs.Common.{◌≡◌, ◌≢◌, ℕ, ◌+◌, ◌<◌, suc, zero, List, [], ◌∷◌, length, drop, get_or, map, Bool, true, false, not, ◌&&◌, nat_eq, refl, arith, sym, ap, ◌∙◌, add-one}
use Rattle.std.proofs.Math.Seq.{drop-cons}
use Rattle.std.specs.Borrow.{Bor}
use Rattle.std.specs.Cmp.Lexicographic.{pointwise}
use Rattle.field_text.specs.Rows.{same_record}

pub same-length : (fs gs : List (List ℕ)) → length fs ≢ length gs → same_record fs gs ≡ false
same-length [] [] h = absurd (h refl)
same-length [] (g ∷ gs) h = refl
same-length (f ∷ fs) [] h = refl
same-length (f ∷ fs) (g ∷ gs) h = go (pointwise nat_eq f g) (same-length fs gs (λ e. h (ap suc e)))
  where
    go : (t : Bool) → same_record fs gs ≡ false → (t && same_record fs gs) ≡ false
    go true e = e
    go false e = refl

module _ (fs gs : List (List ℕ)) (i : ℕ) (inside : i < length fs) (within : i < length gs) where
  pub head-parts : same_record (drop i fs) (drop i gs) ≡ (pointwise nat_eq (get_or fs i []) (get_or gs i []) && same_record (drop (i + 1) fs) (drop (i + 1) gs))
  head-parts = rw (add-one, drop-cons fs i [], drop-cons gs i []) refl

  pub head-differs : pointwise nat_eq (get_or fs i []) (get_or gs i []) ≡ false → same_record (drop i fs) (drop i gs) ≡ false
  head-differs e = head-parts ∙ rw e refl

  pub head-same : pointwise nat_eq (get_or fs i []) (get_or gs i []) ≡ true → same_record (drop i fs) (drop i gs) ≡ same_record (drop (i + 1) fs) (drop (i + 1) gs)
  head-same e = head-parts ∙ rw e refl

pub get_or-map_of : {X Y : Type 0} (f : X → Y) (xs : List X) (i : ℕ) (d : X) (e : Y) → i < length xs → get_or (map f xs) i e ≡ f (get_or xs i d)
get_or-map_of f [] i d e h = absurd (omega arith)
get_or-map_of f (x ∷ xs) zero d e h = refl
get_or-map_of f (x ∷ xs) (suc i) d e h = get_or-map_of f xs i d e (omega arith)

pub length-map_now : (hs : List (Bor (List ℕ))) → length (map (λ f. f.now) hs) ≡ length hs
length-map_now [] = refl
length-map_now (h ∷ hs) = rw (length-map_now hs) refl

not-so : (t : Bool) → not t ≡ true → t ≡ false
not-so true e = absurd (cc e)
not-so false e = refl

so-not : (t : Bool) → not t ≡ false → t ≡ true
so-not true e = refl
so-not false e = absurd (cc e)

-- a field that is not the header's
pub field-differs : (fs : List (List ℕ)) (hs : List (Bor (List ℕ))) (i : ℕ) (d : Bor (List ℕ)) (x : List ℕ) (b : Bool)
    → length fs ≡ length hs → i < length hs → x ≡ get_or fs i [] → b ≡ not (pointwise nat_eq x (get_or hs i d).now) → b ≡ true
    → same_record (drop i fs) (drop i (map (λ f. f.now) hs)) ≡ same_record fs (map (λ f. f.now) hs)
    → false ≡ same_record fs (map (λ f. f.now) hs)
field-differs fs hs i d x b lengths within field test passed same =
    let hs' : List (List ℕ) = map (λ (f : Bor (List ℕ)). f.now) hs in
    let inside : i < length fs = omega arith in
    let room : i < length hs' = omega (arith, length-map_now hs) in
    let other : pointwise nat_eq x (get_or hs i d).now ≡ false = not-so _ (sym test ∙ passed) in
    let there : get_or hs' i [] ≡ (get_or hs i d).now = get_or-map_of (λ (f : Bor (List ℕ)). f.now) hs i d [] within in
    sym (sym same ∙ head-differs fs hs' i inside room (rw (there, ← field) other))

-- a field that is
pub field-same : (fs : List (List ℕ)) (hs : List (Bor (List ℕ))) (i : ℕ) (d : Bor (List ℕ)) (x : List ℕ) (b : Bool)
    → length fs ≡ length hs → i < length hs → x ≡ get_or fs i [] → b ≡ not (pointwise nat_eq x (get_or hs i d).now) → b ≡ false
    → same_record (drop i fs) (drop i (map (λ f. f.now) hs)) ≡ same_record fs (map (λ f. f.now) hs)
    → same_record (drop (i + 1) fs) (drop (i + 1) (map (λ f. f.now) hs)) ≡ same_record fs (map (λ f. f.now) hs)
field-same fs hs i d x b lengths within field test passed same =
    let hs' : List (List ℕ) = map (λ (f : Bor (List ℕ)). f.now) hs in
    let inside : i < length fs = omega arith in
    let room : i < length hs' = omega (arith, length-map_now hs) in
    let equal : pointwise nat_eq x (get_or hs i d).now ≡ true = so-not _ (sym test ∙ passed) in
    let there : get_or hs' i [] ≡ (get_or hs i d).now = get_or-map_of (λ (f : Bor (List ℕ)). f.now) hs i d [] within in
    sym (head-same fs hs' i inside room (rw (there, ← field) equal)) ∙ same
