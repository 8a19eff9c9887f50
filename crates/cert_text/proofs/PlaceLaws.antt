-- The places of keys, in a map to which keys are added.
use Rattle.std.proofs.Common.{◌≡◌, ℕ, suc, ◌+◌, ◌<◌, Bool, true, false, cond, List, [], ◌∷◌, ◌++◌, length, Some, None, refl, sym, ap, subst, ◌∙◌, arith, nat_cmp}
use Rattle.std.specs.Prelude.{◌||◌, not}
use Rattle.std.specs.BTreeMap.{BTreeMap, get, Updates}
use Rattle.std.specs.Cmp.Lexicographic.{slice_cmp, texts_ties}
use Rattle.cert_text.specs.Places.{place_if, ArePlaced}
use Rattle.cert_text.specs.Spelling.{is_kept, with_key, place_in}
use Rattle.cert_text.proofs.KeyLaws.{Key, same, same_is, same_self, one_plus, IsPlaced, placed}

-- ---- one key more

place_last : (xs : List Key) (k : Key) → is_kept xs k ≡ false → place_in (xs ++ k ∷ []) k ≡ length xs
place_last [] k h = ap (λ (b : Bool). cond (not b) (1 + 0) 0) (same_self k)
place_last (x ∷ xs) k h = by_test (same k x) refl h (place_last xs k)
  where
    by_test : (b : Bool) → same k x ≡ b → (b || is_kept xs k) ≡ false → (is_kept xs k ≡ false → place_in (xs ++ k ∷ []) k ≡ length xs)
        → place_in (x ∷ (xs ++ k ∷ [])) k ≡ suc (length xs)
    by_test true t h others = absurd cc
    by_test false t h others =
        ap (λ (b : Bool). cond (not b) (1 + place_in (xs ++ k ∷ []) k) 0) t ∙ one_plus (place_in (xs ++ k ∷ []) k) ∙ ap suc (others h)

kept_last : (xs : List Key) (k : Key) → is_kept (xs ++ k ∷ []) k ≡ true
kept_last [] k = ap (λ (b : Bool). b || false) (same_self k)
kept_last (x ∷ xs) k = by_test (same k x) refl (kept_last xs k)
  where
    by_test : (b : Bool) → same k x ≡ b → is_kept (xs ++ k ∷ []) k ≡ true → (same k x || is_kept (xs ++ k ∷ []) k) ≡ true
    by_test true t others = ap (λ (b : Bool). b || is_kept (xs ++ k ∷ []) k) t
    by_test false t others = ap (λ (b : Bool). b || is_kept (xs ++ k ∷ []) k) t ∙ others

kept_other : (xs : List Key) (k q : Key) → same q k ≡ false → is_kept (xs ++ k ∷ []) q ≡ is_kept xs q
kept_other [] k q h = ap (λ (b : Bool). b || false) h
kept_other (x ∷ xs) k q h = ap (λ (b : Bool). same q x || b) (kept_other xs k q h)

place_other : (xs : List Key) (k q : Key) → is_kept xs q ≡ true → place_in (xs ++ k ∷ []) q ≡ place_in xs q
place_other [] k q h = absurd cc
place_other (x ∷ xs) k q h = by_test (same q x) refl h (place_other xs k q)
  where
    by_test : (b : Bool) → same q x ≡ b → (b || is_kept xs q) ≡ true → (is_kept xs q ≡ true → place_in (xs ++ k ∷ []) q ≡ place_in xs q)
        → place_in (x ∷ (xs ++ k ∷ [])) q ≡ place_in (x ∷ xs) q
    by_test true t h others =
        ap (λ (b : Bool). cond (not b) (1 + place_in (xs ++ k ∷ []) q) 0) t ∙ sym (ap (λ (b : Bool). cond (not b) (1 + place_in xs q) 0) t)
    by_test false t h others =
        ap (λ (b : Bool). cond (not b) (1 + place_in (xs ++ k ∷ []) q) 0) t ∙ ap (λ (n : ℕ). 1 + n) (others h)
        ∙ sym (ap (λ (b : Bool). cond (not b) (1 + place_in xs q) 0) t)

last_is : (xs : List Key) (k : Key) → is_kept xs k ≡ false → place_if (xs ++ k ∷ []) k ≡ Some (length xs)
last_is xs k h =
    ap (λ (b : Bool). cond b (Some (place_in (xs ++ k ∷ []) k)) None) (kept_last xs k) ∙ ap (λ (n : ℕ). Some n) (place_last xs k h)

others_are : (xs : List Key) (k q : Key) → same q k ≡ false → place_if (xs ++ k ∷ []) q ≡ place_if xs q
others_are xs k q h = ap (λ (b : Bool). cond b (Some (place_in (xs ++ k ∷ []) q)) None) (kept_other xs k q h) ∙ by_test (is_kept xs q) refl
  where
    by_test : (b : Bool) → is_kept xs q ≡ b → cond (is_kept xs q) (Some (place_in (xs ++ k ∷ []) q)) None ≡ place_if xs q
    by_test true e = ap (λ (n : ℕ). cond (is_kept xs q) (Some n) None) (place_other xs k q e)
    by_test false e =
        ap (λ (b : Bool). cond b (Some (place_in (xs ++ k ∷ []) q)) None) e ∙ sym (ap (λ (b : Bool). cond b (Some (place_in xs q)) None) e)

same-swap : (k q : Key) → same k q ≡ same q k
same-swap k q = by_test (same k q) (same q k) refl refl
  where
    by_test : (a b : Bool) → same k q ≡ a → same q k ≡ b → a ≡ b
    by_test true true e f = refl
    by_test true false e f = let g : same q k ≡ true = ap (λ (x : Key). same q x) (same_is k q e) ∙ same_self q in absurd (let h : true ≡ false = sym g ∙ f in cc)
    by_test false true e f = let g : same k q ≡ true = ap (λ (x : Key). same k x) (same_is q k f) ∙ same_self k in absurd (let h : true ≡ false = sym g ∙ e in cc)
    by_test false false e f = refl

pub placed-more : (xs : List Key) (k : Key) (old new : BTreeMap Key ℕ) (n : ℕ) → ArePlaced xs old → get (slice_cmp nat_cmp) old k ≡ None
    → n ≡ length xs → Updates (slice_cmp nat_cmp) old new k (Some n) → ArePlaced (xs ++ k ∷ []) new
placed-more xs k old new n are none count update q =
    update.0 q ∙ ap (λ (b : Bool). cond b (Some n) (get (slice_cmp nat_cmp) old q)) (sym (texts_ties k q)) ∙ by_test (same k q) refl
  where
    missing : is_kept xs k ≡ false
    missing = by (is_kept xs k) refl (sym (are k) ∙ none)
      where
        by : (b : Bool) → is_kept xs k ≡ b → place_if xs k ≡ None → is_kept xs k ≡ false
        by true e h = absurd (let g : Some (place_in xs k) ≡ None = sym (ap (λ (b : Bool). cond b (Some (place_in xs k)) None) e) ∙ h in cc)
        by false e h = e

    by_test : (b : Bool) → same k q ≡ b → cond (same k q) (Some n) (get (slice_cmp nat_cmp) old q) ≡ place_if (xs ++ k ∷ []) q
    by_test true e =
        ap (λ (b : Bool). cond b (Some n) (get (slice_cmp nat_cmp) old q)) e ∙ ap (λ (m : ℕ). Some m) count
        ∙ sym (ap (λ (x : Key). place_if (xs ++ k ∷ []) x) (sym (same_is k q e)) ∙ last_is xs k missing)
    by_test false e =
        ap (λ (b : Bool). cond b (Some n) (get (slice_cmp nat_cmp) old q)) e ∙ are q ∙ sym (others_are xs k q (sym (same-swap k q) ∙ e))

-- the same of what was added to a list and to the map
pub placed_then : (xs pushed : List Key) (k v : Key) (old new : BTreeMap Key ℕ) (n : ℕ) → ArePlaced xs old → get (slice_cmp nat_cmp) old k ≡ None
    → n ≡ length xs → pushed ≡ xs ++ v ∷ [] → v ≡ k → Updates (slice_cmp nat_cmp) old new k (Some n) → ArePlaced pushed new
placed_then xs pushed k v old new n are none count push is update =
    subst (λ (ys : List Key). ArePlaced ys new) (sym (push ∙ ap (λ (x : Key). xs ++ x ∷ []) is)) (placed-more xs k old new n are none count update)

-- ---- what the map tells

pub record IsThere (xs : List Key) (k : Key) (n : ℕ) : Type 0 where
  pub kept : is_kept xs k ≡ true
  pub place : n ≡ place_in xs k
  pub within : n < length xs
  pub keys : with_key xs k ≡ xs

pub there : (xs : List Key) (k : Key) (n : ℕ) → place_if xs k ≡ Some n → IsThere xs k n
there xs k n h = by_test (is_kept xs k) refl
  where
    some_is : (a b : ℕ) → Some a ≡ Some b → a ≡ b
    some_is a b e = cc

    by_test : (b : Bool) → is_kept xs k ≡ b → IsThere xs k n
    by_test true e =
        let is : place_in xs k ≡ n = some_is (place_in xs k) n (sym (ap (λ (b : Bool). cond b (Some (place_in xs k)) None) e) ∙ h) in
        let p : IsPlaced xs k = placed xs k e in
        let lt = p.within in
        record {
          kept = e;
          place = sym is;
          within = omega (arith, is, lt);
          keys = ap (λ (b : Bool). cond b xs (xs ++ k ∷ [])) e;
        }
    by_test false e = absurd (let g : None ≡ Some n = sym (ap (λ (b : Bool). cond b (Some (place_in xs k)) None) e) ∙ h in cc)

pub record IsMissing (xs : List Key) (k : Key) : Type 0 where
  pub kept : is_kept xs k ≡ false
  pub place : place_in xs k ≡ length xs
  pub keys : with_key xs k ≡ xs ++ k ∷ []

place_none : (xs : List Key) (k : Key) → is_kept xs k ≡ false → place_in xs k ≡ length xs
place_none [] k h = refl
place_none (x ∷ xs) k h = by_test (same k x) refl h (place_none xs k)
  where
    by_test : (b : Bool) → same k x ≡ b → (b || is_kept xs k) ≡ false → (is_kept xs k ≡ false → place_in xs k ≡ length xs) → place_in (x ∷ xs) k ≡ suc (length xs)
    by_test true t h others = absurd cc
    by_test false t h others = ap (λ (b : Bool). cond (not b) (1 + place_in xs k) 0) t ∙ one_plus (place_in xs k) ∙ ap suc (others h)

pub missing_ : (xs : List Key) (k : Key) → place_if xs k ≡ None → IsMissing xs k
missing_ xs k h = by_test (is_kept xs k) refl
  where
    by_test : (b : Bool) → is_kept xs k ≡ b → IsMissing xs k
    by_test true e = absurd (let g : Some (place_in xs k) ≡ None = sym (ap (λ (b : Bool). cond b (Some (place_in xs k)) None) e) ∙ h in cc)
    by_test false e = record { kept = e; place = place_none xs k e; keys = ap (λ (b : Bool). cond b xs (xs ++ k ∷ [])) e }
