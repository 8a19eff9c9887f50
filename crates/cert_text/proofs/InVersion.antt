-- What a version can say: versions 1 and 2 have no word for lenses that look at whole lines, and version 3 has one of them.
use Rattle.std.proofs.Common.{◌≡◌, ℕ, zero, suc, Bool, true, false, ◌&&◌, not, List, [], ◌∷◌, length, refl, ap, arith}
use Rattle.std.specs.Prelude.{◌||◌, ◌==◌, nat_lt}
use Rattle.std.specs.List.{list_all}
use Rattle.std.proofs.lemmas.Bool.{and_from}
use Rattle.std.proofs.lemmas.Bool.Decides.{nat_tests}
use Rattle.cert_text.specs.declared.version.Version.{Version}
use Rattle.cert_text.specs.declared.version.Version.TheVariants.{One, Two, Three}
use Rattle.cert_text.proofs.Numerals.{both}

-- what is said, where it must not be plain or may be, and what is said and keeps the limits besides
abbrev pub says_in : {A : Type 0} → Version → Bool → (A → Bool) → A → Bool
says_in One must plain x = plain x
says_in Two must plain x = plain x
says_in Three must plain x = not must || not (plain x)

abbrev pub fits_in : {A : Type 0} → Version → Bool → (A → Bool) → (A → Bool) → A → Bool
fits_in v must plain fits x = says_in v must plain x && fits x

pub parts_in : {A : Type 0} (v : Version) (must : Bool) (plain fits : A → Bool) (x : A) → fits_in v must plain fits x ≡ true → (fits x ≡ true) × (says_in v must plain x ≡ true)
parts_in v must plain fits x h = let t = both (says_in v must plain x) (fits x) h in (t.1, t.0)

pub fits_from : {A : Type 0} (v : Version) (must : Bool) (plain fits : A → Bool) (x : A) → fits x ≡ true → says_in v must plain x ≡ true → fits_in v must plain fits x ≡ true
fits_from v must plain fits x h g = and_from _ _ g h

pub all_in : {A : Type 0} (plain fits : A → Bool) (xs : List A) → list_all fits xs ≡ true → list_all plain xs ≡ true → list_all (fits_in One false plain fits) xs ≡ true
all_in plain fits [] h g = refl
all_in plain fits (x ∷ xs) h g =
    let s = both (fits x) (list_all fits xs) h in
    let t = both (plain x) (list_all plain xs) g in
    rw (t.0, s.0) (all_in plain fits xs s.1 t.1)

-- ---- several, of which one is owed that is not plain, unless more follow

abbrev pub owes : {A : Type 0} → Version → Bool → Bool → (A → Bool) → List A → Bool
owes One owed more plain xs = list_all plain xs
owes Two owed more plain xs = list_all plain xs
owes Three owed more plain xs = not owed || (more || not (list_all plain xs))

pub none_less : (n : ℕ) → nat_lt 0 (suc n) ≡ true
none_less n = grind (arith, nat_tests)

pub not_none : (n : ℕ) → (suc n == 0) ≡ false
not_none n = grind (arith, nat_tests)

-- whether the next of so many must not be plain
abbrev pub musts : Bool → Bool → ℕ → Bool
musts owed more n = owed && (not more && n == 0)

module _ {A : Type 0} (plain : A → Bool) where
  first_three : (o m p : Bool) (xs : List A) → (not o || (m || not (p && list_all plain xs))) ≡ true → (not (o && (not m && length xs == 0)) || not p) ≡ true
  first_three false m p xs h = refl
  first_three true true p xs h = refl
  first_three true false false [] h = refl
  first_three true false true [] h = absurd cc
  first_three true false p (x ∷ xs) h = ap (λ (b : Bool). not b || not p) (not_none (length xs))

  pub owes_first : (v : Version) (owed more : Bool) (x : A) (xs : List A) → owes v owed more plain (x ∷ xs) ≡ true → says_in v (owed && (not more && length xs == 0)) plain x ≡ true
  owes_first One owed more x xs h = (both (plain x) (list_all plain xs) h).0
  owes_first Two owed more x xs h = (both (plain x) (list_all plain xs) h).0
  owes_first Three owed more x xs h = first_three owed more (plain x) xs h

  others_three : (o m p r : Bool) → (not o || (m || not (p && r))) ≡ true → (not (o && p) || (m || not r)) ≡ true
  others_three false m p r h = refl
  others_three true m false r h = refl
  others_three true m true r h = h

  pub owes_others : (v : Version) (owed more : Bool) (x : A) (xs : List A) → owes v owed more plain (x ∷ xs) ≡ true → owes v (owed && plain x) more plain xs ≡ true
  owes_others One owed more x xs h = (both (plain x) (list_all plain xs) h).1
  owes_others Two owed more x xs h = (both (plain x) (list_all plain xs) h).1
  owes_others Three owed more x xs h = others_three owed more (plain x) (list_all plain xs) h

-- one more paid or is owed still
pub owes_more : (o m p r : Bool) → (not (o && p) || (m || not r)) ≡ true → (not o || (m || not (p && r))) ≡ true
owes_more false m p r h = refl
owes_more true true false r h = refl
owes_more true false false r h = refl
owes_more true m true r h = h

-- where something is owed, something follows that may pay it
abbrev pub may_pay : Bool → Bool → ℕ → Bool
may_pay owed more n = not owed || (more || nat_lt 0 n)

pub pay_next : (o m p : Bool) (n : ℕ) → (not (o && (not m && n == 0)) || not p) ≡ true → may_pay (o && p) m n ≡ true
pay_next false m p n h = refl
pay_next true m false n h = refl
pay_next true true true n h = refl
pay_next true false true zero h = absurd cc
pay_next true false true (suc n) h = none_less n
