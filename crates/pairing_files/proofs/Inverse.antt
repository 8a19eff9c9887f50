-- What a step that gave a value was given.
use Rattle.std.proofs.Common.{◌≡◌, ℕ, ◌+◌, ◌≤◌, ◌<◌, List, [], ◌∷◌, length, Bool, true, false, not, ◌&&◌, ◌||◌, nat_le, nat_lt, ◌==◌, if◌then◌else◌, Option, Some, None, Result, Ok, Err, refl, arith, subst}
use Rattle.std.specs.List.{list_all}
use Rattle.std.specs.Str.{is_utf8}
use Rattle.std.proofs.lemmas.Bool.Decides.{nat_tests}
use Rattle.field_text.specs.declared.field_fault.FieldFault.{FieldFault}
use Rattle.field_text.specs.declared.file_fault.FileCode.{FileCode}
use Rattle.field_text.specs.declared.file_fault.FileCode.TheVariants.{Utf8, Width, Header}
use Rattle.field_text.specs.declared.file_fault.FileName.{FileName}
use Rattle.field_text.specs.Steps.{◌>>=◌, or_fault}
use Rattle.field_text.specs.Rows.{in_column, at_row, rows_from, file, same_record, text_row}
use Rattle.pairing_files.specs.Faults.{first_fault}
use Rattle.pairing_files.specs.Files.{unless}

pub bind-ok : {A B E : Type 0} (x : Result A E) (f : A → Result B E) (z : B) → (x >>= f) ≡ Ok z → (y : A) × (x ≡ Ok y) × (f y ≡ Ok z)
bind-ok (Ok y) f z e = (y, refl, e)
bind-ok (Err c) f z e = absurd (cc e)

pub unless-ok : {A E : Type 0} (o : Option E) (x z : A) → unless o x ≡ Ok z → (o ≡ None) × (x ≡ z)
unless-ok None x z e = (refl, cc e)
unless-ok (Some c) x z e = absurd (cc e)

pub or_fault-ok : {A E : Type 0} (c : E) (o : Option A) (y : A) → or_fault c o ≡ Ok y → o ≡ Some y
or_fault-ok c None y e = absurd (cc e)
or_fault-ok c (Some x) y e = cc e

pub in_column-ok : {A : Type 0} (k : ℕ) (r : Result A FieldFault) (y : A) → in_column k r ≡ Ok y → r ≡ Ok y
in_column-ok k (Ok x) y e = cc e
in_column-ok k (Err f) y e = absurd (cc e)

pub text_row-ok : {A : Type 0} (width : ℕ) (fields : List (List ℕ)) (read : Result A FileCode) (y : A) → text_row width fields read ≡ Ok y → read ≡ Ok y
text_row-ok {A} width fields read y e = go (list_all is_utf8 fields) (length fields == width) e
  where
    go : (a b : Bool) → (if a then (if b then read else Err Width) else Err Utf8) ≡ Ok y → read ≡ Ok y
    go true true h = h
    go true false h = absurd (cc h)
    go false b h = absurd (cc h)

-- three columns that gave a value
pub record GaveThree {A B C D E : Type 0} (a : Result A E) (b : Result B E) (c : Result C E) (make : A → B → C → D) (z : D) : Type 0 where
  pub x : A
  pub y : B
  pub w : C
  pub first : a ≡ Ok x
  pub made : make x y w ≡ z

pub three-ok : {A B C D E : Type 0} (a : Result A E) (b : Result B E) (c : Result C E) (make : A → B → C → D) (z : D)
    → (a >>= (λ x. b >>= (λ y. c >>= (λ w. Ok (make x y w))))) ≡ Ok z → GaveThree a b c make z
three-ok (Ok x) (Ok y) (Ok w) make z e = record { x = x; y = y; w = w; first = refl; made = cc e }
three-ok (Ok x) (Ok y) (Err f) make z e = absurd (cc e)
three-ok (Ok x) (Err f) c make z e = absurd (cc e)
three-ok (Err f) b c make z e = absurd (cc e)

-- six columns that gave a value
pub record GaveSix {A B C D F G H E : Type 0} (a : Result A E) (b : Result B E) (c : Result C E) (d : Result D E) (f : Result F E) (g : Result G E) (make : A → B → C → D → F → G → H) (z : H) : Type 0 where
  pub x1 : A
  pub x2 : B
  pub x3 : C
  pub x4 : D
  pub x5 : F
  pub x6 : G
  pub third : c ≡ Ok x3
  pub fourth : d ≡ Ok x4
  pub fifth : f ≡ Ok x5
  pub sixth : g ≡ Ok x6
  pub made : make x1 x2 x3 x4 x5 x6 ≡ z

pub six-ok : {A B C D F G H E : Type 0} (a : Result A E) (b : Result B E) (c : Result C E) (d : Result D E) (f : Result F E) (g : Result G E) (make : A → B → C → D → F → G → H) (z : H)
    → (a >>= (λ x1. b >>= (λ x2. c >>= (λ x3. d >>= (λ x4. f >>= (λ x5. g >>= (λ x6. Ok (make x1 x2 x3 x4 x5 x6)))))))) ≡ Ok z
    → GaveSix a b c d f g make z
six-ok (Ok x1) (Ok x2) (Ok x3) (Ok x4) (Ok x5) (Ok x6) make z e =
    record { x1 = x1; x2 = x2; x3 = x3; x4 = x4; x5 = x5; x6 = x6; third = refl; fourth = refl; fifth = refl; sixth = refl; made = cc e }
six-ok (Ok x1) (Ok x2) (Ok x3) (Ok x4) (Ok x5) (Err c) make z e = absurd (cc e)
six-ok (Ok x1) (Ok x2) (Ok x3) (Ok x4) (Err c) g make z e = absurd (cc e)
six-ok (Ok x1) (Ok x2) (Ok x3) (Err c) f g make z e = absurd (cc e)
six-ok (Ok x1) (Ok x2) (Err c) d f g make z e = absurd (cc e)
six-ok (Ok x1) (Err c) c2 d f g make z e = absurd (cc e)
six-ok (Err c) b c2 d f g make z e = absurd (cc e)

-- four tests of which none stands
pub four-pass : {E : Type 0} (a b c d : Bool) (u v w x : E) → (if a then Some u else (if b then Some v else (if c then Some w else (if d then Some x else None)))) ≡ None
    → (a ≡ false) × (b ≡ false) × (c ≡ false) × (d ≡ false)
four-pass true b c d u v w x e = absurd (cc e)
four-pass false true c d u v w x e = absurd (cc e)
four-pass false false true d u v w x e = absurd (cc e)
four-pass false false false true u v w x e = absurd (cc e)
four-pass false false false false u v w x e = (refl, refl, refl, refl)

-- two tests of which none stands, and no fault after them
pub two-pass : {E : Type 0} (a b : Bool) (u v : E) (o : Option E) → (if not a then Some u else (if not b then Some v else o)) ≡ None → (a ≡ true) × (b ≡ true) × (o ≡ None)
two-pass true true u v o e = (refl, refl, e)
two-pass true false u v o e = absurd (cc e)
two-pass false b u v o e = absurd (cc e)

pub both-none : {E : Type 0} (a b : Option E) → first_fault a b ≡ None → (a ≡ None) × (b ≡ None)
both-none None b e = (refl, e)
both-none (Some c) b e = absurd (cc e)

pub or-false : (a b : Bool) → (a || b) ≡ false → (a ≡ false) × (b ≡ false)
or-false false false e = (refl, refl)
or-false false true e = absurd (cc e)
or-false true b e = absurd (cc e)

pub and-true : (a b : Bool) → (a && b) ≡ true → (a ≡ true) × (b ≡ true)
and-true true true e = (refl, refl)
and-true true false e = absurd (cc e)
and-true false b e = absurd (cc e)

pub lt-false : (a b : ℕ) → nat_lt a b ≡ false → b ≤ a
lt-false a b e = grind (arith, nat_tests)

pub lt-true : (a b : ℕ) → nat_lt a b ≡ true → a < b
lt-true a b e = grind (arith, nat_tests)

pub le-false : (a b : ℕ) → nat_le a b ≡ false → b < a
le-false a b e = grind (arith, nat_tests)

pub le-true : (a b : ℕ) → nat_le a b ≡ true → a ≤ b
le-true a b e = grind (arith, nat_tests)

-- what each row keeps is kept by all rows, with a count of the rows
module _ {S : Type 0} (name : FileName) (row : S → List (List ℕ) → Result S FileCode) (P : ℕ → S → Type 0)
    (step : (k : ℕ) (s t : S) (r : List (List ℕ)) → P k s → row s r ≡ Ok t → P (k + 1) t) where
  pub rows-keep : (n k : ℕ) (s t : S) (rs : List (List (List ℕ))) → P k s → rows_from name row n s rs ≡ Ok t → P (k + length rs) t
  unfolding rows_from
  rows-keep n k s t [] p e =
      let same : s ≡ t = cc e in
      let size : k ≡ k + length {A = List (List ℕ)} [] = omega arith in
      subst (λ (x : S). P (k + length {A = List (List ℕ)} []) x) same (subst (λ (m : ℕ). P m s) size p)
  rows-keep n k s t (r ∷ rs) p e = go (row s r) refl e (λ u q f. rows-keep (n + 1) (k + 1) u t rs q f)
    where
      go : (x : Result S FileCode) → row s r ≡ x → (at_row name n x >>= (λ u. rows_from name row (n + 1) u rs)) ≡ Ok t
          → ((u : S) → P (k + 1) u → rows_from name row (n + 1) u rs ≡ Ok t → P (k + 1 + length rs) t) → P (k + length (r ∷ rs)) t
      go (Ok u) h f rest =
          let size : k + 1 + length rs ≡ k + length (r ∷ rs) = omega arith in
          subst (λ (m : ℕ). P m t) size (rest u (step k s u r p h) f)
      go (Err c) h f rest = absurd (cc f)

  -- and by a file
  pub file-keeps : (header : List (List ℕ)) (s t : S) (rs : List (List (List ℕ))) → P 0 s → file name header row s rs ≡ Ok t → (m : ℕ) × (m ≤ length rs) × P m t
  file-keeps header s t [] p e = absurd (cc e)
  file-keeps header s t (h ∷ rows) p e = go (same_record h header) e
    where
      go : (b : Bool) → (if b then rows_from name row 2 s rows else Err (record { file = name; row = 1; code = Header })) ≡ Ok t
          → (m : ℕ) × (m ≤ length (h ∷ rows)) × P m t
      go true f = (0 + length rows, omega arith, rows-keep 2 0 s t rows p f)
      go false f = absurd (cc f)
