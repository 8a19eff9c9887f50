-- Rows that lead from one draft to another, whatever their numbers.
use Rattle.std.proofs.Common.{◌≡◌, ℕ, ◌+◌, List, [], ◌∷◌, ◌++◌, length, true, Result, Ok, Err, refl, ap, ◌∙◌, ◌==◌}
use Rattle.field_text.specs.Steps.{◌>>=◌}
use Rattle.field_text.specs.Rows.{in_column, at_row, rows_from, file, same_record, text_row}
use Rattle.field_text.specs.declared.field_fault.FieldFault.{FieldFault}
use Rattle.field_text.specs.declared.file_fault.FileCode.{FileCode}
use Rattle.field_text.specs.declared.file_fault.FileName.{FileName}
use Rattle.field_text.proofs.CleanLines.{AreClean, all-utf8}

abbrev pub Leads : {S : Type 0} → FileName → (S → List (List ℕ) → Result S FileCode) → S → List (List (List ℕ)) → S → Type 0
Leads name row s rows t = (n : ℕ) → rows_from name row n s rows ≡ Ok t

module _ {S : Type 0} (name : FileName) (row : S → List (List ℕ) → Result S FileCode) where
  pub lead-none : (s : S) → Leads name row s [] s
  unfolding rows_from
  lead-none s n = refl

  pub lead-row : (s t u : S) (r : List (List ℕ)) (rs : List (List (List ℕ))) → row s r ≡ Ok t → Leads name row t rs u → Leads name row s (r ∷ rs) u
  unfolding rows_from
  lead-row s t u r rs e more n = ap (λ (x : Result S FileCode). at_row name n x >>= (λ v. rows_from name row (n + 1) v rs)) e ∙ more (n + 1)

  rows-more : (n : ℕ) (s t u : S) (xs ys : List (List (List ℕ))) → rows_from name row n s xs ≡ Ok t → Leads name row t ys u → rows_from name row n s (xs ++ ys) ≡ Ok u
  unfolding rows_from
  rows-more n s t u [] ys a b = let same : s ≡ t = cc a in ap (λ (x : S). rows_from name row n x ys) same ∙ b n
  rows-more n s t u (r ∷ rs) ys a b = go (row s r) a (λ v f. rows-more (n + 1) v t u rs ys f b)
    where
      go : (x : Result S FileCode) → (at_row name n x >>= (λ v. rows_from name row (n + 1) v rs)) ≡ Ok t
          → ((v : S) → rows_from name row (n + 1) v rs ≡ Ok t → rows_from name row (n + 1) v (rs ++ ys) ≡ Ok u)
          → (at_row name n x >>= (λ v. rows_from name row (n + 1) v (rs ++ ys))) ≡ Ok u
      go (Ok v) f rest = rest v f
      go (Err c) f rest = absurd (cc f)

  -- two parts, one after the other
  pub lead-more : (s t u : S) (xs ys : List (List (List ℕ))) → Leads name row s xs t → Leads name row t ys u → Leads name row s (xs ++ ys) u
  lead-more s t u xs ys a b n = rows-more n s t u xs ys (a n) b

  -- a file of them
  pub lead-file : (header : List (List ℕ)) (s t : S) (rows : List (List (List ℕ))) → same_record header header ≡ true → Leads name row s rows t → file name header row s (header ∷ rows) ≡ Ok t
  lead-file header s t rows same lead = rw same (lead 2)

-- a row of clean fields
pub clean-row : {A : Type 0} (width : ℕ) (fields : List (List ℕ)) (read : Result A FileCode) → AreClean fields → (length fields == width) ≡ true → text_row width fields read ≡ read
clean-row width fields read clean size = rw (all-utf8 fields clean, size) refl

-- columns that each give a value
pub three-columns : {A B C D : Type 0} (a : Result A FieldFault) (b : Result B FieldFault) (c : Result C FieldFault) (make : A → B → C → D) (x : A) (y : B) (z : C)
    → a ≡ Ok x → b ≡ Ok y → c ≡ Ok z
    → (in_column 1 a >>= (λ x1. in_column 2 b >>= (λ x2. in_column 3 c >>= (λ x3. Ok (make x1 x2 x3))))) ≡ Ok (make x y z)
three-columns a b c make x y z e f g = rw (e, f, g) refl

pub six-columns : {A B C D F G H : Type 0} (a : Result A FieldFault) (b : Result B FieldFault) (c : Result C FieldFault) (d : Result D FieldFault) (f : Result F FieldFault) (g : Result G FieldFault)
    (make : A → B → C → D → F → G → H) (x1 : A) (x2 : B) (x3 : C) (x4 : D) (x5 : F) (x6 : G)
    → a ≡ Ok x1 → b ≡ Ok x2 → c ≡ Ok x3 → d ≡ Ok x4 → f ≡ Ok x5 → g ≡ Ok x6
    → (in_column 1 a >>= (λ y1. in_column 2 b >>= (λ y2. in_column 3 c >>= (λ y3. in_column 4 d >>= (λ y4. in_column 5 f >>= (λ y5. in_column 6 g >>= (λ y6. Ok (make y1 y2 y3 y4 y5 y6)))))))) ≡ Ok (make x1 x2 x3 x4 x5 x6)
six-columns a b c d f g make x1 x2 x3 x4 x5 x6 e1 e2 e3 e4 e5 e6 = rw (e1, e2, e3, e4, e5, e6) refl
