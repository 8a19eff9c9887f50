-- Rows that read one after another without a fault.
use Rattle.std.proofs.Common.{◌≡◌, ℕ, ◌+◌, List, [], ◌∷◌, ◌++◌, true, Result, Ok, sym, ap, subst, ◌∙◌}
use Rattle.field_text.specs.declared.file_fault.FileName.{FileName}
use Rattle.field_text.specs.declared.file_fault.FileCode.{FileCode}
use Rattle.field_text.specs.Rows.{file, rows_from, same_record}
use Rattle.crew_files.proofs.HeaderSteps.{file-rows}

-- the rows lead from one state to another
abbrev pub Walks : {S : Type 0} → (S → List (List ℕ) → Result S FileCode) → S → List (List (List ℕ)) → S → Type 0
Walks {S} row s [] t = s ≡ t
Walks {S} row s (r ∷ rs) t = (u : S) × (row s r ≡ Ok u) × Walks row u rs t

module _ {S : Type 0} (row : S → List (List ℕ) → Result S FileCode) where
  pub walks-append : (s t u : S) (rs qs : List (List (List ℕ))) → Walks row s rs t → Walks row t qs u → Walks row s (rs ++ qs) u
  walks-append s t u [] qs a b = subst (λ (x : S). Walks row x qs u) (sym a) b
  walks-append s t u (r ∷ rs) qs a b = (a.0, a.1, walks-append a.0 t u rs qs a.2 b)

  walks-rows : (name : FileName) (n : ℕ) (s t : S) (rs : List (List (List ℕ))) → Walks row s rs t → rows_from name row n s rs ≡ Ok t
  unfolding rows_from
  walks-rows name n s t [] a = ap Ok a
  walks-rows name n s t (r ∷ rs) a = rw (a.1) (walks-rows name (n + 1) a.0 t rs a.2)

  pub walks-file : (name : FileName) (header : List (List ℕ)) (s t : S) (rs records : List (List (List ℕ))) → records ≡ header ∷ rs → same_record header header ≡ true → Walks row s rs t → file name header row s records ≡ Ok t
  walks-file name header s t rs records e same a = file-rows name header row s records header rs e same ∙ walks-rows name 2 s t rs a
