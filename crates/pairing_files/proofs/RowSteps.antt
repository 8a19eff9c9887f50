-- A row whose columns are read, and what is left to do with it.
use Rattle.std.proofs.Common.{◌≡◌, ℕ, List, length, Bool, true, false, ◌==◌, Result, Ok, Err, sym, ap, ◌∙◌}
use Rattle.std.specs.Prelude.{if◌then◌else◌}
use Rattle.std.specs.List.{list_all}
use Rattle.std.specs.Str.{is_utf8}
use Rattle.field_text.specs.declared.file_fault.FileCode.{FileCode}
use Rattle.field_text.specs.declared.file_fault.FileCode.TheVariants.{Utf8, Width}
use Rattle.field_text.specs.Rows.{text_row}
use Rattle.field_text.specs.Steps.{◌>>=◌}

pub row-passes : {A S : Type 0} (n : ℕ) (fields row : List (List ℕ)) (columns : List (List ℕ) → Result A FileCode) (place : A → Result S FileCode) (x : A)
    → Ok row ≡ text_row n fields (Ok fields) → Ok x ≡ columns row → (text_row n fields (columns fields) >>= place) ≡ place x
row-passes n fields row columns place x e f = go (list_all is_utf8 fields) (length fields == n) e
  where
    go : (a b : Bool) → Ok row ≡ (if a then (if b then Ok fields else Err Width) else Err Utf8)
        → ((if a then (if b then columns fields else Err Width) else Err Utf8) >>= place) ≡ place x
    go true true h = let same : fields ≡ row = cc h in ap (λ (r : List (List ℕ)). columns r >>= place) same ∙ ap (λ (r : Result _ FileCode). r >>= place) (sym f)
    go true false h = absurd (cc h)
    go false b h = absurd (cc h)
