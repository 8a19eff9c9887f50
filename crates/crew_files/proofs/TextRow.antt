-- Rows of so many fields of text.
use Rattle.std.proofs.Common.{◌≡◌, ◌≢◌, ℕ, List, length, true, false, ◌==◌, Result, Err, refl, arith}
use Rattle.std.specs.List.{list_all}
use Rattle.std.specs.Str.{is_utf8}
use Rattle.std.proofs.lemmas.Bool.Decides.{nat_tests}
use Rattle.field_text.specs.declared.file_fault.FileCode.{FileCode}
use Rattle.field_text.specs.declared.file_fault.FileCode.TheVariants.{Utf8, Width}
use Rattle.field_text.specs.Rows.{text_row}

module _ {A : Type 0} (n : ℕ) (fields : List (List ℕ)) (read : Result A FileCode) where
  pub row-utf8 : list_all is_utf8 fields ≡ false → text_row n fields read ≡ Err Utf8
  row-utf8 h = rw h refl

  pub row-width : list_all is_utf8 fields ≡ true → length fields ≢ n → text_row n fields read ≡ Err Width
  row-width h w = let t : (length fields == n) ≡ false = grind (arith, nat_tests) in rw (h, t) refl

  pub row-fits : list_all is_utf8 fields ≡ true → length fields ≡ n → text_row n fields read ≡ read
  row-fits h w = let t : (length fields == n) ≡ true = grind (arith, nat_tests) in rw (h, t) refl
