-- How a file of records reads, row by row, up to its first fault.
use Rattle.std.specs.Prelude.{◌≡◌, ℕ, ◌+◌, List, [], ◌∷◌, ◌++◌, length, nat_eq, ◌==◌, Bool, Option, Some, None, IfSome, Result, Ok, Err, if◌then◌else◌}
use Rattle.std.specs.List.{list_all}
use Rattle.std.specs.Str.{is_utf8}
use Rattle.std.specs.Cmp.Lexicographic.{pointwise}
use Rattle.field_text.specs.declared.field_fault.FieldFault.{FieldFault}
use Rattle.field_text.specs.declared.file_fault.FileName.{FileName}
use Rattle.field_text.specs.declared.file_fault.FileCode.{FileCode}
use Rattle.field_text.specs.declared.file_fault.FileCode.TheVariants as code
use Rattle.field_text.specs.declared.file_fault.FileFault.{FileFault}
use Rattle.field_text.specs.Steps.{◌>>=◌}

-- a field's fault with its column
abbrev pub in_column : {A : Type 0} → ℕ → Result A FieldFault → Result A FileCode
in_column column (Ok x) = Ok x
in_column column (Err fault) = Err (code.Field column fault)

-- a row's fault with its file and the row's number
abbrev pub at_row : {A : Type 0} → FileName → ℕ → Result A FileCode → Result A FileFault
at_row name n (Ok x) = Ok x
at_row name n (Err e) = Err (record { file = name; row = n; code = e })

-- two records have the same fields
abbrev pub same_record : List (List ℕ) → List (List ℕ) → Bool
same_record = pointwise (pointwise nat_eq)

-- the rows from row n on, each read on what those before it gave
unfoldable pub rows_from : {S : Type 0} → FileName → (S → List (List ℕ) → Result S FileCode) → ℕ → S
    → List (List (List ℕ)) → Result S FileFault
rows_from name row n s [] = Ok s
rows_from name row n s (r ∷ rs) = at_row name n (row s r) >>= (λ t. rows_from name row (n + 1) t rs)

-- a header, and then rows
abbrev pub file : {S : Type 0} → FileName → List (List ℕ)
    → (S → List (List ℕ) → Result S FileCode) → S → List (List (List ℕ)) → Result S FileFault
file name header row s [] = Err (record { file = name; row = 1; code = code.Header })
file name header row s (h ∷ rows) =
    if same_record h header then rows_from name row 2 s rows else
    Err (record { file = name; row = 1; code = code.Header })

-- the fault of a code, unless memory ran out
abbrev pub told_by : FileCode → FileFault → Option FileFault
told_by code.NoMemory e = None
told_by code.Header e = Some e
told_by code.Utf8 e = Some e
told_by code.Width e = Some e
told_by (code.Field column fault) e = Some e
told_by code.Duplicate e = Some e
told_by code.Unknown e = Some e
told_by code.Order e = Some e
told_by code.OutsideMonth e = Some e
told_by code.InnerRest e = Some e
told_by (code.Limit number) e = Some e
told_by code.Empty e = Some e

abbrev pub told : FileFault → Option FileFault
told e = told_by e.code e

-- reading has this fault of this code, unless memory ran out
abbrev pub Fails : {Y : Type 0} → FileCode → FileFault → Result Y FileFault → Type 0
Fails c e read = IfSome (told_by c e) (λ fault. read ≡ Err fault)

-- a row of so many fields, all of them text
abbrev pub text_row : {A : Type 0} → ℕ → List (List ℕ) → Result A FileCode → Result A FileCode
text_row width fields read =
    if list_all is_utf8 fields
    then (if length fields == width then read else Err code.Width) else Err code.Utf8

-- fields with commas between them, and a line feed at the end
abbrev pub line_end : List (List ℕ) → List ℕ
line_end [] = 10 ∷ []
line_end (f ∷ fs) = 44 ∷ f ++ line_end fs

abbrev pub line : List (List ℕ) → List ℕ
line [] = 10 ∷ []
line (f ∷ fs) = f ++ line_end fs
