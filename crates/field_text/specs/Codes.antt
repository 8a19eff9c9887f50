-- The numbers by which faults are printed.
use Rattle.std.specs.Prelude.{ℕ}
use Rattle.field_text.specs.declared.field_fault.FieldFault.{FieldFault}
use Rattle.field_text.specs.declared.field_fault.FieldFault.TheVariants as field
use Rattle.field_text.specs.declared.token.TokenFault.{TokenFault}
use Rattle.field_text.specs.declared.token.TokenFault.TheVariants as token
use Rattle.field_text.specs.declared.file_fault.FileCode.{FileCode}
use Rattle.field_text.specs.declared.file_fault.FileCode.TheVariants as file

abbrev pub field_code : FieldFault → ℕ
field_code field.Empty = 1
field_code (field.Shape column) = 2
field_code field.Range = 3
field_code field.NoSuchDay = 4
field_code field.OutsideHorizon = 5

abbrev pub file_code : FileCode → ℕ
file_code file.NoMemory = 0
file_code file.Header = 1
file_code file.Utf8 = 2
file_code file.Width = 3
file_code (file.Field column fault) = 4
file_code file.Duplicate = 5
file_code file.Unknown = 6
file_code file.Order = 7
file_code file.OutsideMonth = 8
file_code file.InnerRest = 9
file_code (file.Limit number) = 10
file_code file.Empty = 11

abbrev pub token_code : TokenFault → ℕ
token_code token.NoMemory = 0
token_code (token.Byte column) = 1
