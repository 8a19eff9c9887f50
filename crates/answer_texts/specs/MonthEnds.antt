-- How a run ends, and what it prints, where a file was not read or the inputs name no problem.
use Rattle.std.specs.Prelude.{ℕ, List, [], ◌∷◌, ◌++◌, codes}
use Rattle.field_text.specs.declared.field_fault.FieldFault.{FieldFault}
use Rattle.field_text.specs.declared.field_fault.FieldFault.TheVariants as field
use Rattle.field_text.specs.declared.file_fault.FileCode.{FileCode}
use Rattle.field_text.specs.declared.file_fault.FileCode.TheVariants as code
use Rattle.field_text.specs.declared.file_fault.FileName.{FileName}
use Rattle.field_text.specs.declared.file_fault.FileName.TheVariants as csv
use Rattle.rules_file.specs.declared.fault.RuleFault.{RuleFault}
use Rattle.rules_file.specs.declared.fault.RuleFault.TheVariants as rule
use Rattle.bid_language.specs.Codes.{bid_code}
use Rattle.month_files.specs.declared.fault.BadInput.{BadInput}
use Rattle.month_files.specs.declared.fault.BadInput.TheVariants as bad
use Rattle.month_files.specs.declared.fault.InputFault.{InputFault}
use Rattle.month_files.specs.declared.fault.InputFault.TheVariants as input
use Rattle.month_files.specs.declared.file.File.{File}
use Rattle.month_files.specs.declared.file.File.TheVariants as file
use Rattle.month_files.specs.declared.unread.Unread.{Unread}
use Rattle.month_files.specs.declared.unread.Unread.TheVariants as unread
use Rattle.month_files.specs.FileNames.{name_of}
use Rattle.answer_texts.specs.declared.status.Status.{Status}
use Rattle.answer_texts.specs.declared.status.Status.TheVariants as status
use Rattle.answer_texts.specs.Lines.{line, line_of, numbers}

abbrev pub unread_status : Unread → Status
unread_status (unread.Missing f) = status.Missing
unread_status (unread.ReadFault f) = status.ReadFault
unread_status (unread.TooLong f) = status.TooLong
unread_status unread.NoMemory = status.NoMemory

abbrev pub unread_text : Unread → List ℕ
unread_text (unread.Missing f) = line (codes "missing " ++ name_of f)
unread_text (unread.ReadFault f) = line (codes "read fault " ++ name_of f)
unread_text (unread.TooLong f) = line (codes "too long " ++ name_of f)
unread_text unread.NoMemory = []

abbrev pub input_status : BadInput → Status
input_status (bad.Fault fault) = status.BadInput
input_status bad.NoMemory = status.NoMemory

-- a fault as numbers: its code, then its arguments. Rows, columns and lines count from 1.
abbrev pub field_numbers : FieldFault → List ℕ
field_numbers (field.Shape column) = 2 ∷ column ∷ []
field_numbers field.Empty = 1 ∷ []
field_numbers field.Range = 3 ∷ []
field_numbers field.NoSuchDay = 4 ∷ []
field_numbers field.OutsideHorizon = 5 ∷ []

abbrev pub code_numbers : FileCode → List ℕ
code_numbers code.NoMemory = 0 ∷ []
code_numbers code.Header = 1 ∷ []
code_numbers code.Utf8 = 2 ∷ []
code_numbers code.Width = 3 ∷ []
code_numbers (code.Field column fault) = 4 ∷ column ∷ field_numbers fault
code_numbers code.Duplicate = 5 ∷ []
code_numbers code.Unknown = 6 ∷ []
code_numbers code.Order = 7 ∷ []
code_numbers code.OutsideMonth = 8 ∷ []
code_numbers code.InnerRest = 9 ∷ []
code_numbers (code.Limit number) = 10 ∷ number ∷ []
code_numbers code.Empty = 11 ∷ []

abbrev pub csv_file : FileName → File
csv_file csv.Pairings = file.Pairings
csv_file csv.Duties = file.Duties
csv_file csv.Legs = file.Legs
csv_file csv.Crew = file.Crew
csv_file csv.History = file.History
csv_file csv.Fixed = file.Fixed

abbrev pub bad_words : File → List ℕ
bad_words f = codes "bad " ++ name_of f

abbrev pub rule_text : RuleFault → List ℕ
rule_text rule.NoMemory = numbers (0 ∷ [])
rule_text rule.NotToml = numbers (1 ∷ [])
rule_text (rule.MissingKey key) = numbers (2 ∷ []) ++ 32 ∷ key
rule_text (rule.UnknownKey key) = numbers (3 ∷ []) ++ 32 ∷ key
rule_text (rule.Range key) = numbers (4 ∷ []) ++ 32 ∷ key

abbrev pub input_text : InputFault → List ℕ
input_text (input.Rules fault) = line (bad_words file.Rules ++ rule_text fault)
input_text (input.Pairings fault) = line_of (bad_words (csv_file fault.file)) (fault.row ∷ code_numbers fault.code)
input_text (input.Members fault) = line_of (bad_words (csv_file fault.file)) (fault.row ∷ code_numbers fault.code)
input_text (input.Bids fault) = line_of (bad_words file.Bids) (fault.line ∷ fault.column ∷ bid_code fault.code ∷ [])

abbrev pub bad_input_text : BadInput → List ℕ
bad_input_text (bad.Fault fault) = input_text fault
bad_input_text bad.NoMemory = []
