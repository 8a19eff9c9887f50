-- Reading the rows of a roster's text from left to right.
use Rattle.std.specs.Prelude.{ℕ, zero, suc, ◌+◌, List, [], ◌∷◌, length, Option, Result, Ok, Err, Bool, false, ◌==◌, if◌then◌else◌}
use Rattle.field_text.specs.Gives.{GivesUnless}
use Rattle.field_text.specs.Steps.{◌>>=◌, or_fault}
use Rattle.roster_model.specs.declared.problem.Problem.{Problem}
use Rattle.roster_text.specs.declared.fault.RosterTextCode.{RosterTextCode}
use Rattle.roster_text.specs.declared.fault.RosterTextCode.TheVariants.{NoMemory, Header, Shape, Member, Pairing, Sums, Rows}
use Rattle.roster_text.specs.declared.fault.RosterTextFault.{RosterTextFault}
use Rattle.roster_text.specs.RosterText.{sums_text, roster_header}
use Rattle.roster_text.specs.NameReading.{member_at, names_at, line_at, pairings_at, word_at}

-- what a reader of a row returned, seen by `view`, is what is due, unless memory ran out
abbrev pub Gives : {X Y : Type 0} → (X → Y) → Result X RosterTextCode → Result Y RosterTextCode
    → Type 0
Gives view result due = GivesUnless NoMemory view result due

-- want of memory, which has no row
abbrev pub no_memory : RosterTextFault
no_memory = record { row = 0; code = NoMemory }

-- the same of a reader of more than a row
abbrev pub GivesWhole : {X Y : Type 0} → (X → Y) → Result X RosterTextFault → Result Y RosterTextFault
    → Type 0
GivesWhole view result due = GivesUnless no_memory view result due

-- the same of what was read as a whole
abbrev pub Answers : {A : Type 0} → Result A RosterTextFault → Result A RosterTextFault → Type 0
Answers result due = GivesWhole (λ x. x) result due

-- a row and a fault in it
abbrev pub row_of : ℕ → RosterTextCode → ℕ
row_of row NoMemory = 0
row_of row Header = row
row_of row Shape = row
row_of row Member = row
row_of row Pairing = row
row_of row Sums = row
row_of row Rows = row

abbrev pub fault_at : ℕ → RosterTextCode → RosterTextFault
fault_at row code = record { row = row_of row code; code = code }

abbrev pub at : {A : Type 0} → ℕ → Result A RosterTextCode → Result A RosterTextFault
at row (Ok x) = Ok x
at row (Err code) = Err (fault_at row code)

-- what stands in a row for its pairings
abbrev pub names_in : Problem → List ℕ → Result (List ℕ × List ℕ) RosterTextCode
names_in problem bytes = or_fault Pairing (names_at problem 0 (length problem.base.pairings) bytes)

abbrev pub line_in : Problem → List ℕ → Result (List ℕ × List ℕ) RosterTextCode
line_in problem bytes = or_fault Pairing (line_at problem bytes)

abbrev pub pairings_in : Problem → List ℕ → Result (List ℕ × List ℕ) RosterTextCode
pairings_in problem bytes = or_fault Pairing (pairings_at problem bytes)

-- whether four fields and a line feed stand here, where so many commas stood before
abbrev pub fields_from : ℕ → List ℕ → Bool
fields_from n [] = false
fields_from n (b ∷ bs) = if b == 10 then n == 3 else fields_from (if b == 44 then n + 1 else n) bs

unfoldable pub has_fields : List ℕ → Bool
has_fields bytes = fields_from 0 bytes

-- what stands behind the sums of a line
unfoldable pub sums_at : Problem → ℕ → List ℕ → List ℕ → Option (List ℕ)
sums_at problem m line bytes = word_at (sums_text problem m line) bytes

unfoldable pub fields_at : Problem → ℕ → List ℕ → Result (List ℕ × List ℕ) RosterTextCode
fields_at problem m bytes = do
  rest ← or_fault Member (member_at problem m bytes)
  line ← or_fault Pairing (pairings_at problem rest)
  after ← or_fault Sums (sums_at problem m line.0 line.1)
  Ok (line.0, after)

unfoldable pub row_at : Problem → ℕ → List ℕ → Result (List ℕ × List ℕ) RosterTextCode
row_at problem m bytes =
    if length bytes == 0 then Err Rows else if has_fields bytes then fields_at problem m bytes else Err Shape

unfoldable pub rows_at : Problem → ℕ → ℕ → List ℕ → Result (List (List ℕ) × List ℕ) RosterTextFault
rows_at problem m zero bytes = Ok ([], bytes)
rows_at problem m (suc n) bytes = do
  first ← at (m + 2) (row_at problem m bytes)
  others ← rows_at problem (m + 1) n first.1
  Ok (first.0 ∷ others.0, others.1)

-- the rows of all members
abbrev pub rows_in : Problem → List ℕ → Result (List (List ℕ) × List ℕ) RosterTextFault
rows_in problem bytes = rows_at problem 0 (length problem.base.members) bytes

-- nothing may stand behind the last row
abbrev pub ended : ℕ → List (List ℕ) × List ℕ → Result (List (List ℕ)) RosterTextFault
ended row rows = if length rows.1 == 0 then Ok rows.0 else Err (fault_at row Rows)

unfoldable pub roster_of : Problem → List ℕ → Result (List (List ℕ)) RosterTextFault
roster_of problem bytes = do
  rest ← at 1 (or_fault Header (word_at roster_header bytes))
  rows ← rows_in problem rest
  ended (length problem.base.members + 2) rows
