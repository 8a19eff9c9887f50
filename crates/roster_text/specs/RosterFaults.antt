-- Which fault a text has that is no roster's: the first row that differs, and what is wrong there.
use Rattle.std.specs.Prelude.{◌≡◌, ◌≢◌, ℕ, ◌+◌, ◌<◌, ◌⊎◌, Bool, true, ◌||◌, ◌==◌, not, List, [], ◌∷◌, ◌++◌, length}
use Rattle.std.specs.List.{list_all, AllByRecursion}
use Rattle.roster_model.specs.declared.problem.Problem.{Problem}
use Rattle.roster_text.specs.declared.fault.RosterTextCode.{RosterTextCode}
use Rattle.roster_text.specs.declared.fault.RosterTextCode.TheVariants.{NoMemory, Header, Shape, Member, Pairing, Sums, Rows}
use Rattle.roster_text.specs.declared.fault.RosterTextFault.{RosterTextFault}
use Rattle.roster_text.specs.RosterText.{member_name, names_text, sums_text, rows_text, roster_header, Text, Lines, IsLine, IsRoster, IsTextOf}

-- a byte of a field: neither a comma nor a line feed
abbrev pub is_plain : ℕ → Bool
is_plain b = not ((b == 44) || (b == 10))

abbrev pub is_field : List ℕ → Bool
is_field bytes = list_all is_plain bytes

-- four fields and a line feed stand here, and the rest of the text behind them
pub record HasRow (bytes : List ℕ) : Type 0 where
  pub member : List ℕ
  pub pairings : List ℕ
  pub credit : List ℕ
  pub score : List ℕ
  pub rest : List ℕ
  pub is : bytes ≡ member ++ (44 ∷ (pairings ++ (44 ∷ (credit ++ (44 ∷ (score ++ (10 ∷ rest)))))))
  pub member_field : is_field member ≡ true
  pub pairings_field : is_field pairings ≡ true
  pub credit_field : is_field credit ≡ true
  pub score_field : is_field score ≡ true

-- what is wrong with the bytes that stand where the row of member m is due
abbrev pub IsWrongRow : Problem → ℕ → List ℕ → RosterTextCode → Type 0
IsWrongRow problem m bytes NoMemory = ⊥
IsWrongRow problem m bytes Header = ⊥
IsWrongRow problem m bytes Shape = (bytes ≢ []) × ¬ (HasRow bytes)
IsWrongRow problem m bytes Member = (row : HasRow bytes) × (row.member ≢ member_name problem m)
IsWrongRow problem m bytes Pairing =
    (row : HasRow bytes) × (row.member ≡ member_name problem m)
    × ((line : List ℕ) → IsLine problem line → row.pairings ≢ names_text problem line)
IsWrongRow problem m bytes Sums =
    (row : HasRow bytes) × (row.member ≡ member_name problem m)
    × (line : List ℕ) × IsLine problem line × (row.pairings ≡ names_text problem line)
    × (row.credit ++ (44 ∷ (row.score ++ (10 ∷ []))) ≢ sums_text problem m line)
IsWrongRow problem m bytes Rows = bytes ≡ []

-- the text begins with another header
pub record IsHeaderFault (text : List ℕ) (fault : RosterTextFault) : Type 0 where
  pub row : fault.row ≡ 1
  pub code : fault.code ≡ Header
  pub other : (rest : List ℕ) → text ≢ roster_header ++ rest

-- behind the header and the rows of these lines another row is due, and something else stands there
pub record IsRowFault (problem : Problem) (text : List ℕ) (fault : RosterTextFault) : Type 0 where
  pub lines : List (List ℕ)
  pub each : AllByRecursion (IsLine problem) lines
  pub due : length lines < length problem.base.members
  pub rest : List ℕ
  pub is : text ≡ roster_header ++ (rows_text problem 0 lines ++ rest)
  pub row : fault.row ≡ length lines + 2
  pub wrong : IsWrongRow problem (length lines) rest fault.code

-- bytes stand behind the rows of all members
pub record IsSurplus (problem : Problem) (text : List ℕ) (fault : RosterTextFault) : Type 0 where
  pub lines : List (List ℕ)
  pub each : IsRoster problem lines
  pub rest : List ℕ
  pub is : text ≡ roster_header ++ (rows_text problem 0 lines ++ rest)
  pub row : fault.row ≡ length problem.base.members + 2
  pub code : fault.code ≡ Rows
  pub some : rest ≢ []

abbrev pub HasFault : Problem → List ℕ → RosterTextFault → Type 0
HasFault problem text fault =
    IsHeaderFault text fault ⊎ (IsRowFault problem text fault ⊎ IsSurplus problem text fault)

-- a text has at most one roster, at most one fault, and not both
abbrev pub HasOneRoster : Problem → Text → Type 0
HasOneRoster problem text = (r s : Lines) → IsTextOf problem text r → IsTextOf problem text s → r ≡ s

abbrev pub HasOneFault : Problem → Text → Type 0
HasOneFault problem text =
    (f g : RosterTextFault) → HasFault problem text f → HasFault problem text g → f ≡ g

abbrev pub HasNotBoth : Problem → Text → Type 0
HasNotBoth problem text =
    (r : Lines) (f : RosterTextFault) → IsTextOf problem text r → ¬ (HasFault problem text f)
