-- The text of a roster: a header, and a row for each member in order of seniority.
use Rattle.std.specs.Prelude.{◌≡◌, ℕ, ◌+◌, ◌<◌, true, List, [], ◌∷◌, ◌++◌, length, codes, All, slice_get}
use Rattle.std.specs.List.{AllByRecursion}
use Rattle.std.specs.Option.{option_map_or}
use Rattle.field_text.specs.Spelling.{number_text, minutes_text}
use Rattle.roster_model.specs.declared.problem.Problem.{Problem}
use Rattle.roster_model.specs.Ascending.{is_ascending}
use Rattle.roster_model.specs.Timelines.{credit_of}
use Rattle.roster_model.specs.Scores.{score_of}

abbrev pub pairing_name : Problem → ℕ → List ℕ
pairing_name problem p = option_map_or (λ q. q.name) (slice_get problem.base.pairings p) []

abbrev pub member_name : Problem → ℕ → List ℕ
member_name problem m = option_map_or (λ q. q.name) (slice_get problem.base.members m) []

-- the names of pairings, separated by one space
abbrev pub names_text : Problem → List ℕ → List ℕ
names_text problem [] = []
names_text problem (p ∷ []) = pairing_name problem p
names_text problem (p ∷ (q ∷ line)) = pairing_name problem p ++ 32 ∷ names_text problem (q ∷ line)

-- the line's credit and score, and the line feed
unfoldable pub sums_text : Problem → ℕ → List ℕ → List ℕ
sums_text problem m line =
    minutes_text (credit_of problem m line) ++ 44 ∷ number_text (score_of problem m line) ++ 10 ∷ []

-- the member, the pairings in order, and the sums, separated by commas
abbrev pub row_text : Problem → ℕ → List ℕ → List ℕ
row_text problem m line =
    member_name problem m ++ 44 ∷ names_text problem line ++ 44 ∷ sums_text problem m line

-- the rows of the members from m on
abbrev pub rows_text : Problem → ℕ → List (List ℕ) → List ℕ
rows_text problem m [] = []
rows_text problem m (line ∷ lines) = row_text problem m line ++ rows_text problem (m + 1) lines

abbrev pub roster_header : List ℕ
roster_header = codes "member,pairings,credit,score" ++ 10 ∷ []

abbrev pub roster_text : Problem → List (List ℕ) → List ℕ
roster_text problem roster = roster_header ++ rows_text problem 0 roster

-- a line of distinct pairings of the month, in order
pub record IsLine (problem : Problem) (line : List ℕ) : Type 0 where
  pub ascending : is_ascending line ≡ true
  pub in_range : All (λ p. p < length problem.base.pairings) line

-- one such line for each member
pub record IsRoster (problem : Problem) (roster : List (List ℕ)) : Type 0 where
  pub lines : length roster ≡ length problem.base.members
  pub each : AllByRecursion (IsLine problem) roster

-- a text is that of a roster of the month
abbrev pub IsTextOf : Problem → List ℕ → List (List ℕ) → Type 0
IsTextOf problem text roster = IsRoster problem roster × (text ≡ roster_text problem roster)

abbrev pub Text : Type 0
Text = List ℕ

-- the pairings of each member
abbrev pub Lines : Type 0
Lines = List (List ℕ)

-- no text of a roster has more bytes
abbrev pub longest_text : ℕ
longest_text = 67108864
