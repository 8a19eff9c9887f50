-- Moves of a pairing from a vacant line to a member's, and what they leave.
use Rattle.std.specs.Prelude.{◌≡◌, ℕ, ◌-◌, ◌<◌, ◌≤◌, Bool, true, false, not, ◌==◌, List, filter, length, sum_by, slice_set, Option, None, Some}
use Rattle.std.specs.List.{range_with_len}
use Rattle.roster_model.specs.declared.problem.Problem.{Problem}
use Rattle.roster_model.specs.Legality.{IsLegal}
use Rattle.roster_model.specs.Rosters.{IsComplete, line_at, scores_of}
use Rattle.roster_model.specs.Scores.{is_flown, score_of}
use Rattle.roster_model.specs.Timelines.{credit_of}
use Rattle.open_time.specs.Eligible.{with_pairing}

-- a line without a pairing
unfoldable pub without_pairing : List ℕ → ℕ → List ℕ
without_pairing line pairing = filter (λ q. not (q == pairing)) line

-- the roster where one line gives a pairing to another
unfoldable pub moved : List (List ℕ) → ℕ → ℕ → ℕ → List (List ℕ)
moved roster giver taker pairing =
    slice_set (slice_set roster giver (without_pairing (line_at roster giver) pairing)) taker
    (with_pairing (line_at roster taker) pairing)

-- the member's new line is legal, and has the score of the old one
pub record Takes (problem : Problem) (member : ℕ) (line more : List ℕ) : Type 0 where
  pub same : score_of problem member more ≡ score_of problem member line
  pub legal : IsLegal problem member more

-- a complete roster in which each score is what it is in this one
pub record IsAsGood (problem : Problem) (roster other : List (List ℕ)) : Type 0 where
  pub complete : IsComplete problem other
  pub same : scores_of problem other ≡ scores_of problem roster

-- the line has the pairing, and can give it to another: the roster is then complete, and each score what it was
pub record CanMove (problem : Problem) (roster : List (List ℕ)) (giver taker pairing : ℕ) : Type 0 where
  pub has : is_flown (line_at roster giver) pairing ≡ true
  pub good : IsAsGood problem roster (moved roster giver taker pairing)

-- no line from `crew` on can give a pairing to one of those before
abbrev pub IsSettled : Problem → ℕ → List (List ℕ) → Type 0
IsSettled problem crew roster =
    (giver taker pairing : ℕ) → crew ≤ giver → giver < length problem.base.members → taker < crew
    → CanMove problem roster giver taker pairing → ⊥

-- the credit of the lines from `crew` on
unfoldable pub vacant_credit : Problem → ℕ → List (List ℕ) → ℕ
vacant_credit problem crew roster =
    sum_by (λ m. credit_of problem m (line_at roster m)) (range_with_len crew (length problem.base.members - crew))

-- how many pairings these lines have
unfoldable pub open_pairings : Problem → ℕ → List (List ℕ) → ℕ
open_pairings problem crew roster = sum_by (λ m. length (line_at roster m)) (range_with_len crew (length problem.base.members - crew))

-- as good a roster, with no more credit in the lines from `crew` on
pub record IsKept (problem : Problem) (crew : ℕ) (roster other : List (List ℕ)) : Type 0 where
  pub good : IsAsGood problem roster other
  pub credit : vacant_credit problem crew other ≤ vacant_credit problem crew roster

-- and with fewer pairings there
pub record IsFewer (problem : Problem) (crew : ℕ) (roster other : List (List ℕ)) : Type 0 where
  pub kept : IsKept problem crew roster other
  pub fewer : open_pairings problem crew other < open_pairings problem crew roster

-- as good a roster in which nothing can move, with no more credit there
pub record IsSettling (problem : Problem) (crew : ℕ) (roster other : List (List ℕ)) : Type 0 where
  pub kept : IsKept problem crew roster other
  pub settled : IsSettled problem crew other

-- no line before `stop` can take the pairing
abbrev pub IsRefusedBefore : Problem → List (List ℕ) → ℕ → ℕ → ℕ → Type 0
IsRefusedBefore problem roster giver pairing stop =
    (taker : ℕ) → taker < stop → CanMove problem roster giver taker pairing → ⊥

-- what comes of one move
abbrev pub IsMove : Problem → List (List ℕ) → ℕ → ℕ → ℕ → Option (List (List ℕ)) → Type 0
IsMove problem roster giver taker pairing None = CanMove problem roster giver taker pairing → ⊥
IsMove problem roster giver taker pairing (Some made) =
    (made ≡ moved roster giver taker pairing) × CanMove problem roster giver taker pairing

-- what comes of one pairing of a line from `crew` on
abbrev pub IsOffered : Problem → ℕ → List (List ℕ) → ℕ → ℕ → Option (List (List ℕ)) → Type 0
IsOffered problem crew roster giver pairing None = IsRefusedBefore problem roster giver pairing crew
IsOffered problem crew roster giver pairing (Some made) = IsFewer problem crew roster made

-- A roster that is kept after the pairings of the lines from `crew` to `giver` were offered, of `giver` those before `stop`:
-- it has fewer pairings there where some moved; where none did, it is the same, and none of them can move.
pub record IsSwept (problem : Problem) (crew giver stop : ℕ) (roster other : List (List ℕ)) (moves : Bool) : Type 0 where
  pub kept : IsKept problem crew roster other
  pub fewer : moves ≡ true → open_pairings problem crew other < open_pairings problem crew roster
  pub still : moves ≡ false → other ≡ roster
  pub lines :
      moves ≡ false → (v p : ℕ) → crew ≤ v → v < giver → p < length problem.base.pairings
      → IsRefusedBefore problem roster v p crew
  pub here : moves ≡ false → (p : ℕ) → p < stop → IsRefusedBefore problem roster giver p crew
