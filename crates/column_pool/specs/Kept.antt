-- Lines that are kept for the members of a problem.
use Rattle.std.specs.Prelude.{ℕ, ◌<◌, ◌≤◌, ◌==◌, Bool, ◌||◌, nat_le, List, [], ◌∷◌, ◌++◌, length, replicate, slice_index_or, slice_set, All, if◌then◌else◌}
use Rattle.std.specs.List.{list_any}
use Rattle.std.specs.Cmp.Lexicographic.{pointwise}

-- how many pairings the problem has, and the lines of each of its members in the order in which they came
pub record Kept : Type 0 where
  pub pairings : ℕ
  pub lines : List (List (List ℕ))

-- no line of each of so many members
abbrev pub no_lines : ℕ → List (List (List ℕ))
no_lines members = replicate members []

-- the lines of a member
abbrev pub lines_of : Kept → ℕ → List (List ℕ)
lines_of kept member = slice_index_or kept.lines member []

-- whether the line is one of these
abbrev pub is_kept : List (List ℕ) → List ℕ → Bool
is_kept lines line = list_any (pointwise ◌==◌ line) lines

-- the lines after one was offered: it comes last, unless it is one of them or there are 10,000
abbrev pub offered : List (List ℕ) → List ℕ → List (List ℕ)
offered lines line = if is_kept lines line || nat_le 10000 (length lines) then lines else lines ++ line ∷ []

-- the pool after a line was offered to a member
abbrev pub offered_to : Kept → ℕ → List ℕ → Kept
offered_to kept member line =
    record kept { lines = slice_set kept.lines member (offered (lines_of kept member) line) }

-- at most 10,000 lines of each member, of pairings in range, of which there are at most 600
pub record AreKept (kept : Kept) : Type 0 where
  pub few_pairings : kept.pairings ≤ 600
  pub few_lines : All (λ lines. length lines ≤ 10000) kept.lines
  pub in_range : All (All (All (λ p. p < kept.pairings))) kept.lines
