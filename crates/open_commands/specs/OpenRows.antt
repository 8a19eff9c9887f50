-- The pairings that vacant lines have, and who may fly them.
use Rattle.std.specs.Prelude.{◌≡◌, ℕ, ◌<◌, ◌==◌, true, All, List, length, map, drop, count_by}
use Rattle.std.specs.List.{list_any}
use Rattle.roster_model.specs.declared.problem.Problem.{Problem}
use Rattle.roster_model.specs.Ascending.{is_ascending}
use Rattle.roster_model.specs.Scores.{is_flown}
use Rattle.roster_text.specs.RosterText.{member_name, pairing_name}
use Rattle.open_time.specs.Eligible.{IsEligible}
use Rattle.open_time.specs.Vacant.{IsWithVacant}
use Rattle.open_commands.specs.declared.open_stop.OpenRow.{OpenRow}

-- the second month is the first with some number of vacant lines
abbrev pub AreWithVacant : Problem → Problem → Type 0
AreWithVacant problem made = (count : ℕ) × IsWithVacant problem count made

-- the numbers below a limit of which P holds, in order
pub record AreThose (P : ℕ → Type 0) (limit : ℕ) (numbers : List ℕ) : Type 0 where
  pub ascending : is_ascending numbers ≡ true
  pub each : All (λ k. (k < limit) × P k) numbers
  pub all : (k : ℕ) → k < limit → P k → list_any (λ n. n == k) numbers ≡ true

-- how many of the lines behind those of the members have the pairing
abbrev pub vacant_crew : Problem → List (List ℕ) → ℕ → ℕ
vacant_crew problem roster pairing =
    count_by (λ line. is_flown line pairing) (drop (length problem.base.members) roster)

-- the names of these numbers, in order
pub record AreNamed (P : ℕ → Type 0) (name : ℕ → List ℕ) (limit : ℕ) (names : List (List ℕ)) : Type 0 where
  pub numbers : List ℕ
  pub those : AreThose P limit numbers
  pub named : names ≡ map name numbers

-- the members, those of the month without vacant lines, who could fly the pairing beside their lines
abbrev pub AreEligibleNames : Problem → Problem → List (List ℕ) → ℕ → List (List ℕ) → Type 0
AreEligibleNames problem made roster pairing names =
    AreNamed (λ m. IsEligible made roster m pairing) (member_name problem) (length problem.base.members) names

-- the pairing's name, how many vacant lines have it, and who could fly it
pub record IsOpenRow (problem made : Problem) (roster : List (List ℕ)) (row : OpenRow) : Type 0 where
  pub inside : row.number < length problem.base.pairings
  pub named : row.pairing ≡ pairing_name problem row.number
  pub counted : row.count ≡ vacant_crew problem roster row.number
  pub eligible : AreEligibleNames problem made roster row.number row.members

-- a row for each pairing that a vacant line has, in order
pub record AreOpenRows (problem made : Problem) (roster : List (List ℕ)) (rows : List OpenRow) : Type 0 where
  pub those :
      AreThose (λ p. 0 < vacant_crew problem roster p) (length problem.base.pairings) (map (λ row. row.number) rows)
  pub each : All (IsOpenRow problem made roster) rows
