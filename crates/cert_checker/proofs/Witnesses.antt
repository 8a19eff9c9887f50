-- Rosters that are shown: complete ones, and their scores.
use Rattle.std.proofs.Common.{◌≡◌, ◌≢◌, ℕ, ◌+◌, ◌<◌, ◌≤◌, List, [], length, sym, ap, subst, ◌∙◌, arith, inl, inr}
use Rattle.std.specs.Prelude.{All, slice_index}
use Rattle.std.proofs.lemmas.Bool.{cases_eq}
use Rattle.std.proofs.lemmas.List.{ext_get_or, get_or_default}
use Rattle.roster_model.specs.declared.problem.Problem.{Problem}
use Rattle.roster_model.specs.Scores.{score_of}
use Rattle.roster_model.specs.Rosters.{IsComplete, line_at, scores_of}
use Rattle.roster_model.specs.Denials.{ReachesBefore}
use Rattle.roster_model.proofs.Greatest.{score_at, length-scores}
use Rattle.cert_checker.specs.Given.{AreInRange}

-- the lines of a complete roster name pairings of the problem
pub complete_in_range : (problem : Problem) (roster : List (List ℕ)) → IsComplete problem roster → AreInRange problem roster
complete_in_range problem roster is k d lt =
    let legal = is.legal k (omega (arith, is.lines, lt)) in
    subst (λ (line : List ℕ). All (λ p. p < length problem.base.pairings) line) (get_or_default roster k [] d lt) legal.in_range

-- the scores of the first members are these
abbrev pub AreSameBelow : Problem → List ℕ → List (List ℕ) → ℕ → Type 0
AreSameBelow problem scores roster count =
    (m : ℕ) → m < count → score_of problem m (line_at roster m) ≡ slice_index scores m

pub same_more : (problem : Problem) (scores : List ℕ) (roster : List (List ℕ)) (member : ℕ) (line : List ℕ) (score read : ℕ)
    → line ≡ line_at roster member → score ≡ score_of problem member line → read ≡ slice_index scores member → score ≡ read
    → AreSameBelow problem scores roster member → AreSameBelow problem scores roster (member + 1)
same_more problem scores roster member line score read e s r same before m lt =
    elim (cases_eq m member) [
      | inl is ↦
          subst (λ (k : ℕ). score_of problem k (line_at roster k) ≡ slice_index scores k) (sym is)
          (ap (λ (xs : List ℕ). score_of problem member xs) (sym e) ∙ sym s ∙ same ∙ r)
      | inr other ↦ before m (omega (arith, lt, other))
    ]

pub same_all : (problem : Problem) (scores : List ℕ) (roster : List (List ℕ)) (count : ℕ) → length scores ≡ length problem.base.members
    → length problem.base.members ≤ count → AreSameBelow problem scores roster count → scores_of problem roster ≡ scores
same_all problem scores roster count members all same =
    let lengths : length (scores_of problem roster) ≡ length scores = omega (arith, members, length-scores problem roster) in
    ext_get_or 0 (scores_of problem roster) scores lengths
    (λ m lt.
    let known : m < length problem.base.members = omega (arith, lt, lengths, members) in
    score_at problem roster m known ∙ same m (omega (arith, known, all)))

pub scores_differ : (problem : Problem) (scores : List ℕ) (roster : List (List ℕ)) (member : ℕ) (line : List ℕ) (score read : ℕ)
    → member < length problem.base.members → line ≡ line_at roster member → score ≡ score_of problem member line → read ≡ slice_index scores member
    → score ≢ read → scores_of problem roster ≡ scores → ⊥
scores_differ problem scores roster member line score read known e s r differ same =
    differ (
    s ∙ ap (λ (xs : List ℕ). score_of problem member xs) e ∙ sym (score_at problem roster member known)
    ∙ ap (λ (xs : List ℕ). slice_index xs member) same ∙ sym r
    )

-- the scores of the first members are reached at the places before this one
abbrev pub AreReachedBelow : Problem → List ℕ → ℕ → List (List ℕ) → ℕ → Type 0
AreReachedBelow problem scores place roster count =
    (m : ℕ) → m < count → m + 1 < place → slice_index scores m ≤ score_of problem m (line_at roster m)

pub reached_more : (problem : Problem) (scores : List ℕ) (place : ℕ) (roster : List (List ℕ)) (member : ℕ) (line : List ℕ) (score read : ℕ)
    → line ≡ line_at roster member → score ≡ score_of problem member line → read ≡ slice_index scores member → read ≤ score
    → AreReachedBelow problem scores place roster member → AreReachedBelow problem scores place roster (member + 1)
reached_more problem scores place roster member line score read e s r le before m lt early =
    elim (cases_eq m member) [
      | inl is ↦
          subst (λ (k : ℕ). slice_index scores k ≤ score_of problem k (line_at roster k)) (sym is)
          (omega (arith, s ∙ ap (λ (xs : List ℕ). score_of problem member xs) e, r, le))
      | inr other ↦ before m (omega (arith, lt, other)) early
    ]

-- nothing is asked of a member at the place or behind it
pub reached_past : (problem : Problem) (scores : List ℕ) (place : ℕ) (roster : List (List ℕ)) (member : ℕ) → place ≤ member + 1
    → AreReachedBelow problem scores place roster member → AreReachedBelow problem scores place roster (member + 1)
reached_past problem scores place roster member past before m lt early = before m (omega (arith, lt, past, early)) early

pub missed_at : (problem : Problem) (scores : List ℕ) (place : ℕ) (roster : List (List ℕ)) (member : ℕ) (line : List ℕ) (score read : ℕ)
    → member < length problem.base.members → member + 1 < place → line ≡ line_at roster member → score ≡ score_of problem member line
    → read ≡ slice_index scores member → score < read → ReachesBefore problem scores place roster → ⊥
missed_at problem scores place roster member line score read known early e s r less reaches =
    omega (arith, s ∙ ap (λ (xs : List ℕ). score_of problem member xs) e, r, less, reaches member known early)

pub reached_all : (problem : Problem) (scores : List ℕ) (place : ℕ) (roster : List (List ℕ)) (count : ℕ)
    → length problem.base.members ≤ count → AreReachedBelow problem scores place roster count → ReachesBefore problem scores place roster
reached_all problem scores place roster count all reached m known early = reached m (omega (arith, known, all)) early
