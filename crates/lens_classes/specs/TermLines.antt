-- Lines of a lens that looks at pairings one by one, where terms stand in place of the member's window of credit, the
-- rules' days off, and the goal.
use Rattle.std.specs.Prelude.{◌≡◌, ℕ, ◌<◌, ◌≤◌, Bool, true, not, ◌||◌, ◌==◌, ℤ, ◌≤ℤ◌, List, All, length, sum_by, if◌then◌else◌}
use Rattle.std.specs.Int.{bit_at}
use Rattle.std.specs.List.{enumerate_from}
use Rattle.std.specs.Option.{ForSome}
use Rattle.duty_calendar.specs.Limits.{AreDisjoint, AtReports, IsRested, HadDaysFree}
use Rattle.duty_calendar.specs.Nights.{KeepsNights}
use Rattle.roster_model.specs.declared.problem.Problem.{Problem}
use Rattle.roster_model.specs.declared.node.Decision.{Decision}
use Rattle.roster_model.specs.declared.proof.Lens.{Lens}
use Rattle.roster_model.specs.Ascending.{is_ascending}
use Rattle.roster_model.specs.Timelines.{events_of, coming_events, occupied}
use Rattle.roster_model.specs.Scores.{is_granting, is_granted, bids_of, days_off}
use Rattle.roster_model.specs.Legality.{high_of}
use Rattle.roster_model.specs.Goals.{Obeys}
use Rattle.roster_model.specs.Lenses.{is_tracked, KeepsWindow, floor_to, ceil_to, rounded_credit}
use Rattle.roster_model.specs.Weights.{weight_of}
use Rattle.lens_classes.specs.declared.terms.Terms.{Terms}

-- what terms of a member may be: credit in the member's window, and a bid that is there
pub record AreTermsOf (problem : Problem) (member : ℕ) (terms : Terms) : Type 0 where
  pub low : terms.low ≤ terms.high
  pub high : terms.high ≤ high_of problem member
  pub asked : ForSome terms.asked (λ bid. bid < length (bids_of problem member))

-- the weights of the tracked bids that the line grants, and of all bids that are not tracked
unfoldable pub term_score : Problem → ℕ → Lens → List ℕ → ℕ
term_score problem member lens line =
    sum_by (λ nb. if not (is_tracked lens nb.0) || is_granting problem member line nb.1.wish then nb.1.weight else 0)
    (enumerate_from 0 (bids_of problem member))

-- the weights of the bids that are not tracked
unfoldable pub loose_weight : Problem → ℕ → Lens → ℕ
loose_weight problem member lens =
    sum_by (λ nb. if is_tracked lens nb.0 then 0 else nb.1.weight) (enumerate_from 0 (bids_of problem member))

-- whether the terms count the pairings that the bid of this number is about
abbrev pub is_counted : Terms → ℕ → Bool
is_counted terms bid = bit_at terms.counted bid == 1

-- a line that passes all that the lens looks at, and keeps the terms
pub record IsTermLine (problem : Problem) (member : ℕ) (node : List Decision) (lens : Lens) (terms : Terms) (line : List ℕ) : Type 0 where
  pub ascending : is_ascending line ≡ true
  pub in_range : All (λ p. p < length problem.base.pairings) line
  pub obeys : Obeys node member line
  pub apart : AreDisjoint (occupied problem member line)
  pub rested : AtReports (IsRested (events_of problem member line)) (coming_events problem member line)
  pub least_credit : terms.low ≤ rounded_credit (ceil_to lens.grain) problem member line
  pub most_credit : rounded_credit (floor_to lens.grain) problem member line ≤ terms.high
  pub floor : terms.floor ≤ term_score problem member lens line
  pub grant :
      ForSome terms.asked (λ bid. is_tracked lens bid ≡ true → is_granted problem member bid line ≡ true)
  pub counts : (bid : ℕ) → is_counted terms bid ≡ true → is_granted problem member bid line ≡ true
  pub free :
      lens.free30 ≡ true
      → AtReports (HadDaysFree (events_of problem member line)) (coming_events problem member line)
  pub nights : lens.free30 ≡ true → KeepsNights (events_of problem member line)
  pub enough_days_off : lens.days ≡ true → terms.days_off ≤ days_off problem member line
  pub windows : All (KeepsWindow (events_of problem member line)) lens.windows

-- no line passes
abbrev pub HasNoTermLine : Problem → ℕ → List Decision → Lens → Terms → Type 0
HasNoTermLine problem member node lens terms =
    (line : List ℕ) → IsTermLine problem member node lens terms line → ⊥

-- no line that passes weighs more
abbrev pub IsMostTermWeight : Problem → ℕ → List Decision → Lens → Terms → List ℤ → ℤ → Type 0
IsMostTermWeight problem member node lens terms weights most =
    (line : List ℕ) → IsTermLine problem member node lens terms line → weight_of weights line ≤ℤ most
