-- How many pairings the counted bids of a member want, and which pairings count.
use Rattle.std.specs.Prelude.{◌≡◌, ℕ, ◌<◌, ◌≤◌, ◌⊎◌, Bool, true, false, List, length, map, get_or, slice_get, if◌then◌else◌}
use Rattle.std.specs.Option.{option_map_or}
use Rattle.duty_calendar.specs.Minutes.{count_between}
use Rattle.roster_model.specs.declared.problem.Problem.{Problem}
use Rattle.roster_model.specs.declared.bid.Wish.{Wish}
use Rattle.roster_model.specs.declared.bid.Wish.TheVariants.{Fly, Avoid, Prefer, Off, CreditBelow, CreditAbove, DaysOff}
use Rattle.roster_model.specs.Filters.{is_kept}
use Rattle.roster_model.specs.Scores.{bids_of}
use Rattle.lens_classes.specs.Classes.{has_counting}
use Rattle.lens_classes.specs.TermLines.{is_counted}
use Rattle.lens_classes.specs.declared.terms.Terms.{Terms}

-- so many pairings the wish wants
abbrev pub wants : Wish → ℕ
wants (Fly p) = 0
wants (Avoid f) = 0
wants (Prefer n f) = n
wants (Off first last) = 0
wants (CreditBelow m) = 0
wants (CreditAbove m) = 0
wants (DaysOff n) = 0

-- whether the pairing is one of those that it wants
abbrev pub is_about : Problem → ℕ → Wish → Bool
is_about problem pairing (Fly p) = false
is_about problem pairing (Avoid f) = false
is_about problem pairing (Prefer n f) = is_kept problem f pairing
is_about problem pairing (Off first last) = false
is_about problem pairing (CreditBelow m) = false
is_about problem pairing (CreditAbove m) = false
is_about problem pairing (DaysOff n) = false

-- the same of the member's bid of this number
abbrev pub wanted_by : Problem → ℕ → ℕ → ℕ
wanted_by problem member bid = option_map_or (λ b. wants b.wish) (slice_get (bids_of problem member) bid) 0

abbrev pub counts_for : Problem → ℕ → ℕ → ℕ → Bool
counts_for problem member bid pairing =
    option_map_or (λ b. is_about problem pairing b.wish) (slice_get (bids_of problem member) bid) false

-- the same of several bids
abbrev pub wanted_of : Problem → ℕ → List ℕ → List ℕ
wanted_of problem member slots = map (wanted_by problem member) slots

abbrev pub amounts_of : Problem → ℕ → List ℕ → ℕ → List ℕ
amounts_of problem member slots pairing =
    map (λ bid. if counts_for problem member bid pairing then 1 else 0) slots

-- what terms may count: bids that want several pairings of a kind, and not more than eight
pub record AreCounted (problem : Problem) (member : ℕ) (terms : Terms) : Type 0 where
  pub counting : (bid : ℕ) → is_counted terms bid ≡ true → has_counting problem member bid ≡ true
  pub few : count_between (is_counted terms) 0 64 ≤ 8

-- each counted bid has a place, and no other bid has one
pub record AreSlots (terms : Terms) (slots : List ℕ) : Type 0 where
  pub all : (bid : ℕ) → is_counted terms bid ≡ true → (k : ℕ) × (k < length slots) × (get_or slots k 64 ≡ bid)
  pub only : (k : ℕ) → k < length slots → (64 ≤ get_or slots k 64) ⊎ (is_counted terms (get_or slots k 64) ≡ true)

-- the terms without what they count
abbrev pub uncounted : Terms → Terms
uncounted terms = record {
  low = terms.low;
  high = terms.high;
  days_off = terms.days_off;
  floor = terms.floor;
  asked = terms.asked;
  counted = 0;
}
