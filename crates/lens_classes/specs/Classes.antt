-- Classes of lens lines: which of the tracked bids that only a whole line decides they grant, and the terms of that.
use Rattle.std.specs.Int.{bit_at}
use Rattle.std.specs.Option.{ForSome, option_and_then, option_map_or}
use Rattle.std.specs.Prelude.{◌≡◌, ℕ, ◌+◌, ◌<◌, ◌≤◌, min, max, Bool, true, false, not, ◌&&◌, ◌==◌, nat_lt, List, [], ◌∷◌, Option, Some, None, slice_get, if◌then◌else◌}
use Rattle.roster_model.specs.declared.problem.Problem.{Problem}
use Rattle.roster_model.specs.declared.bid.Bid.{Bid}
use Rattle.roster_model.specs.declared.bid.Wish.{Wish}
use Rattle.roster_model.specs.declared.bid.Wish.TheVariants.{Fly, Avoid, Prefer, Off, CreditBelow, CreditAbove, DaysOff}
use Rattle.roster_model.specs.declared.goal.BidRef.{BidRef}
use Rattle.roster_model.specs.declared.goal.Goal.{Goal}
use Rattle.roster_model.specs.declared.proof.Lens.{Lens}
use Rattle.roster_model.specs.Legality.{low_of, high_of}
use Rattle.roster_model.specs.Lenses.{has_trackable, is_tracked, is_whole, is_whole_tracked}
use Rattle.roster_model.specs.Scores.{bids_of}
use Rattle.lens_classes.specs.TermLines.{is_counted}
use Rattle.lens_classes.specs.declared.terms.Terms.{Terms}

-- the least credit with which the wish is granted, and the credit from which on it is not: the given one, where credit
-- does not matter
abbrev pub least_for : Wish → ℕ
least_for (Fly p) = 0
least_for (Avoid f) = 0
least_for (Prefer n f) = 0
least_for (Off first last) = 0
least_for (CreditBelow m) = 0
least_for (CreditAbove m) = m + 1
least_for (DaysOff n) = 0

abbrev pub beyond_for : ℕ → Wish → ℕ
beyond_for beyond (Fly p) = beyond
beyond_for beyond (Avoid f) = beyond
beyond_for beyond (Prefer n f) = beyond
beyond_for beyond (Off first last) = beyond
beyond_for beyond (CreditBelow m) = m
beyond_for beyond (CreditAbove m) = beyond
beyond_for beyond (DaysOff n) = beyond

-- so many days off the wish wants
abbrev pub days_for : Wish → ℕ
days_for (Fly p) = 0
days_for (Avoid f) = 0
days_for (Prefer n f) = 0
days_for (Off first last) = 0
days_for (CreditBelow m) = 0
days_for (CreditAbove m) = 0
days_for (DaysOff n) = n

-- whether it wants several pairings of a kind
abbrev pub is_counting : Wish → Bool
is_counting (Fly p) = false
is_counting (Avoid f) = false
is_counting (Prefer n f) = not (n == 1)
is_counting (Off first last) = false
is_counting (CreditBelow m) = false
is_counting (CreditAbove m) = false
is_counting (DaysOff n) = false

abbrev pub has_counting : Problem → ℕ → ℕ → Bool
has_counting problem member bid =
    option_map_or (λ b. is_counting b.wish) (slice_get (bids_of problem member) bid) false

-- the greatest and the least of a number and of what the wishes give that are asked for, counted from a number on
abbrev pub most_among : (Wish → ℕ) → (ℕ → Bool) → ℕ → List Bid → ℕ → ℕ
most_among give asks n [] most = most
most_among give asks n (b ∷ bids) most =
    most_among give asks (n + 1) bids (max most (if asks n then give b.wish else 0))

abbrev pub least_among : (Wish → ℕ) → (ℕ → Bool) → ℕ → List Bid → ℕ → ℕ
least_among give asks n [] least = least
least_among give asks n (b ∷ bids) least =
    least_among give asks (n + 1) bids (if asks n then min least (give b.wish) else least)

-- a set of bids as bits
abbrev pub is_in : ℕ → ℕ → Bool
is_in bids bid = bit_at bids bid == 1

-- whether the class grants the tracked bid of this number
abbrev pub asks : Lens → (ℕ → Bool) → ℕ → Bool
asks lens granted bid = is_tracked lens bid && granted bid

-- the least credit of the class, the credit that is too much for it, and its days off
unfoldable pub class_low : Problem → ℕ → Lens → (ℕ → Bool) → ℕ
class_low problem member lens granted =
    most_among least_for (asks lens granted) 0 (bids_of problem member) (low_of problem member)

unfoldable pub class_beyond : Problem → ℕ → Lens → (ℕ → Bool) → ℕ
class_beyond problem member lens granted =
    least_among (beyond_for (high_of problem member + 1)) (asks lens granted) 0 (bids_of problem member)
    (high_of problem member + 1)

unfoldable pub class_days : Problem → ℕ → Lens → (ℕ → Bool) → ℕ
class_days problem member lens granted =
    most_among days_for (asks lens granted) 0 (bids_of problem member)
    (if lens.days then problem.base.rules.days_off else 0)

-- the weights of the tracked bids that only a whole line decides and the class does not grant
abbrev pub lost_among : Lens → (ℕ → Bool) → ℕ → List Bid → ℕ → ℕ
lost_among lens granted n [] lost = lost
lost_among lens granted n (b ∷ bids) lost =
    lost_among lens granted (n + 1) bids
    (lost + (if is_tracked lens n && (is_whole b.wish && not (granted n)) then b.weight else 0))

unfoldable pub class_lost : Problem → ℕ → Lens → (ℕ → Bool) → ℕ
class_lost problem member lens granted = lost_among lens granted 0 (bids_of problem member) 0

-- the goal's bid, where it is the member's, tracked, and one that a pairing can decide
abbrev pub own_bid : Problem → ℕ → Lens → BidRef → Option ℕ
own_bid problem member lens b =
    if b.member == member && (is_tracked lens b.bid && has_trackable problem member b.bid) then Some b.bid else None

abbrev pub asked_bid : Problem → ℕ → Goal → Lens → Option ℕ
asked_bid problem member goal lens = option_and_then (own_bid problem member lens) goal.grant

abbrev pub floor_of : Goal → ℕ → ℕ
floor_of goal member = option_map_or (λ f. f) (slice_get goal.floors member) 0

-- a wish on credit or days off that all lines of the class grant by these
pub record IsImplied (problem : Problem) (member : ℕ) (lens : Lens) (granted : ℕ → Bool) (wish : Wish) : Type 0 where
  pub whole : is_whole wish ≡ true
  pub single : is_counting wish ≡ false
  pub low : least_for wish ≤ class_low problem member lens granted
  pub beyond : class_beyond problem member lens granted ≤ beyond_for (high_of problem member + 1) wish
  pub days : days_for wish ≤ class_days problem member lens granted

-- a choice of bids to grant that credit allows, with the goal's bid where that is the member's, tracked, and one that
-- only a whole line decides
pub record IsClass (problem : Problem) (member : ℕ) (goal : Goal) (lens : Lens) (granted : ℕ → Bool) : Type 0 where
  pub some_credit : class_low problem member lens granted < class_beyond problem member lens granted
  pub grant :
      ForSome goal.grant
      (λ b. b.member ≡ member → is_whole_tracked problem member lens b.bid ≡ true → granted b.bid ≡ true)

-- the terms of a class
pub record IsTerms (problem : Problem) (member : ℕ) (goal : Goal) (lens : Lens) (granted : ℕ → Bool) (terms : Terms) : Type 0 where
  pub low : terms.low ≡ class_low problem member lens granted
  pub high : terms.high + 1 ≡ class_beyond problem member lens granted
  pub days_off : terms.days_off ≡ class_days problem member lens granted
  pub floor : terms.floor ≡ floor_of goal member + class_lost problem member lens granted
  pub asked : terms.asked ≡ asked_bid problem member goal lens
  pub counted : (bid : ℕ) → is_counted terms bid ≡ (asks lens granted bid && has_counting problem member bid)

-- the lens of a class: what one pairing can decide is tracked, and days are looked at where some are to be off
pub record IsClassLens (problem : Problem) (member : ℕ) (lens : Lens) (days_off : ℕ) (narrow : Lens) : Type 0 where
  pub grain : narrow.grain ≡ lens.grain
  pub tracked : (bid : ℕ) → is_tracked narrow bid ≡ (is_tracked lens bid && has_trackable problem member bid)
  pub free30 : narrow.free30 ≡ lens.free30
  pub days : narrow.days ≡ nat_lt 0 days_off
  pub whole : narrow.whole ≡ false
  pub windows : narrow.windows ≡ lens.windows
