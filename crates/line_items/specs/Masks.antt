-- Masks of the bids that a lens tracks, and what a chain's end asks of them.
use Rattle.std.specs.Int.{bit_at}
use Rattle.std.specs.Option.{option_and_then, option_map_or}
use Rattle.std.specs.Prelude.{◌≡◌, ℕ, ◌+◌, ◌<◌, ◌^◌, min, Bool, false, not, ◌&&◌, ◌||◌, ◌==◌, nat_lt, List, length, Option, Some, None, slice_get, slice_index, if◌then◌else◌}
use Rattle.label_lattice.specs.declared.masks.MaskEnd.{MaskEnd}
use Rattle.roster_model.specs.Lenses.{is_tracked}
use Rattle.roster_model.specs.Scores.{bids_of}
use Rattle.roster_model.specs.declared.bid.Bid.{Bid}
use Rattle.roster_model.specs.declared.bid.Wish.{Wish}
use Rattle.roster_model.specs.declared.problem.Problem.{Problem}
use Rattle.roster_model.specs.declared.proof.Lens.{Lens}
use Rattle.lens_classes.specs.declared.terms.Terms.{Terms}
use Rattle.line_items.specs.Hits.{is_wanting, is_hit, is_spoiled}
use Rattle.line_items.specs.declared.masks.Mark.TheVariants.{Start, Clear, Set}
use Rattle.line_items.specs.declared.masks.Mark.{Mark}

-- the bid that a bit stands for, where the lens tracks it
abbrev pub tracked_bid : Problem → ℕ → Lens → ℕ → Option Bid
tracked_bid problem member lens bid = if is_tracked lens bid then slice_get (bids_of problem member) bid else None

-- whether the item is a pairing of the wish's kind
abbrev pub is_item_hit : Problem → Wish → ℕ → Bool
is_item_hit problem wish item = nat_lt item (length problem.base.pairings) && is_hit problem wish item

-- which bits are set before any pairing, and which an item clears and sets: a bit is set where its bid isn't granted
abbrev pub is_marked : Problem → ℕ → Mark → Wish → Bool
is_marked problem member Start wish = is_wanting wish || is_spoiled problem member wish
is_marked problem member (Clear item) wish = is_wanting wish && is_item_hit problem wish item
is_marked problem member (Set item) wish = not (is_wanting wish) && is_item_hit problem wish item

-- whether the lens tracks the bid of this number, and its wish has the mark
abbrev pub is_bit : Problem → ℕ → Lens → Mark → ℕ → Bool
is_bit problem member lens mark bid =
    option_map_or (λ x. is_marked problem member mark x.wish) (tracked_bid problem member lens bid) false

-- a mask of 64 bits with the marked bids, and no other
pub record IsMask (problem : Problem) (member : ℕ) (lens : Lens) (mark : Mark) (mask : ℕ) : Type 0 where
  pub within : mask < 2 ^ 64
  pub bits : (b : ℕ) → b < 64 → bit_at mask b ≡ (if is_bit problem member lens mark b then 1 else 0)

-- the bid that the end demands: the one that the terms ask for, where it is tracked
abbrev pub asked_bid : Lens → Terms → Option ℕ
asked_bid lens terms = option_and_then (λ bid. if is_tracked lens bid then Some bid else None) terms.asked

-- the weight of the bid of this number, and 100,000 more where it is demanded
abbrev pub end_weight : List Bid → Option ℕ → ℕ → ℕ
end_weight bids asked b =
    option_map_or (λ x. x.weight) (slice_get bids b) 0 + (if option_map_or (λ g. b == g) asked false then 100000 else 0)

-- what the bids are to weigh, and 100,000 more where a bid is demanded
abbrev pub end_floor : Terms → Option ℕ → ℕ
end_floor terms asked = min terms.floor 64001 + option_map_or (λ g. 100000) asked 0

-- a bit for each of 64 bids, those weights, and that floor
pub record IsBidsEnd (problem : Problem) (member : ℕ) (lens : Lens) (terms : Terms) (done : MaskEnd) : Type 0 where
  pub bits : length done.weights ≡ 64
  pub weights :
      (b : ℕ) → b < 64
      → slice_index done.weights b ≡ end_weight (bids_of problem member) (asked_bid lens terms) b
  pub floor : done.floor ≡ end_floor terms (asked_bid lens terms)
