-- What it means that a bid's text is read again.
use Rattle.std.specs.Prelude.{◌≡◌, ℕ, ◌<◌, List, [], length, slice_get, slice_index_or, Some, Ok}
use Rattle.roster_model.specs.declared.bid.Bid.{Bid}
use Rattle.roster_model.specs.declared.goal.BidRef.{BidRef}
use Rattle.roster_model.specs.declared.problem.Problem.{Problem}
use Rattle.roster_model.specs.Scores.{bids_of}
use Rattle.bid_language.specs.declared.sheet.Entry.TheVariants as entry
use Rattle.bid_language.specs.Lines.{Read, line_of, bids_in}

-- the text is read as the problem's bids
abbrev pub IsAgain : Problem → List ℕ → Type 0
IsAgain problem text = bids_in problem.base text ≡ Ok problem.bids

-- a line of this text is read as the bid, where the lines are its member's and the member has fewer
-- than 64 bids
abbrev pub IsBidText : Problem → BidRef → List ℕ → Type 0
IsBidText problem b text =
    (n : ℕ) (read : Read) (x : Bid) → slice_get (bids_of problem b.member) b.bid ≡ Some x
    → read.current ≡ Some b.member
    → length (slice_index_or read.lists b.member []) < 64 → line_of problem.base n read text
    ≡ Ok (entry.Bid b.member x)
