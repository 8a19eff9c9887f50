use Rattle.std.proofs.Common.{◌≡◌, ◌++◌, ◌-◌, length}
use Rattle.std.specs.List.{flat_map, range_with_len}
use Rattle.roster_model.specs.Scores.{bids_of}
use Rattle.roster_text.specs.MonthText.{bid_line, bids_text}
use Rattle.roster_text.proofs.month.put_bids.Given as goal

abbrev pub invariant-loop-bid : goal.invariant-loop-bid
invariant-loop-bid l =
    l.out ++ flat_map (bid_line l.problem l.member l.line) (range_with_len l.bid (length (bids_of l.problem l.member) - l.bid))
    ≡ l.fn.out ++ bids_text l.problem l.member l.line
