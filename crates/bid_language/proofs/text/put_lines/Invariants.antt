use Rattle.std.proofs.Common.{◌≡◌, ◌++◌, take}
use Rattle.bid_language.specs.Spelling.{bid_lines}
use Rattle.bid_language.proofs.text.put_lines.Given as goal

abbrev pub invariant-loop-bid : goal.invariant-loop-bid
invariant-loop-bid l = l.out ≡ l.fn.out ++ bid_lines l.base (take l.bid-index l.bids)
