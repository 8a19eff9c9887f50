-- The numbers by which faults of bids are printed.
use Rattle.std.specs.Prelude.{ℕ}
use Rattle.bid_language.specs.declared.fault.BidCode.{BidCode}
use Rattle.bid_language.specs.declared.fault.BidCode.TheVariants as code

abbrev pub bid_code : BidCode → ℕ
bid_code code.NoMemory = 0
bid_code code.Token = 1
bid_code (code.Expected w) = 2
bid_code code.Number = 3
bid_code code.Date = 4
bid_code code.UnknownMember = 5
bid_code code.UnknownPairing = 6
bid_code code.Weight = 7
bid_code code.TooMany = 8
bid_code code.MemberTwice = 9
