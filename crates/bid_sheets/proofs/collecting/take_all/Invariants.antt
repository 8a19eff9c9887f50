use Rattle.std.proofs.Common.{◌≡◌}
use Rattle.bid_sheets.proofs.collecting.take_all.Given as goal

abbrev pub invariant-loop-member : goal.invariant-loop-member
invariant-loop-member g l = g.S.Shelf.holds l.sheets ≡ g.S.Shelf.holds l.fn.sheets
