use Rattle.std.proofs.Common.{◌<◌, ◌^◌}
use Rattle.line_items.specs.Masks.{is_bit}
use Rattle.line_items.proofs.MaskLoops.{HasBits}
use Rattle.line_items.proofs.masks.mask_of.Given as goal

abbrev pub invariant-loop-bid : goal.invariant-loop-bid
invariant-loop-bid l = record {
  within : l.mask < 2 ^ 64;
  bits : HasBits (is_bit l.problem l.member l.lens l.mark) l.bid l.mask;
}
