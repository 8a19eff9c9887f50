use Rattle.std.proofs.Common.{arith, subst, ◌≤◌, List, length}
use Rattle.roster_model.specs.declared.bid.Bid.{Bid}
use Rattle.line_items.specs.Masks.{is_bit}
use Rattle.line_items.proofs.MaskLoops.{bits_all, no_bit}
use Rattle.line_items.proofs.masks.mask_of.Goals as goal

pub returns : goal.returns
returns c = record {
  mask = record {
    within = c.loop-bid.invariant.within;
    bits = λ b lt.
        bits_all (is_bit c.args.problem.now c.args.member c.args.lens.now c.args.mark) c.loop-bid.bid c.loop-bid.mask
        c.loop-bid.invariant.bits
        (λ b le. no_bit c.args.problem.now c.args.member c.args.lens.now c.args.mark b
        (subst (λ (xs : List Bid). length xs ≤ b) c.bids_of-count.ensures.bids (omega (arith, c.loop-bid-test.false))))
        b;
  };
}
