use Rattle.std.proofs.Common.{◌≡◌, true, false, refl, Bool, arith}
use Rattle.std.specs.Prelude.{IsTrue, not}
use Rattle.line_generator.proofs.Reaching.{floor_within}
use Rattle.line_generator.proofs.reach.is_out_of_reach.Goals as goal

not_both : (b : Bool) → IsTrue (not b) → b ≡ true → ⊥
not_both true p q = cc
not_both false p q = cc

unless : (b : Bool) → (b ≡ true → ⊥) → IsTrue (not b)
unless true no_way = absurd (no_way refl)
unless false no_way = refl

pub returns : goal.returns
returns c = record {
  none =
      λ yes node lens line passes.
      not_both c.is_within.result yes
      (c.is_within.ensures.within.1 (floor_within c.args.problem.now c.args.member c.args.goal.now node lens line c.bids_weight-most.result c.bids_weight-most.ensures.weight passes));
  yes =
      λ floor there over.
      unless c.is_within.result (λ within.
      let low = c.is_within.ensures.within.0 within floor there in
      let most = c.bids_weight-most.ensures.weight in
      omega (arith, low, most, over));
}
