use Rattle.std.proofs.Common.{◌≡◌, ◌<◌, ℕ, length, arith, FitsSigned, w64, rules, pos, ◌<ℤ◌}
use Rattle.std.proofs.lemmas.Int.{ints}
use Rattle.roster_model.specs.Rounds.{miss_of}
use Rattle.roster_model.specs.Weights.{weight_at}
use Rattle.weight_certificates.specs.Pricing.{AreHeaviest}
use Rattle.weight_certificates.proofs.Evened.{heaviest_is_round, round_in_range, round_outweighed, within_weights}
use Rattle.weight_certificates.proofs.rounds.priced_round.Goals as goal

pub set_miss-requires-clause-in_range : goal.set_miss-requires-clause-in_range
set_miss-requires-clause-in_range c =
    let heavy : AreHeaviest c.args.problem.now c.args.goal.now c.args.node.now c.args.weights.now c.args.lenses.now (length c.args.problem.now.base.members) c.in-Round.round = rw c.in-Round.is at c.in_ok-round.ensures.priced in
    rw c.as_slice.ensures (round_in_range c.args.problem.now c.args.goal.now c.args.node.now c.args.weights.now c.args.lenses.now c.in-Round.round c.requires.lenses.per_member heavy)

pub product-requires-clause-xs_small : goal.product-requires-clause-xs_small
product-requires-clause-xs_small c = within_weights c.args.weights.now c.requires.small

pub returns-then-product-lt0 : goal.returns-then-product-lt0
returns-then-product-lt0 c =
    let heavy : AreHeaviest c.args.problem.now c.args.goal.now c.args.node.now c.args.weights.now c.args.lenses.now (length c.args.problem.now.base.members) c.in-Round.round = rw c.in-Round.is at c.in_ok-round.ensures.priced in
    let miss : (p : ℕ) → p < length c.args.problem.now.base.pairings → weight_at c.set_miss.new.row p ≡ miss_of c.args.problem.now c.in-Round.round p = rw c.as_slice.ensures at c.set_miss.ensures.miss in
    let test = c.if-product-lt0.true in
    let fits : FitsSigned w64 c.product.result = search rules in
    let less : c.product.result <ℤ pos 0 = omega (arith, ints, test, fits) in
    record {
      next =
          round_outweighed c.args.problem.now c.args.goal.now c.args.node.now c.args.weights.now c.args.lenses.now c.in-Round.round c.requires.lenses.per_member heavy c.requires.lenses.shapes c.set_miss.new.row c.product.result
          miss c.product.ensures.value c.requires.per_pairing c.requires.small less;
      columns = c.requires.columns;
    }

pub returns : goal.returns
returns c =
    let heavy : AreHeaviest c.args.problem.now c.args.goal.now c.args.node.now c.args.weights.now c.args.lenses.now (length c.args.problem.now.base.members) c.in-Round.round = rw c.in-Round.is at c.in_ok-round.ensures.priced in
    let miss : (p : ℕ) → p < length c.args.problem.now.base.pairings → weight_at c.set_miss.new.row p ≡ miss_of c.args.problem.now c.in-Round.round p = rw c.as_slice.ensures at c.set_miss.ensures.miss in
    let is_round = heaviest_is_round c.args.problem.now c.args.goal.now c.args.node.now c.args.weights.now c.args.lenses.now c.in-Round.round c.requires.lenses.per_member heavy c.requires.lenses in
    let test = c.if-product-lt0.false in
    let fits : FitsSigned w64 c.product.result = search rules in
    record {
      next = record {
        is_round = is_round;
        per_pairing = omega arith;
        is_miss = miss;
        within = c.set_miss.ensures.within;
        not_less = omega (arith, ints, test, fits, c.product.ensures.value);
      };
      columns = c.in_ok-add.ensures.columns c.args.problem.now c.args.goal.now c.args.node.now c.requires.columns (rw c.as_slice-2.ensures is_round);
    }
