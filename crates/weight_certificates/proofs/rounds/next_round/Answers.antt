use Rattle.std.proofs.Common.{◌≡◌, ◌<◌, ◌∙◌, ap, ℕ, length, arith, FitsSigned, w64, rules, List}
use Rattle.std.proofs.lemmas.Int.{ints}
use Rattle.roster_model.specs.Rounds.{IsRound, miss_of}
use Rattle.roster_model.specs.Weights.{weight_at}
use Rattle.weight_certificates.proofs.Evened.{is_round_in_range, within_weights}
use Rattle.weight_certificates.proofs.rounds.next_round.Goals as goal

pub set_miss-requires-clause-in_range : goal.set_miss-requires-clause-in_range
set_miss-requires-clause-in_range c =
    let is : IsRound c.args.problem.now c.args.goal.now c.args.node.now c.in-Some.round = rw c.in-Some.is at (c.in_ok-round.ensures.round c.args.problem.now c.args.goal.now c.args.node.now c.requires.columns) in
    rw c.as_slice.ensures (is_round_in_range c.args.problem.now c.args.goal.now c.args.node.now c.in-Some.round is)

pub set_miss-requires-clause-per_member : goal.set_miss-requires-clause-per_member
set_miss-requires-clause-per_member c =
    let is : IsRound c.args.problem.now c.args.goal.now c.args.node.now c.in-Some.round = rw c.in-Some.is at (c.in_ok-round.ensures.round c.args.problem.now c.args.goal.now c.args.node.now c.requires.columns) in
    ap (λ (lines : List (List ℕ)). length lines) c.as_slice.ensures ∙ is.lines

pub product-requires-clause-xs_small : goal.product-requires-clause-xs_small
product-requires-clause-xs_small c = within_weights c.args.weights.now c.requires.small

pub returns-then-product-ge0-clause-next : goal.returns-then-product-ge0-clause-next
returns-then-product-ge0-clause-next c =
    let is : IsRound c.args.problem.now c.args.goal.now c.args.node.now c.in-Some.round = rw c.in-Some.is at (c.in_ok-round.ensures.round c.args.problem.now c.args.goal.now c.args.node.now c.requires.columns) in
    let miss : (p : ℕ) → p < length c.args.problem.now.base.pairings → weight_at c.set_miss.new.row p ≡ miss_of c.args.problem.now c.in-Some.round p = rw c.as_slice.ensures at c.set_miss.ensures.miss in
    let test = c.if-product-ge0.true in
    let fits : FitsSigned w64 c.product.result = search rules in
    record {
      is_round = is;
      per_pairing = omega arith;
      is_miss = miss;
      within = c.set_miss.ensures.within;
      not_less = omega (arith, ints, test, fits, c.product.ensures.value);
    }
