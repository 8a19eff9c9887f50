use Rattle.std.proofs.Common.{◌≡◌, ℕ, true, Option, Some, None, ap, arith}
use Rattle.std.specs.Prelude.{nat_le}
use Rattle.std.proofs.lemmas.Bool.Decides.{nat_tests}
use Rattle.label_lattice.specs.declared.masks.Mask.{Mask}
use Rattle.label_lattice.specs.declared.masks.MaskEnd.{MaskEnd}
use Rattle.label_lattice.specs.declared.masks.MaskStep.{MaskStep}
use Rattle.label_lattice.specs.declared.pairs.Pair.{Pair}
use Rattle.label_lattice.specs.declared.values.Least.{Least}
use Rattle.label_lattice.specs.declared.values.LeastStep.{LeastStep}
use Rattle.label_lattice.specs.Least.{least_below, least_extend}
use Rattle.label_lattice.specs.LeastLaws.{least_extends}
use Rattle.label_lattice.specs.Mask.{mask_done, mask_extend}
use Rattle.label_lattice.specs.Pair.{both_of, pair_done, pair_extend}
use Rattle.label_setter.specs.Chains.{GraphOf}
use Rattle.chain_search.specs.Orders.{IsOrder}
use Rattle.chain_tests.proofs.climbs.without_bits.Goals as goal

first_there : (o : Option Least) (m : Mask) (c : Pair Least Mask) → both_of o (Some m) ≡ Some c → o ≡ Some c.first
first_there (Some a) m c e = cc
first_there None m c e = cc

none_asked : (floor weight : ℕ) → floor ≡ 0 → nat_le floor weight ≡ true
none_asked floor weight none = grind (arith, nat_tests)

order_of : {E : Type 0} (graph : GraphOf (Pair Least Mask) (LeastStep × MaskStep) (E × MaskEnd)) → graph.end.1.floor ≡ 0
    → IsOrder (pair_extend least_extend mask_extend) (pair_done (λ _ _. true) mask_done) graph (λ place a b. least_below a.first b.first)
order_of graph none = record {
  along = λ number arc a b c is spared extends.
      let first = least_extends a.first b.first c.first arc.step.0 spared (first_there (least_extend b.first arc.step.0) _ c extends) in
      record { to = record { first = first.to; second = _ }; extends = ap (λ (o : Option Least). both_of o (mask_extend a.second arc.step.1)) first.extends; is_below = first.is_below };
  final = λ a b spared is_done. none_asked graph.end.1.floor _ none;
}

pub returns : goal.returns
returns c =
    let low = c.if-end-gt0.false in
    let same = ap (λ (end : _ × MaskEnd). end.1.floor) c.end.ensures.end in
    record { order = order_of c.args.graph.now (omega (arith, low, same)) }
