use Rattle.std.proofs.Common.{◌≤◌, ◌-◌, ◌^◌, List, length, get_or, arith, ◌∙◌, ap}
use Rattle.label_lattice.specs.declared.masks.MaskStep.{MaskStep}
use Rattle.label_setter.specs.declared.graph.Arc.{Arc}
use Rattle.chain_search.proofs.LastingBits.{and_first, in_through, none_more}
use Rattle.chain_search.proofs.lasting.kept_by.Goals as goal

pub loop-number-preserved : goal.loop-number-preserved
loop-number-preserved g c = record {
  inside = in_through _ c.loop-number.kept c.args.set (and_first c.loop-number.kept (2 ^ 64 - 1 - c.index-arcs-number.result.step.1.0.clear)) c.loop-number.invariant.inside;
  cleared = none_more (λ (step : g.row.A-Step.Denot × (MaskStep × g.row.B-Step.Denot)). step.1.0.clear) c.args.graph.now.arcs c.args.leaving.now c.loop-number.number-index c.loop-number.kept c.index-arcs-number.result c.loop-number-test.true
      (c.index-arcs-number.is ∙ ap (λ (xs : List (Arc (g.row.A-Step.Denot × (MaskStep × g.row.B-Step.Denot)))). get_or xs (get_or c.args.leaving.now c.loop-number.number-index 0) c.index-arcs-number.result) c.arcs-arcs.ensures.arcs) c.loop-number.invariant.cleared;
}

pub returns-clause-kept : goal.returns-clause-kept
returns-clause-kept g c = λ k d less arc is. c.loop-number.invariant.cleared k d (let end : length c.args.leaving.now ≤ c.loop-number.number-index = omega arith in omega (arith, less, end)) arc is
