use Rattle.label_lattice.specs.declared.masks.MaskStep.{MaskStep}
use Rattle.chain_search.specs.Lastings.{IsIn}
use Rattle.chain_search.proofs.LastingBits.{NoneClears}
use Rattle.chain_search.proofs.lasting.kept_by.Given as goal

abbrev pub invariant-loop-number : goal.invariant-loop-number
invariant-loop-number g l = record {
  inside : IsIn l.kept l.set;
  cleared : NoneClears (λ (step : g.row.A-Step.Denot × (MaskStep × g.row.B-Step.Denot)). step.1.0.clear) l.graph.arcs l.leaving l.number-index l.kept;
}
