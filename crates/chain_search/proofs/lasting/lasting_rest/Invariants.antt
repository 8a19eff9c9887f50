use Rattle.std.proofs.Common.{◌≡◌, ◌-◌, get_or}
use Rattle.label_lattice.specs.declared.masks.MaskStep.{MaskStep}
use Rattle.chain_search.proofs.LastingBits.{Kept}
use Rattle.chain_search.proofs.lasting.lasting_rest.Given as goal

abbrev pub invariant-loop-back : goal.invariant-loop-back
invariant-loop-back g l = record {
  rows : Kept (λ (step : g.row.A-Step.Denot × (MaskStep × g.row.B-Step.Denot)). step.1.0.clear) l.sink l.graph.arcs l.rows.items l.back;
  last : l.kept ≡ get_or l.rows.items (l.back - 1) 0;
}
