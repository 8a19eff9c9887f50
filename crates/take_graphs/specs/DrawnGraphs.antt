-- The graph that is drawn for the lines of a member that keep terms.
use Rattle.std.specs.Prelude.{◌≡◌, ℕ, ℤ, List, length, map, slice_index_or}
use Rattle.label_setter.specs.Chains.{GraphOf}
use Rattle.lens_classes.specs.declared.terms.Terms.{Terms}
use Rattle.line_items.specs.Masks.{IsBidsEnd, IsMask}
use Rattle.line_items.specs.declared.masks.Mark.TheVariants.{Start}
use Rattle.line_lens.specs.Charts.{IsChart, IsItemOrder, chart_gain, chart_may, chart_must, chart_near}
use Rattle.line_lens.specs.LineGraphs.{added_by}
use Rattle.line_lens.specs.LineLabels.{label_end}
use Rattle.line_lens.specs.declared.chart.Chart.{Chart}
use Rattle.roster_model.specs.declared.node.Decision.{Decision}
use Rattle.roster_model.specs.declared.problem.Problem.{Problem}
use Rattle.roster_model.specs.declared.proof.Lens.{Lens}
use Rattle.take_graphs.specs.TakeCharts.{chart_take}
use Rattle.take_graphs.specs.TakeLabels.{TakeEndOf, TakeOf, TakeStepOf, take_start}
use Rattle.take_graphs.specs.Takes.{AreTakeArcs, passes_by, takes_by}

-- there is a place for the source, each item in the order in which they begin, and the sink; arcs pass over the item
-- of a place or take it, as the chart of the places says; the source has the label of no line, and the sink asks what
-- the terms do; each arc adds the pairing that it takes
pub record IsDrawn {N : ℕ} (problem : Problem) (member : ℕ) (node : List Decision) (lens : Lens) (terms : Terms) (weights : List ℤ) (graph : GraphOf (TakeOf N) (TakeStepOf N) TakeEndOf) (adds : List ℕ) : Type 0 where
  pub items : List ℕ
  pub order : IsItemOrder problem member lens items
  pub chart : Chart N
  pub charted : IsChart problem member node lens terms weights items chart
  pub places : graph.places ≡ length items
  pub taken : List ℕ
  pub arcs :
      AreTakeArcs (passes_by (chart_may chart) (chart_must chart)) (takes_by (chart_may chart) (chart_must chart) (chart_near chart)) (λ t. chart_gain chart 0 t) (chart_take chart) graph.arcs taken
  pub start_bits : IsMask problem member lens Start graph.start.second.first.bits
  pub start : graph.start ≡ take_start problem member lens graph.start.second.first.bits
  pub end_bids : IsBidsEnd problem member lens terms graph.end.1.0
  pub end_is : graph.end ≡ label_end terms graph.end.1.0
  pub added :
      adds ≡ map
      (λ t. slice_index_or (map (added_by (length problem.base.pairings)) items) t (length problem.base.pairings))
      taken
