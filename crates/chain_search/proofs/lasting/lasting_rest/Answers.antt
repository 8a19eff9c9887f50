use Rattle.std.proofs.Common.{◌≡◌, ◌+◌, ◌-◌, ◌≤◌, ◌^◌, ◌++◌, [], ◌∷◌, List, ℕ, arith, ◌∙◌, ap}
use Rattle.label_lattice.specs.declared.masks.MaskStep.{MaskStep}
use Rattle.label_lattice.specs.declared.masks.MaskEnd.{MaskEnd}
use Rattle.label_lattice.specs.Mask.{mask_done, mask_extend}
use Rattle.label_lattice.specs.Pair.{pair_done, pair_extend}
use Rattle.chain_search.proofs.LastingBits.{clears_all, get_last, inside_all, kept_more, kept_start, lasting_is_rest}
use Rattle.chain_search.proofs.RestLemmas.{rest_is_bound}
use Rattle.chain_search.proofs.Walking.{fits_at}
use Rattle.chain_search.proofs.lasting.lasting_rest.Goals as goal

pub loop-back-init : goal.loop-back-init
loop-back-init g c =
    let rows_are : c.push.new.self.items ≡ [] ++ (2 ^ 64 - 1) ∷ [] = c.in_ok-push.ensures.items ∙ ap (λ (xs : List ℕ). xs ++ (2 ^ 64 - 1) ∷ []) c.new-rows.ensures.items in
    let sink = c.sink_of-sink.ensures.sink in
    record {
      rows = kept_start (λ (step : g.row.A-Step.Denot × (MaskStep × g.row.B-Step.Denot)). step.1.0.clear) c.sink_of-sink.result c.args.graph.now.arcs c.push.new.self.items (2 ^ 64 - 1) rows_are
          (λ number arc is. let fits = fits_at c.args.graph.now.places c.args.graph.now.arcs number arc c.sink_of-sink.ensures.graph.arcs_fit is in let forward = fits.forward in let within = fits.within in omega (arith, sink, forward, within));
      last = get_last c.push.new.self.items [] (2 ^ 64 - 1) 1 rows_are (omega arith);
    }

pub kept_by-kept-requires : goal.kept_by-kept-requires
kept_by-kept-requires g c = record {
  inside = inside_all (λ (step : g.row.A-Step.Denot × (MaskStep × g.row.B-Step.Denot)). step.1.0.clear) c.args.graph.now.arcs (c.sink_of-sink.result - c.loop-back.back) c.from.result.now (c.requires.ways.leaving (c.sink_of-sink.result - c.loop-back.back) c.from.result.now c.from.ensures.leaving);
}

pub loop-back-preserved : goal.loop-back-preserved
loop-back-preserved g c =
    let place = c.sink_of-sink.result - c.loop-back.back in
    let some : 1 ≤ c.loop-back.back = c.loop-back.auto.back in
    let less = c.loop-back-test.true in
    let rows_are : c.push-in-loop-back.new.self.items ≡ c.loop-back.rows.items ++ c.kept_by-kept.result ∷ [] = c.in_ok-push-2.ensures.items in
    let leaves = c.requires.ways.leaving place c.from.result.now c.from.ensures.leaving in
    record {
      rows = kept_more (λ (step : g.row.A-Step.Denot × (MaskStep × g.row.B-Step.Denot)). step.1.0.clear) c.sink_of-sink.result c.args.graph.now.arcs c.loop-back.rows.items c.push-in-loop-back.new.self.items c.loop-back.back c.loop-back.kept c.kept_by-kept.result rows_are
          (omega (arith, some)) (omega (arith, less)) c.loop-back.invariant.last c.kept_by-kept.ensures.inside
          (clears_all (λ (step : g.row.A-Step.Denot × (MaskStep × g.row.B-Step.Denot)). step.1.0.clear) c.args.graph.now.arcs place c.from.result.now c.kept_by-kept.result leaves c.kept_by-kept.ensures.kept) c.loop-back.invariant.rows;
      last = get_last c.push-in-loop-back.new.self.items c.loop-back.rows.items c.kept_by-kept.result (c.loop-back.back + 1) rows_are (let long = c.loop-back.invariant.rows.long in omega (arith, long));
    }

pub returns : goal.returns
returns g c =
    let sink = c.sink_of-sink.ensures.sink in
    let past = c.loop-back-test.false in
    let end = c.loop-back.auto.back-end (omega arith) in
    record {
      rest = rest_is_bound (pair_extend g.A.Resource.extend (pair_extend mask_extend g.B.Resource.extend)) (pair_done g.A.Resource.done (pair_done mask_done g.B.Resource.done)) c.args.graph.now _ (lasting_is_rest g.A.Resource.extend g.A.Resource.done g.B.Resource.extend g.B.Resource.done c.args.graph.now
          (record { rows = c.loop-back.rows; sink = c.sink_of-sink.result; last = c.new.result }) c.loop-back.back sink (omega (arith, sink, past, end)) c.sink_of-sink.ensures.graph
          (c.new.ensures.end ∙ ap (λ (e : g.row.A-End.Denot × (MaskEnd × g.row.B-End.Denot)). e.1.0) c.end.ensures.end) c.loop-back.invariant.rows);
    }
