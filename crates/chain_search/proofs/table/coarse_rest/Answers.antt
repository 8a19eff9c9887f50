use Rattle.std.proofs.Common.{◌≡◌, ◌+◌, ◌-◌, ◌*◌, ◌<◌, ◌++◌, [], ℕ, ℤ, List, Some, length, get_or, pos, take, drop, arith, sym, ◌∙◌, ap, subst}
use Rattle.std.specs.Prelude.{slice_get}
use Rattle.label_setter.specs.declared.graph.Arc.{Arc}
use Rattle.label_setter.specs.Meters.{IsBetween}
use Rattle.chain_search.specs.Rows.{GoesBack, IsLowOrBack}
use Rattle.chain_search.proofs.Raising.{last_more, last_start}
use Rattle.chain_search.proofs.TableRows.{filled_more, filled_start, bound_of_table, seen_of_table, written}
use Rattle.chain_search.proofs.table.coarse_rest.Goals as goal

pub loop-back-init : goal.loop-back-init
loop-back-init g c =
    let table_is : c.extend_from_slice.new.self.items ≡ [] ++ c.in_ok-row.row.items =
    c.in_ok-extend_from_slice.ensures.items ∙ (ap (λ (xs : List ℤ). xs ++ c.deref.result.now) c.in_ok-table.ensures.items ∙ ap (λ (ys : List ℤ). [] ++ ys) c.deref.ensures.value) in
    record {
      wide = c.in_ok-row.ensures.long;
      last = λ state less. last_start c.extend_from_slice.new.self.items c.in_ok-row.row.items (g.C.Coarse.count c.args.coarse) state table_is;
      filled = filled_start (λ (step : g.row.R-Step.Denot). g.C.Coarse.moves (g.C.Coarse.move_of c.args.coarse step)) (g.C.Coarse.ends c.args.coarse) (g.C.Coarse.count c.args.coarse) c.args.graph.now.places c.args.graph.now.arcs c.sink_of-sink.ensures.graph
          c.extend_from_slice.new.self.items c.in_ok-row.row.items table_is c.in_ok-row.ensures.long c.in_ok-row.ensures.between c.in_ok-row.ensures.ends c.in_ok-row.ensures.value;
    }

pub place_row-requires-clause-leaving : goal.place_row-requires-clause-leaving
place_row-requires-clause-leaving g c = c.requires.ways.leaving (c.sink_of-sink.result - c.loop-back.back) c.from.result.now c.from.ensures.leaving

pub place_row-requires-clause-last : goal.place_row-requires-clause-last
place_row-requires-clause-last g c = λ state less.
    let count = g.C.Coarse.count c.args.coarse in
    let sink = c.sink_of-sink.ensures.sink in
    let before = c.loop-back-test.true in
    let some = c.loop-back.auto.back in
    let at : c.loop-back.back - 1 ≡ c.args.graph.now.places - 2 - (c.sink_of-sink.result - c.loop-back.back) = omega (arith, sink, before, some) in
    ap (λ (xs : List ℤ). get_or xs state (pos 0)) c.deref_mut.ensures.value
    ∙ (c.loop-back.invariant.last state less
    ∙ (ap (λ n. get_or c.loop-back.table.items (n * count + state) (pos 0)) at
    ∙ sym (ap (λ (xs : List ℤ). get_or xs ((c.args.graph.now.places - 2 - (c.sink_of-sink.result - c.loop-back.back)) * count + state) (pos 0)) c.deref-in-loop-back.ensures.value)))

pub loop-back-preserved : goal.loop-back-preserved
loop-back-preserved g c =
    let moves = λ (step : g.row.R-Step.Denot). g.C.Coarse.moves (g.C.Coarse.move_of c.args.coarse step) in
    let laws = g.met.C.Coarse.laws c.args.coarse in
    let place = c.sink_of-sink.result - c.loop-back.back in
    let sink = c.sink_of-sink.ensures.sink in
    let less = c.loop-back-test.true in
    let at : place + c.loop-back.back + 1 ≡ c.args.graph.now.places = omega (arith, sink, less) in
    let some : 0 < c.loop-back.back = (let back = c.loop-back.auto.back in omega (arith, back)) in
    let same : take c.loop-back.row.len (c.place_row.new.row ++ drop (length c.place_row.new.row) c.loop-back.row.items) ≡ c.place_row.new.row = written c.place_row.new.row (drop (length c.place_row.new.row) c.loop-back.row.items) c.loop-back.row.len (c.place_row.auto.row ∙ c.deref_mut.ensures.len) in
    let table_is : c.extend_from_slice-in-loop-back.new.self.items ≡ c.loop-back.table.items ++ c.place_row.new.row = c.in_ok-extend_from_slice-2.ensures.items ∙ ap (λ (ys : List ℤ). c.loop-back.table.items ++ ys) (c.deref-in-loop-back-2.ensures.value ∙ same) in
    let wide : length c.place_row.new.row ≡ g.C.Coarse.count c.args.coarse = c.place_row.auto.row ∙ (ap length c.deref_mut.ensures.value ∙ c.loop-back.invariant.wide) in
    let most : c.args.graph.now.places - place ≡ c.loop-back.back + 1 = omega (arith, at) in
    let between : IsBetween (c.loop-back.back + 1) c.place_row.new.row = subst (λ n. IsBetween n c.place_row.new.row) most c.place_row.ensures.between in
    let goes : (number : ℕ) (arc : Arc g.row.R-Step.Denot) → slice_get c.args.graph.now.arcs number ≡ Some arc → arc.from ≡ place → GoesBack moves (g.C.Coarse.count c.args.coarse) (c.args.graph.now.places - 1) c.loop-back.table.items c.place_row.new.row arc =
    λ number arc is from. subst (λ (xs : List ℤ). GoesBack moves (g.C.Coarse.count c.args.coarse) (c.args.graph.now.places - 1) xs c.place_row.new.row arc) c.deref-in-loop-back.ensures.value (c.place_row.ensures.covers number arc is from) in
    let froms : (state : ℕ) → state < g.C.Coarse.count c.args.coarse → IsLowOrBack moves (g.C.Coarse.count c.args.coarse) (c.args.graph.now.places - 1) c.args.graph.now.arcs place c.loop-back.table.items state (get_or c.place_row.new.row state (pos 0)) =
    λ state small. subst (λ (xs : List ℤ). IsLowOrBack moves (g.C.Coarse.count c.args.coarse) (c.args.graph.now.places - 1) c.args.graph.now.arcs place xs state (get_or c.place_row.new.row state (pos 0))) c.deref-in-loop-back.ensures.value (c.place_row.ensures.from state small) in
    record {
      wide = ap length same ∙ wide;
      last = λ state less. ap (λ (xs : List ℤ). get_or xs state (pos 0)) same ∙ last_more c.loop-back.table.items c.extend_from_slice-in-loop-back.new.self.items c.place_row.new.row c.loop-back.back (g.C.Coarse.count c.args.coarse) state table_is c.loop-back.invariant.filled.long;
      filled = filled_more moves (g.C.Coarse.ends c.args.coarse) (g.C.Coarse.count c.args.coarse) c.args.graph.now.places c.args.graph.now.arcs c.sink_of-sink.ensures.graph c.loop-back.table.items c.extend_from_slice-in-loop-back.new.self.items c.place_row.new.row c.loop-back.back place some at table_is wide between
          (λ number arc is state next small move. laws.stays arc.step state next small move) goes froms c.loop-back.invariant.filled;
    }

pub returns-clause-rest : goal.returns-clause-rest
returns-clause-rest g c =
    let sink = c.sink_of-sink.ensures.sink in
    bound_of_table g.R.Resource.extend g.R.Resource.done c.args.graph.now (g.C.Coarse.count c.args.coarse) (g.C.Coarse.shows c.args.coarse) (g.C.Coarse.sees c.args.coarse) (λ step. g.C.Coarse.moves (g.C.Coarse.move_of c.args.coarse step)) (g.C.Coarse.ends c.args.coarse) (g.C.Coarse.fits_step c.args.coarse) (g.C.Coarse.fits_end c.args.coarse) (g.met.C.Coarse.laws c.args.coarse) c.requires.follows
    c.loop-back.table.items c.loop-back.back c.sink_of-sink.result sink (omega (arith, sink)) c.loop-back.invariant.filled

pub returns-clause-attained : goal.returns-clause-attained
returns-clause-attained g c = λ place a inside.
    let sink = c.sink_of-sink.ensures.sink in
    seen_of_table (λ (step : g.row.R-Step.Denot). g.C.Coarse.moves (g.C.Coarse.move_of c.args.coarse step)) (g.C.Coarse.ends c.args.coarse) (g.C.Coarse.count c.args.coarse) c.args.graph.now.places c.loop-back.back c.sink_of-sink.result c.args.graph.now.arcs c.loop-back.table.items sink (omega (arith, sink)) c.sink_of-sink.ensures.graph.most c.loop-back.invariant.filled
    place (g.C.Coarse.shows c.args.coarse a) inside ((g.met.C.Coarse.laws c.args.coarse).shown a)
