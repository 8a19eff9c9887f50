use Rattle.std.proofs.Common.{◌≡◌, ◌+◌, ◌-◌, ◌*◌, ◌<◌, ℕ, pos, List, Some, length, get_or, arith, sym, ◌∙◌, ap, subst}
use Rattle.std.proofs.lemmas.Option.{slice_get-get_or}
use Rattle.label_setter.specs.declared.graph.Arc.{Arc}
use Rattle.label_setter.specs.Meters.{IsBetween}
use Rattle.chain_search.specs.Rows.{RaisedBy}
use Rattle.chain_search.proofs.Hunting.{listed_read}
use Rattle.chain_search.proofs.Raising.{begins_between, begins_covers, begins_from}
use Rattle.chain_search.proofs.TableRows.{back_more, between_row, covers_all, covers_more, rows_fit}
use Rattle.chain_search.proofs.table.place_row.Goals as goal

pub row_of-there-requires : goal.row_of-there-requires
row_of-there-requires g c =
    let read = listed_read c.args.graph.now.arcs c.args.graph.now.places c.args.place c.args.leaving.now c.loop-k.k c.index-arcs-number.result c.arcs-arcs.ensures.graph c.requires.leaving c.loop-k-test.true
    (c.index-arcs-number.is ∙ ap (λ (xs : List (Arc g.row.R-Step.Denot)). get_or xs (get_or c.args.leaving.now c.loop-k.k 0) c.index-arcs-number.result) c.arcs-arcs.ensures.arcs) in
    let forward = read.fits.forward in
    let within = read.fits.within in
    let from = read.from in
    let sink = c.sink_of-sink.ensures.sink in
    let long : length c.args.table.now ≡ (c.args.graph.now.places - 1 - c.args.place) * c.count.result = c.requires.long ∙ ap (λ n. (c.args.graph.now.places - 1 - c.args.place) * n) (sym c.count.ensures.count) in
    record { within = rows_fit (c.sink_of-sink.result - c.index-arcs-number.result.to) (c.args.graph.now.places - 1 - c.args.place) c.count.result (length c.args.table.now) (omega (arith, forward, within, from, sink)) long }

pub raise-requires-clause-between : goal.raise-requires-clause-between
raise-requires-clause-between g c =
    between_row (c.args.graph.now.places - 1 - c.args.place) 2000 ((c.sink_of-sink.result - c.index-arcs-number.result.to) * c.count.result) c.count.result c.args.table.now c.row_of-there.result.now c.row_of-there.ensures.long c.row_of-there.ensures.at
    (let most = c.sink_of-sink.ensures.graph.most in omega (arith, most)) c.requires.between

pub raise-requires-clause-low : goal.raise-requires-clause-low
raise-requires-clause-low g c =
    let read = listed_read c.args.graph.now.arcs c.args.graph.now.places c.args.place c.args.leaving.now c.loop-k.k c.index-arcs-number.result c.arcs-arcs.ensures.graph c.requires.leaving c.loop-k-test.true
    (c.index-arcs-number.is ∙ ap (λ (xs : List (Arc g.row.R-Step.Denot)). get_or xs (get_or c.args.leaving.now c.loop-k.k 0) c.index-arcs-number.result) c.arcs-arcs.ensures.arcs) in
    read.fits.gain_low

pub raise-requires-clause-high : goal.raise-requires-clause-high
raise-requires-clause-high g c =
    let read = listed_read c.args.graph.now.arcs c.args.graph.now.places c.args.place c.args.leaving.now c.loop-k.k c.index-arcs-number.result c.arcs-arcs.ensures.graph c.requires.leaving c.loop-k-test.true
    (c.index-arcs-number.is ∙ ap (λ (xs : List (Arc g.row.R-Step.Denot)). get_or xs (get_or c.args.leaving.now c.loop-k.k 0) c.index-arcs-number.result) c.arcs-arcs.ensures.arcs) in
    read.fits.gain_high

pub loop-k-preserved : goal.loop-k-preserved
loop-k-preserved g c =
    let number = get_or c.args.leaving.now c.loop-k.k 0 in
    let read = listed_read c.args.graph.now.arcs c.args.graph.now.places c.args.place c.args.leaving.now c.loop-k.k c.index-arcs-number.result c.arcs-arcs.ensures.graph c.requires.leaving c.loop-k-test.true
    (c.index-arcs-number.is ∙ ap (λ (xs : List (Arc g.row.R-Step.Denot)). get_or xs (get_or c.args.leaving.now c.loop-k.k 0) c.index-arcs-number.result) c.arcs-arcs.ensures.arcs) in
    let sink = c.sink_of-sink.ensures.sink in
    let inside = c.requires.inside in
    let moves = λ (step : g.row.R-Step.Denot). g.C.Coarse.moves (g.C.Coarse.move_of c.args.coarse.now step) in
    let laws = g.met.C.Coarse.laws c.args.coarse.now in
    let one : c.args.graph.now.places - 1 - c.args.place + 1 ≡ c.args.graph.now.places - c.args.place = omega (arith, inside) in
    let after = between_row (c.args.graph.now.places - 1 - c.args.place) (c.args.graph.now.places - 1 - c.args.place) ((c.sink_of-sink.result - c.index-arcs-number.result.to) * c.count.result) c.count.result c.args.table.now c.row_of-there.result.now c.row_of-there.ensures.long c.row_of-there.ensures.at (omega arith) c.requires.between in
    let wide : length c.loop-k.row ≡ g.C.Coarse.count c.args.coarse.now = c.loop-k.auto.row ∙ (c.begin_row.auto.row ∙ c.requires.wide) in
    let raised : RaisedBy (moves c.index-arcs-number.result.step) c.row_of-there.result.now c.index-arcs-number.result.gain c.loop-k.row c.raise.new.here = c.raise.ensures.raised in
    let sink_is : c.sink_of-sink.result ≡ c.args.graph.now.places - 1 = omega (arith, sink) in
    let at : (state : ℕ) → state < g.C.Coarse.count c.args.coarse.now → get_or c.row_of-there.result.now state (pos 0) ≡ get_or c.args.table.now ((c.args.graph.now.places - 1 - c.index-arcs-number.result.to) * g.C.Coarse.count c.args.coarse.now + state) (pos 0) =
    λ state less. c.row_of-there.ensures.at state (let count = c.count.ensures.count in omega (arith, less, count))
    ∙ (ap (λ n. get_or c.args.table.now ((n - c.index-arcs-number.result.to) * c.count.result + state) (pos 0)) sink_is
    ∙ ap (λ n. get_or c.args.table.now ((c.args.graph.now.places - 1 - c.index-arcs-number.result.to) * n + state) (pos 0)) c.count.ensures.count) in
    let stays = λ (state next : ℕ) (less : state < g.C.Coarse.count c.args.coarse.now) (is : g.C.Coarse.moves (g.C.Coarse.move_of c.args.coarse.now c.index-arcs-number.result.step) state ≡ Some next). laws.stays c.index-arcs-number.result.step state next less is in
    record {
      between = subst (λ n. IsBetween n c.raise.new.here) one (raised.between (c.args.graph.now.places - 1 - c.args.place) after (subst (λ n. IsBetween n c.loop-k.row) (sym one) c.loop-k.invariant.between));
      from = back_more moves (g.C.Coarse.count c.args.coarse.now) (c.args.graph.now.places - 1) c.args.graph.now.arcs c.args.place c.args.table.now c.loop-k.row c.raise.new.here c.row_of-there.result.now number c.index-arcs-number.result read.is read.from stays at raised c.loop-k.invariant.from;
      covers = covers_more moves (g.C.Coarse.count c.args.coarse.now) (c.args.graph.now.places - 1) c.args.graph.now.arcs c.args.leaving.now c.args.table.now c.loop-k.row c.raise.new.here c.row_of-there.result.now c.loop-k.k number c.index-arcs-number.result
          (slice_get-get_or c.args.leaving.now c.loop-k.k 0 c.loop-k-test.true) read.is (λ state next less is. laws.stays c.index-arcs-number.result.step state next less is) wide at raised c.loop-k.invariant.covers;
    }

pub returns-clause-covers : goal.returns-clause-covers
returns-clause-covers g c = covers_all _ _ _ c.args.graph.now.arcs c.args.leaving.now c.args.place c.args.table.now c.loop-k.row c.loop-k.k c.requires.leaving (omega arith) c.loop-k.invariant.covers

pub loop-k-init : goal.loop-k-init
loop-k-init g c =
    let moves = λ (step : g.row.R-Step.Denot). g.C.Coarse.moves (g.C.Coarse.move_of c.args.coarse.now step) in
    let count = g.C.Coarse.count c.args.coarse.now in
    let kept = c.begin_row.ensures.kept in
    record {
      between = begins_between moves count c.args.graph.now.places c.args.place c.args.graph.now.arcs c.args.leaving.now c.args.table.now c.args.row.now c.begin_row.new.row c.passing-passed.result c.requires.inside c.requires.wide c.begin_row.auto.row c.requires.last c.passing-passed.ensures.passing kept
          c.requires.between c.begin_row.ensures.between;
      from = begins_from moves count c.args.graph.now.places c.args.place c.args.graph.now.arcs c.args.leaving.now c.args.table.now c.args.row.now c.begin_row.new.row c.passing-passed.result c.requires.inside c.requires.wide c.begin_row.auto.row c.requires.last c.passing-passed.ensures.passing kept
          c.requires.leaving c.passing-passed.ensures.within c.begin_row.ensures.value;
      covers = begins_covers moves count c.args.graph.now.places c.args.place c.args.graph.now.arcs c.args.leaving.now c.args.table.now c.args.row.now c.begin_row.new.row c.passing-passed.result c.requires.inside c.requires.wide c.begin_row.auto.row c.requires.last c.passing-passed.ensures.passing kept;
    }
