use Rattle.std.proofs.Common.{◌≡◌, ◌<◌, ◌-◌, ◌∙◌, List, length, arith, rules, refl, ap, FitsSigned, w64, Err}
use Rattle.std.specs.Prelude.{slice_range}
use Rattle.std.proofs.lemmas.Int.{to_z-of_z}
use Rattle.std.proofs.lemmas.Option.{slice_get_read}
use Rattle.label_setter.specs.declared.labels.Label.{Label}
use Rattle.label_setter.specs.Arenas.{rows_in}
use Rattle.label_setter.proofs.ArrivingArcs.{fits_any}
use Rattle.label_setter.proofs.RoomLemmas.{same_error}
use Rattle.label_setter.proofs.Rows.{rows_length, row_read}
use Rattle.label_setter.proofs.Theorem.{attained_by, greatest_of, none_of}
use Rattle.label_setter.proofs.traces.fill_chain.Goals as goal

pub returns-in_err-fill_labels-clause-full : goal.returns-in_err-fill_labels-clause-full
returns-in_err-fill_labels-clause-full g c = λ stops.
    let full = same_error c.from_residual.result _ _ c.from_residual.ensures.1 stops in
    c.fill_labels.ensures.full (c.in_err-fill_labels.was ∙ ap Err full)

pub returns-in_err-fill_labels-clause-calm : goal.returns-in_err-fill_labels-clause-calm
returns-in_err-fill_labels-clause-calm g c = λ r room stops.
    let none = same_error c.from_residual.result _ _ c.from_residual.ensures.1 stops in
    c.fill_labels.ensures.calm r (c.in_err-fill_labels.was ∙ ap Err none)

pub returns-in_default-clause-none : goal.returns-in_default-clause-none
returns-in_default-clause-none g c =
    let two = c.requires.graph.two in
    let count = c.in_ok-fill_labels.ensures.count in
    let table = c.in_ok-fill_labels.ensures.labels in
    let labels = c.fill_labels.new.desk.labels.items in
    let rows = c.fill_labels.new.desk.rows.items in
    let row = c.index.result.now in
    let within : c.args.places - 1 < length rows = omega (arith, two, count) in
    let sink : List (Label g.row.R.Denot) = slice_range labels row.first row.end in
    let sink_is = row_read labels rows (c.args.places - 1) row (slice_get_read rows _ (c.args.places - 1) row refl within c.index.ensures) in
    let whole : c.row_of-row.result.now ≡ sink = c.row_of-row.ensures.row ∙ ap (λ (ls : List (Label g.row.R.Denot)). slice_range ls row.first row.end) c.deref.ensures.value in
    let nothing = rw whole at c.in_default.ensures.best in
    λ sought seeks. none_of g.met.R.Lattice.lattice_laws g.met.R.Resource.resource_laws (g.P.Sieve.passes c.args.sieve.now) (record { places = c.args.places; start = c.args.start; end = c.args.end.now; arcs = c.args.arcs.now }) (rows_in labels rows) (rows_length labels rows ∙ count) c.requires.graph table sink sink_is sought seeks nothing

pub fill_arcs-requires-clause-arcs : goal.fill_arcs-requires-clause-arcs
fill_arcs-requires-clause-arcs g c = fits_any c.args.places c.args.arcs.now c.requires.graph

pub fill_arcs-requires-clause-rows : goal.fill_arcs-requires-clause-rows
fill_arcs-requires-clause-rows g c = rw (c.deref-2.ensures.value, c.deref-3.ensures.value) c.in_ok-fill_labels.ensures.rows

pub fill_arcs-requires-clause-kept : goal.fill_arcs-requires-clause-kept
fill_arcs-requires-clause-kept g c =
    let two = c.requires.graph.two in
    let count = c.in_ok-fill_labels.ensures.count in
    let table = c.in_ok-fill_labels.ensures.labels in
    let labels = c.fill_labels.new.desk.labels.items in
    let rows = c.fill_labels.new.desk.rows.items in
    let row = c.index.result.now in
    let within : c.args.places - 1 < length rows = omega (arith, two, count) in
    let sink : List (Label g.row.R.Denot) = slice_range labels row.first row.end in
    let sink_is = row_read labels rows (c.args.places - 1) row (slice_get_read rows _ (c.args.places - 1) row refl within c.index.ensures) in
    let whole : c.row_of-row.result.now ≡ sink = c.row_of-row.ensures.row ∙ ap (λ (ls : List (Label g.row.R.Denot)). slice_range ls row.first row.end) c.deref.ensures.value in
    let best = rw whole at c.in-Some.ensures.best in
    rw (c.deref-2.ensures.value, c.deref-3.ensures.value) (sink, sink_is, best.stands)

pub returns-clause-attained : goal.returns-clause-attained
returns-clause-attained g c =
    let two = c.requires.graph.two in
    let count = c.in_ok-fill_labels.ensures.count in
    let table = c.in_ok-fill_labels.ensures.labels in
    let labels = c.fill_labels.new.desk.labels.items in
    let rows = c.fill_labels.new.desk.rows.items in
    let row = c.index.result.now in
    let within : c.args.places - 1 < length rows = omega (arith, two, count) in
    let sink : List (Label g.row.R.Denot) = slice_range labels row.first row.end in
    let sink_is = row_read labels rows (c.args.places - 1) row (slice_get_read rows _ (c.args.places - 1) row refl within c.index.ensures) in
    let whole : c.row_of-row.result.now ≡ sink = c.row_of-row.ensures.row ∙ ap (λ (ls : List (Label g.row.R.Denot)). slice_range ls row.first row.end) c.deref.ensures.value in
    let best = rw whole at c.in-Some.ensures.best in
    let range : FitsSigned w64 c.in-Some.best.gain = search rules in
    let ways = rw (c.deref-2.ensures.value, c.deref-3.ensures.value) at c.in_ok-fill_arcs.ensures.way in
    let exact = to_z-of_z w64 c.in-Some.best.gain range in
    attained_by g.R.Resource.extend g.R.Resource.done (record { places = c.args.places; start = c.args.start; end = c.args.end.now; arcs = c.args.arcs.now }) c.in-Some.best _ c.fill_arcs.new.numbers.items exact best.is_done (ways (g.P.Sieve.passes c.args.sieve.now) c.args.start table)

pub returns-clause-greatest : goal.returns-clause-greatest
returns-clause-greatest g c =
    let two = c.requires.graph.two in
    let count = c.in_ok-fill_labels.ensures.count in
    let table = c.in_ok-fill_labels.ensures.labels in
    let labels = c.fill_labels.new.desk.labels.items in
    let rows = c.fill_labels.new.desk.rows.items in
    let row = c.index.result.now in
    let within : c.args.places - 1 < length rows = omega (arith, two, count) in
    let sink : List (Label g.row.R.Denot) = slice_range labels row.first row.end in
    let sink_is = row_read labels rows (c.args.places - 1) row (slice_get_read rows _ (c.args.places - 1) row refl within c.index.ensures) in
    let whole : c.row_of-row.result.now ≡ sink = c.row_of-row.ensures.row ∙ ap (λ (ls : List (Label g.row.R.Denot)). slice_range ls row.first row.end) c.deref.ensures.value in
    let best = rw whole at c.in-Some.ensures.best in
    let range : FitsSigned w64 c.in-Some.best.gain = search rules in
    rw (to_z-of_z) (λ sought seeks. greatest_of g.met.R.Lattice.lattice_laws g.met.R.Resource.resource_laws (g.P.Sieve.passes c.args.sieve.now) (record { places = c.args.places; start = c.args.start; end = c.args.end.now; arcs = c.args.arcs.now }) (rows_in labels rows) (rows_length labels rows ∙ count) c.requires.graph table sink sink_is sought seeks c.in-Some.best best)
