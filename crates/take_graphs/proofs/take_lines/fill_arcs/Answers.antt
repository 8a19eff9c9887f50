use Rattle.std.proofs.Common.{◌∙◌, ℕ, List, ap, arith, length, map, refl}
use Rattle.std.specs.Prelude.{slice_index_or}
use Rattle.line_lens.specs.LineGraphs.{added_by}
use Rattle.line_lens.proofs.GraphOfLines.{may_within}
use Rattle.take_graphs.proofs.TakeReserving.{take_room}
use Rattle.take_graphs.proofs.take_lines.fill_arcs.Goals as goal

pub join_choices-requires-clause-inside : goal.join_choices-requires-clause-inside
join_choices-requires-clause-inside g c = let two = c.requires.two in may_within c.args.parts.now.desk.chart (omega arith)

pub returns-in_err-join_choices-clause-calm : goal.returns-in_err-join_choices-clause-calm
returns-in_err-join_choices-clause-calm g c = λ pairings room few items fails.
    let arcs = room.arcs in
    let taken = room.taken in
    c.join_choices.ensures.calm (omega (arith, arcs, few)) (omega (arith, taken, few)) (rw c.in_err-join_choices.was refl)

pub returns-in_err-fill_adds-clause-calm : goal.returns-in_err-fill_adds-clause-calm
returns-in_err-fill_adds-clause-calm g c = λ pairings room few items fails.
    let places = room.places in
    let lent = ap length c.deref.ensures.value in
    c.fill_adds.ensures.calm (omega (arith, places, items, lent)) (rw c.in_err-fill_adds.was refl)

pub returns-in_err-fill_arc_adds-clause-calm : goal.returns-in_err-fill_arc_adds-clause-calm
returns-in_err-fill_arc_adds-clause-calm g c = λ pairings room few items fails.
    let adds = room.adds in
    let lent = ap length c.deref-3.ensures.value in
    let long = c.in_ok-join_choices.ensures.arcs.long in
    let most = c.in_ok-join_choices.ensures.few in
    c.fill_arc_adds.ensures.calm (omega (arith, adds, few, lent, long, most)) (rw c.in_err-fill_arc_adds.was refl)

pub returns-clause-adds : goal.returns-clause-adds
returns-clause-adds g c =
    c.in_ok-fill_arc_adds.ensures.adds
    ∙ ap (λ (xs : List ℕ). map (λ t. slice_index_or xs t c.args.count) c.deref-3.result.now) (c.deref-2.ensures.value ∙ c.in_ok-fill_adds.ensures.adds ∙ ap (map (added_by c.args.count)) c.deref.ensures.value)
    ∙ ap (map (λ t. slice_index_or (map (added_by c.args.count) c.args.parts.now.desk.items.items) t c.args.count)) c.deref-3.ensures.value

pub returns-in_err-join_choices-clause-room : goal.returns-in_err-join_choices-clause-room
returns-in_err-join_choices-clause-room g c = λ pairings room. take_room pairings c.args.parts.now _ room.chart c.join_choices.ensures.arcs_kept c.join_choices.ensures.taken_kept (omega arith) (omega arith) room

pub returns-in_err-fill_adds-clause-room : goal.returns-in_err-fill_adds-clause-room
returns-in_err-fill_adds-clause-room g c = λ pairings room. take_room pairings c.args.parts.now _ room.chart c.join_choices.ensures.arcs_kept c.join_choices.ensures.taken_kept c.fill_adds.ensures.capacity (omega arith) room

pub returns-in_err-fill_arc_adds-clause-room : goal.returns-in_err-fill_arc_adds-clause-room
returns-in_err-fill_arc_adds-clause-room g c = λ pairings room. take_room pairings c.args.parts.now _ room.chart c.join_choices.ensures.arcs_kept c.join_choices.ensures.taken_kept c.fill_adds.ensures.capacity c.fill_arc_adds.ensures.capacity room

pub returns-clause-room : goal.returns-clause-room
returns-clause-room g c = λ pairings room. take_room pairings c.args.parts.now _ room.chart c.join_choices.ensures.arcs_kept c.join_choices.ensures.taken_kept c.fill_adds.ensures.capacity c.fill_arc_adds.ensures.capacity room
