use Rattle.std.proofs.Common.{◌≡◌, ◌+◌, ◌*◌, ◌≤◌, ◌∙◌, ap, sym, subst, length, refl, ℕ, arith, map}
use Rattle.std.specs.Prelude.{All, slice_index_or}
use Rattle.label_setter.specs.Graphs.{FitsPlaces}
use Rattle.line_lens.specs.LineGraphs.{added_by}
use Rattle.take_graphs.specs.TakeLabels.{TakeStepOf}
use Rattle.line_lens.proofs.ItemOrder.{flights_few, items_few}
use Rattle.line_lens.proofs.Reserving.{chart_fewer}
use Rattle.take_graphs.proofs.TakeReserving.{take_room}
use Rattle.take_graphs.proofs.TakesOfLines.{is_take_graph}
use Rattle.take_graphs.proofs.take_lines.fill_takes.Goals as goal

pub returns-in_err-fill_chart-clause-room : goal.returns-in_err-fill_chart-clause-room
returns-in_err-fill_chart-clause-room g c = λ pairings room. take_room pairings c.args.parts.now _ (c.fill_chart.ensures.room pairings room.chart) (omega arith) (omega arith) (omega arith) (omega arith) room

pub returns-in_err-fill_chart-clause-calm : goal.returns-in_err-fill_chart-clause-calm
returns-in_err-fill_chart-clause-calm g c = λ pairings le room fails.
    c.fill_chart.ensures.calm (chart_fewer (length c.args.problem.now.base.pairings) pairings c.args.parts.now.desk le room.chart) (rw c.in_err-fill_chart.was refl)

pub returns-in_err-places-clause-room : goal.returns-in_err-places-clause-room
returns-in_err-places-clause-room g c = λ pairings room.
    c.fill_arcs.ensures.room pairings (take_room pairings c.args.parts.now _ (c.fill_chart.ensures.room pairings room.chart) (omega arith) (omega arith) (omega arith) (omega arith) room)

pub returns-in_err-places-clause-calm : goal.returns-in_err-places-clause-calm
returns-in_err-places-clause-calm g c = λ pairings le room fails.
    let few = flights_few c.args.problem.now c.args.member c.args.lens.now in
    let count = c.in_ok-fill_chart.ensures.items.count in
    let long = c.in_ok-fill_chart.ensures.chart.are.long in
    c.fill_arcs.ensures.calm pairings (take_room pairings c.args.parts.now _ (c.fill_chart.ensures.room pairings room.chart) (omega arith) (omega arith) (omega arith) (omega arith) room)
    (omega (arith, few, count, long, le)) (omega (arith, few, count, le)) (rw c.in_err-places.was refl)

pub returns-clause-room : goal.returns-clause-room
returns-clause-room g c = λ pairings room.
    c.fill_arcs.ensures.room pairings (take_room pairings c.args.parts.now _ (c.fill_chart.ensures.room pairings room.chart) (omega arith) (omega arith) (omega arith) (omega arith) room)

pub returns-clause-graph : goal.returns-clause-graph
returns-clause-graph g c =
    let fewer = items_few c.args.problem.now c.args.member c.args.lens.now in
    let count = c.in_ok-fill_chart.ensures.items.count in
    let many = c.in_ok-fill_chart.ensures.chart.are.long in
    let long = c.in_ok-places.ensures.places in
    let most = c.in_ok-places.ensures.few in
    record {
      two = omega (arith, count, many, long);
      most = omega (arith, fewer, count, many, long);
      arcs_fit = subst (λ n. All (FitsPlaces n) c.fill_arcs.new.parts.arcs.items) (sym long) c.in_ok-places.ensures.fit;
      few = omega (arith, most, fewer, count, many);
    }

pub returns-clause-places : goal.returns-clause-places
returns-clause-places g c =
    let count = c.in_ok-fill_chart.ensures.items.count in
    let many = c.in_ok-fill_chart.ensures.chart.are.long in
    let long = c.in_ok-places.ensures.places in
    omega (arith, count, many, long)

pub returns-clause-caps : goal.returns-clause-caps
returns-clause-caps g c = λ number arc here. ap (λ (s : TakeStepOf g.row.N). s.0.cap) (c.in_ok-places.ensures.arcs.steps number arc here) ∙ c.in_ok-fill_chart.ensures.chart.most_credit

pub returns-clause-stands : goal.returns-clause-stands
returns-clause-stands g c =
    let problem = c.args.problem.now in
    let count : c.len.result ≡ length problem.base.pairings = omega arith in
    let chart = c.fill_chart.new.desk.chart in
    let items = c.fill_chart.new.desk.items.items in
    let order = c.in_ok-fill_chart.ensures.items in
    let charted = c.in_ok-fill_chart.ensures.chart in
    let long : c.in_ok-places.places ≡ length chart.places.items = c.in_ok-places.ensures.places in
    let adds : c.fill_arcs.new.parts.adds.items ≡ map (λ t. slice_index_or (map (added_by (length problem.base.pairings)) items) t (length problem.base.pairings)) c.fill_arcs.new.parts.taken.items =
    c.in_ok-places.ensures.adds ∙ ap (λ (n : ℕ). map (λ t. slice_index_or (map (added_by n) items) t n) c.fill_arcs.new.parts.taken.items) count in
    let most = c.in_ok-places.ensures.few in
    let few : length c.fill_arcs.new.parts.arcs.items + 3 ≤ 2 * c.in_ok-places.places = omega (arith, most, long) in
    let is = is_take_graph {N = g.row.N} problem c.args.member c.args.node.now c.args.lens.now c.args.terms.now c.args.weights.now
    c.requires.per_pairing c.requires.lens c.requires.plain c.requires.terms c.requires.none c.requires.windows c.requires.node items order chart charted
    c.take_start.result.second.first.bits c.take_start.ensures.bits c.end_label.result.1.0 c.end_label.ensures.bids
    (record { places = c.in_ok-places.places; start = c.take_start.result; end = c.end_label.result; arcs = c.fill_arcs.new.parts.arcs.items }) long c.take_start.ensures.start c.end_label.ensures.end
    c.fill_arcs.new.parts.taken.items c.in_ok-places.ensures.arcs c.fill_arcs.new.parts.adds.items adds few in
    is.stands_for

pub returns-clause-drawn : goal.returns-clause-drawn
returns-clause-drawn g c =
    let problem = c.args.problem.now in
    let count : c.len.result ≡ length problem.base.pairings = omega arith in
    let items = c.fill_chart.new.desk.items.items in
    let adds : c.fill_arcs.new.parts.adds.items ≡ map (λ t. slice_index_or (map (added_by (length problem.base.pairings)) items) t (length problem.base.pairings)) c.fill_arcs.new.parts.taken.items =
    c.in_ok-places.ensures.adds ∙ ap (λ (n : ℕ). map (λ t. slice_index_or (map (added_by n) items) t n) c.fill_arcs.new.parts.taken.items) count in
    record {
      items = items;
      order = c.in_ok-fill_chart.ensures.items;
      chart = c.fill_chart.new.desk.chart;
      charted = c.in_ok-fill_chart.ensures.chart;
      places = c.in_ok-places.ensures.places ∙ c.in_ok-fill_chart.ensures.chart.are.long;
      taken = c.fill_arcs.new.parts.taken.items;
      arcs = c.in_ok-places.ensures.arcs;
      start_bits = c.take_start.ensures.bits;
      start = c.take_start.ensures.start;
      end_bids = c.end_label.ensures.bids;
      end_is = c.end_label.ensures.end;
      added = adds;
    }

pub returns-clause-few : goal.returns-clause-few
returns-clause-few g c =
    let problem = c.args.problem.now in
    let count : c.len.result ≡ length problem.base.pairings = omega arith in
    let chart = c.fill_chart.new.desk.chart in
    let items = c.fill_chart.new.desk.items.items in
    let order = c.in_ok-fill_chart.ensures.items in
    let charted = c.in_ok-fill_chart.ensures.chart in
    let long : c.in_ok-places.places ≡ length chart.places.items = c.in_ok-places.ensures.places in
    let adds : c.fill_arcs.new.parts.adds.items ≡ map (λ t. slice_index_or (map (added_by (length problem.base.pairings)) items) t (length problem.base.pairings)) c.fill_arcs.new.parts.taken.items =
    c.in_ok-places.ensures.adds ∙ ap (λ (n : ℕ). map (λ t. slice_index_or (map (added_by n) items) t n) c.fill_arcs.new.parts.taken.items) count in
    let most = c.in_ok-places.ensures.few in
    let few : length c.fill_arcs.new.parts.arcs.items + 3 ≤ 2 * c.in_ok-places.places = omega (arith, most, long) in
    let is = is_take_graph {N = g.row.N} problem c.args.member c.args.node.now c.args.lens.now c.args.terms.now c.args.weights.now
    c.requires.per_pairing c.requires.lens c.requires.plain c.requires.terms c.requires.none c.requires.windows c.requires.node items order chart charted
    c.take_start.result.second.first.bits c.take_start.ensures.bits c.end_label.result.1.0 c.end_label.ensures.bids
    (record { places = c.in_ok-places.places; start = c.take_start.result; end = c.end_label.result; arcs = c.fill_arcs.new.parts.arcs.items }) long c.take_start.ensures.start c.end_label.ensures.end
    c.fill_arcs.new.parts.taken.items c.in_ok-places.ensures.arcs c.fill_arcs.new.parts.adds.items adds few in
    is.few_ways

pub returns-clause-labels : goal.returns-clause-labels
returns-clause-labels g c =
    let problem = c.args.problem.now in
    let count : c.len.result ≡ length problem.base.pairings = omega arith in
    let chart = c.fill_chart.new.desk.chart in
    let items = c.fill_chart.new.desk.items.items in
    let order = c.in_ok-fill_chart.ensures.items in
    let charted = c.in_ok-fill_chart.ensures.chart in
    let long : c.in_ok-places.places ≡ length chart.places.items = c.in_ok-places.ensures.places in
    let adds : c.fill_arcs.new.parts.adds.items ≡ map (λ t. slice_index_or (map (added_by (length problem.base.pairings)) items) t (length problem.base.pairings)) c.fill_arcs.new.parts.taken.items =
    c.in_ok-places.ensures.adds ∙ ap (λ (n : ℕ). map (λ t. slice_index_or (map (added_by n) items) t n) c.fill_arcs.new.parts.taken.items) count in
    let most = c.in_ok-places.ensures.few in
    let few : length c.fill_arcs.new.parts.arcs.items + 3 ≤ 2 * c.in_ok-places.places = omega (arith, most, long) in
    let is = is_take_graph {N = g.row.N} problem c.args.member c.args.node.now c.args.lens.now c.args.terms.now c.args.weights.now
    c.requires.per_pairing c.requires.lens c.requires.plain c.requires.terms c.requires.none c.requires.windows c.requires.node items order chart charted
    c.take_start.result.second.first.bits c.take_start.ensures.bits c.end_label.result.1.0 c.end_label.ensures.bids
    (record { places = c.in_ok-places.places; start = c.take_start.result; end = c.end_label.result; arcs = c.fill_arcs.new.parts.arcs.items }) long c.take_start.ensures.start c.end_label.ensures.end
    c.fill_arcs.new.parts.taken.items c.in_ok-places.ensures.arcs c.fill_arcs.new.parts.adds.items adds few in
    is.labels
