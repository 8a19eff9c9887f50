use Rattle.std.proofs.Common.{◌≡◌, ◌≤◌, ◌+◌, ◌-◌, ℕ, List, length, arith, get_or, sym, subst, ap, refl, ◌∙◌, Some, Err, [], ◌∷◌, ◌++◌, length-append}
use Rattle.std.specs.Prelude.{slice_range}
use Rattle.std.proofs.lemmas.Option.{slice_get-get_or}
use Rattle.std.proofs.lemmas.List.Elements.{All-weaker}
use Rattle.label_setter.specs.Arrivals.{Arriving}
use Rattle.label_setter.specs.Labels.{GainWithin}
use Rattle.label_setter.specs.Arenas.{rows_in}
use Rattle.label_setter.specs.Orders.{IsUpTo}
use Rattle.label_setter.specs.declared.labels.Label.{Label}
use Rattle.label_setter.specs.declared.table.Row.{Row}
use Rattle.label_setter.proofs.ArrivingArcs.{fits_any, steps_within}
use Rattle.label_setter.proofs.Crowds.{standing, standing_one, standing_more, place_over, first_over}
use Rattle.label_setter.proofs.Ordering.{order_long, range_long, starts}
use Rattle.label_setter.proofs.RoomLemmas.{bounded_more, left_more, reserved_by, same_error, serves_left}
use Rattle.label_setter.proofs.Rows.{rows_length, rows_lent, PlaceOver-lent, PlaceLabels-lent}
use Rattle.label_setter.proofs.StepCount.{steps_here}
use Rattle.label_setter.proofs.TableRows.{GraphLabels-start, GraphLabels-more, GainWithin-more}
use Rattle.label_setter.proofs.table.fill_labels.Goals as goal

pub returns-in_err-start_spot-clause-full : goal.returns-in_err-start_spot-clause-full
returns-in_err-start_spot-clause-full g c = λ stops.
    let full = same_error c.from_residual-in_err-start_spot.result _ _ c.from_residual-in_err-start_spot.ensures.1 stops in
    first_over g.R.Lattice.below g.R.Resource.extend c.args.start c.args.arcs.now c.args.room (c.start_spot.ensures.full (c.in_err-start_spot.was ∙ ap Err full))

pub loop-place-init : goal.loop-place-init
loop-place-init g c =
    let here : List (Label g.row.R.Denot) = c.start_spot.new.spot.here.items in
    let added : rows_in c.add_row.new.labels.items c.add_row.new.rows.items ≡ here ∷ [] =
    c.in_ok-add_row.ensures.added ∙ (ap (λ (rs : List Row). rows_in c.clear.new.self.items rs ++ c.deref.result.now ∷ []) c.clear-2.ensures.items ∙ ap (λ (h : List (Label g.row.R.Denot)). h ∷ []) c.deref.ensures.value) in
    let counts : c.len.result ≡ length here = omega arith in
    let lent : length c.deref.result.now ≡ length here = ap length c.deref.ensures.value in
    let none = ap length c.clear.ensures.items in
    let total : length c.add_row.new.labels.items ≡ length here = (let more = c.in_ok-add_row.ensures.more in omega (arith, more, lent, none)) in
    record {
      labels = rw added (GraphLabels-start _ _ _ _ _ here c.in_ok-start_spot.ensures.first (fits_any c.args.places c.args.arcs.now c.requires.graph));
      count = sym (rows_length c.add_row.new.labels.items c.add_row.new.rows.items) ∙ ap length added;
      rows = c.in_ok-add_row.ensures.rows;
      left = λ free is.
          let alone = standing_one 0 here in
          let one : c.len.result ≡ length (standing 0 (here ∷ [])) = omega (arith, alone) in
          rw added (subst (λ n. c.args.room ≡ Some (free + n)) one (c.left_beside-left.ensures.left free is));
      bounded = λ most is.
          let same : c.len.result ≡ length c.add_row.new.labels.items = omega (arith, counts, total) in
          let few = c.in_ok-start_spot.ensures.within most is in
          (subst (λ n. c.left_beside-left.result ≡ Some (most - n)) same (c.left_beside-left.ensures.some most is), omega (arith, total, few));
      some = let most = c.start_spot.ensures.most in let some = c.requires.some in omega arith;
      order = c.in_ok-fill_order.ensures.order;
      up_to = starts c.args.arcs.now c.fill_order.new.order.items c.in_ok-fill_order.ensures.order (fits_any c.args.places c.args.arcs.now c.requires.graph);
      steps = λ most few. omega arith;
      serves = λ any s. c.start_spot.ensures.serves any s;
      labels_kept = let more = c.add_row.ensures.labels_kept in omega arith;
      rows_kept = let more = c.add_row.ensures.rows_kept in omega arith;
      order_kept = let more = c.fill_order.ensures.capacity in omega arith;
    }

pub labels_at-requires-clause-arcs : goal.labels_at-requires-clause-arcs
labels_at-requires-clause-arcs g c = fits_any c.args.places c.args.arcs.now c.requires.graph

pub labels_at-requires-clause-place : goal.labels_at-requires-clause-place
labels_at-requires-clause-place g c = ap length c.deref-in-loop-place-4.ensures.value ∙ c.loop-place.invariant.count

pub labels_at-requires-clause-rows : goal.labels_at-requires-clause-rows
labels_at-requires-clause-rows g c = rw (c.deref-in-loop-place-3.ensures.value, c.deref-in-loop-place-4.ensures.value) c.loop-place.invariant.rows

pub labels_at-requires-clause-arriving : goal.labels_at-requires-clause-arriving
labels_at-requires-clause-arriving g c =
    let fit = fits_any c.args.places c.args.arcs.now c.requires.graph in
    let end = c.run_end-end.result in
    let next = c.loop-place.next in
    let order : List ℕ = c.loop-place.desk.order.items in
    let run : c.run_of.result.now ≡ slice_range order next end = c.run_of.ensures.run ∙ ap (λ (xs : List ℕ). slice_range xs next end) c.deref-in-loop-place-2.ensures.value in
    let ups : IsUpTo c.args.arcs.now order end (c.loop-place.place + 1) = rw c.deref-in-loop-place.ensures.value at c.run_end-end.ensures.up_to in
    let ordered = c.run_end-end.ensures.ordered in
    let long : length c.run_of.result.now ≡ end - next = ap length run ∙ range_long order next end ups.within in
    let whole = order_long c.args.arcs.now order c.loop-place.invariant.order in
    let inside = ups.within in
    let place : length c.deref-in-loop-place-4.result.now ≡ c.loop-place.place = ap length c.deref-in-loop-place-4.ensures.value ∙ c.loop-place.invariant.count in
    let arriving : Arriving c.args.arcs.now c.loop-place.place (slice_range order next end) = rw c.deref-in-loop-place.ensures.value at c.run_end-end.ensures.arriving in
    rw (place, run) arriving.right

pub labels_at-requires-clause-gains : goal.labels_at-requires-clause-gains
labels_at-requires-clause-gains g c = rw (c.deref-in-loop-place-3.ensures.value, c.deref-in-loop-place-4.ensures.value)
    (λ k d within.
    let below : k ≤ 2000 = (let count = c.loop-place.invariant.count in let most = c.requires.graph.most in let test = c.loop-place-test.true in let same = rows_length c.loop-place.desk.labels.items c.loop-place.desk.rows.items in omega (arith, within, same)) in
    let row = get_or (rows_in c.loop-place.desk.labels.items c.loop-place.desk.rows.items) k d in
    All-weaker (GainWithin k) (GainWithin 2000) (λ x h. GainWithin-more k 2000 x below h) row
    (c.loop-place.invariant.labels.gains k row (slice_get-get_or (rows_in c.loop-place.desk.labels.items c.loop-place.desk.rows.items) k d within)))

pub returns-in_err-labels_at-clause-full : goal.returns-in_err-labels_at-clause-full
returns-in_err-labels_at-clause-full g c = λ stops.
    let full = same_error c.from_residual-in_err-labels_at.result _ _ c.from_residual-in_err-labels_at.ensures.1 stops in
    place_over g.R.Lattice.below g.R.Resource.extend c.args.start c.args.arcs.now (g.P.Sieve.passes c.args.sieve.now) (rows_in c.loop-place.desk.labels.items c.loop-place.desk.rows.items) (fits_any c.args.places c.args.arcs.now c.requires.graph) c.loop-place.invariant.labels c.args.room c.loop-place.left c.loop-place.invariant.left
    (PlaceOver-lent _ _ _ _ _ _ _ c.deref-in-loop-place-3.ensures.value c.deref-in-loop-place-4.ensures.value c.loop-place.left (c.labels_at.ensures.full (c.in_err-labels_at.was ∙ ap Err full)))

pub returns-in_err-labels_at-clause-steps : goal.returns-in_err-labels_at-clause-steps
returns-in_err-labels_at-clause-steps g c =
    let fit = fits_any c.args.places c.args.arcs.now c.requires.graph in
    let end = c.run_end-end.result in
    let next = c.loop-place.next in
    let order : List ℕ = c.loop-place.desk.order.items in
    let run : c.run_of.result.now ≡ slice_range order next end = c.run_of.ensures.run ∙ ap (λ (xs : List ℕ). slice_range xs next end) c.deref-in-loop-place-2.ensures.value in
    let ups : IsUpTo c.args.arcs.now order end (c.loop-place.place + 1) = rw c.deref-in-loop-place.ensures.value at c.run_end-end.ensures.up_to in
    let ordered = c.run_end-end.ensures.ordered in
    let long : length c.run_of.result.now ≡ end - next = ap length run ∙ range_long order next end ups.within in
    let whole = order_long c.args.arcs.now order c.loop-place.invariant.order in
    let inside = ups.within in
    λ most few. steps_within _ _ most end (length c.args.arcs.now) (steps_here g.R.Lattice.below g.R.Resource.extend (g.P.Sieve.passes c.args.sieve.now) c.args.start c.args.arcs.now (rows_in c.loop-place.desk.labels.items c.loop-place.desk.rows.items) (rows_in c.deref-in-loop-place-3.result.now c.deref-in-loop-place-4.result.now) fit c.loop-place.invariant.labels
    next (length c.run_of.result.now) end _ _ _ most few (rows_lent g.R.Lattice.below g.R.Resource.extend c.args.arcs.now _ _ _ _ c.deref-in-loop-place-3.ensures.value c.deref-in-loop-place-4.ensures.value) (omega (arith, long, ordered)) (c.loop-place.invariant.steps most few) (c.labels_at.ensures.steps most)) (omega (arith, whole, inside))

pub returns-in_err-labels_at-clause-reserved : goal.returns-in_err-labels_at-clause-reserved
returns-in_err-labels_at-clause-reserved g c = λ p a r.
    reserved_by c.args.room p a c.args.desk.now _ (λ any s. c.labels_at.ensures.serves any (c.loop-place.invariant.serves any s)) c.loop-place.invariant.labels_kept c.loop-place.invariant.rows_kept c.loop-place.invariant.order_kept r

pub returns-in_err-labels_at-clause-calm : goal.returns-in_err-labels_at-clause-calm
returns-in_err-labels_at-clause-calm g c = λ r stops.
    let none = same_error c.from_residual-in_err-labels_at.result _ _ c.from_residual-in_err-labels_at.ensures.1 stops in
    c.labels_at.ensures.calm (serves_left c.args.room c.loop-place.left (length c.loop-place.desk.labels.items) c.loop-place.desk.spot c.loop-place.invariant.bounded (c.loop-place.invariant.serves c.args.room r.serves))
    (c.in_err-labels_at.was ∙ ap Err none)

pub left_beside-left-requires-in-loop-place : goal.left_beside-left-requires-in-loop-place
left_beside-left-requires-in-loop-place g c = record { room = λ room is. let fits = c.in_ok-labels_at.ensures.room room is in omega arith }

pub returns-in_err-add_row-2-clause-steps : goal.returns-in_err-add_row-2-clause-steps
returns-in_err-add_row-2-clause-steps g c =
    let fit = fits_any c.args.places c.args.arcs.now c.requires.graph in
    let end = c.run_end-end.result in
    let next = c.loop-place.next in
    let order : List ℕ = c.loop-place.desk.order.items in
    let run : c.run_of.result.now ≡ slice_range order next end = c.run_of.ensures.run ∙ ap (λ (xs : List ℕ). slice_range xs next end) c.deref-in-loop-place-2.ensures.value in
    let ups : IsUpTo c.args.arcs.now order end (c.loop-place.place + 1) = rw c.deref-in-loop-place.ensures.value at c.run_end-end.ensures.up_to in
    let ordered = c.run_end-end.ensures.ordered in
    let long : length c.run_of.result.now ≡ end - next = ap length run ∙ range_long order next end ups.within in
    let whole = order_long c.args.arcs.now order c.loop-place.invariant.order in
    let inside = ups.within in
    λ most few. steps_within _ _ most end (length c.args.arcs.now) (steps_here g.R.Lattice.below g.R.Resource.extend (g.P.Sieve.passes c.args.sieve.now) c.args.start c.args.arcs.now (rows_in c.loop-place.desk.labels.items c.loop-place.desk.rows.items) (rows_in c.deref-in-loop-place-3.result.now c.deref-in-loop-place-4.result.now) fit c.loop-place.invariant.labels
    next (length c.run_of.result.now) end _ _ _ most few (rows_lent g.R.Lattice.below g.R.Resource.extend c.args.arcs.now _ _ _ _ c.deref-in-loop-place-3.ensures.value c.deref-in-loop-place-4.ensures.value) (omega (arith, long, ordered)) (c.loop-place.invariant.steps most few) (c.labels_at.ensures.steps most)) (omega (arith, whole, inside))

pub returns-in_err-add_row-2-clause-reserved : goal.returns-in_err-add_row-2-clause-reserved
returns-in_err-add_row-2-clause-reserved g c = λ p a r.
    let labels = c.loop-place.invariant.labels_kept in
    let rows = c.loop-place.invariant.rows_kept in
    let more = c.add_row-in-loop-place.ensures.labels_kept in
    let wider = c.add_row-in-loop-place.ensures.rows_kept in
    reserved_by c.args.room p a c.args.desk.now _ (λ any s. c.labels_at.ensures.serves any (c.loop-place.invariant.serves any s)) (omega arith) (omega arith) c.loop-place.invariant.order_kept r

pub returns-in_err-add_row-2-clause-calm : goal.returns-in_err-add_row-2-clause-calm
returns-in_err-add_row-2-clause-calm g c = λ r stops.
    let bounded = c.loop-place.invariant.bounded r.serves.room r.serves.is in
    let few = c.in_ok-labels_at.ensures.room _ bounded.0 in
    let le = bounded.1 in
    let lent = ap length c.deref-in-loop-place-5.ensures.value in
    let room = r.labels r.serves.room r.serves.is in
    let labels = c.loop-place.invariant.labels_kept in
    let rows = c.loop-place.invariant.rows_kept in
    let places = r.rows in
    let count = c.loop-place.invariant.count in
    let test = c.loop-place-test.true in
    c.add_row-in-loop-place.ensures.calm (omega arith) (omega arith) (rw c.in_err-add_row-2.was refl)

pub loop-place-preserved : goal.loop-place-preserved
loop-place-preserved g c =
    let fit = fits_any c.args.places c.args.arcs.now c.requires.graph in
    let end = c.run_end-end.result in
    let next = c.loop-place.next in
    let order : List ℕ = c.loop-place.desk.order.items in
    let run : c.run_of.result.now ≡ slice_range order next end = c.run_of.ensures.run ∙ ap (λ (xs : List ℕ). slice_range xs next end) c.deref-in-loop-place-2.ensures.value in
    let ups : IsUpTo c.args.arcs.now order end (c.loop-place.place + 1) = rw c.deref-in-loop-place.ensures.value at c.run_end-end.ensures.up_to in
    let ordered = c.run_end-end.ensures.ordered in
    let long : length c.run_of.result.now ≡ end - next = ap length run ∙ range_long order next end ups.within in
    let whole = order_long c.args.arcs.now order c.loop-place.invariant.order in
    let inside = ups.within in
    let kept = rows_in c.loop-place.desk.labels.items c.loop-place.desk.rows.items in
    let count = c.loop-place.invariant.count in
    let same_count = rows_length c.loop-place.desk.labels.items c.loop-place.desk.rows.items in
    let later = c.loop-place.auto.place in
    let here : List (Label g.row.R.Denot) = c.labels_at.new.spot.here.items in
    let arriving : Arriving c.args.arcs.now c.loop-place.place (slice_range order next end) = rw c.deref-in-loop-place.ensures.value at c.run_end-end.ensures.arriving in
    let placed = PlaceLabels-lent g.R.Lattice.below g.R.Resource.extend c.args.arcs.now _ _ _ _ c.deref-in-loop-place-3.ensures.value c.deref-in-loop-place-4.ensures.value (g.P.Sieve.passes c.args.sieve.now) c.loop-place.place c.run_of.result.now (slice_range order next end) here run count c.in_ok-labels_at.ensures.labels in
    let lent : length c.deref-in-loop-place-5.result.now ≡ length here = ap length c.deref-in-loop-place-5.ensures.value in
    let counts : c.len-in-loop-place.result ≡ length here = omega arith in
    let added : rows_in c.add_row-in-loop-place.new.labels.items c.add_row-in-loop-place.new.rows.items ≡ kept ++ here ∷ [] =
    c.in_ok-add_row-2.ensures.added ∙ ap (λ (h : List (Label g.row.R.Denot)). kept ++ h ∷ []) c.deref-in-loop-place-5.ensures.value in
    record {
      labels = rw added
          (GraphLabels-more _ _ _ _ c.args.arcs.now kept (slice_range order next end) fit
          (λ number arc is to. arriving.listed number arc is (to ∙ (same_count ∙ count)))
          here (omega arith) placed c.loop-place.invariant.labels);
      count = sym (rows_length c.add_row-in-loop-place.new.labels.items c.add_row-in-loop-place.new.rows.items) ∙ (ap length added ∙ (length-append kept (here ∷ []) ∙ ap (λ n. n + 1) (same_count ∙ count)));
      rows = c.in_ok-add_row-2.ensures.rows;
      left = rw (added, standing_more 0 kept here)
          (left_more c.args.room c.loop-place.left c.left_beside-left-in-loop-place.result (length (standing 0 kept)) (length here) c.loop-place.invariant.left
          (λ free is. subst (λ n. c.loop-place.left ≡ Some (free + n)) counts (c.left_beside-left-in-loop-place.ensures.left free is)));
      bounded = bounded_more c.args.room c.loop-place.left c.left_beside-left-in-loop-place.result (length c.loop-place.desk.labels.items) (length here) (length c.add_row-in-loop-place.new.labels.items)
          (c.in_ok-add_row-2.ensures.more ∙ ap (λ n. length c.loop-place.desk.labels.items + n) lent) c.loop-place.invariant.bounded c.in_ok-labels_at.ensures.room
          (λ most is. subst (λ n. c.left_beside-left-in-loop-place.result ≡ Some (most - n)) counts (c.left_beside-left-in-loop-place.ensures.some most is));
      some = c.in_ok-labels_at.ensures.some;
      order = c.loop-place.invariant.order;
      up_to = ups;
      steps = λ most few. steps_here g.R.Lattice.below g.R.Resource.extend (g.P.Sieve.passes c.args.sieve.now) c.args.start c.args.arcs.now (rows_in c.loop-place.desk.labels.items c.loop-place.desk.rows.items) (rows_in c.deref-in-loop-place-3.result.now c.deref-in-loop-place-4.result.now) fit c.loop-place.invariant.labels
          next (length c.run_of.result.now) end _ _ _ most few (rows_lent g.R.Lattice.below g.R.Resource.extend c.args.arcs.now _ _ _ _ c.deref-in-loop-place-3.ensures.value c.deref-in-loop-place-4.ensures.value) (omega (arith, long, ordered)) (c.loop-place.invariant.steps most few) (c.labels_at.ensures.steps most);
      serves = λ any s. c.labels_at.ensures.serves any (c.loop-place.invariant.serves any s);
      labels_kept = let old = c.loop-place.invariant.labels_kept in let new = c.add_row-in-loop-place.ensures.labels_kept in omega arith;
      rows_kept = let old = c.loop-place.invariant.rows_kept in let new = c.add_row-in-loop-place.ensures.rows_kept in omega arith;
      order_kept = c.loop-place.invariant.order_kept;
    }

pub returns-clause-steps : goal.returns-clause-steps
returns-clause-steps g c = λ most few.
    let whole = order_long c.args.arcs.now c.loop-place.desk.order.items c.loop-place.invariant.order in
    let inside = c.loop-place.invariant.up_to.within in
    steps_within _ _ most c.loop-place.next (length c.args.arcs.now) (c.loop-place.invariant.steps most few) (omega (arith, whole, inside))

pub returns-clause-reserved : goal.returns-clause-reserved
returns-clause-reserved g c = λ p a r.
    reserved_by c.args.room p a c.args.desk.now _ c.loop-place.invariant.serves c.loop-place.invariant.labels_kept c.loop-place.invariant.rows_kept c.loop-place.invariant.order_kept r
