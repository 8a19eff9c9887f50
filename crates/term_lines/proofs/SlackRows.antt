-- How low sums have to be, place by place from the sink backwards.
use Rattle.std.proofs.Common.{◌≡◌, ◌≤◌, ◌<◌, ◌+◌, ◌-◌, ℕ, zero, suc, true, List, [], ◌∷◌, ◌++◌, Option, Some, None, inl, inr, refl, sym, ◌∙◌, ap, subst, arith, get_or, length}
use Rattle.std.specs.Prelude.{All, slice_get}
use Rattle.std.proofs.lemmas.List.{length_push}
use Rattle.std.proofs.lemmas.List.Elements.{All-contains}
use Rattle.std.proofs.lemmas.Option.{get_or_from_slice_get, slice_get-get_or, slice_get_past, slice_get_read, slice_get_within}
use Rattle.label_lattice.specs.Laws.{ExtendsBelow}
use Rattle.label_setter.specs.declared.graph.Arc.{Arc}
use Rattle.label_setter.specs.Chains.{GraphOf}
use Rattle.label_setter.specs.Graphs.{IsGraph}
use Rattle.chain_search.proofs.ListReads.{below_or_at}
use Rattle.chain_search.proofs.Walking.{fits_at}
use Rattle.chain_search.specs.Leavings.{Leaving}
use Rattle.chain_search.specs.Orders.{IsOrder}
use Rattle.take_graphs.specs.TakeLabels.{TakeEndOf, TakeOf, TakeStepOf, take_done, take_extend}
use Rattle.term_lines.specs.declared.slacks.Slack.{Slack}
use Rattle.term_lines.specs.declared.slacks.Slacks.{Slacks}
use Rattle.term_lines.specs.Slacks.{IsBefore, IsBeforeArc, Keeps, row_spares, slack_spares, spares}
use Rattle.term_lines.proofs.SlackLaws.{slack_ends, slack_on}

read_more : {X : Type 0} (xs ys : List X) (k : ℕ) (x : X) → slice_get xs k ≡ Some x → slice_get (xs ++ ys) k ≡ Some x
read_more [] ys k x h = cc
read_more (z ∷ xs) ys zero x h = h
read_more (z ∷ xs) ys (suc k) x h = read_more xs ys k x h

read_last : {X : Type 0} (xs : List X) (x : X) → slice_get (xs ++ x ∷ []) (length xs) ≡ Some x
read_last [] x = refl
read_last (z ∷ xs) x = read_last xs x

any_default : (xs : List ℕ) (k d e : ℕ) → k < length xs → get_or xs k d ≡ get_or xs k e
any_default xs k d e less = get_or_from_slice_get xs k (get_or xs k e) d (slice_get-get_or xs k e less)

same_some : {X : Type 0} (o : Option X) (x y : X) → o ≡ Some x → o ≡ Some y → x ≡ y
same_some o x y p q = cc

not_both : {X : Type 0} (o : Option X) (x : X) → o ≡ None → o ≡ Some x → ⊥
not_both o x p q = cc

module _ {N : ℕ} (arcs : List (Arc (TakeStepOf N))) (rows : List (Slack N)) (sink : ℕ) where
  -- before the first of the arcs
  abbrev pub IsBeforeFirst : List ℕ → ℕ → Slack N → Type 0
  IsBeforeFirst leaving count here = (k d : ℕ) → k < count → IsBeforeArc arcs rows sink here (get_or leaving k d)

  for_more : (leaving : List ℕ) (index : ℕ) (here result : Slack N) (arc : Arc (TakeStepOf N)) → index < length leaving → arc ≡ get_or arcs (get_or leaving index 0) arc
      → Keeps here result
      → ((next : Slack N) → slice_get rows (sink - arc.to) ≡ Some next → IsBefore result next arc.step)
      → IsBeforeFirst leaving index here → IsBeforeFirst leaving (index + 1) result
  for_more leaving index here result arc within read kept new so_far k d less other next is next_is = elim (below_or_at k index less) [
    | inl earlier ↦ kept next other.step (so_far k d earlier other next is next_is)
    | inr now ↦ (
        let at : get_or leaving k d ≡ get_or leaving index 0 = ap (λ n. get_or leaving n d) now ∙ any_default leaving index d 0 within in
        let there : slice_get arcs (get_or leaving index 0) ≡ Some other = subst (λ n. slice_get arcs n ≡ Some other) at is in
        let same : arc ≡ other = read ∙ get_or_from_slice_get arcs (get_or leaving index 0) other arc there in
        subst (λ (a : Arc (TakeStepOf N)). IsBefore result next a.step) same (new next (subst (λ (a : Arc (TakeStepOf N)). slice_get rows (sink - a.to) ≡ Some next) (sym same) next_is)))
  ]

  -- the arc leads to a place whose row is known
  pub for_known : (leaving : List ℕ) (index at : ℕ) (here result next row : Slack N) (arc : Arc (TakeStepOf N)) → index < length leaving → arc ≡ get_or arcs (get_or leaving index 0) arc
      → at ≡ sink - arc.to → at < length rows → row ≡ get_or rows at row → IsBefore result row arc.step
      → Keeps here result
      → next ≡ result → IsBeforeFirst leaving index here → IsBeforeFirst leaving (index + 1) next
  for_known leaving index at here result next row arc within read at_is known row_is before kept is so_far =
      let there : slice_get rows (sink - arc.to) ≡ Some row = subst (λ n. slice_get rows n ≡ Some row) at_is (slice_get_read rows (length rows) at row refl known row_is) in
      subst (IsBeforeFirst leaving (index + 1)) (sym is)
      (for_more leaving index here result arc within read kept (λ other other_is. subst (λ (s : Slack N). IsBefore result s arc.step) (same_some (slice_get rows (sink - arc.to)) row other there other_is) before) so_far)

  pub for_unknown : (leaving : List ℕ) (index at : ℕ) (here next : Slack N) (arc : Arc (TakeStepOf N)) → index < length leaving → arc ≡ get_or arcs (get_or leaving index 0) arc
      → at ≡ sink - arc.to → length rows ≤ at → next ≡ here → IsBeforeFirst leaving index here → IsBeforeFirst leaving (index + 1) next
  for_unknown leaving index at here next arc within read at_is past is so_far =
      let none : slice_get rows (sink - arc.to) ≡ None = subst (λ n. slice_get rows n ≡ None) at_is (slice_get_past rows at past) in
      subst (IsBeforeFirst leaving (index + 1)) (sym is)
      (for_more leaving index here here arc within read (λ other along h. h) (λ other other_is. absurd (not_both (slice_get rows (sink - arc.to)) other none other_is)) so_far)

module _ {N : ℕ} (arcs : List (Arc (TakeStepOf N))) (sink place : ℕ) (leaving : List ℕ) (leaves : Leaving arcs place leaving) where
  pub for_all : (rows read : List (Slack N)) (here : Slack N) → read ≡ rows → All (IsBeforeArc arcs read sink here) leaving
      → (number : ℕ) (arc : Arc (TakeStepOf N)) (next : Slack N) → slice_get arcs number ≡ Some arc → arc.from ≡ place → slice_get rows (sink - arc.to) ≡ Some next → IsBefore here next arc.step
  for_all rows read here same all number arc next is from next_is =
      All-contains (IsBeforeArc arcs read sink here) leaving number all (leaves.listed number arc is from) arc next is (subst (λ (xs : List (Slack N)). slice_get xs (sink - arc.to) ≡ Some next) (sym same) next_is)

-- what leaves a place are arcs
pub leaving_inside : {S : Type 0} (arcs : List (Arc S)) (place : ℕ) (numbers : List ℕ) → Leaving arcs place numbers → All (λ number. number < length arcs) numbers
leaving_inside arcs place numbers leaves k d less =
    let from = leaves.right k d less in
    slice_get_within arcs (get_or numbers k d) from.arc from.is

-- the rows at both ends of an arc
pub record Between {N : ℕ} (rows : List (Slack N)) (sink : ℕ) (arc : Arc (TakeStepOf N)) : Type 0 where
  pub here : Slack N
  pub next : Slack N
  pub here_is : slice_get rows (sink - arc.from) ≡ Some here
  pub next_is : slice_get rows (sink - arc.to) ≡ Some next
  pub before : IsBefore here next arc.step

-- the rows of so many places
pub record Built {N : ℕ} (arcs : List (Arc (TakeStepOf N))) (sink : ℕ) (rows : List (Slack N)) (back : ℕ) : Type 0 where
  pub long : length rows ≡ back
  pub between : (number : ℕ) (arc : Arc (TakeStepOf N)) → slice_get arcs number ≡ Some arc → sink < arc.from + back → Between rows sink arc

module _ {N : ℕ} (places : ℕ) (arcs : List (Arc (TakeStepOf N))) (sink : ℕ) (graph : IsGraph places arcs) (last : sink + 1 ≡ places) where
  pub built_start : (none rows : List (Slack N)) (first : Slack N) → none ≡ [] → rows ≡ none ++ first ∷ [] → Built arcs sink rows 1
  built_start none rows first empty is = record {
    long = ap length is ∙ (length_push none first ∙ ap (λ (xs : List (Slack N)). length xs + 1) empty);
    between = λ number arc arc_is past.
        let fits = fits_at places arcs number arc graph.arcs_fit arc_is in
        let forward = fits.forward in
        let within = fits.within in
        absurd (omega (arith, forward, within, past, last));
  }

  pub built_more : (rows longer : List (Slack N)) (back : ℕ) (slack : Slack N) → longer ≡ rows ++ slack ∷ [] → 0 < back → back ≤ sink
      → ((number : ℕ) (arc : Arc (TakeStepOf N)) (next : Slack N) → slice_get arcs number ≡ Some arc → arc.from ≡ sink - back → slice_get rows (sink - arc.to) ≡ Some next → IsBefore slack next arc.step)
      → Built arcs sink rows back → Built arcs sink longer (back + 1)
  built_more rows longer back slack is some within before so_far = record {
    long = ap length is ∙ (length_push rows slack ∙ ap (λ n. n + 1) so_far.long);
    between = λ number arc arc_is past. elim (below_or_at sink (arc.from + back) (omega (arith, past))) [
      | inl earlier ↦ (
          let old = so_far.between number arc arc_is earlier in
          record { here = old.here; next = old.next; here_is = kept (sink - arc.from) old.here old.here_is; next_is = kept (sink - arc.to) old.next old.next_is; before = old.before })
      | inr now ↦ (
          let fits = fits_at places arcs number arc graph.arcs_fit arc_is in
          let forward = fits.forward in
          let long = so_far.long in
          let next_is : slice_get rows (sink - arc.to) ≡ Some (get_or rows (sink - arc.to) slack) = slice_get-get_or rows (sink - arc.to) slack (omega (arith, forward, now, long, some)) in
          record {
            here = slack;
            next = get_or rows (sink - arc.to) slack;
            here_is = subst (λ n. slice_get longer n ≡ Some slack) (let e : back ≡ sink - arc.from = omega (arith, now) in e) new;
            next_is = kept (sink - arc.to) (get_or rows (sink - arc.to) slack) next_is;
            before = before number arc (get_or rows (sink - arc.to) slack) arc_is (omega (arith, now)) next_is;
          })
    ];
  } where
    kept : (k : ℕ) (x : Slack N) → slice_get rows k ≡ Some x → slice_get longer k ≡ Some x
    kept k x h = ap (λ (xs : List (Slack N)). slice_get xs k) is ∙ read_more rows (slack ∷ []) k x h

    new : slice_get longer back ≡ Some slack
    new = ap (λ (xs : List (Slack N)). slice_get xs back) is ∙ (ap (λ n. slice_get (rows ++ slack ∷ []) n) (sym so_far.long) ∙ read_last rows slack)

module _ {N : ℕ} (graph : GraphOf (TakeOf N) (TakeStepOf N) TakeEndOf) where
  nothing : Slack N
  nothing = record { down = 0; days = 0; counters = [] }

  pub built_order : (slacks : Slacks N) (back : ℕ) → IsGraph graph.places graph.arcs → slacks.sink + 1 ≡ graph.places → back ≡ graph.places → slacks.low ≡ graph.end.0.low
      → Built graph.arcs slacks.sink slacks.rows.items back → IsOrder take_extend take_done graph (spares slacks)
  built_order slacks back fit sink all low built = record {
    along = λ number arc a b c is spared extends.
        let at = built.between number arc is (omega (arith, sink, all)) in
        let here : slack_spares slacks.low at.here a b ≡ true = ap (λ (o : Option (Slack N)). row_spares slacks.low o a b) (sym at.here_is) ∙ spared in
        subst (λ (o : Option (Slack N)). ExtendsBelow (row_spares slacks.low o) take_extend a arc.step c) (sym at.next_is) (slack_on slacks.low at.here at.next a b c arc.step at.before here extends);
    final = λ a b spared done.
        let long = built.long in
        let two = fit.two in
        let first : slice_get slacks.rows.items (slacks.sink - (graph.places - 1)) ≡ Some (get_or slacks.rows.items (slacks.sink - (graph.places - 1)) nothing) = slice_get-get_or slacks.rows.items (slacks.sink - (graph.places - 1)) nothing (omega (arith, long, all, sink, two)) in
        let here : slack_spares slacks.low (get_or slacks.rows.items (slacks.sink - (graph.places - 1)) nothing) a b ≡ true = ap (λ (o : Option (Slack N)). row_spares slacks.low o a b) (sym first) ∙ spared in
        slack_ends (get_or slacks.rows.items (slacks.sink - (graph.places - 1)) nothing) a b graph.end (subst (λ (n : ℕ). slack_spares n (get_or slacks.rows.items (slacks.sink - (graph.places - 1)) nothing) a b ≡ true) low here) done;
  }
