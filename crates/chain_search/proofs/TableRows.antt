-- How a table is filled row by row.
use Rattle.std.proofs.Common.{◌≡◌, ℕ, ℤ, ◌+◌, ◌-◌, ◌*◌, ◌^◌, ◌<◌, ◌≤◌, ◌+ℤ◌, ◌≤ℤ◌, neg_ℤ, pos, List, [], ◌∷◌, ◌++◌, ◌⊎◌, Bool, true, false, Option, Some, inl, inr, refl, sym, ◌∙◌, ap, subst, arith, length, get_or, set, take, length-append}
use Rattle.std.specs.Prelude.{if◌then◌else◌, slice_get}
use Rattle.std.specs.List.{list_all}
use Rattle.std.proofs.lemmas.Bool.{and_parts}
use Rattle.std.proofs.lemmas.Int.{ints}
use Rattle.std.proofs.lemmas.List.{get_or-append-add, get_or_append_left, get_or_past, get_or-set_same, get_or-set_other}
use Rattle.std.proofs.Math.Seq.{get_or-append_right, take-append_seam}
use Rattle.std.proofs.lemmas.List.Sums.{AllPass-from_list_all}
use Rattle.std.proofs.lemmas.List.Elements.{All-contains}
use Rattle.std.proofs.Math.Nat.{mul-le-mul_right}
use Rattle.label_setter.specs.declared.graph.Arc.{Arc}
use Rattle.label_setter.specs.Graphs.{FitsPlaces, IsGraph}
use Rattle.label_setter.specs.Chains.{GraphOf, Leads, Reached}
use Rattle.chain_search.specs.Bounds.{IsBound}
use Rattle.chain_search.specs.Leavings.{Leaving}
use Rattle.label_setter.specs.Meters.{IsBetween}
use Rattle.chain_search.specs.Rows.{ComesBack, GoesBack, IsBack, IsLowOrBack, RaisedBy}
use Rattle.chain_search.specs.SeenChains.{IsSeen, IsSeenOrLow, LeadsDown}
use Rattle.chain_search.specs.Views.{CoarseLaws, follows}
use Rattle.chain_search.proofs.ListReads.{below_or_at, contains_read, read_contains, same_or_not, same_some}
use Rattle.chain_search.proofs.Walking.{fits_at, le_through}

-- the first numbers of a row were raised
pub record Raised (moves : ℕ → Option ℕ) (there : List ℤ) (gain : ℤ) (count : ℕ) (old new : List ℤ) : Type 0 where
  pub risen : (k : ℕ) → get_or old k (pos 0) ≤ℤ get_or new k (pos 0)
  pub over : (state next : ℕ) → state < count → moves state ≡ Some next → (get_or there next (pos 0) +ℤ gain) ≤ℤ get_or new state (pos 0)
  pub from : (state : ℕ) → (get_or new state (pos 0) ≡ get_or old state (pos 0)) ⊎ IsBack moves there gain state (get_or new state (pos 0))
  pub between : (arcs : ℕ) → IsBetween arcs there → IsBetween (arcs + 1) old → IsBetween (arcs + 1) new

-- the first of the arcs that leave a place go back to it
abbrev pub CoversFirst : {S : Type 0} → (S → ℕ → Option ℕ) → ℕ → ℕ → List (Arc S) → List ℕ → List ℤ → List ℤ → ℕ → Type 0
CoversFirst moves count sink arcs leaving table row index = (k number : ℕ) (arc : Arc _) → k < index → slice_get leaving k ≡ Some number → slice_get arcs number ≡ Some arc → GoesBack moves count sink table row arc

-- the number is impossible, but for what so many arcs gain
abbrev pub IsLow : ℕ → ℤ → Type 0
IsLow arcs number = number ≤ℤ (pos (arcs * 2 ^ 40) +ℤ neg_ℤ (pos (2 ^ 60)))

-- so many rows stand in the table
pub record Filled {S : Type 0} (moves : S → ℕ → Option ℕ) (ends : ℕ → Bool) (count places : ℕ) (arcs : List (Arc S)) (table : List ℤ) (back : ℕ) : Type 0 where
  pub long : length table ≡ back * count
  pub between : IsBetween back table
  pub at_sink : (state : ℕ) → state < count → ends state ≡ true → pos 0 ≤ℤ get_or table state (pos 0)
  pub seen : (row state : ℕ) → row < back → state < count → IsSeen moves ends arcs (places - 1) (places - 1 - row) state (get_or table (row * count + state) (pos 0)) ⊎ IsLow back (get_or table (row * count + state) (pos 0))
  pub on : (number : ℕ) (arc : Arc S) → slice_get arcs number ≡ Some arc → places ≤ arc.from + back → (state next : ℕ) → state < count → moves arc.step state ≡ Some next
      → (get_or table ((places - 1 - arc.to) * count + next) (pos 0) +ℤ arc.gain) ≤ℤ get_or table ((places - 1 - arc.from) * count + state) (pos 0)

pub less_or_not : (a b : ℕ) → (a < b) ⊎ (b ≤ a)
less_or_not a b = grind arith

more_mul : (a u : ℕ) → (a + 1) * u ≡ a * u + u
more_mul a u = omega arith

index_in : (row rows count state : ℕ) → row < rows → state < count → row * count + state < rows * count
index_in row rows count state less small =
    let all : (row + 1) * count ≤ rows * count = mul-le-mul_right {m = row + 1} {n = rows} count (omega (arith, less)) in
    let one = more_mul row count in
    omega (arith, all, one, small)

wider : (a b : ℕ) (x : ℤ) → a ≤ b → x ≤ℤ pos (a * 2 ^ 40) → x ≤ℤ pos (b * 2 ^ 40)
wider a b x p q = omega (arith, ints, p, q)

low_zero : neg_ℤ (pos (2 ^ 60)) ≤ℤ pos 0
low_zero = omega (arith, ints)

high_zero : (n : ℕ) → pos 0 ≤ℤ pos n
high_zero n = omega (arith, ints)

pub between_more : (a b : ℕ) (row : List ℤ) → a ≤ b → IsBetween a row → IsBetween b row
between_more a b row p between = record { low = between.low; high = λ k. wider a b (get_or row k (pos 0)) p (between.high k) }

pub between_row : (arcs most first count : ℕ) (table row : List ℤ) → length row ≡ count → ((state : ℕ) → state < count → get_or row state (pos 0) ≡ get_or table (first + state) (pos 0)) → arcs ≤ most → IsBetween arcs table → IsBetween most row
between_row arcs most first count table row long at more between = record {
  low = λ k. elim (less_or_not k count) [
    | inl less ↦ subst (λ x. neg_ℤ (pos (2 ^ 60)) ≤ℤ x) (sym (at k less)) (between.low (first + k))
    | inr past ↦ subst (λ x. neg_ℤ (pos (2 ^ 60)) ≤ℤ x) (sym (get_or_past row k (pos 0) (omega (arith, long, past)))) low_zero
  ];
  high = λ k. elim (less_or_not k count) [
    | inl less ↦ subst (λ x. x ≤ℤ pos (most * 2 ^ 40)) (sym (at k less)) (wider arcs most (get_or table (first + k) (pos 0)) more (between.high (first + k)))
    | inr past ↦ subst (λ x. x ≤ℤ pos (most * 2 ^ 40)) (sym (get_or_past row k (pos 0) (omega (arith, long, past)))) (high_zero (most * 2 ^ 40))
  ];
}

pub between_append : (arcs : ℕ) (xs ys : List ℤ) → IsBetween arcs xs → IsBetween arcs ys → IsBetween arcs (xs ++ ys)
between_append arcs xs ys p q = record {
  low = λ k. elim (less_or_not k (length xs)) [
    | inl less ↦ subst (λ x. neg_ℤ (pos (2 ^ 60)) ≤ℤ x) (sym (get_or_append_left xs ys (pos 0) k less)) (p.low k)
    | inr past ↦ subst (λ x. neg_ℤ (pos (2 ^ 60)) ≤ℤ x) (sym (get_or-append_right xs ys k (pos 0) past)) (q.low (k - length xs))
  ];
  high = λ k. elim (less_or_not k (length xs)) [
    | inl less ↦ subst (λ x. x ≤ℤ pos (arcs * 2 ^ 40)) (sym (get_or_append_left xs ys (pos 0) k less)) (p.high k)
    | inr past ↦ subst (λ x. x ≤ℤ pos (arcs * 2 ^ 40)) (sym (get_or-append_right xs ys k (pos 0) past)) (q.high (k - length xs))
  ];
}

le_same : (a b : ℤ) → a ≡ b → a ≤ℤ b
le_same a b e = omega (arith, ints)

gain_more : (arcs : ℕ) (x gain : ℤ) → x ≤ℤ pos (arcs * 2 ^ 40) → gain ≤ℤ pos (2 ^ 40) → (x +ℤ gain) ≤ℤ pos ((arcs + 1) * 2 ^ 40)
gain_more arcs x gain p q = omega (arith, ints, p, q)

-- one number of a row is raised
pub raised_set : (moves : ℕ → Option ℕ) (there : List ℤ) (gain : ℤ) (count : ℕ) (old here : List ℤ) (next : ℕ) (most : ℤ) → gain ≤ℤ pos (2 ^ 40) → count < length here → moves count ≡ Some next
    → get_or here count (pos 0) ≤ℤ most → (get_or there next (pos 0) +ℤ gain) ≤ℤ most → ((b : ℤ) → get_or here count (pos 0) ≤ℤ b → (get_or there next (pos 0) +ℤ gain) ≤ℤ b → most ≤ℤ b) → (most ≡ get_or here count (pos 0)) ⊎ (most ≡ get_or there next (pos 0) +ℤ gain)
    → Raised moves there gain count old here → Raised moves there gain (count + 1) old (set here count most)
raised_set moves there gain count old here next most small within move_is low over least one so_far = record {
  risen = λ k. le_through _ (get_or here k (pos 0)) _ (so_far.risen k) (rise k);
  over = λ state to less is. elim (below_or_at state count less) [
    | inl earlier ↦ le_through _ (get_or here state (pos 0)) _ (so_far.over state to earlier is) (rise state)
    | inr now ↦ (
        let same : to ≡ next = same_some (moves count) to next (subst (λ s. moves s ≡ Some to) now is) move_is in
        subst (λ s. (get_or there to (pos 0) +ℤ gain) ≤ℤ get_or (set here count most) s (pos 0)) (sym now)
        (subst (λ z. (get_or there to (pos 0) +ℤ gain) ≤ℤ z) (sym at_count) (subst (λ n. (get_or there n (pos 0) +ℤ gain) ≤ℤ most) (sym same) over)))
  ];
  from = λ state. elim (same_or_not state count) [
    | inl same ↦ elim one [
      | inl old_is ↦ back state (at_state state same ∙ (old_is ∙ ap (λ i. get_or here i (pos 0)) (sym same)))
      | inr new_is ↦ inr (record { next = next; move = subst (λ i. moves i ≡ Some next) (sym same) move_is; value = at_state state same ∙ new_is })
    ]
    | inr other ↦ back state (get_or-set_other here count state most (pos 0) other)
  ];
  between = λ arcs after before.
      let so = so_far.between arcs after before in
      record {
        low = λ k. le_through _ (get_or here k (pos 0)) _ (so.low k) (rise k);
        high = λ k. elim (same_or_not k count) [
          | inl same ↦ subst (λ i. get_or (set here count most) i (pos 0) ≤ℤ pos ((arcs + 1) * 2 ^ 40)) (sym same)
              (subst (λ z. z ≤ℤ pos ((arcs + 1) * 2 ^ 40)) (sym at_count) (least (pos ((arcs + 1) * 2 ^ 40)) (so.high count) (gain_more arcs (get_or there next (pos 0)) gain (after.high next) small)))
          | inr other ↦ subst (λ z. z ≤ℤ pos ((arcs + 1) * 2 ^ 40)) (sym (get_or-set_other here count k most (pos 0) other)) (so.high k)
        ];
      };
} where
  at_count : get_or (set here count most) count (pos 0) ≡ most
  at_count = get_or-set_same here count most (pos 0) within

  at_state : (state : ℕ) → state ≡ count → get_or (set here count most) state (pos 0) ≡ most
  at_state state same = ap (λ i. get_or (set here count most) i (pos 0)) same ∙ at_count

  back : (state : ℕ) → get_or (set here count most) state (pos 0) ≡ get_or here state (pos 0) → (get_or (set here count most) state (pos 0) ≡ get_or old state (pos 0)) ⊎ IsBack moves there gain state (get_or (set here count most) state (pos 0))
  back state is = elim (so_far.from state) [
    | inl same ↦ inl (is ∙ same)
    | inr by ↦ inr (record { next = by.next; move = by.move; value = is ∙ by.value })
  ]

  rise : (k : ℕ) → get_or here k (pos 0) ≤ℤ get_or (set here count most) k (pos 0)
  rise k = elim (same_or_not k count) [
    | inl same ↦ subst (λ i. get_or here i (pos 0) ≤ℤ get_or (set here count most) i (pos 0)) (sym same) (subst (λ z. get_or here count (pos 0) ≤ℤ z) (sym at_count) low)
    | inr other ↦ le_same _ _ (sym (get_or-set_other here count k most (pos 0) other))
  ]

module _ {S : Type 0} (moves : S → ℕ → Option ℕ) (count sink : ℕ) where
  goes_on : (table row new : List ℤ) (arc : Arc S) → ((k : ℕ) → get_or row k (pos 0) ≤ℤ get_or new k (pos 0)) → GoesBack moves count sink table row arc → GoesBack moves count sink table new arc
  goes_on table row new arc risen goes state next less is = le_through _ (get_or row state (pos 0)) _ (goes state next less is) (risen state)

  goes_raised : (table row new there : List ℤ) (arc : Arc S) → ((state next : ℕ) → state < count → moves arc.step state ≡ Some next → next < count) → length row ≡ count
      → ((state : ℕ) → state < count → get_or there state (pos 0) ≡ get_or table ((sink - arc.to) * count + state) (pos 0)) → RaisedBy (moves arc.step) there arc.gain row new → GoesBack moves count sink table new arc
  goes_raised table row new there arc stays wide at raised state next less is =
      subst (λ z. (z +ℤ arc.gain) ≤ℤ get_or new state (pos 0)) (at next (stays state next less is)) (raised.over state next (omega (arith, less, wide)) is)

  -- one arc more goes back
  pub covers_more : (arcs : List (Arc S)) (leaving : List ℕ) (table row new there : List ℤ) (index number : ℕ) (arc : Arc S) → slice_get leaving index ≡ Some number → slice_get arcs number ≡ Some arc
      → ((state next : ℕ) → state < count → moves arc.step state ≡ Some next → next < count) → length row ≡ count → ((state : ℕ) → state < count → get_or there state (pos 0) ≡ get_or table ((sink - arc.to) * count + state) (pos 0))
      → RaisedBy (moves arc.step) there arc.gain row new → CoversFirst moves count sink arcs leaving table row index → CoversFirst moves count sink arcs leaving table new (index + 1)
  covers_more arcs leaving table row new there index number arc at_index is stays wide at raised so_far k other arc2 less other_is arc_is = elim (below_or_at k index less) [
    | inl earlier ↦ goes_on table row new arc2 raised.risen (so_far k other arc2 earlier other_is arc_is)
    | inr now ↦ (
        let same : other ≡ number = same_some (slice_get leaving index) other number (subst (λ j. slice_get leaving j ≡ Some other) now other_is) at_index in
        let same_arc : arc2 ≡ arc = same_some (slice_get arcs number) arc2 arc (subst (λ n. slice_get arcs n ≡ Some arc2) same arc_is) is in
        subst (GoesBack moves count sink table new) (sym same_arc) (goes_raised table row new there arc stays wide at raised))
  ]

  -- and each number comes from one of the arcs
  pub back_more : (arcs : List (Arc S)) (place : ℕ) (table row new there : List ℤ) (number : ℕ) (arc : Arc S) → slice_get arcs number ≡ Some arc → arc.from ≡ place
      → ((state next : ℕ) → state < count → moves arc.step state ≡ Some next → next < count) → ((state : ℕ) → state < count → get_or there state (pos 0) ≡ get_or table ((sink - arc.to) * count + state) (pos 0))
      → RaisedBy (moves arc.step) there arc.gain row new → ((state : ℕ) → state < count → IsLowOrBack moves count sink arcs place table state (get_or row state (pos 0)))
      → (state : ℕ) → state < count → IsLowOrBack moves count sink arcs place table state (get_or new state (pos 0))
  back_more arcs place table row new there number arc is from stays at raised so_far state less = elim (raised.from state) [
    | inl same ↦ elim (so_far state less) [
      | inl low ↦ inl (same ∙ low)
      | inr by ↦ inr (record { index = by.index; arc = by.arc; is = by.is; from = by.from; next = by.next; move = by.move; value = same ∙ by.value })
    ]
    | inr by ↦ inr (record { index = number; arc = arc; is = is; from = from; next = by.next; move = by.move; value = by.value ∙ ap (λ (x : ℤ). x +ℤ arc.gain) (at by.next (stays state by.next less by.move)) })
  ]

  pub covers_all : (arcs : List (Arc S)) (leaving : List ℕ) (place : ℕ) (table row : List ℤ) (index : ℕ) → Leaving arcs place leaving → length leaving ≤ index → CoversFirst moves count sink arcs leaving table row index
      → (number : ℕ) (arc : Arc S) → slice_get arcs number ≡ Some arc → arc.from ≡ place → GoesBack moves count sink table row arc
  covers_all arcs leaving place table row index leaves all covers number arc is from =
      let listed = leaves.listed number arc is from in
      let within = listed.1 in
      covers listed.0 number arc (omega (arith, within, all)) (read_contains leaving number listed) is

module _ {S : Type 0} (moves : S → ℕ → Option ℕ) (ends : ℕ → Bool) (count places : ℕ) (arcs : List (Arc S)) (fit : IsGraph places arcs) where
  pub filled_start : (table row : List ℤ) → table ≡ [] ++ row → length row ≡ count → IsBetween 0 row → ((state : ℕ) → state < count → ends state ≡ true → pos 0 ≤ℤ get_or row state (pos 0))
      → ((state : ℕ) → state < count → get_or row state (pos 0) ≡ (if ends state then pos 0 else neg_ℤ (pos (2 ^ 60)))) → Filled moves ends count places arcs table 1
  filled_start table row is wide between at_sink value = record {
    long = ap length is ∙ omega (arith, wide);
    between = subst (IsBetween 1) (sym is) (between_more 0 1 row (omega arith) between);
    at_sink = λ state less may. subst (λ (xs : List ℤ). pos 0 ≤ℤ get_or xs state (pos 0)) (sym is) (at_sink state less may);
    seen = λ at state before less. subst (λ (xs : List ℤ). IsSeen moves ends arcs (places - 1) (places - 1 - at) state (get_or xs (at * count + state) (pos 0)) ⊎ IsLow 1 (get_or xs (at * count + state) (pos 0))) (sym is) (first_seen at state before less (ends state) refl);
    on = λ number arc arc_is from state next less move.
        let fits = fits_at places arcs number arc fit.arcs_fit arc_is in
        let forward = fits.forward in
        let within = fits.within in
        absurd (omega (arith, forward, within, from));
  } where
    low_one : (x : ℤ) → x ≡ neg_ℤ (pos (2 ^ 60)) → IsLow 1 x
    low_one x e = omega (arith, ints)

    first_seen : (at state : ℕ) → at < 1 → state < count → (b : Bool) → ends state ≡ b → IsSeen moves ends arcs (places - 1) (places - 1 - at) state (get_or row (at * count + state) (pos 0)) ⊎ IsLow 1 (get_or row (at * count + state) (pos 0))
    first_seen at state before less true may =
        let none : at ≡ 0 = omega (arith, before) in
        let index : at * count + state ≡ state = ap (λ n. n * count + state) none ∙ omega arith in
        let number : get_or row (at * count + state) (pos 0) ≡ pos 0 = ap (λ n. get_or row n (pos 0)) index ∙ (value state less ∙ ap (λ (b : Bool). if b then pos 0 else neg_ℤ (pos (2 ^ 60))) may) in
        inl (record { chain = []; leads = (omega (arith, none), may, number) })
    first_seen at state before less false may =
        let none : at ≡ 0 = omega (arith, before) in
        let index : at * count + state ≡ state = ap (λ n. n * count + state) none ∙ omega arith in
        let number : get_or row (at * count + state) (pos 0) ≡ neg_ℤ (pos (2 ^ 60)) = ap (λ n. get_or row n (pos 0)) index ∙ (value state less ∙ ap (λ (b : Bool). if b then pos 0 else neg_ℤ (pos (2 ^ 60))) may) in
        inr (low_one (get_or row (at * count + state) (pos 0)) number)

  pub filled_more : (table new row : List ℤ) (back place : ℕ) → 0 < back → place + back + 1 ≡ places → new ≡ table ++ row → length row ≡ count → IsBetween (back + 1) row
      → ((number : ℕ) (arc : Arc S) → slice_get arcs number ≡ Some arc → (state next : ℕ) → state < count → moves arc.step state ≡ Some next → next < count)
      → ((number : ℕ) (arc : Arc S) → slice_get arcs number ≡ Some arc → arc.from ≡ place → GoesBack moves count (places - 1) table row arc)
      → ((state : ℕ) → state < count → IsLowOrBack moves count (places - 1) arcs place table state (get_or row state (pos 0)))
      → Filled moves ends count places arcs table back → Filled moves ends count places arcs new (back + 1)
  filled_more table new row back place some at is wide between stays goes froms filled = record {
    long = ap length is ∙ (length-append table row ∙ (let long = filled.long in let one = more_mul back count in omega (arith, long, wide, one)));
    between = subst (IsBetween (back + 1)) (sym is) (between_append (back + 1) table row (between_more back (back + 1) table (omega arith) filled.between) between);
    at_sink = λ state less may. subst (λ (xs : List ℤ). pos 0 ≤ℤ get_or xs state (pos 0)) (sym is)
        (subst (λ z. pos 0 ≤ℤ z) (sym (get_or_append_left table row (pos 0) state (let long = filled.long in let first = index_in 0 back count state some less in omega (arith, long, first)))) (filled.at_sink state less may));
    seen = λ at_row state before less. subst (λ (xs : List ℤ). IsSeen moves ends arcs (places - 1) (places - 1 - at_row) state (get_or xs (at_row * count + state) (pos 0)) ⊎ IsLow (back + 1) (get_or xs (at_row * count + state) (pos 0))) (sym is) (seen_by at_row state before less);
    on = λ number arc arc_is from state next less move. subst (λ (xs : List ℤ). (get_or xs ((places - 1 - arc.to) * count + next) (pos 0) +ℤ arc.gain) ≤ℤ get_or xs ((places - 1 - arc.from) * count + state) (pos 0)) (sym is)
        (by number arc arc_is (fits_at places arcs number arc fit.arcs_fit arc_is) state next less move (stays number arc arc_is state next less move) from);
  } where
    old_read : (k : ℕ) → k < back * count → get_or (table ++ row) k (pos 0) ≡ get_or table k (pos 0)
    old_read k less = get_or_append_left table row (pos 0) k (let long = filled.long in omega (arith, long, less))

    low_more : (x : ℤ) → IsLow back x → IsLow (back + 1) x
    low_more x low = omega (arith, ints, low)

    low_gain : (x y gain : ℤ) → IsLow back x → gain ≤ℤ pos (2 ^ 40) → y ≡ x +ℤ gain → IsLow (back + 1) y
    low_gain x y gain low small e = omega (arith, ints, low, small, e)

    low_here : (x : ℤ) → x ≡ neg_ℤ (pos (2 ^ 60)) → IsLow (back + 1) x
    low_here x e = omega (arith, ints)

    by_arc : (state : ℕ) (number : ℤ) → state < count → ComesBack moves count (places - 1) arcs place table state number → IsSeen moves ends arcs (places - 1) place state number ⊎ IsLow (back + 1) number
    by_arc state number less comes =
        let fits = fits_at places arcs comes.index comes.arc fit.arcs_fit comes.is in
        let forward = fits.forward in
        let within = fits.within in
        let from = comes.from in
        let small = stays comes.index comes.arc comes.is state comes.next less comes.move in
        let place_is : places - 1 - (places - 1 - comes.arc.to) ≡ comes.arc.to = omega (arith, within) in
        elim (filled.seen (places - 1 - comes.arc.to) comes.next (omega (arith, forward, within, from, at)) small) [
          | inl seen ↦ (
              let leads = subst (λ (p : ℕ). LeadsDown moves ends arcs (places - 1) p comes.next seen.chain (get_or table ((places - 1 - comes.arc.to) * count + comes.next) (pos 0))) place_is seen.leads in
              inl (record { chain = comes.index ∷ seen.chain; leads = (comes.arc, comes.next, get_or table ((places - 1 - comes.arc.to) * count + comes.next) (pos 0), comes.is, comes.from, comes.move, comes.value, leads) }))
          | inr low ↦ inr (low_gain (get_or table ((places - 1 - comes.arc.to) * count + comes.next) (pos 0)) number comes.arc.gain low fits.gain_high comes.value)
        ]

    seen_by : (at_row state : ℕ) → at_row < back + 1 → state < count → IsSeen moves ends arcs (places - 1) (places - 1 - at_row) state (get_or (table ++ row) (at_row * count + state) (pos 0)) ⊎ IsLow (back + 1) (get_or (table ++ row) (at_row * count + state) (pos 0))
    seen_by at_row state before less = elim (less_or_not at_row back) [
      | inl earlier ↦ (
          let read = old_read (at_row * count + state) (index_in at_row back count state earlier less) in
          subst (λ (x : ℤ). IsSeen moves ends arcs (places - 1) (places - 1 - at_row) state x ⊎ IsLow (back + 1) x) (sym read)
          (elim (filled.seen at_row state earlier less) [ inl seen ↦ inl seen | inr low ↦ inr (low_more (get_or table (at_row * count + state) (pos 0)) low) ]))
      | inr last ↦ (
          let row_is : at_row ≡ back = omega (arith, before, last) in
          let place_is : place ≡ places - 1 - at_row = omega (arith, at, row_is) in
          let long = filled.long in
          let read : get_or (table ++ row) (at_row * count + state) (pos 0) ≡ get_or row state (pos 0) =
          ap (λ n. get_or (table ++ row) (n * count + state) (pos 0)) row_is ∙ (ap (λ n. get_or (table ++ row) (n + state) (pos 0)) (sym long) ∙ get_or-append-add table row state (pos 0)) in
          subst (λ (p : ℕ). IsSeen moves ends arcs (places - 1) p state (get_or (table ++ row) (at_row * count + state) (pos 0)) ⊎ IsLow (back + 1) (get_or (table ++ row) (at_row * count + state) (pos 0))) place_is
          (subst (λ (x : ℤ). IsSeen moves ends arcs (places - 1) place state x ⊎ IsLow (back + 1) x) (sym read)
          (elim (froms state less) [ inl low ↦ inr (low_here (get_or row state (pos 0)) low) | inr comes ↦ by_arc state (get_or row state (pos 0)) less comes ])))
    ]

    by : (number : ℕ) (arc : Arc S) → slice_get arcs number ≡ Some arc → FitsPlaces places arc → (state next : ℕ) → state < count → moves arc.step state ≡ Some next → next < count → places ≤ arc.from + (back + 1)
        → (get_or (table ++ row) ((places - 1 - arc.to) * count + next) (pos 0) +ℤ arc.gain) ≤ℤ get_or (table ++ row) ((places - 1 - arc.from) * count + state) (pos 0)
    by number arc arc_is fits state next less move small from =
        let forward = fits.forward in
        let within = fits.within in
        let to_row : places - 1 - arc.to < back = omega (arith, forward, within, from) in
        let to_read = old_read ((places - 1 - arc.to) * count + next) (index_in (places - 1 - arc.to) back count next to_row small) in
        elim (less_or_not (places - 1 - arc.from) back) [
          | inl earlier ↦ (
              let from_read = old_read ((places - 1 - arc.from) * count + state) (index_in (places - 1 - arc.from) back count state earlier less) in
              subst (λ z. (z +ℤ arc.gain) ≤ℤ get_or (table ++ row) ((places - 1 - arc.from) * count + state) (pos 0)) (sym to_read)
              (subst (λ z. (get_or table ((places - 1 - arc.to) * count + next) (pos 0) +ℤ arc.gain) ≤ℤ z) (sym from_read)
              (filled.on number arc arc_is (omega (arith, earlier, forward, within)) state next less move)))
          | inr last ↦ (
              let here : arc.from ≡ place = omega (arith, at, last, from, forward, within) in
              let row_is : places - 1 - arc.from ≡ back = omega (arith, at, here) in
              let long = filled.long in
              let from_read : get_or (table ++ row) ((places - 1 - arc.from) * count + state) (pos 0) ≡ get_or row state (pos 0) =
              ap (λ n. get_or (table ++ row) (n * count + state) (pos 0)) row_is ∙ (ap (λ n. get_or (table ++ row) (n + state) (pos 0)) (sym long) ∙ get_or-append-add table row state (pos 0)) in
              subst (λ z. (z +ℤ arc.gain) ≤ℤ get_or (table ++ row) ((places - 1 - arc.from) * count + state) (pos 0)) (sym to_read)
              (subst (λ z. (get_or table ((places - 1 - arc.to) * count + next) (pos 0) +ℤ arc.gain) ≤ℤ z) (sym from_read)
              (goes number arc arc_is here state next less move)))
        ]

all_read : {X : Type 0} (p : X → Bool) (xs : List X) (k : ℕ) (x : X) → list_all p xs ≡ true → slice_get xs k ≡ Some x → p x ≡ true
all_read p xs k x all is =
    let passes = AllPass-from_list_all p xs all in
    All-contains (λ y. p y ≡ true) xs x passes (contains_read xs k x is)

-- what is gained from the next label on is gained from this one on
gain_back : (gain a g x y most : ℤ) → gain ≤ℤ (x +ℤ y) → x ≡ a +ℤ g → (y +ℤ g) ≤ℤ most → gain ≤ℤ (a +ℤ most)
gain_back gain a g x y most p e h = omega (arith, ints)

gain_here : (gain a rest : ℤ) → a ≡ gain → pos 0 ≤ℤ rest → gain ≤ℤ (a +ℤ rest)
gain_here gain a rest e h = omega (arith, ints)

module _ {R S E : Type 0} (extend : R → S → Option R) (done : R → E → Bool) (graph : GraphOf R S E) (count : ℕ) (shows : R → ℕ) (sees : R → ℕ → Bool) (moves : S → ℕ → Option ℕ) (ends : ℕ → Bool) (fits_step : S → Bool) (fits_end : E → Bool)
    (laws : CoarseLaws extend done count shows sees moves ends fits_step fits_end) (follow : follows fits_step fits_end graph ≡ true) where
  pub fits_arc : (number : ℕ) (arc : Arc S) → slice_get graph.arcs number ≡ Some arc → fits_step arc.step ≡ true
  fits_arc number arc is = all_read (λ (a : Arc S). fits_step a.step) graph.arcs number arc (and_parts (fits_end graph.end) (list_all (λ (a : Arc S). fits_step a.step) graph.arcs) follow).1 is

  module _ (table : List ℤ) (back sink : ℕ) (last_is : sink + 1 ≡ graph.places) (all : graph.places ≤ back) (filled : Filled moves ends count graph.places graph.arcs table back) where
    -- from any state in which the label is seen
    seen_bound : (label : Reached R) (chain : List ℕ) (gain : ℤ) (last : R) (state : ℕ) → state < count → sees label.resource state ≡ true
        → Leads extend graph.arcs label chain (record { place = graph.places - 1; gain = gain; resource = last }) → done last graph.end ≡ true
        → gain ≤ℤ (label.gain +ℤ get_or table ((sink - label.place) * count + state) (pos 0))
    seen_bound label [] gain last state less seen leads is_done =
        let place : label.place ≡ graph.places - 1 = ap (λ (r : Reached R). r.place) leads in
        let none : sink - label.place ≡ 0 = omega (arith, last_is, place) in
        let first : state ≡ (sink - label.place) * count + state = sym (ap (λ n. n * count + state) none ∙ omega arith) in
        let there : sees last state ≡ true = subst (λ (r : Reached R). sees r.resource state ≡ true) leads seen in
        let may = laws.final last graph.end state (and_parts (fits_end graph.end) (list_all (λ (a : Arc S). fits_step a.step) graph.arcs) follow).0 there is_done in
        gain_here gain label.gain (get_or table ((sink - label.place) * count + state) (pos 0)) (ap (λ (r : Reached R). r.gain) leads) (subst (λ n. pos 0 ≤ℤ get_or table n (pos 0)) first (filled.at_sink state less may))
    seen_bound label (number ∷ chain) gain last state less seen leads is_done =
        let to = leads.0 in
        let takes = leads.1 in
        let arc = takes.arc in
        let goes = laws.along label.resource to.resource arc.step state (fits_arc number arc takes.is) seen takes.extends in
        let small = laws.stays arc.step state goes.next less goes.is in
        let on = filled.on number arc takes.is (omega (arith, all)) state goes.next less goes.is in
        let rest = seen_bound to chain gain last goes.next small goes.passes leads.2 is_done in
        let sink_is : graph.places - 1 ≡ sink = omega (arith, last_is) in
        let there : get_or table ((graph.places - 1 - arc.to) * count + goes.next) (pos 0) ≡ get_or table ((sink - to.place) * count + goes.next) (pos 0) =
        ap (λ n. get_or table (n * count + goes.next) (pos 0)) (ap (λ n. n - arc.to) sink_is ∙ ap (λ n. sink - n) takes.to) in
        let here : get_or table ((graph.places - 1 - arc.from) * count + state) (pos 0) ≡ get_or table ((sink - label.place) * count + state) (pos 0) =
        ap (λ n. get_or table (n * count + state) (pos 0)) (ap (λ n. n - arc.from) sink_is ∙ ap (λ n. sink - n) takes.from) in
        gain_back gain label.gain arc.gain to.gain (get_or table ((sink - to.place) * count + goes.next) (pos 0)) (get_or table ((sink - label.place) * count + state) (pos 0)) rest takes.gain
        (subst (λ z. (z +ℤ arc.gain) ≤ℤ get_or table ((sink - label.place) * count + state) (pos 0)) there
        (subst (λ z. (get_or table ((graph.places - 1 - arc.to) * count + goes.next) (pos 0) +ℤ arc.gain) ≤ℤ z) here on))

    pub bound_of_table : IsBound extend done graph (λ place resource. get_or table ((sink - place) * count + shows resource) (pos 0))
    bound_of_table label chain gain last leads is_done = seen_bound label chain gain last (shows label.resource) (laws.shown label.resource) (laws.seen label.resource) leads is_done

pub rows_fit : (row rows count length : ℕ) → row < rows → length ≡ rows * count → (row + 1) * count ≤ length
rows_fit row rows count length less long = subst (λ n. (row + 1) * count ≤ n) (sym long) (mul-le-mul_right {m = row + 1} {n = rows} count (omega (arith, less)))

pub written : (new rest : List ℤ) (len : ℕ) → length new ≡ len → take len (new ++ rest) ≡ new
written new rest len long = ap (λ n. take n (new ++ rest)) (sym long) ∙ take-append_seam new rest

low_far : (back : ℕ) (x : ℤ) → back ≤ 2000 → IsLow back x → x ≤ℤ neg_ℤ (pos (2 ^ 59))
low_far back x few low = omega (arith, ints, few, low)

pub seen_of_table : {S : Type 0} (moves : S → ℕ → Option ℕ) (ends : ℕ → Bool) (count places back sink : ℕ) (arcs : List (Arc S)) (table : List ℤ) → sink + 1 ≡ places → places ≡ back → places ≤ 2000 → Filled moves ends count places arcs table back
    → (place state : ℕ) → place < places → state < count → IsSeenOrLow moves ends arcs (places - 1) place state (get_or table ((sink - place) * count + state) (pos 0))
seen_of_table moves ends count places back sink arcs table last all few filled place state inside less =
    let place_is : places - 1 - (sink - place) ≡ place = omega (arith, last, inside) in
    elim (filled.seen (sink - place) state (omega (arith, last, all)) less) [
      | inl seen ↦ inl (subst (λ (p : ℕ). IsSeen moves ends arcs (places - 1) p state (get_or table ((sink - place) * count + state) (pos 0))) place_is seen)
      | inr low ↦ inr (low_far back (get_or table ((sink - place) * count + state) (pos 0)) (omega (arith, few, all)) low)
    ]
