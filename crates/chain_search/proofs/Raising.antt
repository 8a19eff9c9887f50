-- Rows that are raised part by part, and how a row begins.
use Rattle.std.proofs.Common.{◌≡◌, ℕ, ℤ, ◌+◌, ◌-◌, ◌*◌, ◌^◌, ◌<◌, ◌≤◌, ◌+ℤ◌, ◌≤ℤ◌, neg_ℤ, pos, List, [], ◌++◌, ◌⊎◌, Bool, true, false, Option, Some, None, inl, inr, refl, sym, ◌∙◌, ap, subst, arith, cond, length, get_or, min}
use Rattle.std.specs.Prelude.{nat_le, nat_lt, slice_get}
use Rattle.std.proofs.lemmas.Bool.Decides.{nat_tests}
use Rattle.std.proofs.lemmas.Int.{ints}
use Rattle.std.proofs.lemmas.List.{get_or-append-add, get_or_past}
use Rattle.std.proofs.lemmas.Option.{slice_get-get_or}
use Rattle.label_setter.specs.declared.graph.Arc.{Arc}
use Rattle.chain_search.specs.Leavings.{Leaving}
use Rattle.chain_search.specs.Rooms.{less_by}
use Rattle.label_setter.specs.Meters.{IsBetween}
use Rattle.chain_search.specs.Rows.{IsLowOrBack, PassesOn, RaisedBy, none_from}
use Rattle.chain_search.proofs.ListReads.{same_some}
use Rattle.chain_search.proofs.Walking.{le_through}
use Rattle.chain_search.proofs.TableRows.{CoversFirst, Raised, between_more, between_row, less_or_not}

none_or_some : (n : ℕ) → (n ≡ 0) ⊎ (0 < n)
none_or_some n = grind arith

pub less_of_both : (a b n : ℕ) → min a b ≤ n → (b ≤ n) ⊎ (a ≤ n)
less_of_both a b n h = grind arith

-- the moves as cases
none_is : (below state next : ℕ) → none_from below state ≡ Some next → (state < below) × (next ≡ 0)
none_is below state next is = go (nat_lt state below) refl is
  where
    go : (t : Bool) → nat_lt state below ≡ t → cond t (Some 0) None ≡ Some next → (state < below) × (next ≡ 0)
    go true e h = let same : 0 ≡ next = cc in (grind (arith, nat_tests), sym same)
    go false e h = cc

pub is_none : (below state : ℕ) → state < below → none_from below state ≡ Some 0
is_none below state less = grind (arith, nat_tests)

less_is : (by state next : ℕ) → less_by by state ≡ Some next → (by ≤ state) × (next ≡ state - by)
less_is by state next is = go (nat_le by state) refl is
  where
    go : (t : Bool) → nat_le by state ≡ t → cond t (Some (state - by)) None ≡ Some next → (by ≤ state) × (next ≡ state - by)
    go true e h = let same : state - by ≡ next = cc in (grind (arith, nat_tests), sym same)
    go false e h = cc

pub is_less : (by state : ℕ) → by ≤ state → less_by by state ≡ Some (state - by)
is_less by state le = grind (arith, nat_tests)

le_self : (x : ℤ) → x ≤ℤ x
le_self x = omega (arith, ints)

-- nothing is raised yet
raised_start : (moves : ℕ → Option ℕ) (there : List ℤ) (gain : ℤ) (count : ℕ) (old : List ℤ) → ((state next : ℕ) → state < count → moves state ≡ Some next → ⊥) → Raised moves there gain count old old
raised_start moves there gain count old none = record {
  risen = λ k. le_self (get_or old k (pos 0));
  over = λ state next less is. absurd (none state next less is);
  from = λ state. inl refl;
  between = λ arcs after before. before;
}

-- the states below move nowhere
pub above_start : (down : ℕ) (there : List ℤ) (gain : ℤ) (old : List ℤ) → Raised (less_by down) there gain down old old
above_start down there gain old = raised_start (less_by down) there gain down old (λ state next less is. let le = (less_is down state next is).0 in omega (arith, le, less))

pub raised_whole : (moves : ℕ → Option ℕ) (there : List ℤ) (gain : ℤ) (count : ℕ) (old new : List ℤ) → length old ≤ count → Raised moves there gain count old new → RaisedBy moves there gain old new
raised_whole moves there gain count old new all raised = record {
  risen = raised.risen;
  over = λ state next less is. raised.over state next (omega (arith, all, less)) is;
  from = raised.from;
  between = raised.between;
}

pub below_whole : (below : ℕ) (there : List ℤ) (gain : ℤ) (count : ℕ) (old new : List ℤ) → (length old ≤ count) ⊎ (below ≤ count) → Raised (none_from below) there gain count old new → RaisedBy (none_from below) there gain old new
below_whole below there gain count old new all raised = record {
  risen = raised.risen;
  over = λ state next less is. raised.over state next (within state next less is) is;
  from = raised.from;
  between = raised.between;
} where
  within : (state next : ℕ) → state < length old → none_from below state ≡ Some next → state < count
  within state next less is = elim all [
    | inl long ↦ omega (arith, long, less)
    | inr past ↦ (let first = (none_is below state next is).0 in omega (arith, past, first))
  ]

-- raised below, and then above
pub raised_both : (down : ℕ) (there : List ℤ) (gain : ℤ) (old mid new : List ℤ) → length mid ≡ length old → RaisedBy (none_from down) there gain old mid → RaisedBy (less_by down) there gain mid new → RaisedBy (λ state. Some (state - down)) there gain old new
raised_both down there gain old mid new long first second = record {
  risen = λ k. le_through (get_or old k (pos 0)) (get_or mid k (pos 0)) (get_or new k (pos 0)) (first.risen k) (second.risen k);
  over = λ state next less is.
      let same : state - down ≡ next = cc in
      elim (less_or_not state down) [
        | inl below ↦ (
            let zero : 0 ≡ next = omega (arith, same, below) in
            le_through (get_or there next (pos 0) +ℤ gain) (get_or mid state (pos 0)) (get_or new state (pos 0)) (first.over state next less (is_none down state below ∙ ap Some zero)) (second.risen state))
        | inr above ↦ second.over state next (omega (arith, less, long)) (is_less down state above ∙ ap Some same)
      ];
  from = λ state. elim (second.from state) [
    | inl same ↦ elim (first.from state) [
      | inl before ↦ inl (same ∙ before)
      | inr by ↦ inr (record { next = by.next; move = low state by.next (none_is down state by.next by.move); value = same ∙ by.value })
    ]
    | inr by ↦ inr (record { next = by.next; move = ap Some (sym (less_is down state by.next by.move).1); value = by.value })
  ];
  between = λ arcs after before. second.between arcs after (first.between arcs after before);
} where
  low : (state next : ℕ) → (state < down) × (next ≡ 0) → Some (state - down) ≡ Some next
  low state next is = let less = is.0 in let zero = is.1 in ap Some (let e : state - down ≡ next = omega (arith, less, zero) in e)

-- moves that agree on all states of the row
pub raised_as : (moves other : ℕ → Option ℕ) (there : List ℤ) (gain : ℤ) (count : ℕ) (old new : List ℤ) → length old ≡ count → length new ≡ count → ((state : ℕ) → state < count → other state ≡ moves state) → RaisedBy moves there gain old new → RaisedBy other there gain old new
raised_as moves other there gain count old new wide long same raised = record {
  risen = raised.risen;
  over = λ state next less is. raised.over state next less (sym (same state (omega (arith, less, wide))) ∙ is);
  from = λ state. elim (raised.from state) [
    | inl before ↦ inl before
    | inr by ↦ elim (less_or_not state count) [
      | inl less ↦ inr (record { next = by.next; move = same state less ∙ by.move; value = by.value })
      | inr past ↦ inl (get_or_past new state (pos 0) (omega (arith, long, past)) ∙ sym (get_or_past old state (pos 0) (omega (arith, wide, past))))
    ]
  ];
  between = raised.between;
}

first_read : (xs : List ℕ) → 0 < length xs → slice_get xs 0 ≡ Some (get_or xs 0 0)
first_read xs some = slice_get-get_or xs 0 0 some

no_more : (x y gain : ℤ) → gain ≡ pos 0 → x ≡ y → (y +ℤ gain) ≤ℤ x
no_more x y gain none same = omega (arith, ints)

and_none : (x y gain : ℤ) → gain ≡ pos 0 → x ≡ y → x ≡ y +ℤ gain
and_none x y gain none same = omega (arith, ints)

-- how the row of a place begins: cleared, or as that of the next place where the first arcs pass it on
module _ {S : Type 0} (moves : S → ℕ → Option ℕ) (count places place : ℕ) (arcs : List (Arc S)) (leaving : List ℕ) (table old row : List ℤ) (passed : ℕ) (inside : place + 1 < places) (wide : length old ≡ count) (same_length : length row ≡ length old)
    (last : (state : ℕ) → state < count → get_or old state (pos 0) ≡ get_or table ((places - 2 - place) * count + state) (pos 0))
    (passing : (k number : ℕ) (arc : Arc S) → k < passed → slice_get leaving k ≡ Some number → slice_get arcs number ≡ Some arc → PassesOn moves count place arc)
    (kept : 0 < passed → row ≡ old) where
  begins_there : (arc : Arc S) (state : ℕ) → 0 < passed → PassesOn moves count place arc → state < count → get_or row state (pos 0) ≡ get_or table ((places - 1 - arc.to) * count + state) (pos 0)
  begins_there arc state some passes less =
      let to = passes.to in
      let row_is : places - 2 - place ≡ places - 1 - arc.to = omega (arith, to, inside) in
      ap (λ (xs : List ℤ). get_or xs state (pos 0)) (kept some) ∙ (last state less ∙ ap (λ n. get_or table (n * count + state) (pos 0)) row_is)

  pub begins_between : IsBetween (places - 1 - place) table → (passed ≡ 0 → IsBetween 0 row) → IsBetween (places - place) row
  begins_between between cleared = elim (none_or_some passed) [
    | inl none ↦ between_more 0 (places - place) row (omega arith) (cleared none)
    | inr some ↦ subst (IsBetween (places - place)) (sym (kept some)) (between_row (places - 1 - place) (places - place) ((places - 2 - place) * count) count table old wide last (omega arith) between)
  ]

  pub begins_from : Leaving arcs place leaving → passed ≤ length leaving → (passed ≡ 0 → (state : ℕ) → state < length row → get_or row state (pos 0) ≡ neg_ℤ (pos (2 ^ 60))) → (state : ℕ) → state < count → IsLowOrBack moves count (places - 1) arcs place table state (get_or row state (pos 0))
  begins_from leaves within cleared state less = elim (none_or_some passed) [
    | inl none ↦ inl (cleared none state (omega (arith, less, wide, same_length)))
    | inr some ↦ (
        let first = leaves.right 0 0 (omega (arith, some, within)) in
        let passes = passing 0 (get_or leaving 0 0) first.arc some (first_read leaving (omega (arith, some, within))) first.is in
        inr (record {
          index = get_or leaving 0 0;
          arc = first.arc;
          is = first.is;
          from = first.from;
          next = state;
          move = passes.stays state less;
          value = and_none (get_or row state (pos 0)) (get_or table ((places - 1 - first.arc.to) * count + state) (pos 0)) first.arc.gain passes.gain (begins_there first.arc state some passes less);
        }))
  ]

  pub begins_covers : CoversFirst moves count (places - 1) arcs leaving table row passed
  begins_covers k number arc before listed is state next less move =
      let passes = passing k number arc before listed is in
      let some : 0 < passed = omega (arith, before) in
      let same : state ≡ next = same_some (moves arc.step state) state next (passes.stays state less) move in
      subst (λ n. (get_or table ((places - 1 - arc.to) * count + n) (pos 0) +ℤ arc.gain) ≤ℤ get_or row state (pos 0)) same
      (no_more (get_or row state (pos 0)) (get_or table ((places - 1 - arc.to) * count + state) (pos 0)) arc.gain passes.gain (begins_there arc state some passes less))

-- the row that was written last
pub last_start : (table row : List ℤ) (count state : ℕ) → table ≡ [] ++ row → get_or row state (pos 0) ≡ get_or table ((1 - 1) * count + state) (pos 0)
last_start table row count state is =
    let at : state ≡ (1 - 1) * count + state = omega arith in
    ap (λ n. get_or row n (pos 0)) at ∙ sym (ap (λ (xs : List ℤ). get_or xs ((1 - 1) * count + state) (pos 0)) is)

pub last_more : (table new row : List ℤ) (back count state : ℕ) → new ≡ table ++ row → length table ≡ back * count → get_or row state (pos 0) ≡ get_or new ((back + 1 - 1) * count + state) (pos 0)
last_more table new row back count state is long =
    let at : back + 1 - 1 ≡ back = omega arith in
    sym (ap (λ (xs : List ℤ). get_or xs ((back + 1 - 1) * count + state) (pos 0)) is ∙ (ap (λ n. get_or (table ++ row) (n * count + state) (pos 0)) at ∙ (ap (λ n. get_or (table ++ row) (n + state) (pos 0)) (sym long) ∙ get_or-append-add table row state (pos 0))))
