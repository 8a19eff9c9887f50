-- Bits that no later arc clears stay set, so that a bound may count them.
use Rattle.std.proofs.Common.{◌≡◌, ℕ, ℤ, ◌+◌, ◌-◌, ◌*◌, ◌^◌, ◌<◌, ◌≤◌, ◌+ℤ◌, ◌≤ℤ◌, neg_ℤ, pos, min, max, List, [], ◌∷◌, ◌++◌, Bool, true, false, Option, None, Some, ◌==◌, inl, inr, refl, sym, ◌∙◌, ap, subst, arith, length, get_or}
use Rattle.std.specs.Prelude.{All, bit_and, bit_or, if◌then◌else◌, slice_get}
use Rattle.std.specs.Int.{bit_at}
use Rattle.std.proofs.lemmas.Bool.{and_parts}
use Rattle.std.proofs.lemmas.Bool.Decides.{nat_tests}
use Rattle.std.proofs.lemmas.Int.{ints}
use Rattle.std.proofs.lemmas.Nat.Bits.{bit_at-lt, bit_at_and, bit_at_or, same_from_bits}
use Rattle.std.proofs.lemmas.Option.{get_or_from_slice_get, slice_get-get_or, slice_get_within}
use Rattle.std.proofs.lemmas.List.Elements.{All-contains}
use Rattle.std.proofs.lemmas.List.{get_or-append-add, get_or_append_left, length_push}
use Rattle.label_lattice.specs.declared.masks.Mask.{Mask}
use Rattle.label_lattice.specs.declared.masks.MaskStep.{MaskStep}
use Rattle.label_lattice.specs.declared.masks.MaskEnd.{MaskEnd}
use Rattle.label_lattice.specs.declared.pairs.Pair.{Pair}
use Rattle.label_lattice.specs.Mask.{bits_below, mask_done, mask_extend}
use Rattle.label_lattice.specs.MaskLaws.{mask_resource_laws}
use Rattle.label_lattice.specs.Pair.{both_of, pair_done, pair_extend}
use Rattle.label_setter.specs.declared.graph.Arc.{Arc}
use Rattle.label_setter.specs.Graphs.{IsGraph}
use Rattle.label_setter.specs.Chains.{GraphOf}
use Rattle.label_setter.specs.Rests.{IsRest}
use Rattle.chain_search.specs.declared.lasting.Lasting.{Lasting}
use Rattle.chain_search.specs.Leavings.{Leaving}
use Rattle.chain_search.specs.Lastings.{IsIn, lasting}
use Rattle.chain_search.proofs.ListReads.{below_or_at}
use Rattle.chain_search.proofs.Walking.{fits_at}

-- bit by bit: what stays of a set is in what stays of it after a step
bit_stays : (x k t a b : ℕ) → x < 2 → k < 2 → t < 2 → a ≤ k → a ≤ b → min x a ≤ min (max (min x k) t) b
bit_stays x k t a b p q r h l = omega (arith, p, q, r, h, l)

in_below : (x y : ℕ) → IsIn x y → bits_below x y ≡ true
in_below x y h = is_same (bit_and x y) x (same_from_bits (bit_and x y) x (λ i. let le = h i in bit_at_and x y i ∙ omega (arith, le)))
  where
    is_same : (a b : ℕ) → a ≡ b → (a == b) ≡ true
    is_same a b e = grind (arith, nat_tests)

stays_below : (x k t a b : ℕ) → IsIn a k → IsIn a b → bits_below (bit_and x a) (bit_and (bit_or (bit_and x k) t) b) ≡ true
stays_below x k t a b h l = in_below (bit_and x a) (bit_and (bit_or (bit_and x k) t) b) (λ i.
    let small = bit_stays (bit_at x i) (bit_at k i) (bit_at t i) (bit_at a i) (bit_at b i) (bit_at-lt x i) (bit_at-lt k i) (bit_at-lt t i) (h i) (l i) in
    let left = bit_at_and x a i in
    let right : bit_at (bit_and (bit_or (bit_and x k) t) b) i ≡ min (max (min (bit_at x i) (bit_at k i)) (bit_at t i)) (bit_at b i) =
    bit_at_and (bit_or (bit_and x k) t) b i ∙ ap (λ n. min n (bit_at b i)) (bit_at_or (bit_and x k) t i ∙ ap (λ n. max n (bit_at t i)) (bit_at_and x k i)) in
    omega (arith, small, left, right))

-- so where too little is left after the step, too little was left before it
done_before : (x y k t a b : ℕ) (end : MaskEnd) → bit_or (bit_and x k) t ≡ y → IsIn a k → IsIn a b
    → mask_done (record { bits = bit_and y b }) end ≡ true → mask_done (record { bits = bit_and x a }) end ≡ true
done_before x y k t a b end same h l is =
    mask_resource_laws.finishes (record { bits = bit_and x a }) (record { bits = bit_and y b }) end
    (subst (λ z. bits_below (bit_and x a) (bit_and z b) ≡ true) same (stays_below x k t a b h l)) is

pub and_first : (a b : ℕ) → IsIn (bit_and a b) a
and_first a b i = let same = bit_at_and a b i in omega (arith, same)

pub and_second : (a b : ℕ) → IsIn (bit_and a b) b
and_second a b i = let same = bit_at_and a b i in omega (arith, same)

pub in_through : (a b c : ℕ) → IsIn a b → IsIn b c → IsIn a c
in_through a b c h l i = let p = h i in let q = l i in omega (arith, p, q)

any_default : (xs : List ℕ) (k d e : ℕ) → k < length xs → get_or xs k d ≡ get_or xs k e
any_default xs k d e less = get_or_from_slice_get xs k (get_or xs k e) d (slice_get-get_or xs k e less)

module _ {S : Type 0} (clear : S → ℕ) (arcs : List (Arc S)) where
  -- the first of the arcs clear none of the bits
  abbrev pub NoneClears : List ℕ → ℕ → ℕ → Type 0
  NoneClears leaving count kept = (k d : ℕ) → k < count → (arc : Arc S) → slice_get arcs (get_or leaving k d) ≡ Some arc → IsIn kept (2 ^ 64 - 1 - clear arc.step)

  pub none_more : (leaving : List ℕ) (index kept : ℕ) (arc : Arc S) → index < length leaving → arc ≡ get_or arcs (get_or leaving index 0) arc → NoneClears leaving index kept
      → NoneClears leaving (index + 1) (bit_and kept (2 ^ 64 - 1 - clear arc.step))
  none_more leaving index kept arc within read so_far k d less other is = elim (below_or_at k index less) [
    | inl earlier ↦ in_through (bit_and kept (2 ^ 64 - 1 - clear arc.step)) kept (2 ^ 64 - 1 - clear other.step) (and_first kept (2 ^ 64 - 1 - clear arc.step)) (so_far k d earlier other is)
    | inr now ↦ (
        let here : get_or leaving k d ≡ get_or leaving index 0 = ap (λ n. get_or leaving n d) now ∙ any_default leaving index d 0 within in
        let there : slice_get arcs (get_or leaving index 0) ≡ Some other = subst (λ n. slice_get arcs n ≡ Some other) here is in
        let same : arc ≡ other = read ∙ get_or_from_slice_get arcs (get_or leaving index 0) other arc there in
        subst (λ (a : Arc S). IsIn (bit_and kept (2 ^ 64 - 1 - clear arc.step)) (2 ^ 64 - 1 - clear a.step)) same (and_second kept (2 ^ 64 - 1 - clear arc.step)))
  ]

  pub clears_all : (place : ℕ) (leaving : List ℕ) (kept : ℕ) → Leaving arcs place leaving → All (λ number. (arc : Arc S) → slice_get arcs number ≡ Some arc → IsIn kept (2 ^ 64 - 1 - clear arc.step)) leaving
      → (number : ℕ) (arc : Arc S) → slice_get arcs number ≡ Some arc → arc.from ≡ place → IsIn kept (2 ^ 64 - 1 - clear arc.step)
  clears_all place leaving kept leaves all number arc is from =
      All-contains (λ number. (arc : Arc S) → slice_get arcs number ≡ Some arc → IsIn kept (2 ^ 64 - 1 - clear arc.step)) leaving number all (leaves.listed number arc is from) arc is

  pub inside_all : (place : ℕ) (leaving : List ℕ) → Leaving arcs place leaving → All (λ number. number < length arcs) leaving
  inside_all place leaving leaves k d less = let right = leaves.right k d less in slice_get_within arcs (get_or leaving k d) right.arc right.is

-- the bits of the first rows: what no arc clears from a place on
pub record Kept {S : Type 0} (clear : S → ℕ) (sink : ℕ) (arcs : List (Arc S)) (rows : List ℕ) (back : ℕ) : Type 0 where
  pub long : length rows ≡ back
  pub falls : (i j : ℕ) → i ≤ j → j < back → IsIn (get_or rows j 0) (get_or rows i 0)
  pub clears : (number : ℕ) (arc : Arc S) → slice_get arcs number ≡ Some arc → arc.from ≤ sink → sink < arc.from + back → IsIn (get_or rows (sink - arc.from) 0) (2 ^ 64 - 1 - clear arc.step)

in_self : (a : ℕ) → IsIn a a
in_self a i = omega arith

-- the last of a list that is one longer
pub get_last : (longer rows : List ℕ) (next back : ℕ) → longer ≡ rows ++ next ∷ [] → back ≡ length rows + 1 → next ≡ get_or longer (back - 1) 0
get_last longer rows next back is long =
    sym (ap (λ (xs : List ℕ). get_or xs (back - 1) 0) is ∙ (ap (λ n. get_or (rows ++ next ∷ []) n 0) (let e : back - 1 ≡ length rows + 0 = omega (arith, long) in e) ∙ get_or-append-add rows (next ∷ []) 0 0))

module _ {S : Type 0} (clear : S → ℕ) (sink : ℕ) (arcs : List (Arc S)) where
  pub kept_start : (rows : List ℕ) (first : ℕ) → rows ≡ [] ++ first ∷ [] → ((number : ℕ) (arc : Arc S) → slice_get arcs number ≡ Some arc → arc.from < sink) → Kept clear sink arcs rows 1
  kept_start rows first is before = record {
    long = ap length is;
    falls = λ i j le less. let same : i ≡ j = omega (arith, le, less) in subst (λ n. IsIn (get_or rows j 0) (get_or rows n 0)) (let e : j ≡ i = omega (arith, same) in e) (in_self (get_or rows j 0));
    clears = λ number arc is from past. let early = before number arc is in absurd (omega (arith, early, past));
  }

  pub kept_more : (rows longer : List ℕ) (back last next : ℕ) → longer ≡ rows ++ next ∷ [] → 0 < back → back ≤ sink → last ≡ get_or rows (back - 1) 0 → IsIn next last
      → ((number : ℕ) (arc : Arc S) → slice_get arcs number ≡ Some arc → arc.from ≡ sink - back → IsIn next (2 ^ 64 - 1 - clear arc.step))
      → Kept clear sink arcs rows back → Kept clear sink arcs longer (back + 1)
  kept_more rows longer back last next is some within last_is inside clears so_far = record {
    long = ap length is ∙ (length_push rows next ∙ ap (λ n. n + 1) so_far.long);
    falls = λ i j le less. elim (below_or_at j back less) [
      | inl earlier ↦ subst (λ n. IsIn n (get_or longer i 0)) (sym (old j earlier)) (subst (λ n. IsIn (get_or rows j 0) n) (sym (old i (omega (arith, le, earlier)))) (so_far.falls i j le earlier))
      | inr now ↦ subst (λ n. IsIn (get_or longer n 0) (get_or longer i 0)) (sym now) (subst (λ n. IsIn n (get_or longer i 0)) (sym new) (first i (omega (arith, le, now))))
    ];
    clears = λ number arc is from past. elim (below_or_at sink (arc.from + back) (omega (arith, past))) [
      | inl earlier ↦ (
          let row : sink - arc.from < back = omega (arith, earlier, some) in
          subst (λ n. IsIn n (2 ^ 64 - 1 - clear arc.step)) (sym (old (sink - arc.from) row)) (so_far.clears number arc is from earlier))
      | inr now ↦ (
          let row : sink - arc.from ≡ back = omega (arith, now) in
          subst (λ n. IsIn (get_or longer n 0) (2 ^ 64 - 1 - clear arc.step)) (sym row) (subst (λ n. IsIn n (2 ^ 64 - 1 - clear arc.step)) (sym new) (clears number arc is (omega (arith, now)))))
    ];
  } where
    old : (i : ℕ) → i < back → get_or longer i 0 ≡ get_or rows i 0
    old i less = ap (λ (xs : List ℕ). get_or xs i 0) is ∙ get_or_append_left rows (next ∷ []) 0 i (let long = so_far.long in omega (arith, less, long))

    new : get_or longer back 0 ≡ next
    new = ap (λ (xs : List ℕ). get_or xs back 0) is ∙ (ap (λ n. get_or (rows ++ next ∷ []) n 0) (let long = so_far.long in let e : back ≡ length rows + 0 = omega (arith, long) in e) ∙ get_or-append-add rows (next ∷ []) 0 0)

    first : (i : ℕ) → i ≤ back → IsIn next (get_or longer i 0)
    first i le = elim (below_or_at i back (omega (arith, le))) [
      | inl earlier ↦ subst (λ n. IsIn next n) (sym (old i earlier)) (in_through next last (get_or rows i 0) inside (subst (λ n. IsIn n (get_or rows i 0)) (sym last_is) (so_far.falls i (back - 1) (omega (arith, earlier)) (omega (arith, some)))))
      | inr now ↦ subst (λ n. IsIn next (get_or longer n 0)) (sym now) (subst (λ n. IsIn next n) (sym new) (in_self next))
    ]

-- at most so much and far less; what a step gains leaves it so
more_gain : (a b x y : ℕ) (gain from to : ℤ) → a < b → to ≡ from +ℤ gain → gain ≤ℤ pos (2 ^ 40) → x ≡ a * 2 ^ 40 → y ≡ b * 2 ^ 40 → (to +ℤ pos x) ≤ℤ (from +ℤ pos y)
more_gain a b x y gain from to less sum small x_is y_is = omega (arith, ints, less, sum, small, x_is, y_is)

falls_by : (done_from done_to : Bool) (x y : ℕ) (from to : ℤ) → (done_to ≡ true → done_from ≡ true) → (to +ℤ pos x) ≤ℤ (from +ℤ pos y)
    → (to +ℤ (if done_to then pos x else (pos x +ℤ neg_ℤ (pos (2 ^ 60))))) ≤ℤ (from +ℤ (if done_from then pos y else (pos y +ℤ neg_ℤ (pos (2 ^ 60)))))
falls_by true true x y from to before less = less
falls_by true false x y from to before less = omega (arith, ints, less)
falls_by false true x y from to before less = absurd (no (before refl)) where
  no : ◌≡◌ {A = Bool} false true → ⊥
  no e = cc
falls_by false false x y from to before less = omega (arith, ints, less)

no_loss : (done : Bool) (x : ℕ) → done ≡ true → pos 0 ≤ℤ (if done then pos x else (pos x +ℤ neg_ℤ (pos (2 ^ 60))))
no_loss true x is = omega (arith, ints)
no_loss false x is = cc

bits_of : (n : ℕ) (b : Mask) → Some (record { bits = n }) ≡ Some b → n ≡ b.bits
bits_of n b e = let same : record { bits = n } ≡ b = cc in ap (λ (m : Mask). m.bits) same

second_there : {A B : Type 0} (o : Option A) (p : Option B) (c : Pair A B) → both_of o p ≡ Some c → p ≡ Some c.second
second_there (Some a) (Some b) c e = cc
second_there None p c e = cc
second_there (Some a) None c e = cc

first_there : {A B : Type 0} (o : Option A) (p : Option B) (c : Pair A B) → both_of o p ≡ Some c → o ≡ Some c.first
first_there (Some a) (Some b) c e = cc
first_there None p c e = cc
first_there (Some a) None c e = cc

part_below : (x a : ℕ) → bits_below (bit_and x a) x ≡ true
part_below x a = in_below (bit_and x a) x (λ i. let same = bit_at_and x a i in omega (arith, same))

module _ {A B S T E F : Type 0} (extend_a : A → S → Option A) (done_a : A → E → Bool) (extend_b : B → T → Option B) (done_b : B → F → Bool)
    (graph : GraphOf (Pair A (Pair Mask B)) (S × (MaskStep × T)) (E × (MaskEnd × F))) where
  pub lasting_is_rest : (rest : Lasting) (back : ℕ) → rest.sink + 1 ≡ graph.places → back ≡ graph.places → IsGraph graph.places graph.arcs → rest.last.end ≡ graph.end.1.0
      → Kept (λ (step : S × (MaskStep × T)). step.1.0.clear) rest.sink graph.arcs rest.rows.items back
      → IsRest (pair_extend extend_a (pair_extend mask_extend extend_b)) (pair_done done_a (pair_done mask_done done_b)) graph (lasting rest)
  lasting_is_rest rest back sink all fit end_is kept = record {
    along = λ a b number takes.
        let fits = fits_at graph.places graph.arcs number takes.arc fit.arcs_fit takes.is in
        let forward = fits.forward in
        let within = fits.within in
        let from = takes.from in
        let to = takes.to in
        let extends = first_there (mask_extend a.resource.second.first takes.arc.step.1.0) (extend_b a.resource.second.second takes.arc.step.1.1) b.resource.second
        (second_there (extend_a a.resource.first takes.arc.step.0) (pair_extend mask_extend extend_b a.resource.second takes.arc.step.1) b.resource takes.extends) in
        let clears = subst (λ n. IsIn (get_or rest.rows.items (rest.sink - n) 0) (2 ^ 64 - 1 - takes.arc.step.1.0.clear)) from (kept.clears number takes.arc takes.is (omega (arith, sink, forward, within)) (omega (arith, sink, all))) in
        let less = kept.falls (rest.sink - b.place) (rest.sink - a.place) (omega (arith, forward, from, to)) (omega (arith, sink, all)) in
        falls_by
        (mask_done (record { bits = bit_and a.resource.second.first.bits (get_or rest.rows.items (rest.sink - a.place) 0) }) rest.last.end)
        (mask_done (record { bits = bit_and b.resource.second.first.bits (get_or rest.rows.items (rest.sink - b.place) 0) }) rest.last.end)
        ((rest.sink - b.place) * 2 ^ 40) ((rest.sink - a.place) * 2 ^ 40) a.gain b.gain
        (done_before a.resource.second.first.bits b.resource.second.first.bits (2 ^ 64 - 1 - takes.arc.step.1.0.clear) takes.arc.step.1.0.set (get_or rest.rows.items (rest.sink - a.place) 0) (get_or rest.rows.items (rest.sink - b.place) 0) rest.last.end
        (bits_of (bit_or (bit_and a.resource.second.first.bits (2 ^ 64 - 1 - takes.arc.step.1.0.clear)) takes.arc.step.1.0.set) b.resource.second.first extends) clears less)
        (more_gain (rest.sink - b.place) (rest.sink - a.place) ((rest.sink - b.place) * 2 ^ 40) ((rest.sink - a.place) * 2 ^ 40) takes.arc.gain a.gain b.gain
        (omega (arith, forward, within, from, to, sink)) takes.gain fits.gain_high refl refl);
    ends = λ last is.
        let mask = and_parts (mask_done last.second.first graph.end.1.0) (done_b last.second.second graph.end.1.1) (and_parts (done_a last.first graph.end.0) (pair_done mask_done done_b last.second graph.end.1) is).1 in
        no_loss (mask_done (record { bits = bit_and last.second.first.bits (get_or rest.rows.items (rest.sink - (graph.places - 1)) 0) }) rest.last.end) ((rest.sink - (graph.places - 1)) * 2 ^ 40)
        (mask_resource_laws.finishes (record { bits = bit_and last.second.first.bits (get_or rest.rows.items (rest.sink - (graph.places - 1)) 0) }) last.second.first rest.last.end
        (part_below last.second.first.bits (get_or rest.rows.items (rest.sink - (graph.places - 1)) 0))
        (subst (λ (e : MaskEnd). mask_done last.second.first e ≡ true) (sym end_is) mask.0));
  }
