-- The least line that repeats its neighbour, among lines that are sorted, is the first one that repeats an earlier one.
use Rattle.std.proofs.Common.{◌≡◌, ℕ, zero, suc, ◌+◌, ◌-◌, ◌*◌, ◌^◌, ◌%◌, ◌<◌, ◌≤◌, Bool, true, false, List, [], ◌∷◌, ◌++◌, take, drop, drop-cons, add-one, length, get_or, Bor, Ordering, Less, Equal, Greater, nat_cmp, is_eq, is_lt, IsPermutation, IsSorted, inl, inr, refl, sym, ap, subst, ◌∙◌, arith, true≢false}
use Rattle.std.specs.Prelude.{nat_lt, min, if◌then◌else◌}
use Rattle.std.specs.Cmp.{IsTotalOrder}
use Rattle.std.specs.List.{All}
use Rattle.std.specs.Cmp.Lexicographic.{slice_cmp}
use Rattle.std.specs.Ordering.{ordering_reverse, ordering_then}
use Rattle.std.proofs.lemmas.Bool.{cases_lt}
use Rattle.std.proofs.lemmas.Bool.Decides.{nat_tests}
use Rattle.std.proofs.lemmas.Cmp.{nat_list_cmp_total, nat_cmp_total, on_total, then_total}
use Rattle.std.proofs.lemmas.List.{get_or_default, get_or-map, length-map, get_or-take}
use Rattle.std.proofs.lemmas.List.Elements.{Contains-get_or}
use Rattle.std.proofs.lemmas.List.MinMax.{ranks_by}
use Rattle.std.proofs.lemmas.List.Sorted.{All-permutation, Contains-permutation, sorted_far}
use Rattle.std.proofs.lemmas.Map.Keys.{ge_from_not_lt}
use Rattle.std.proofs.lemmas.Map.Lookups.{exact_unsigned}
use Rattle.std.proofs.lemmas.Map.Text.{is_eq-slice_cmp}
use Rattle.std.proofs.lemmas.Slice.Eq.{bytes_eq-Decides}
use Rattle.cert_text.specs.Spelling.{is_kept, place_in}
use Rattle.cert_text.specs.Places.{AreFreshTo}
use Rattle.cert_text.specs.LensLines.{texts}
use Rattle.cert_text.specs.Sorting.{digest_from, Placed, ArePairs, pair_cmp, is_repeat, lower, RepeatsAt, IsLeast}
use Rattle.cert_text.proofs.KeyLaws.{Key, same, same_is, same_self, placed, kept_at, take_length}
use Rattle.cert_text.proofs.Numerals.{both}

-- ---- the order of lines

-- a line behind its number
abbrev Numbered : Type 0
Numbered = ℕ × Key

abbrev line_cmp : Numbered → Numbered → Ordering
line_cmp a b = ordering_then (nat_cmp a.0 b.0) (slice_cmp nat_cmp a.1 b.1)

abbrev numbered : Placed → Numbered
numbered x = (x.0, x.1.now)

line_total : IsTotalOrder line_cmp
line_total = then_total (on_total (λ (a : Numbered). a.0) nat_cmp_total) (on_total (λ (a : Numbered). a.1) nat_list_cmp_total)

tie_line : (a b : Key) → slice_cmp nat_cmp a b ≡ Equal → a ≡ b
tie_line a b e = (bytes_eq-Decides a b).0 (sym (is_eq-slice_cmp a b) ∙ ap is_eq e)

tie_is : (a b : Numbered) → line_cmp a b ≡ Equal → a ≡ b
tie_is a b e = by_order (nat_cmp a.0 b.0) refl e
  where
    by_order : (o : Ordering) → nat_cmp a.0 b.0 ≡ o → ordering_then o (slice_cmp nat_cmp a.1 b.1) ≡ Equal → a ≡ b
    by_order Less h e = absurd cc
    by_order Equal h e = ap (λ (n : ℕ). (n, a.1)) (exact_unsigned a.0 b.0 h) ∙ ap (λ (k : Key). (b.0, k)) (tie_line a.1 b.1 e)
    by_order Greater h e = absurd cc

-- a total order ties with itself
tie_self : (a : Numbered) → line_cmp a a ≡ Equal
tie_self a = by_order (line_cmp a a) refl (line_total.antisymm a a)
  where
    by_order : (o : Ordering) → line_cmp a a ≡ o → line_cmp a a ≡ ordering_reverse (line_cmp a a) → line_cmp a a ≡ Equal
    by_order Less h e = absurd (let g : Less ≡ Greater = sym h ∙ e ∙ ap ordering_reverse h in cc)
    by_order Equal h e = h
    by_order Greater h e = absurd (let g : Greater ≡ Less = sym h ∙ e ∙ ap ordering_reverse h in cc)

-- neither is before the other
both_ways : (a b : Numbered) → is_lt (line_cmp a b) ≡ false → is_lt (line_cmp b a) ≡ false → a ≡ b
both_ways a b p q = by_order (line_cmp a b) refl p q (line_total.antisymm b a)
  where
    by_order : (o : Ordering) → line_cmp a b ≡ o → is_lt (line_cmp a b) ≡ false → is_lt (line_cmp b a) ≡ false
        → line_cmp b a ≡ ordering_reverse (line_cmp a b) → a ≡ b
    by_order Less e p q r = absurd (true≢false (sym (ap is_lt e) ∙ p))
    by_order Equal e p q r = tie_is a b e
    by_order Greater e p q r = absurd (true≢false (sym (ap is_lt (r ∙ ap ordering_reverse e)) ∙ q))

-- what is not behind another pair
record IsUp (x y : Placed) : Type 0 where
  lines : is_lt (line_cmp (numbered y) (numbered x)) ≡ false
  places : numbered x ≡ numbered y → x.2 ≤ y.2

up_from : (x y : Placed) → is_lt (pair_cmp y x) ≡ false → IsUp x y
up_from x y h = record {
  lines = by_order (line_cmp (numbered y) (numbered x)) h;
  places = λ e.
      let tie : line_cmp (numbered y) (numbered x) ≡ Equal = ap (line_cmp (numbered y)) e ∙ tie_self (numbered y) in
      ge_from_not_lt y.2 x.2 (sym (ap (λ (o : Ordering). is_lt (ordering_then o (nat_cmp y.2 x.2))) tie) ∙ h);
}
  where
    by_order : (o : Ordering) → is_lt (ordering_then o (nat_cmp y.2 x.2)) ≡ false → is_lt o ≡ false
    by_order Less h = h
    by_order Equal h = refl
    by_order Greater h = refl

pairs_up : (qs : List Placed) → IsSorted pair_cmp qs → (i j : ℕ) (d : Placed) → i ≤ j → j < length qs → IsUp (get_or qs i d) (get_or qs j d)
pairs_up qs sorted i j d le lt =
    let total = then_total (on_total numbered line_total) (on_total (λ (x : Placed). x.2) nat_cmp_total) in
    up_from (get_or qs i d) (get_or qs j d) (sorted_far (λ x y. is_lt (pair_cmp x y)) (ranks_by total (λ (x : Placed). x)) qs sorted i j d le lt)

-- ---- a line at a later place has a neighbour that it repeats

abbrev line_at : List Placed → Placed → ℕ → Numbered
line_at qs d k = numbered (get_or qs k d)

abbrev place_at : List Placed → Placed → ℕ → ℕ
place_at qs d k = (get_or qs k d).2

between : (qs : List Placed) → IsSorted pair_cmp qs → (d : Placed) (i k j : ℕ) → i ≤ k → k ≤ j → j < length qs → line_at qs d i ≡ line_at qs d j → line_at qs d k ≡ line_at qs d j
between qs sorted d i k j low high lt e =
    let a = pairs_up qs sorted i k d low (omega (arith, high, lt)) in
    let b = pairs_up qs sorted k j d high lt in
    both_ways (line_at qs d k) (line_at qs d j) (ap (λ (l : Numbered). is_lt (line_cmp (line_at qs d k) l)) (sym e) ∙ a.lines) b.lines

step_at : (qs : List Placed) (d : Placed) (k : ℕ) → k + 1 < length qs → line_at qs d k ≡ line_at qs d (k + 1) → place_at qs d k < place_at qs d (k + 1) → RepeatsAt qs k (place_at qs d (k + 1))
step_at qs d k within alike rises = record {
  within = within;
  repeats = λ e. moved e (repeat_is (get_or qs k d) (get_or qs (k + 1) d) alike rises);
  at = λ e. ap (λ (x : Placed). x.2) (get_or_default qs (k + 1) e d within);
}
  where
    repeat_is : (x y : Placed) → numbered x ≡ numbered y → x.2 < y.2 → is_repeat x y ≡ true
    repeat_is x y e lt =
        let a : same x.1.now y.1.now ≡ true = ap (λ (l : Numbered). same x.1.now l.1) (sym e) ∙ same_self x.1.now in
        let b : nat_lt x.2 y.2 ≡ true = grind (arith, nat_tests) in
        rw (a, b) refl

    moved : (e : Placed) → is_repeat (get_or qs k d) (get_or qs (k + 1) d) ≡ true → is_repeat (get_or qs k e) (get_or qs (k + 1) e) ≡ true
    moved e h =
        ap (λ (x : Placed). is_repeat x (get_or qs (k + 1) e)) (get_or_default qs k e d (omega (arith, within)))
        ∙ ap (λ (y : Placed). is_repeat (get_or qs k d) y) (get_or_default qs (k + 1) e d within) ∙ h

-- n places behind the one at i
rising : (qs : List Placed) → IsSorted pair_cmp qs → (d : Placed) (i n : ℕ) → i + n < length qs → line_at qs d i ≡ line_at qs d (i + n) → place_at qs d i < place_at qs d (i + n)
    → (k : ℕ) × RepeatsAt qs k (place_at qs d (i + n))
rising qs sorted d i zero lt alike rises = let none : i + 0 ≡ i = omega arith in absurd (let g = ap (place_at qs d) none in omega (arith, g, rises))
rising qs sorted d i (suc n) lt alike rises =
    let next : i + n + 1 ≡ i + suc n = omega arith in
    let near : line_at qs d (i + n) ≡ line_at qs d (i + suc n) = between qs sorted d i (i + n) (i + suc n) (omega arith) (omega arith) lt alike in
    let up = pairs_up qs sorted (i + n) (i + suc n) d (omega arith) lt in
    elim (cases_lt (place_at qs d (i + n)) (place_at qs d (i + suc n))) [
      | inl less ↦
          let r = step_at qs d (i + n) (omega (arith, lt)) (near ∙ ap (line_at qs d) (sym next)) (let g = ap (place_at qs d) next in omega (arith, g, less)) in
          (i + n, subst (λ (m : ℕ). RepeatsAt qs (i + n) (place_at qs d m)) next r)
      | inr more ↦
          let le = up.places near in
          let tie : place_at qs d (i + n) ≡ place_at qs d (i + suc n) = omega (arith, le, more) in
          let r = rising qs sorted d i n (omega (arith, lt)) (alike ∙ sym near) (omega (arith, tie, rises)) in
          (r.0, subst (λ (m : ℕ). RepeatsAt qs r.0 m) tie r.1)
    ]

-- ---- the lines as they stood

lines_length : (ls : List (Bor (List ℕ))) → length (texts ls) ≡ length ls
lines_length ls = length-map ls (λ (l : Bor (List ℕ)). l.now)

-- a line beside its place
record IsOwn (ls : List (Bor (List ℕ))) (x : Placed) : Type 0 where
  within : x.2 < length ls
  line : x.1.now ≡ get_or (texts ls) x.2 []

own_at : (ls : List (Bor (List ℕ))) (ps : List Placed) → ArePairs ls ps → All (IsOwn ls) ps
own_at ls ps pairs k d lt =
    let inside : k < length ls = (let l = pairs.long in omega (arith, lt, l)) in
    subst (λ (x : Placed). IsOwn ls x) (sym (pairs.each k d inside)) (record { within = inside; line = sym (get_or-map (λ l. l.now) ls k d.1 [] inside) })

-- where a line stands among those that are sorted
record IsFound (ls : List (Bor (List ℕ))) (qs : List Placed) (j : ℕ) (d : Placed) : Type 0 where
  at : ℕ
  inside : at < length qs
  line : line_at qs d at ≡ (digest_from 0 (get_or (texts ls) j []), get_or (texts ls) j [])
  place : place_at qs d at ≡ j

find : (ls : List (Bor (List ℕ))) (ps qs : List Placed) → ArePairs ls ps → IsPermutation ps qs → (j : ℕ) (d : Placed) → j < length ls → IsFound ls qs j d
find ls ps qs pairs moved j d lt =
    let x : Placed = get_or ps j d in
    let c = Contains-permutation ps qs x moved (Contains-get_or ps j d (let l = pairs.long in omega (arith, lt, l))) in
    let is : get_or qs c.0 d ≡ (digest_from 0 (get_or ls j d.1).now, get_or ls j d.1, j) = get_or_default qs c.0 d x c.1 ∙ c.2 ∙ pairs.each j d lt in
    record {
      at = c.0;
      inside = c.1;
      line = ap numbered is ∙ ap (λ (k : Key). (digest_from 0 k, k)) (sym (get_or-map (λ l. l.now) ls j d.1 [] lt));
      place = ap (λ (y : Placed). y.2) is;
    }

-- a line that stood before is the second of two neighbours
repeat_found : (ls : List (Bor (List ℕ))) (ps qs : List Placed) → ArePairs ls ps → IsPermutation ps qs → IsSorted pair_cmp qs → (i j : ℕ) (d : Placed) → i < j → j < length ls
    → get_or (texts ls) i [] ≡ get_or (texts ls) j [] → (k : ℕ) × RepeatsAt qs k j
repeat_found ls ps qs pairs moved sorted i j d less lt alike =
    let a = find ls ps qs pairs moved i d (omega (arith, less, lt)) in
    let b = find ls ps qs pairs moved j d lt in
    let line : line_at qs d a.at ≡ line_at qs d b.at = a.line ∙ ap (λ (k : Key). (digest_from 0 k, k)) alike ∙ sym b.line in
    let rises : place_at qs d a.at < place_at qs d b.at = (let p = a.place in let q = b.place in omega (arith, p, q, less)) in
    elim (cases_lt a.at b.at) [
      | inl before ↦
          let there : a.at + (b.at - a.at) ≡ b.at = omega (arith, before) in
          let inside = b.inside in
          let r = rising qs sorted d a.at (b.at - a.at) (omega (arith, there, inside)) (line ∙ ap (line_at qs d) (sym there)) (let g = ap (place_at qs d) there in omega (arith, g, rises)) in
          (r.0, subst (λ (m : ℕ). RepeatsAt qs r.0 m) (ap (place_at qs d) there ∙ b.place) r.1)
      | inr behind ↦
          let up = pairs_up qs sorted b.at a.at d behind a.inside in
          let le = up.places (sym line) in
          absurd (omega (arith, le, rises))
    ]

-- neighbours that repeat have lines that do
repeats_there : (ls : List (Bor (List ℕ))) (ps qs : List Placed) → ArePairs ls ps → IsPermutation ps qs → (k j : ℕ) (d : Placed) → RepeatsAt qs k j
    → (j < length ls) × (is_kept (take j (texts ls)) (get_or (texts ls) j []) ≡ true)
repeats_there ls ps qs pairs moved k j d r =
    let all = All-permutation (IsOwn ls) ps qs moved (own_at ls ps pairs) in
    let within = r.within in
    let a = all k d (omega (arith, within)) in
    let b = all (k + 1) d within in
    let t = both (same (line_at qs d k).1 (line_at qs d (k + 1)).1) (nat_lt (place_at qs d k) (place_at qs d (k + 1))) (r.repeats d) in
    let alike = same_is (line_at qs d k).1 (line_at qs d (k + 1)).1 t.0 in
    let rises : place_at qs d k < place_at qs d (k + 1) = lt_is (place_at qs d k) (place_at qs d (k + 1)) t.1 in
    let at = r.at d in
    let inside = b.within in
    let len = lines_length ls in
    let less : place_at qs d k < j = omega (arith, rises, at) in
    let lt : j < length ls = omega (arith, inside, at) in
    let long = take_length (texts ls) j (omega (arith, lt, len)) in
    let here : get_or (texts ls) (place_at qs d k) [] ≡ get_or (texts ls) j [] =
    sym a.line ∙ alike ∙ b.line ∙ ap (λ (m : ℕ). get_or (texts ls) m []) at in
    (lt, kept_at (take j (texts ls)) (place_at qs d k) (get_or (texts ls) j []) (omega (arith, long, less)) (get_or-take j (texts ls) (place_at qs d k) [] less ∙ here))
  where
    lt_is : (x y : ℕ) → nat_lt x y ≡ true → x < y
    lt_is x y h = grind (arith, nat_tests)

-- a line that is none of those before the least repeat
fresh_before : (ls : List (Bor (List ℕ))) (ps qs : List Placed) → ArePairs ls ps → IsPermutation ps qs → IsSorted pair_cmp qs → (n : ℕ) → IsLeast qs (length ls) n → (j : ℕ) → j < n
    → (d : Placed) → (b : Bool) → is_kept (take j (texts ls)) (get_or (texts ls) j []) ≡ b → b ≡ false
fresh_before ls ps qs pairs moved sorted n least j lt d false h = refl
fresh_before ls ps qs pairs moved sorted n least j lt d true h =
    let p = placed (take j (texts ls)) (get_or (texts ls) j []) h in
    absurd (none_before (place_in (take j (texts ls)) (get_or (texts ls) j [])) p.within p.at)
  where
    none_before : (i : ℕ) → i < length (take j (texts ls)) → get_or (take j (texts ls)) i [] ≡ get_or (texts ls) j [] → ⊥
    none_before i within at =
        let low = least.low in
        let len = lines_length ls in
        let inside : j < length ls = omega (arith, lt, low) in
        let long = take_length (texts ls) j (omega (arith, inside, len)) in
        let less : i < j = omega (arith, within, long) in
        let r = repeat_found ls ps qs pairs moved sorted i j d less inside (sym (get_or-take j (texts ls) i [] less) ∙ at) in
        let le = least.first r.0 j r.1 in
        omega (arith, le, lt)

fresh_at : (ls : List (Bor (List ℕ))) (ps qs : List Placed) (n : ℕ) (d : Placed) → ArePairs ls ps → IsPermutation ps qs → IsSorted pair_cmp qs → IsLeast qs (length ls) n → AreFreshTo (texts ls) n
fresh_at all ps qs n d pairs moved sorted least =
    let low = least.low in
    let len = lines_length all in
    let long = take_length (texts all) n (omega (arith, low, len)) in
    record {
      within = omega (arith, low, len);
      fresh = λ j lt.
          let less : j < n = omega (arith, lt, long) in
          ap (λ (ks : List Key). is_kept ks (get_or (take n (texts all)) j [])) (taken_twice (texts all) j n (omega (arith, less)))
          ∙ ap (is_kept (take j (texts all))) (get_or-take n (texts all) j [] less)
          ∙ fresh_before all ps qs pairs moved sorted n least j less d _ refl;
      repeats = λ lt.
          let r = least.at (omega (arith, lt, len)) in
          (repeats_there all ps qs pairs moved r.0 n d r.1).1;
    }
  where
    taken_twice : (xs : List Key) (i u : ℕ) → i ≤ u → take i (take u xs) ≡ take i xs
    taken_twice xs zero u le = refl
    taken_twice [] (suc i) zero le = refl
    taken_twice [] (suc i) (suc u) le = refl
    taken_twice (x ∷ xs) (suc i) zero le = absurd (omega arith)
    taken_twice (x ∷ xs) (suc i) (suc u) le = ap (λ (ys : List Key). x ∷ ys) (taken_twice xs i u (omega arith))

pub fresh_to : (ls : List (Bor (List ℕ))) (ps qs : List Placed) (n : ℕ) → ArePairs ls ps → IsPermutation ps qs → IsSorted pair_cmp qs → IsLeast qs (length ls) n → AreFreshTo (texts ls) n
fresh_to [] ps qs n pairs moved sorted least =
    let low = least.low in
    let none : n ≡ 0 = omega (arith, low) in
    subst (λ (m : ℕ). AreFreshTo [] m) (sym none) (record { within = omega arith; fresh = λ i lt. absurd (omega arith); repeats = λ lt. absurd (omega arith) })
fresh_to (l ∷ ls) ps qs n pairs moved sorted least = fresh_at (l ∷ ls) ps qs n (0, l, 0) pairs moved sorted least

-- ---- the loops

-- the least place among the neighbours in front of the one at i
pub record IsLeastTo (qs : List Placed) (count i least : ℕ) : Type 0 where
  pub low : least ≤ count
  pub at : least < count → (k : ℕ) × RepeatsAt qs k least
  pub first : (k place : ℕ) → k + 1 < i → RepeatsAt qs k place → least ≤ place

pub least_none : (qs : List Placed) (count : ℕ) → IsLeastTo qs count 1 count
least_none qs count = record { low = omega arith; at = λ lt. absurd (omega arith); first = λ k place lt. absurd (omega arith) }

pub least_all : (qs : List Placed) (count i least : ℕ) → length qs ≤ i → IsLeastTo qs count i least → IsLeast qs count least
least_all qs count i least all h = record {
  low = h.low;
  at = h.at;
  first = λ k place r. let within = r.within in h.first k place (omega (arith, within, all)) r;
}

-- a neighbour that repeats
pub least_more : (qs : List Placed) (count i least next : ℕ) (x y : Placed) → 1 ≤ i → i < length qs → get_or qs (i - 1) x ≡ x → get_or qs i y ≡ y → is_repeat x y ≡ true
    → next ≡ min least y.2 → IsLeastTo qs count i least → IsLeastTo qs count (i + 1) next
least_more qs count i least next x y some lt at_x at_y repeats e h =
    let back : i - 1 + 1 ≡ i = omega (arith, some) in
    let here : (d : Placed) → is_repeat (get_or qs (i - 1) d) (get_or qs (i - 1 + 1) d) ≡ true =
    λ d. ap (λ (z : Placed). is_repeat z (get_or qs (i - 1 + 1) d)) (get_or_default qs (i - 1) d x (omega (arith, some, lt)) ∙ at_x)
    ∙ ap (λ (k : ℕ). is_repeat x (get_or qs k d)) back ∙ ap (is_repeat x) (get_or_default qs i d y lt ∙ at_y) ∙ repeats in
    let place : (d : Placed) → (get_or qs (i - 1 + 1) d).2 ≡ y.2 =
    λ d. ap (λ (k : ℕ). (get_or qs k d).2) back ∙ ap (λ (z : Placed). z.2) (get_or_default qs i d y lt ∙ at_y) in
    let low = h.low in
    record {
      low = omega (arith, low, e);
      at = λ less. elim (cases_lt y.2 least) [
        | inl new ↦ let is : y.2 ≡ next = omega (arith, new, e) in (i - 1, record { within = omega (arith, some, lt); repeats = here; at = λ d. place d ∙ is })
        | inr old ↦ let is : least ≡ next = omega (arith, old, e) in subst (λ (n : ℕ). (k : ℕ) × RepeatsAt qs k n) is (h.at (omega (arith, less, is)))
      ];
      first = λ k p less r. elim (cases_lt (k + 1) i) [
        | inl before ↦ let le = h.first k p before r in omega (arith, le, e)
        | inr last ↦
            let is : k + 1 ≡ i = omega (arith, last, less) in
            let same : y.2 ≡ p = sym (ap (λ (z : Placed). z.2) at_y) ∙ ap (λ (m : ℕ). (get_or qs m y).2) (sym is) ∙ r.at y in
            omega (arith, same, e)
      ];
    }

-- a neighbour that does not
pub least_same : (qs : List Placed) (count i least : ℕ) (x y : Placed) → 1 ≤ i → i < length qs → get_or qs (i - 1) x ≡ x → get_or qs i y ≡ y → is_repeat x y ≡ false
    → IsLeastTo qs count i least → IsLeastTo qs count (i + 1) least
least_same qs count i least x y some lt at_x at_y other h = record {
  low = h.low;
  at = h.at;
  first = λ k p less r. elim (cases_lt (k + 1) i) [
    | inl before ↦ h.first k p before r
    | inr last ↦
        let is : k + 1 ≡ i = omega (arith, last, less) in
        let front : k ≡ i - 1 = omega (arith, is) in
        let again : is_repeat x y ≡ true =
        ap (λ (z : Placed). is_repeat z y) (sym at_x ∙ get_or_default qs (i - 1) x y (omega (arith, some, lt)))
        ∙ ap (is_repeat (get_or qs (i - 1) y)) (sym at_y) ∙ ap (λ (m : ℕ). is_repeat (get_or qs m y) (get_or qs i y)) (sym front)
        ∙ ap (λ (m : ℕ). is_repeat (get_or qs k y) (get_or qs m y)) (sym is) ∙ r.repeats y in
        absurd (true≢false (sym again ∙ other))
  ];
}

-- the next two neighbours
pub least_next : (qs : List Placed) (count i least next : ℕ) (d e : Placed) → 1 ≤ i → i < length qs → next ≡ lower least (get_or qs (i - 1) d) (get_or qs i e)
    → IsLeastTo qs count i least → IsLeastTo qs count (i + 1) next
least_next qs count i least next d e some lt is h = by_test (is_repeat (get_or qs (i - 1) d) (get_or qs i e)) refl is
  where
    at_x : get_or qs (i - 1) (get_or qs (i - 1) d) ≡ get_or qs (i - 1) d
    at_x = get_or_default qs (i - 1) (get_or qs (i - 1) d) d (omega (arith, some, lt))

    at_y : get_or qs i (get_or qs i e) ≡ get_or qs i e
    at_y = get_or_default qs i (get_or qs i e) e lt

    by_test : (b : Bool) → is_repeat (get_or qs (i - 1) d) (get_or qs i e) ≡ b → next ≡ (if b then min least (get_or qs i e).2 else least) → IsLeastTo qs count (i + 1) next
    by_test true t n = least_more qs count i least next (get_or qs (i - 1) d) (get_or qs i e) some lt at_x at_y t n h
    by_test false t n =
        subst (λ (m : ℕ). IsLeastTo qs count (i + 1) m) (sym n) (least_same qs count i least (get_or qs (i - 1) d) (get_or qs i e) some lt at_x at_y t h)

-- a line more beside its place
pub pairs_more : (ls : List (Bor (List ℕ))) (i : ℕ) (ps new : List Placed) (l : Bor (List ℕ)) → i < length ls → get_or ls i l ≡ l → new ≡ ps ++ (digest_from 0 l.now, l, i) ∷ []
    → ArePairs (take i ls) ps → ArePairs (take (i + 1) ls) new
pairs_more ls i ps new l lt at e h =
    let x : Placed = (digest_from 0 l.now, l, i) in
    let one : i + 1 ≡ suc i = omega arith in
    let grown : take (i + 1) ls ≡ take i ls ++ l ∷ [] = ap (λ (k : ℕ). take k ls) one ∙ take_one ls i l lt at in
    let taken : length (take i ls) ≡ i = bor_taken ls i (omega (arith, lt)) in
    let long = h.long in
    let len = bor_more (take i ls) l in
    let len_new = placed_more ps x in
    subst (λ (ms : List (Bor (List ℕ))). ArePairs ms new) (sym grown) (subst (λ (qs : List Placed). ArePairs (take i ls ++ l ∷ []) qs) (sym e) (record {
      long = omega (arith, long, len, len_new);
      each = λ k d less. elim (cases_lt k i) [
        | inl before ↦
            placed_front ps x k d (omega (arith, before, long, taken)) ∙ h.each k d (omega (arith, before, taken))
            ∙ ap (λ (m : Bor (List ℕ)). (digest_from 0 m.now, m, k)) (sym (bor_front (take i ls) l k d.1 (omega (arith, before, taken))))
        | inr last ↦
            let here : k ≡ length ps = omega (arith, last, less, len, taken, long) in
            let there : k ≡ length (take i ls) = omega (arith, here, long) in
            let is : k ≡ i = omega (arith, there, taken) in
            ap (λ (m : ℕ). get_or (ps ++ x ∷ []) m d) here ∙ placed_last ps x d
            ∙ ap (λ (m : Bor (List ℕ)). (digest_from 0 m.now, m, i)) (sym (ap (λ (m : ℕ). get_or (take i ls ++ l ∷ []) m d.1) there ∙ bor_last (take i ls) l d.1))
            ∙ ap (λ (m : ℕ). (digest_from 0 (get_or (take i ls ++ l ∷ []) k d.1).now, get_or (take i ls ++ l ∷ []) k d.1, m)) (sym is)
      ];
    }))
  where
    take_one : (ls : List (Bor (List ℕ))) (i : ℕ) (l : Bor (List ℕ)) → i < length ls → get_or ls i l ≡ l → take (suc i) ls ≡ take i ls ++ l ∷ []
    take_one [] i l lt at = absurd (omega arith)
    take_one (m ∷ ms) zero l lt at = ap (λ (x : Bor (List ℕ)). x ∷ []) at
    take_one (m ∷ ms) (suc i) l lt at = ap (λ (xs : List (Bor (List ℕ))). m ∷ xs) (take_one ms i l (omega arith) at)

    bor_taken : (ls : List (Bor (List ℕ))) (i : ℕ) → i ≤ length ls → length (take i ls) ≡ i
    bor_taken ls zero le = refl
    bor_taken [] (suc i) le = absurd (omega arith)
    bor_taken (m ∷ ms) (suc i) le = ap suc (bor_taken ms i (omega arith))

    bor_more : (ls : List (Bor (List ℕ))) (l : Bor (List ℕ)) → length (ls ++ l ∷ []) ≡ length ls + 1
    bor_more [] l = refl
    bor_more (m ∷ ms) l = let h = bor_more ms l in omega (arith, h)

    bor_front : (ls : List (Bor (List ℕ))) (l : Bor (List ℕ)) (k : ℕ) (d : Bor (List ℕ)) → k < length ls → get_or (ls ++ l ∷ []) k d ≡ get_or ls k d
    bor_front [] l k d lt = absurd (omega arith)
    bor_front (m ∷ ms) l zero d lt = refl
    bor_front (m ∷ ms) l (suc k) d lt = bor_front ms l k d (omega arith)

    bor_last : (ls : List (Bor (List ℕ))) (l d : Bor (List ℕ)) → get_or (ls ++ l ∷ []) (length ls) d ≡ l
    bor_last [] l d = refl
    bor_last (m ∷ ms) l d = bor_last ms l d

    placed_more : (ps : List Placed) (x : Placed) → length (ps ++ x ∷ []) ≡ length ps + 1
    placed_more [] x = refl
    placed_more (p ∷ ps) x = let h = placed_more ps x in omega (arith, h)

    placed_front : (ps : List Placed) (x : Placed) (k : ℕ) (d : Placed) → k < length ps → get_or (ps ++ x ∷ []) k d ≡ get_or ps k d
    placed_front [] x k d lt = absurd (omega arith)
    placed_front (p ∷ ps) x zero d lt = refl
    placed_front (p ∷ ps) x (suc k) d lt = placed_front ps x k d (omega arith)

    placed_last : (ps : List Placed) (x d : Placed) → get_or (ps ++ x ∷ []) (length ps) d ≡ x
    placed_last [] x d = refl
    placed_last (p ∷ ps) x d = placed_last ps x d

drop_none : (line : List ℕ) (i : ℕ) → length line ≤ i → drop i line ≡ []
drop_none [] zero le = refl
drop_none [] (suc i) le = refl
drop_none (b ∷ bs) zero le = absurd (omega arith)
drop_none (b ∷ bs) (suc i) le = drop_none bs i (omega arith)

-- no byte of a line more
pub digest_done : (n i : ℕ) (line : List ℕ) (total : ℕ) → length line ≤ i → digest_from n (drop i line) ≡ total → n ≡ total
unfolding digest_from
digest_done n i line total all so_far = sym (ap (digest_from n) (drop_none line i all)) ∙ so_far

-- one byte of a line more
pub digest_more : (n b m i : ℕ) (line : List ℕ) (total : ℕ) → i < length line → get_or line i 0 ≡ b → m ≡ (31 * n + b) % 2 ^ 56 → digest_from n (drop i line) ≡ total → digest_from m (drop (i + 1) line) ≡ total
unfolding digest_from
digest_more n b m i line total lt at e so_far =
    let cons : drop i line ≡ b ∷ drop (i + 1) line = drop-cons line i 0 lt ∙ ap (λ (x : ℕ). x ∷ drop (suc i) line) at ∙ ap (λ (k : ℕ). b ∷ drop k line) (sym (add-one i)) in
    ap (λ (k : ℕ). digest_from k (drop (i + 1) line)) e ∙ sym (ap (digest_from n) cons) ∙ so_far
