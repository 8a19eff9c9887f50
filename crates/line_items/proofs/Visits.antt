-- Walks to the sink are the lines whose pairings may be flown together.
use Rattle.std.proofs.Common.{◌≡◌, ◌≢◌, ℕ, zero, suc, ◌+◌, ◌<◌, ◌≤◌, Bool, true, false, not, cond, ◌&&◌, ◌||◌, List, [], ◌∷◌, refl, ap, sym, ◌∙◌, subst, arith, inl, inr, ◌⊎◌, ◌==◌}
use Rattle.std.specs.Prelude.{nat_lt, nat_le, filter}
use Rattle.std.specs.List.{range_with_len, AllByRecursion}
use Rattle.std.proofs.lemmas.Bool.{and_parts, and_from, false≢true, cases_Bool}
use Rattle.std.proofs.lemmas.Bool.Decides.{nat_tests}
use Rattle.line_items.proofs.Walks.{end_of}
use Rattle.line_items.proofs.Places.{is_added, IsOrder}
use Rattle.line_items.proofs.Apart.{IsApartLine, may_visit, is_near}
use Rattle.line_items.proofs.Walking.{is_in_list, all_fit, ascends, IsStops}

-- the cases of an `or` that holds
pub or_parts : (a b : Bool) → (a || b) ≡ true → (a ≡ true) ⊎ (b ≡ true)
or_parts true b h = inl refl
or_parts false b h = inr h

pub or_left_true : (a b : Bool) → a ≡ true → (a || b) ≡ true
or_left_true true b h = refl
or_left_true false b h = cc

pub or_right_true : (a b : Bool) → b ≡ true → (a || b) ≡ true
or_right_true true b h = refl
or_right_true false b h = h

pub eq_from : (a b : ℕ) → (a == b) ≡ true → a ≡ b
eq_from a b h = grind (arith, nat_tests)

pub eq_to : (a b : ℕ) → a ≡ b → (a == b) ≡ true
eq_to a b h = grind (arith, nat_tests)

-- the visited places, by membership
pub at_each : (f : ℕ → Bool) (js : List ℕ) → AllByRecursion (λ j. f j ≡ true) js → (k : ℕ) → is_in_list js k ≡ true → f k ≡ true
at_each f [] all k h = absurd (false≢true h)
at_each f (j ∷ js) all k h = elim (or_parts (j == k) (is_in_list js k) h) [
  | inl here ↦ subst (λ (n : ℕ). f n ≡ true) (eq_from j k here) all.0
  | inr later ↦ at_each f js all.1 k later
]

pub each_from : (f : ℕ → Bool) (js : List ℕ) → ((k : ℕ) → is_in_list js k ≡ true → f k ≡ true) → AllByRecursion (λ j. f j ≡ true) js
each_from f [] h = tt
each_from f (j ∷ js) h = (h j (or_left_true (j == j) (is_in_list js j) (eq_to j j refl)), each_from f js (λ k m. h k (or_right_true (j == k) (is_in_list js k) m)))

pub above : (i : ℕ) (js : List ℕ) → ascends i js → (k : ℕ) → is_in_list js k ≡ true → i < k
above i [] up k h = absurd (false≢true h)
above i (j ∷ js) up k h = elim (or_parts (j == k) (is_in_list js k) h) [
  | inl here ↦ let e = eq_from j k here in let l = up.0 in omega arith
  | inr later ↦ let r = above j js up.1 k later in let l = up.0 in omega arith
]

pub in_end : (i : ℕ) (js : List ℕ) → ascends i js → (k : ℕ) → is_in_list js k ≡ true → k ≤ end_of i js
in_end i [] up k h = absurd (false≢true h)
in_end i (j ∷ js) up k h = elim (or_parts (j == k) (is_in_list js k) h) [
  | inl here ↦ let e = eq_from j k here in let r = end_above j js up.1 in omega arith
  | inr later ↦ in_end j js up.1 k later
]
  where
    end_above : (j : ℕ) (js : List ℕ) → ascends j js → j ≤ end_of j js
    end_above j [] up = omega arith
    end_above j (x ∷ xs) up = let h = end_above x xs up.1 in let u = up.0 in omega arith

-- each two that are visited fit
pub each_fit : (near : ℕ → ℕ → Bool) (i : ℕ) (js : List ℕ) → all_fit near i js → ascends i js → (j k : ℕ) → is_in_list js j ≡ true → is_in_list js k ≡ true → j < k → near j k ≡ true
each_fit near i [] fit up j k a b lt = absurd (false≢true a)
each_fit near i (x ∷ xs) fit up j k a b lt =
    let k_later : is_in_list xs k ≡ true = elim (or_parts (x == k) (is_in_list xs k) b) [
      | inl here ↦ absurd (first_is_least x xs j k a (eq_from x k here) lt up.1)
      | inr later ↦ later
    ] in
    elim (or_parts (x == j) (is_in_list xs j) a) [
      | inl here ↦ subst (λ (n : ℕ). near n k ≡ true) (eq_from x j here) (fits_at x xs fit.1 k k_later)
      | inr later ↦ each_fit near x xs fit.1 up.1 j k later k_later lt
    ]
  where
    first_is_least : (x : ℕ) (xs : List ℕ) (j k : ℕ) → is_in_list (x ∷ xs) j ≡ true → x ≡ k → j < k → ascends x xs → ⊥
    first_is_least x xs j k a e lt up = elim (or_parts (x == j) (is_in_list xs j) a) [
      | inl here ↦ let h = eq_from x j here in omega arith
      | inr later ↦ let h = above x xs up j later in omega arith
    ]

    fits_at : (x : ℕ) (xs : List ℕ) → all_fit near x xs → (k : ℕ) → is_in_list xs k ≡ true → near x k ≡ true
    fits_at x [] fit k h = absurd (false≢true h)
    fits_at x (y ∷ ys) fit k h = at_each (near x) (y ∷ ys) fit.0 k h

pub fit_from : (near : ℕ → ℕ → Bool) (i : ℕ) (js : List ℕ) → ascends i js
    → ((k : ℕ) → is_in_list js k ≡ true → near i k ≡ true)
    → ((j k : ℕ) → is_in_list js j ≡ true → is_in_list js k ≡ true → j < k → near j k ≡ true) → all_fit near i js
fit_from near i [] up first each = tt
fit_from near i (x ∷ xs) up first each = (
  each_from (near i) (x ∷ xs) first,
  fit_from near x xs up.1
      (λ k h. each x k (or_left_true (x == x) (is_in_list xs x) (eq_to x x refl)) (or_right_true (x == k) (is_in_list xs k) h) (above x xs up.1 k h))
      (λ j k a b lt. each j k (or_right_true (x == j) (is_in_list xs j) a) (or_right_true (x == k) (is_in_list xs k) b) lt),
)

-- the places of a range that pass a test
pub filter_ascends : (f : ℕ → Bool) (i start n : ℕ) → i < start → ascends i (filter f (range_with_len start n))
filter_ascends f i start zero lt = tt
filter_ascends f i start (suc n) lt =
    go (f start) (filter f (range_with_len (start + 1) n)) (filter_ascends f start (start + 1) n (omega arith)) (filter_ascends f i (start + 1) n (omega arith))
  where
    go : (b : Bool) (xs : List ℕ) → ascends start xs → ascends i xs → ascends i (cond b (start ∷ xs) xs)
    go true xs a c = (lt, a)
    go false xs a c = c

pub in_filter : (f : ℕ → Bool) (start n k : ℕ) → is_in_list (filter f (range_with_len start n)) k ≡ true → (start ≤ k) × (k < start + n) × (f k ≡ true)
in_filter f start zero k h = absurd (false≢true h)
in_filter f start (suc n) k h = go (f start) refl (filter f (range_with_len (start + 1) n)) h (λ m. in_filter f (start + 1) n k m)
  where
    go : (b : Bool) → f start ≡ b → (xs : List ℕ) → is_in_list (cond b (start ∷ xs) xs) k ≡ true
        → (is_in_list xs k ≡ true → (start + 1 ≤ k) × (k < (start + 1) + n) × (f k ≡ true)) → (start ≤ k) × (k < start + suc n) × (f k ≡ true)
    go true e xs m rest = elim (or_parts (start == k) (is_in_list xs k) m) [
      | inl here ↦ let same = eq_from start k here in (omega arith, omega arith, ap f (sym same) ∙ e)
      | inr later ↦ let r = rest later in (let a = r.0 in omega arith, let b = r.1 in omega arith, r.2)
    ]
    go false e xs m rest = let r = rest m in (let a = r.0 in omega arith, let b = r.1 in omega arith, r.2)

pub filter_has : (f : ℕ → Bool) (start n k : ℕ) → start ≤ k → k < start + n → f k ≡ true → is_in_list (filter f (range_with_len start n)) k ≡ true
filter_has f start zero k a b h = absurd (omega arith)
filter_has f start (suc n) k a b h =
    elim (cases_Bool (nat_lt start k)) [
      | inl later ↦ go (f start) (filter f (range_with_len (start + 1) n)) (filter_has f (start + 1) n k (grind (arith, nat_tests)) (omega arith) h)
      | inr now ↦
          let same : start ≡ k = grind (arith, nat_tests) in
          here (f start) (filter f (range_with_len (start + 1) n)) (ap f same ∙ h) same
    ]
  where
    go : (b : Bool) (xs : List ℕ) → is_in_list xs k ≡ true → is_in_list (cond b (start ∷ xs) xs) k ≡ true
    go true xs m = or_right_true (start == k) (is_in_list xs k) m
    go false xs m = m

    here : (b : Bool) (xs : List ℕ) → b ≡ true → start ≡ k → is_in_list (cond b (start ∷ xs) xs) k ≡ true
    here true xs e same = or_left_true (start == k) (is_in_list xs k) (eq_to start k same)
    here false xs e same = cc

pub filter_end : (f : ℕ → Bool) (i start n : ℕ) → f (start + n) ≡ true → end_of i (filter f (range_with_len start (suc n))) ≡ start + n
filter_end f i start zero h = go (f start) (let e : start + 0 ≡ start = omega arith in ap f (sym e) ∙ h)
  where
    go : (b : Bool) → b ≡ true → end_of i (cond b (start ∷ []) []) ≡ start + 0
    go true e = omega arith
    go false e = cc
filter_end f i start (suc n) h =
    let e : (start + 1) + n ≡ start + suc n = omega arith in
    let g : f ((start + 1) + n) ≡ true = ap f e ∙ h in
    go (f start) (filter f (range_with_len (start + 1) (suc n))) (filter_end f start (start + 1) n g ∙ e) (filter_end f i (start + 1) n g ∙ e)
  where
    go : (b : Bool) (xs : List ℕ) → end_of start xs ≡ start + suc n → end_of i xs ≡ start + suc n → end_of i (cond b (start ∷ xs) xs) ≡ start + suc n
    go true xs a c = a
    go false xs a c = c

-- a pairing is added exactly by its place
pub added_from : (adds : ℕ → ℕ) (js : List ℕ) (k : ℕ) → is_in_list js k ≡ true → is_added adds js (adds k) ≡ true
added_from adds [] k h = absurd (false≢true h)
added_from adds (j ∷ js) k h = elim (or_parts (j == k) (is_in_list js k) h) [
  | inl here ↦ let same = eq_from j k here in or_left_true (adds j == adds k) (is_added adds js (adds k)) (eq_to (adds j) (adds k) (ap adds same))
  | inr later ↦ or_right_true (adds j == adds k) (is_added adds js (adds k)) (added_from adds js k later)
]

pub added_by : (adds : ℕ → ℕ) (js : List ℕ) (p : ℕ) → is_added adds js p ≡ true → (k : ℕ) × (is_in_list js k ≡ true) × (adds k ≡ p)
added_by adds [] p h = absurd (false≢true h)
added_by adds (j ∷ js) p h = elim (or_parts (adds j == p) (is_added adds js p) h) [
  | inl here ↦ (j, or_left_true (j == j) (is_in_list js j) (eq_to j j refl), eq_from (adds j) p here)
  | inr later ↦ let r = added_by adds js p later in (r.0, or_right_true (j == r.0) (is_in_list js r.0) r.1, r.2)
]

-- the places are sorted by when their pairings begin, and no rest ends before its pairing begins
pub record IsSorted (count sink : ℕ) (adds begins rests : ℕ → ℕ) : Type 0 where
  pub order : IsOrder count sink adds
  pub sorted : (i j : ℕ) → 0 < i → i < j → j < sink → begins (adds i) ≤ begins (adds j)
  pub lasts : (p : ℕ) → p < count → begins p < rests p
  pub none_rests : rests count ≡ 0
  pub has_sink : 0 < sink

-- the stops of a line: the places of its pairings, and the sink
abbrev pub stops_for : (ℕ → ℕ) → ℕ → (ℕ → Bool) → List ℕ
stops_for adds sink flown = filter (λ k. k == sink || flown (adds k)) (range_with_len 1 sink)

near_sink : (i j : Bool) (b : Bool) → not i ≡ true → j ≡ true → (not i && (j || b)) ≡ true
near_sink false true b p q = refl
near_sink true j b p q = p
near_sink false false b p q = absurd (false≢true q)

near_leq : (i j b : Bool) → not i ≡ true → b ≡ true → (not i && (j || b)) ≡ true
near_leq false true b p q = refl
near_leq true j b p q = p
near_leq false false b p q = q

pub end_in : (i : ℕ) (js : List ℕ) → i < end_of i js → is_in_list js (end_of i js) ≡ true
end_in i [] h = absurd (omega arith)
end_in i (j ∷ js) h = elim (cases_Bool (j == end_of j js)) [
  | inl same ↦ or_left_true (j == end_of j js) (is_in_list js (end_of j js)) same
  | inr other ↦ or_right_true (j == end_of j js) (is_in_list js (end_of j js)) (more j js other)
]
  where
    more : (j : ℕ) (js : List ℕ) → (j == end_of j js) ≡ false → is_in_list js (end_of j js) ≡ true
    more j [] h = let t = eq_to j j refl in absurd (false≢true (sym h ∙ t))
    more j (x ∷ xs) h = last x xs
      where
        last : (x : ℕ) (xs : List ℕ) → is_in_list (x ∷ xs) (end_of x xs) ≡ true
        last x [] = or_left_true (x == x) false (eq_to x x refl)
        last x (y ∷ ys) = or_right_true (x == end_of y ys) (is_in_list (y ∷ ys) (end_of y ys)) (last y ys)

not_true : (b : Bool) → not b ≡ true → b ≡ false
not_true true h = sym h
not_true false h = refl

module _ (base : Bool) (allowed must : ℕ → Bool) (begins rests : ℕ → ℕ) (count sink : ℕ) (adds : ℕ → ℕ)
    (s : IsSorted count sink adds begins rests)
    (in_range : (p : ℕ) → allowed p ≡ true → p < count) (must_range : (p : ℕ) → must p ≡ true → p < count) where
  -- walking on from a place that fits
  pub near_trans : (i j k : ℕ) → may_visit base allowed adds sink j ≡ true → is_near begins rests adds sink i j ≡ true → is_near begins rests adds sink j k ≡ true → is_near begins rests adds sink i k ≡ true
  near_trans i j k may a b =
      let pa = and_parts (not (i == sink)) _ a in
      let pb = and_parts (not (j == sink)) _ b in
      let j_inner = not_true (j == sink) pb.0 in
      let j_allowed : allowed (adds j) ≡ true = rest_of_or (j == sink) (allowed (adds j)) j_inner (and_parts base _ may).1 in
      let ij : nat_le (rests (adds i)) (begins (adds j)) ≡ true = rest_of_or (j == sink) _ j_inner pa.1 in
      elim (or_parts (k == sink) (nat_le (rests (adds j)) (begins (adds k))) pb.1) [
        | inl last ↦ near_sink (i == sink) (k == sink) (nat_le (rests (adds i)) (begins (adds k))) pa.0 last
        | inr jk ↦
            let lasts = s.lasts (adds j) (in_range (adds j) j_allowed) in
            near_leq (i == sink) (k == sink) (nat_le (rests (adds i)) (begins (adds k))) pa.0 (grind (arith, nat_tests))
      ]
    where
      rest_of_or : (a b : Bool) → a ≡ false → (a || b) ≡ true → b ≡ true
      rest_of_or true b e h = cc
      rest_of_or false b e h = h

  inner_of : (p k : ℕ) → p < count → adds k ≡ p → (b : Bool) → ((k == sink) || b) ≡ true → b ≡ true
  inner_of p k lt e b h = elim (or_parts (k == sink) b h) [
    | inl last ↦ let same = eq_from k sink last in let a : adds k ≡ count = ap adds same ∙ s.order.last in absurd (omega arith)
    | inr c ↦ c
  ]

  -- the line of a walk to the sink
  pub line_apart : (js : List ℕ) (flown : ℕ → Bool) → end_of 0 js ≡ sink
      → ((p : ℕ) → flown p ≡ true → p < count) → ((p : ℕ) → p < count → is_added adds js p ≡ flown p)
      → IsStops (may_visit base allowed adds sink) (λ j. must (adds j)) (is_near begins rests adds sink) 0 js
      → IsApartLine base allowed must begins rests flown
  line_apart js flown ends small same stops = record {
    base_holds =
        let has = s.has_sink in
        (and_parts base _ (at_each (may_visit base allowed adds sink) js stops.allowed (end_of 0 js) (end_in 0 js (omega arith)))).0;
    each_allowed = λ p f.
        let k = by p f in
        let may = at_each (may_visit base allowed adds sink) js stops.allowed k.0 k.1 in
        ap allowed (sym k.2) ∙ inner_of p k.0 (small p f) k.2 (allowed (adds k.0)) (and_parts base _ may).1;
    all_must = λ p m.
        let k = s.order.each p (must_range p m) in
        let here = stops.all_must k.0 k.1 (let l = k.2 in omega arith) (ap must k.3 ∙ m) in
        sym (same p (must_range p m)) ∙ ap (is_added adds js) (sym k.3) ∙ added_from adds js k.0 here;
    each_two = λ p q f h ne.
        let k = by p f in
        let l = by q h in
        elim (cases_Bool (nat_lt k.0 l.0)) [
          | inl before ↦ inl (two p q k.0 l.0 (small q h) k.2 l.2 (each_fit (is_near begins rests adds sink) 0 js stops.fit stops.up k.0 l.0 k.1 l.1 (grind (arith, nat_tests))))
          | inr not_before ↦
              let differ : k.0 ≢ l.0 = λ e. ne (sym k.2 ∙ ap adds e ∙ l.2) in
              let after : l.0 < k.0 = grind (arith, nat_tests) in
              inr (two q p l.0 k.0 (small p f) l.2 k.2 (each_fit (is_near begins rests adds sink) 0 js stops.fit stops.up l.0 k.0 l.1 k.1 after))
        ];
  }
    where
      by : (p : ℕ) → flown p ≡ true → (k : ℕ) × (is_in_list js k ≡ true) × (adds k ≡ p)
      by p f = added_by adds js p (same p (small p f) ∙ f)

      two : (p q k l : ℕ) → q < count → adds k ≡ p → adds l ≡ q → is_near begins rests adds sink k l ≡ true → rests p ≤ begins q
      two p q k l lt a b near =
          let parts = and_parts (not (k == sink)) _ near in
          let le = inner_of q l lt b (nat_le (rests (adds k)) (begins (adds l))) parts.1 in
          let le_n : rests (adds k) ≤ begins (adds l) = grind (arith, nat_tests) in
          subst (λ (x : ℕ). rests x ≤ begins q) a (subst (λ (y : ℕ). rests (adds k) ≤ begins y) b le_n)

  -- a stop of a line is the sink or adds a pairing of the line
  pub stop_is : (flown : ℕ → Bool) (k : ℕ) → is_in_list (stops_for adds sink flown) k ≡ true → (0 < k) × (k ≤ sink) × (((k == sink) || flown (adds k)) ≡ true)
  stop_is flown k h = let r = in_filter (λ k. k == sink || flown (adds k)) 1 sink k h in (let a = r.0 in omega arith, let b = r.1 in omega arith, r.2)

  -- it ends in the sink
  pub ends_at : (flown : ℕ → Bool) → end_of 0 (stops_for adds sink flown) ≡ sink
  ends_at flown = ends_from sink refl
    where
      g : ℕ → Bool
      g k = k == sink || flown (adds k)

      ends_from : (n : ℕ) → n ≡ sink → end_of 0 (filter g (range_with_len 1 n)) ≡ n
      ends_from zero e = refl
      ends_from (suc n) e = let one : 1 + n ≡ sink = omega arith in filter_end g 0 1 n (or_left_true ((1 + n) == sink) (flown (adds (1 + n))) (eq_to (1 + n) sink one)) ∙ omega arith

  -- the walk of a line
  pub apart_stops : (flown : ℕ → Bool) → ((p : ℕ) → flown p ≡ true → p < count)
      → IsApartLine base allowed must begins rests flown
      → IsStops (may_visit base allowed adds sink) (λ j. must (adds j)) (is_near begins rests adds sink) 0 (stops_for adds sink flown)
  apart_stops flown small line = record {
    up = filter_ascends (λ k. k == sink || flown (adds k)) 0 1 sink (omega arith);
    allowed = each_from (may_visit base allowed adds sink) (stops_for adds sink flown) (λ k h.
        and_from base _ line.base_holds (elim (or_parts (k == sink) (flown (adds k)) (stop_is flown k h).2) [
          | inl last ↦ or_left_true (k == sink) (allowed (adds k)) last
          | inr f ↦ or_right_true (k == sink) (allowed (adds k)) (line.each_allowed (adds k) f)
        ]));
    all_must = λ k a b m.
        let f = line.all_must (adds k) m in
        let lt : k < sink = must_before k b m in
        filter_has (λ k. k == sink || flown (adds k)) 1 sink k (omega arith) (omega arith) (or_right_true (k == sink) (flown (adds k)) f);
    fit = fit_from (is_near begins rests adds sink) 0 (stops_for adds sink flown) (filter_ascends (λ k. k == sink || flown (adds k)) 0 1 sink (omega arith))
        (λ k h. near_leq (0 == sink) (k == sink) (nat_le (rests (adds 0)) (begins (adds k))) not_zero
        (let none : rests (adds 0) ≡ 0 = ap rests s.order.source ∙ s.none_rests in grind (arith, nat_tests)))
        (λ j k a b lt.
        let at_j = stop_is flown j a in
        let at_k = stop_is flown k b in
        let le = at_k.1 in
        let j_inner : (j == sink) ≡ false = grind (arith, nat_tests) in
        let f_j : flown (adds j) ≡ true = rest_of (j == sink) (flown (adds j)) j_inner at_j.2 in
        elim (cases_Bool (k == sink)) [
          | inl last ↦ near_sink (j == sink) (k == sink) (nat_le (rests (adds j)) (begins (adds k))) (ap not j_inner) last
          | inr inner ↦
              let f_k : flown (adds k) ≡ true = rest_of (k == sink) (flown (adds k)) inner at_k.2 in
              let k_lt : k < sink = grind (arith, nat_tests) in
              near_leq (j == sink) (k == sink) (nat_le (rests (adds j)) (begins (adds k))) (ap not j_inner) (first_of j k at_j.0 lt k_lt f_j f_k)
        ]);
  }
    where
      not_zero : not (0 == sink) ≡ true
      not_zero = let h = s.has_sink in let t : (0 == sink) ≡ false = grind (arith, nat_tests) in ap not t

      must_before : (k : ℕ) → k < end_of 0 (stops_for adds sink flown) → must (adds k) ≡ true → k < sink
      must_before k b m = let e : end_of 0 (stops_for adds sink flown) ≡ sink = ends_at flown in omega arith

      rest_of : (a b : Bool) → a ≡ false → (a || b) ≡ true → b ≡ true
      rest_of true b e h = cc
      rest_of false b e h = h

      first_of : (j k : ℕ) → 0 < j → j < k → k < sink → flown (adds j) ≡ true → flown (adds k) ≡ true → nat_le (rests (adds j)) (begins (adds k)) ≡ true
      first_of j k pos lt k_lt f g =
          let ne : adds j ≢ adds k = λ e. let same = s.order.once j k (small (adds j) f) e in absurd (omega arith) in
          elim (line.each_two (adds j) (adds k) f g ne) [
            | inl le ↦ grind (arith, nat_tests)
            | inr ge ↦ let up = s.sorted j k pos lt k_lt in let l = s.lasts (adds k) (small (adds k) g) in absurd (omega arith)
          ]

  -- and adds the line's pairings
  pub stops_add : (flown : ℕ → Bool) → (p : ℕ) → p < count → is_added adds (stops_for adds sink flown) p ≡ flown p
  stops_add flown p lt = elim (cases_Bool (flown p)) [
    | inl f ↦
        let k = s.order.each p lt in
        let pos = k.1 in
        let lt_sink = k.2 in
        let g : ((k.0 == sink) || flown (adds k.0)) ≡ true = or_right_true (k.0 == sink) (flown (adds k.0)) (ap flown k.3 ∙ f) in
        let here = filter_has (λ k. k == sink || flown (adds k)) 1 sink k.0 (omega arith) (omega arith) g in
        ap (is_added adds (stops_for adds sink flown)) (sym k.3) ∙ added_from adds (stops_for adds sink flown) k.0 here ∙ sym f
    | inr n ↦ elim (cases_Bool (is_added adds (stops_for adds sink flown) p)) [
      | inl a ↦
          let k = added_by adds (stops_for adds sink flown) p a in
          let is = stop_is flown k.0 k.1 in
          let f = inner_of p k.0 lt k.2 (flown (adds k.0)) is.2 in
          absurd (false≢true (sym n ∙ ap flown (sym k.2) ∙ f))
      | inr none ↦ none ∙ sym n
    ]
  ]
