-- What a move of a pairing keeps, and what it lowers.
use Rattle.std.proofs.Common.{◌≡◌, ◌≢◌, ℕ, zero, suc, ◌+◌, ◌-◌, ◌<◌, ◌≤◌, Bool, true, false, not, cond, List, [], ◌∷◌, length, slice_set, Option, Some, None, refl, sym, ap, subst, ◌∙◌, arith, inl, inr, add-zero}
use Rattle.std.specs.Prelude.{All, ◌*◌, ◌==◌, nat_le, nat_lt, filter, sum_by, slice_get, slice_index}
use Rattle.std.specs.List.{filter_map, cons_option, range_with_len, list_all}
use Rattle.std.proofs.lemmas.Bool.{cases_eq, eq-eqb, ne_eqb, false≢true, and_parts, and_from, le-leb, leb-true}
use Rattle.std.proofs.lemmas.Bool.Decides.{nat_tests}
use Rattle.std.proofs.lemmas.List.{length-set, get_or-set_same, get_or-set_other, get_or_default}
use Rattle.std.proofs.lemmas.List.Elements.{All-set, All-filter, All-head, All-tail, All-cons}
use Rattle.std.proofs.lemmas.List.Sums.{sum_by-cons, sum_by-append, length-filter, count_by-le-length}
use Rattle.duty_calendar.specs.declared.pairing.Pairing.{Pairing}
use Rattle.duty_calendar.proofs.Counting.{range-append}
use Rattle.roster_model.specs.declared.problem.Problem.{Problem}
use Rattle.roster_model.specs.Ascending.{ascends_from, is_ascending}
use Rattle.roster_model.specs.Legality.{IsLegal}
use Rattle.roster_model.specs.Rosters.{IsComplete, line_at}
use Rattle.roster_model.specs.Scores.{is_flown, score_of}
use Rattle.roster_model.specs.Timelines.{credit_of}
use Rattle.roster_model.proofs.Bounds.{ascending-length}
use Rattle.roster_model.proofs.Greatest.{score_at}
use Rattle.open_time.specs.Eligible.{with_pairing}
use Rattle.open_time.specs.Moves.{without_pairing, moved, Takes, CanMove, vacant_credit, open_pairings, IsKept, IsFewer}

-- ---- the lines after two were changed

module _ (roster : List (List ℕ)) (a b : ℕ) (x y : List ℕ) (in_a : a < length roster) (in_b : b < length roster) where
  pub made_length : length (slice_set (slice_set roster a x) b y) ≡ length roster
  made_length = length-set (slice_set roster a x) b y ∙ length-set roster a x

  pub second_line : line_at (slice_set (slice_set roster a x) b y) b ≡ y
  second_line = get_or-set_same (slice_set roster a x) b y [] (omega (arith, in_b, length-set roster a x))

  pub first_line : a ≢ b → line_at (slice_set (slice_set roster a x) b y) a ≡ x
  first_line differ = get_or-set_other (slice_set roster a x) b a y [] differ ∙ get_or-set_same roster a x [] in_a

  pub other_line : (k : ℕ) → k ≢ a → k ≢ b → line_at (slice_set (slice_set roster a x) b y) k ≡ line_at roster k
  other_line k not_a not_b = get_or-set_other (slice_set roster a x) b k y [] not_b ∙ get_or-set_other roster a k x [] not_a

pub made_known : (n : ℕ) (roster : List (List ℕ)) (a b : ℕ) (x y : List ℕ) → All (All (λ p. p < n)) roster
    → All (λ p. p < n) x → All (λ p. p < n) y → All (All (λ p. p < n)) (slice_set (slice_set roster a x) b y)
made_known n roster a b x y all in_x in_y =
    All-set (All (λ (p : ℕ). p < n)) (slice_set roster a x) b y in_y (All-set (All (λ (p : ℕ). p < n)) roster a x in_x all)

-- ---- a line without a pairing

lower : (xs : List ℕ) (a b : ℕ) → a ≤ b → ascends_from b xs ≡ true → ascends_from a xs ≡ true
lower [] a b h up = refl
lower (x ∷ xs) a b h up =
    let parts = and_parts _ _ up in
    let least : b ≤ x = leb-true _ _ parts.0 in
    and_from _ _ (le-leb a x (omega arith)) parts.1

kept_up : (b : Bool) (x low : ℕ) (r : List ℕ) → nat_le low x ≡ true → ascends_from (x + 1) r ≡ true
    → ascends_from low (cond b (x ∷ r) r) ≡ true
kept_up true x low r h up = and_from _ _ h up
kept_up false x low r h up =
    let least : low ≤ x = leb-true _ _ h in lower r low (x + 1) (omega arith) up

without_up : (xs : List ℕ) (low p : ℕ) → ascends_from low xs ≡ true → ascends_from low (filter (λ q. not (q == p)) xs) ≡ true
without_up [] low p up = refl
without_up (x ∷ xs) low p up =
    let parts = and_parts _ _ up in
    kept_up (not (x == p)) x low (filter (λ q. not (q == p)) xs) parts.0 (without_up xs (x + 1) p parts.1)

one_less : (x p : ℕ) (xs : List ℕ) → x ≡ p → without_pairing (x ∷ xs) p ≡ without_pairing xs p
unfolding without_pairing
one_less x p xs e = rw (eq-eqb x p e) refl

one_kept : (x p : ℕ) (xs : List ℕ) → x ≢ p → without_pairing (x ∷ xs) p ≡ x ∷ without_pairing xs p
unfolding without_pairing
one_kept x p xs d = rw (ne_eqb x p d) refl

pub no_longer : (xs : List ℕ) (p : ℕ) → length (without_pairing xs p) ≤ length xs
unfolding without_pairing
no_longer xs p = omega (arith, length-filter (λ q. not (q == p)) xs, count_by-le-length (λ q. not (q == p)) xs)

pub shorter : (xs : List ℕ) (p : ℕ) → is_flown xs p ≡ true → length (without_pairing xs p) < length xs
shorter [] p e = absurd (false≢true e)
shorter (x ∷ xs) p e =
    elim (cases_eq x p) [
      | inl same ↦ omega (arith, no_longer xs p, ap (λ (l : List ℕ). length l) (one_less x p xs same))
      | inr differs ↦
          let rest : is_flown xs p ≡ true = rw (ne_eqb x p differs) at e in
          omega (arith, shorter xs p rest, ap (λ (l : List ℕ). length l) (one_kept x p xs differs))
    ]

more_credit : (o : Option Pairing) (a b : List Pairing) → sum_by (λ p. p.credit) a ≤ sum_by (λ p. p.credit) b
    → sum_by (λ p. p.credit) (cons_option o a) ≤ sum_by (λ p. p.credit) (cons_option o b)
more_credit None a b h = h
more_credit (Some p) a b h =
    omega (arith, h, sum_by-cons (λ (q : Pairing). q.credit) p a, sum_by-cons (λ (q : Pairing). q.credit) p b)

no_less_credit : (o : Option Pairing) (a b : List Pairing) → sum_by (λ p. p.credit) a ≤ sum_by (λ p. p.credit) b
    → sum_by (λ p. p.credit) a ≤ sum_by (λ p. p.credit) (cons_option o b)
no_less_credit None a b h = h
no_less_credit (Some p) a b h = omega (arith, h, sum_by-cons (λ (q : Pairing). q.credit) p b)

credit_step : (pairings : List Pairing) (b : Bool) (x : ℕ) (ys xs : List ℕ)
    → sum_by (λ p. p.credit) (filter_map (slice_get pairings) ys) ≤ sum_by (λ p. p.credit) (filter_map (slice_get pairings) xs)
    → sum_by (λ p. p.credit) (filter_map (slice_get pairings) (cond b (x ∷ ys) ys))
    ≤ sum_by (λ p. p.credit) (filter_map (slice_get pairings) (x ∷ xs))
credit_step pairings true x ys xs h = more_credit (slice_get pairings x) (filter_map (slice_get pairings) ys) (filter_map (slice_get pairings) xs) h
credit_step pairings false x ys xs h = no_less_credit (slice_get pairings x) (filter_map (slice_get pairings) ys) (filter_map (slice_get pairings) xs) h

less_credit : (pairings : List Pairing) (xs : List ℕ) (p : ℕ)
    → sum_by (λ q. q.credit) (filter_map (slice_get pairings) (filter (λ q. not (q == p)) xs))
    ≤ sum_by (λ q. q.credit) (filter_map (slice_get pairings) xs)
less_credit pairings [] p = omega arith
less_credit pairings (x ∷ xs) p =
    credit_step pairings (not (x == p)) x (filter (λ q. not (q == p)) xs) xs (less_credit pairings xs p)

pub credit_falls : (problem : Problem) (member : ℕ) (line : List ℕ) (p : ℕ)
    → credit_of problem member (without_pairing line p) ≤ credit_of problem member line
unfolding without_pairing
credit_falls problem member line p = omega (arith, less_credit problem.base.pairings line p)

-- ---- sums over a range

range_le : (f g : ℕ → ℕ) (a n : ℕ) → ((m : ℕ) → a ≤ m → m < a + n → f m ≤ g m)
    → sum_by f (range_with_len a n) ≤ sum_by g (range_with_len a n)
range_le f g a zero h = omega arith
range_le f g a (suc n) h =
    let rest : sum_by f (range_with_len (a + 1) n) ≤ sum_by g (range_with_len (a + 1) n) =
    range_le f g (a + 1) n (λ m l u. h m (omega arith) (omega arith)) in
    let head : f a ≤ g a = h a (omega arith) (omega arith) in
    rw (sum_by-cons f a (range_with_len (a + 1) n), sum_by-cons g a (range_with_len (a + 1) n)) (omega arith)

range_lt : (f g : ℕ → ℕ) (a n k : ℕ) → ((m : ℕ) → a ≤ m → m < a + n → f m ≤ g m) → a ≤ k → k < a + n → f k < g k
    → sum_by f (range_with_len a n) < sum_by g (range_with_len a n)
range_lt f g a zero k h low high less = absurd (omega arith)
range_lt f g a (suc n) k h low high less =
    elim (cases_eq k a) [
      | inl same ↦
          let rest : sum_by f (range_with_len (a + 1) n) ≤ sum_by g (range_with_len (a + 1) n) =
          range_le f g (a + 1) n (λ m l u. h m (omega arith) (omega arith)) in
          let head : f a < g a = subst (λ (m : ℕ). f m < g m) same less in
          rw (sum_by-cons f a (range_with_len (a + 1) n), sum_by-cons g a (range_with_len (a + 1) n)) (omega arith)
      | inr differs ↦
          let rest : sum_by f (range_with_len (a + 1) n) < sum_by g (range_with_len (a + 1) n) =
          range_lt f g (a + 1) n k (λ m l u. h m (omega arith) (omega arith)) (omega arith) (omega arith) less in
          let head : f a ≤ g a = h a (omega arith) (omega arith) in
          rw (sum_by-cons f a (range_with_len (a + 1) n), sum_by-cons g a (range_with_len (a + 1) n)) (omega arith)
    ]

-- ---- a move from a line at `crew` or behind to one before

module _ (roster : List (List ℕ)) (crew giver taker pairing : ℕ) (vacant : crew ≤ giver) (known : giver < length roster) (before : taker < crew) where
  pub taker_line : line_at (moved roster giver taker pairing) taker ≡ with_pairing (line_at roster taker) pairing
  unfolding moved
  taker_line = second_line roster giver taker (without_pairing (line_at roster giver) pairing) (with_pairing (line_at roster taker) pairing) known (omega (arith, before, vacant, known))

  giver_line : line_at (moved roster giver taker pairing) giver ≡ without_pairing (line_at roster giver) pairing
  unfolding moved
  giver_line =
      first_line roster giver taker (without_pairing (line_at roster giver) pairing) (with_pairing (line_at roster taker) pairing) known (omega (arith, before, vacant, known))
      (λ e. omega (arith, e, before, vacant))

  vacant_line : (k : ℕ) → k ≢ giver → crew ≤ k → line_at (moved roster giver taker pairing) k ≡ line_at roster k
  unfolding moved
  vacant_line k d le =
      other_line roster giver taker (without_pairing (line_at roster giver) pairing) (with_pairing (line_at roster taker) pairing) known (omega (arith, before, vacant, known))
      k d (λ e. omega (arith, e, before, le))

  no_longer_line : (m : ℕ) → crew ≤ m → length (line_at (moved roster giver taker pairing) m) ≤ length (line_at roster m)
  no_longer_line m le =
      elim (cases_eq m giver) [
        | inl same ↦
            subst (λ (k : ℕ). length (line_at (moved roster giver taker pairing) k) ≤ length (line_at roster k)) (sym same)
            (omega (arith, ap (λ (l : List ℕ). length l) giver_line, no_longer (line_at roster giver) pairing))
        | inr differs ↦ omega (arith, ap (λ (l : List ℕ). length l) (vacant_line m differs le))
      ]

  pub open_falls : (problem : Problem) → length roster ≡ length problem.base.members → is_flown (line_at roster giver) pairing ≡ true
      → open_pairings problem crew (moved roster giver taker pairing) < open_pairings problem crew roster
  unfolding open_pairings
  open_falls problem lines has =
      range_lt (λ m. length (line_at (moved roster giver taker pairing) m)) (λ m. length (line_at roster m)) crew (length problem.base.members - crew) giver
      (λ m l u. no_longer_line m l) vacant (omega (arith, vacant, known, lines))
      (omega (arith, ap (λ (l : List ℕ). length l) giver_line, shorter (line_at roster giver) pairing has))

  no_more_credit : (problem : Problem) (m : ℕ) → crew ≤ m
      → credit_of problem m (line_at (moved roster giver taker pairing) m) ≤ credit_of problem m (line_at roster m)
  no_more_credit problem m le =
      elim (cases_eq m giver) [
        | inl same ↦
            subst (λ (k : ℕ). credit_of problem k (line_at (moved roster giver taker pairing) k) ≤ credit_of problem k (line_at roster k)) (sym same)
            (subst (λ (l : List ℕ). credit_of problem giver l ≤ credit_of problem giver (line_at roster giver)) (sym giver_line) (credit_falls problem giver (line_at roster giver) pairing))
        | inr differs ↦
            subst (λ (l : List ℕ). credit_of problem m l ≤ credit_of problem m (line_at roster m)) (sym (vacant_line m differs le)) (omega arith)
      ]

  pub vacant_falls : (problem : Problem) → vacant_credit problem crew (moved roster giver taker pairing) ≤ vacant_credit problem crew roster
  unfolding vacant_credit
  vacant_falls problem =
      range_le (λ m. credit_of problem m (line_at (moved roster giver taker pairing) m)) (λ m. credit_of problem m (line_at roster m)) crew (length problem.base.members - crew)
      (λ m l u. no_more_credit problem m l)

  pub fewer_open : (problem : Problem) → length roster ≡ length problem.base.members → CanMove problem roster giver taker pairing
      → IsFewer problem crew roster (moved roster giver taker pairing)
  fewer_open problem lines can = record {
    kept = record { good = can.good; credit = vacant_falls problem };
    fewer = open_falls problem lines can.has;
  }

  -- what a move needs of the taker's new line
  pub same_score : (problem : Problem) → length roster ≡ length problem.base.members → CanMove problem roster giver taker pairing
      → score_of problem taker (with_pairing (line_at roster taker) pairing) ≡ score_of problem taker (line_at roster taker)
  same_score problem lines can =
      let member : taker < length problem.base.members = omega (arith, lines, before, vacant, known) in
      ap (score_of problem taker) (sym taker_line) ∙ sym (score_at problem (moved roster giver taker pairing) taker member)
      ∙ ap (λ (xs : List ℕ). slice_index xs taker) can.good.same ∙ score_at problem roster taker member

  pub legal_line : (problem : Problem) → length roster ≡ length problem.base.members → CanMove problem roster giver taker pairing
      → IsLegal problem taker (with_pairing (line_at roster taker) pairing)
  legal_line problem lines can =
      subst (IsLegal problem taker) taker_line (can.good.complete.legal taker (omega (arith, lines, before, vacant, known)))

-- ---- complete rosters

pub lines_known : (problem : Problem) (roster : List (List ℕ)) → IsComplete problem roster → All (All (λ p. p < length problem.base.pairings)) roster
lines_known problem roster is k d lt =
    let legal = is.legal k (omega (arith, is.lines, lt)) in
    subst (λ (line : List ℕ). All (λ p. p < length problem.base.pairings) line) (get_or_default roster k [] d lt) legal.in_range

pub line_known : (problem : Problem) (roster : List (List ℕ)) (m : ℕ) → IsComplete problem roster → m < length problem.base.members
    → All (λ p. p < length problem.base.pairings) (line_at roster m)
line_known problem roster m is lt = (is.legal m lt).in_range

pub flown_known : (n : ℕ) (line : List ℕ) (p : ℕ) → All (λ q. q < n) line → is_flown line p ≡ true → p < n
flown_known n [] p all e = absurd (false≢true e)
flown_known n (x ∷ xs) p all e =
    elim (cases_eq x p) [
      | inl same ↦ subst (λ (q : ℕ). q < n) same (All-head (λ (q : ℕ). q < n) x xs all)
      | inr differs ↦
          let rest : is_flown xs p ≡ true = rw (ne_eqb x p differs) at e in
          flown_known n xs p (All-tail (λ (q : ℕ). q < n) x xs all) rest
    ]

pub without_known : (n : ℕ) (line : List ℕ) (p : ℕ) → All (λ q. q < n) line → All (λ q. q < n) (without_pairing line p)
unfolding without_pairing
without_known n line p all = All-filter (λ q. not (q == p)) (λ (q : ℕ). q < n) line all

pub without_ascends : (line : List ℕ) (p : ℕ) → is_ascending line ≡ true → is_ascending (without_pairing line p) ≡ true
unfolding without_pairing
without_ascends line p up = without_up line 0 p up

range_most : (f : ℕ → ℕ) (a n c : ℕ) → ((m : ℕ) → a ≤ m → m < a + n → f m ≤ c) → sum_by f (range_with_len a n) ≤ n * c
range_most f a zero c h = omega arith
range_most f a (suc n) c h =
    let rest : sum_by f (range_with_len (a + 1) n) ≤ n * c =
    range_most f (a + 1) n c (λ m l u. h m (omega arith) (omega arith)) in
    let head : f a ≤ c = h a (omega arith) (omega arith) in
    rw (sum_by-cons f a (range_with_len (a + 1) n)) (omega arith)

pub open_few : (problem : Problem) (roster : List (List ℕ)) (crew : ℕ) → IsComplete problem roster → open_pairings problem crew roster ≤ 120000
unfolding open_pairings
open_few problem roster crew is =
    let month = problem.valid.month in
    let each : (m : ℕ) → crew ≤ m → m < crew + (length problem.base.members - crew) → length (line_at roster m) ≤ 600 =
    λ m l u.
    let legal = is.legal m (omega (arith, l, u)) in
    omega (arith, ascending-length (line_at roster m) (length problem.base.pairings) legal.ascending legal.in_range, month.pairings_form.few) in
    let most : sum_by (λ m. length (line_at roster m)) (range_with_len crew (length problem.base.members - crew)) ≤ (length problem.base.members - crew) * 600 =
    range_most (λ m. length (line_at roster m)) crew (length problem.base.members - crew) 600 each in
    omega (arith, most, month.members_form.few)

-- ---- as good a roster, over some steps

pub kept_same : (problem : Problem) (crew : ℕ) (roster : List (List ℕ)) → IsComplete problem roster → IsKept problem crew roster roster
kept_same problem crew roster is = record { good = record { complete = is; same = refl }; credit = omega arith }

pub kept_more : (problem : Problem) (crew : ℕ) (a b c : List (List ℕ)) → IsKept problem crew a b → IsKept problem crew b c → IsKept problem crew a c
kept_more problem crew a b c first next = record {
  good = record { complete = next.good.complete; same = next.good.same ∙ first.good.same };
  credit = omega (arith, first.credit, next.credit);
}

-- ---- sums that a loop makes, and lines that are tested

one_more : (f : ℕ → ℕ) (a n : ℕ) → sum_by f (range_with_len a (n + 1)) ≡ sum_by f (range_with_len a n) + f (a + n)
one_more f a n =
    ap (λ (xs : List ℕ). sum_by f xs) (range-append a n 1)
    ∙ sum_by-append f (range_with_len a n) (range_with_len (a + n) 1)
    ∙ ap (λ (k : ℕ). sum_by f (range_with_len a n) + k) (sum_by-cons f (a + n) [] ∙ add-zero (f (a + n)))

pub summed_more : (f : ℕ → ℕ) (a k total one next : ℕ) → a ≤ k → total ≡ sum_by f (range_with_len a (k - a)) → one ≡ f k → next ≡ total + one
    → next ≡ sum_by f (range_with_len a (k + 1 - a))
summed_more f a k total one next le so_far at more =
    let here : a + (k - a) ≡ k = omega (arith, le) in
    let longer : (k - a) + 1 ≡ k + 1 - a = omega (arith, le) in
    subst (λ (n : ℕ). next ≡ sum_by f (range_with_len a n)) longer
    (more ∙ ap (λ (t : ℕ). t + one) so_far ∙ ap (λ (t : ℕ). sum_by f (range_with_len a (k - a)) + t) (at ∙ ap f (sym here))
    ∙ sym (one_more f a (k - a)))

pub known_all : (n : ℕ) (xs : List ℕ) → list_all (λ p. nat_lt p n) xs ≡ true → All (λ p. p < n) xs
known_all n [] e = λ k d lt. absurd (omega (arith, lt))
known_all n (x ∷ xs) e =
    let parts = and_parts _ _ e in
    All-cons (λ (p : ℕ). p < n) x xs (ltb_lt x n parts.0) (known_all n xs parts.1)
  where
    ltb_lt : (a b : ℕ) → nat_lt a b ≡ true → a < b
    ltb_lt a b h = grind (arith, nat_tests)

-- ---- the roster of a move, put together

pub moved_is : (roster : List (List ℕ)) (giver taker pairing : ℕ) (from to less more : List ℕ) (made : List (List ℕ))
    → from ≡ line_at roster giver → less ≡ without_pairing from pairing → to ≡ line_at roster taker → more ≡ with_pairing to pairing
    → made ≡ slice_set (slice_set roster giver less) taker more → made ≡ moved roster giver taker pairing
unfolding moved
moved_is roster giver taker pairing from to less more made from_is less_is to_is more_is made_is =
    let first : less ≡ without_pairing (line_at roster giver) pairing = less_is ∙ ap (λ (l : List ℕ). without_pairing l pairing) from_is in
    let next : more ≡ with_pairing (line_at roster taker) pairing = more_is ∙ ap (λ (l : List ℕ). with_pairing l pairing) to_is in
    made_is ∙ ap (λ (l : List ℕ). slice_set (slice_set roster giver l) taker more) first
    ∙ ap (λ (l : List ℕ). slice_set (slice_set roster giver (without_pairing (line_at roster giver) pairing)) taker l) next

-- a move that the taker's new line forbids
pub line_refuses : (problem : Problem) (roster : List (List ℕ)) (giver taker pairing : ℕ) (to more : List ℕ) → IsComplete problem roster
    → giver < length problem.base.members → taker < giver → to ≡ line_at roster taker → more ≡ with_pairing to pairing
    → (Takes problem taker to more → ⊥) → CanMove problem roster giver taker pairing → ⊥
line_refuses problem roster giver taker pairing to more is in_range before to_is more_is none can =
    let known : giver < length roster = omega (arith, in_range, is.lines) in
    let next : with_pairing (line_at roster taker) pairing ≡ more = sym (more_is ∙ ap (λ (l : List ℕ). with_pairing l pairing) to_is) in
    none (record {
      same = ap (score_of problem taker) (sym next)
          ∙ same_score roster giver giver taker pairing (omega arith) known before problem is.lines can
          ∙ ap (score_of problem taker) (sym to_is);
      legal = subst (IsLegal problem taker) next (legal_line roster giver giver taker pairing (omega arith) known before problem is.lines can);
    })
