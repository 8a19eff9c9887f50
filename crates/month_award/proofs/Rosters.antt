-- Complete rosters: how many pairings stand in their lines, that they are within the limits of certificates, and how
-- long their text is.
use Rattle.std.proofs.Common.{◌≡◌, ℕ, zero, suc, ◌+◌, ◌*◌, ◌<◌, ◌≤◌, ◌&&◌, true, ℤ, pos, List, [], ◌∷◌, length, map, codes, refl, ap, arith, length-append}
use Rattle.std.specs.Prelude.{◌+ℤ◌, ◌*ℤ◌, ◌≤ℤ◌, All, nat_lt, slice_get}
use Rattle.std.specs.List.{flat_map, list_all}
use Rattle.std.specs.Option.{option_map_or}
use Rattle.std.proofs.lemmas.Bool.{and_from}
use Rattle.std.proofs.lemmas.Int.{ints}
use Rattle.std.proofs.lemmas.List.Elements.{All-head, All-tail}
use Rattle.std.proofs.lemmas.List.Sums.{list_all-from_AllPass}
use Rattle.duty_calendar.specs.declared.horizon.Horizon.{Horizon}
use Rattle.duty_calendar.specs.declared.pairing.Pairing.{Pairing}
use Rattle.duty_calendar.specs.Checks.{IsPairing}
use Rattle.roster_model.specs.declared.problem.Problem.{Problem}
use Rattle.roster_model.specs.Legality.{IsLegal}
use Rattle.roster_model.specs.Rosters.{IsComplete, line_at, need_of}
use Rattle.roster_model.specs.Weights.{weight_at, weight_of, sum_below, needed_weight}
use Rattle.roster_model.proofs.Bounds.{ascending-length}
use Rattle.roster_model.proofs.Duality.{complete-weighs}
use Rattle.roster_model.proofs.WeightSums.{total_weight}
use Rattle.cert_text.specs.declared.limits.TheConstants.{MOST_ROWS, MOST_ENTRIES}
use Rattle.cert_text.specs.Limits.{is_index, is_row, is_few}
use Rattle.cert_text.specs.Spelling.{index_text, row_text}
use Rattle.month_award.proofs.Numbers.{below, within, index-fits}
use Rattle.month_award.proofs.Lengths.{line-length, each-words}
use Rattle.month_award.proofs.Leaves.{index-length, pairing-small}

-- how long the lines of a roster are together
abbrev pub entries_in : List (List ℕ) → ℕ
entries_in [] = 0
entries_in (row ∷ rows) = length row + entries_in rows

-- a weight of one for each pairing
ones : ℕ → List ℤ
ones zero = []
ones (suc n) = pos 1 ∷ ones n

one-at : (n p : ℕ) → p < n → weight_at (ones n) p ≡ pos 1
unfolding ones
one-at zero p lt = absurd (omega arith)
one-at (suc n) zero lt = refl
one-at (suc n) (suc p) lt = one-at n p (omega (arith, lt))

one-more : (x y : ℤ) (n : ℕ) → x ≡ pos 1 → y ≡ pos n → x +ℤ y ≡ pos (suc n)
one-more x y n one rest = omega (arith, ints, one, rest)

two-sums : (x y : ℤ) (m n : ℕ) → x ≡ pos m → y ≡ pos n → x +ℤ y ≡ pos (m + n)
two-sums x y m n first second = omega (arith, ints, first, second)

line-weighs : (n : ℕ) (line : List ℕ) → All (λ p. p < n) line → weight_of (ones n) line ≡ pos (length line)
unfolding weight_of
line-weighs n [] small = refl
line-weighs n (p ∷ line) small =
    one-more (weight_at (ones n) p) (weight_of (ones n) line) (length line) (one-at n p (All-head (λ q. q < n) p line small))
    (line-weighs n line (All-tail (λ q. q < n) p line small))

lines-weigh : (n : ℕ) (lines : List (List ℕ)) → ((m : ℕ) → m < length lines → All (λ p. p < n) (line_at lines m))
    → total_weight (ones n) lines ≡ pos (entries_in lines)
unfolding total_weight
lines-weigh n [] small = refl
lines-weigh n (line ∷ lines) small =
    two-sums (weight_of (ones n) line) (total_weight (ones n) lines) (length line) (entries_in lines) (line-weighs n line (small 0 (omega arith)))
    (lines-weigh n lines (λ m lt. small (suc m) (omega (arith, lt))))

-- no pairing needs more than nine
need-le : (h : Horizon) (pairings : List Pairing) (p : ℕ) → All (IsPairing h) pairings
    → option_map_or (λ x. x.need) (slice_get pairings p) 0 ≤ 9
need-le h [] p each = omega arith
need-le h (x ∷ xs) zero each = (All-head (IsPairing h) x xs each).few_need
need-le h (x ∷ xs) (suc p) each = need-le h xs p (All-tail (IsPairing h) x xs each)

term-le : (n : ℕ) (x : ℤ) → n ≤ 9 → x ≡ pos 1 → (pos n *ℤ x) ≤ℤ pos 9
term-le n x le one = let same : pos n *ℤ x ≡ pos n *ℤ pos 1 = ap (λ (y : ℤ). pos n *ℤ y) one in omega (arith, ints, same, le)

sum-le : (f : ℕ → ℤ) (n : ℕ) → ((k : ℕ) → k < n → f k ≤ℤ pos 9) → sum_below f n ≤ℤ pos (n * 9)
unfolding sum_below
sum-le f zero small = omega (arith, ints)
sum-le f (suc n) small = omega (arith, ints, sum-le f n (λ k lt. small k (omega (arith, lt))), small n (omega arith))

needed-le : (problem : Problem) → needed_weight problem (ones (length problem.base.pairings)) ≤ℤ pos (length problem.base.pairings * 9)
needed-le problem =
    let n = length problem.base.pairings in
    sum-le (λ p. pos (need_of problem p) *ℤ weight_at (ones n) p) n
    (λ p lt. term-le (need_of problem p) (weight_at (ones n) p) (need-le problem.base.rules.horizon problem.base.pairings p problem.valid.month.pairings_form.each) (one-at n p lt))

-- each pairing stands in as many lines as it needs members, which are nine at most
pub few-entries : (problem : Problem) (roster : List (List ℕ)) → IsComplete problem roster → entries_in roster ≤ 5400
few-entries problem roster complete =
    let n = length problem.base.pairings in
    omega (
      arith,
      ints,
      lines-weigh n roster (λ m lt. (complete.legal m (omega (arith, complete.lines, lt))).in_range),
      complete-weighs problem roster (ones n) complete,
      needed-le problem,
      problem.valid.month.pairings_form.few,
    )

rows-length : (rows : List (List ℕ)) → ((m : ℕ) → m < length rows → All (λ p. p < 600) (line_at rows m))
    → length (flat_map row_text rows) ≤ length rows * 5 + entries_in rows * 4
rows-length [] small = omega arith
rows-length (row ∷ rows) small =
    let four : length (codes "line") ≡ 4 = refl in
    let short : All (λ p. length (index_text p) ≤ 3) row = λ k p lt. index-length _ (small 0 (omega arith) k p lt) in
    omega (
      arith,
      four,
      length-append (row_text row) (flat_map row_text rows),
      line-length (codes "line") (map index_text row),
      each-words index_text 3 row short,
      rows-length rows (λ m lt. small (suc m) (omega (arith, lt))),
    )

rows-fit : (rows : List (List ℕ)) → ((m : ℕ) → m < length rows → is_row (line_at rows m) ≡ true) → list_all is_row rows ≡ true
rows-fit [] each = refl
rows-fit (row ∷ rows) each = and_from _ _ (each 0 (omega arith)) (rows-fit rows (λ m lt. each (suc m) (omega (arith, lt))))

row-fits : (problem : Problem) (m : ℕ) (row : List ℕ) → IsLegal problem m row → is_row row ≡ true
row-fits problem m row legal =
    let short = ascending-length row (length problem.base.pairings) legal.ascending legal.in_range in
    and_from _ _ legal.ascending
    (and_from _ _ (within (length row) MOST_ENTRIES (omega (arith, short, problem.valid.month.pairings_form.few)))
    (list_all-from_AllPass is_index row (λ k p lt. index-fits _ (pairing-small problem _ (legal.in_range k p lt)))))

-- how long the text of a complete roster is at most
unfoldable pub rows_most : ℕ
rows_most = 22600

-- a few rows that are within the limits, and short
pub record IsShort (rows : List (List ℕ)) : Type 0 where
  pub few : length rows ≤ 200
  pub fits : (nat_lt 0 (length rows) && is_few MOST_ROWS is_row rows) ≡ true
  pub short : length (flat_map row_text rows) ≤ rows_most

pub complete-short : (problem : Problem) (roster : List (List ℕ)) → IsComplete problem roster → IsShort roster
unfolding rows_most
complete-short problem roster complete =
    let few : length roster ≤ 200 = omega (arith, complete.lines, problem.valid.month.members_form.few) in
    let legal : (m : ℕ) → m < length roster → IsLegal problem m (line_at roster m) = λ m lt. complete.legal m (omega (arith, complete.lines, lt)) in
    record {
      few = few;
      fits = and_from _ _ (below 0 (length roster) (omega (arith, complete.lines, problem.valid.month.members_form.some)))
          (and_from _ _ (within (length roster) MOST_ROWS (omega (arith, few)))
          (rows-fit roster (λ m lt. row-fits problem m (line_at roster m) (legal m lt))));
      short = omega (
        arith,
        few,
        few-entries problem roster complete,
        rows-length roster (λ m lt k p in_row. pairing-small problem _ ((legal m lt).in_range k p in_row)),
      );
    }
