-- What arcs leave of what is wanted, and what they add.
use Rattle.std.proofs.Common.{◌≡◌, ℕ, ℤ, pos, zero, suc, ◌+◌, ◌-◌, ◌<◌, ◌≤◌, ◌+ℤ◌, Bool, true, false, cond, List, [], ◌∷◌, length, map, get_or, refl, ap, sym, ◌∙◌, arith, inl, inr}
use Rattle.std.specs.Prelude.{count_by, nat_le, slice_index_or, if◌then◌else◌}
use Rattle.std.specs.List.{range_with_len}
use Rattle.std.proofs.lemmas.Int.{ints}
use Rattle.std.proofs.lemmas.Bool.{and_parts, and_from, cases_lt}
use Rattle.std.proofs.lemmas.Bool.Decides.{nat_tests}
use Rattle.std.proofs.lemmas.List.{get_or_past}
use Rattle.std.proofs.lemmas.List.FromFn.{get_or-map-range_with_len, length-map-range_with_len}
use Rattle.std.proofs.lemmas.List.Recursion.{is_count_by}
use Rattle.label_lattice.specs.Tally.{counters_less}
use Rattle.label_lattice.specs.Usage.{counters_below}
use Rattle.roster_model.specs.Weights.{total, weight_at, weight_of}
use Rattle.count_graphs.proofs.CountChains.{left_along}

-- what the numbers come to
abbrev pub along : (ℕ → ℕ) → List ℕ → ℕ
along f [] = 0
along f (n ∷ ns) = f n + along f ns

map_same : (f g : ℕ → ℕ) → ((s : ℕ) → f s ≡ g s) → (slots : List ℕ) → map f slots ≡ map g slots
map_same f g h [] = refl
map_same f g h (s ∷ slots) = let here = h s in let rest = map_same f g h slots in rw (here, rest) refl

less_map : (w g : ℕ → ℕ) (slots : List ℕ) → counters_less (map w slots) (map g slots) ≡ map (λ s. w s - g s) slots
less_map w g [] = refl
less_map w g (s ∷ slots) = ap (λ (xs : List ℕ). (w s - g s) ∷ xs) (less_map w g slots)

pub left_is : (g : ℕ → ℕ → ℕ) (slots chain : List ℕ) (w : ℕ → ℕ)
    → left_along (λ number. map (g number) slots) (map w slots) chain ≡ map (λ s. w s - along (λ number. g number s) chain) slots
left_is g slots [] w = map_same w (λ s. w s - 0) (λ s. omega arith) slots
left_is g slots (number ∷ chain) w =
    ap (λ (ws : List ℕ). left_along (λ number. map (g number) slots) ws chain) (less_map w (g number) slots)
    ∙ left_is g slots chain (λ s. w s - g number s)
    ∙ map_same (λ s. (w s - g number s) - along (λ number. g number s) chain) (λ s. w s - (g number s + along (λ number. g number s) chain)) (λ s. omega arith) slots

pub each_none : (f : ℕ → ℕ) (slots : List ℕ) → counters_below (map f slots) [] ≡ true → (k : ℕ) → k < length slots → f (get_or slots k 64) ≡ 0
each_none f [] h k lt = absurd (omega arith)
each_none f (s ∷ slots) h zero lt =
    let parts = and_parts (nat_le (f s) 0) (counters_below (map f slots) []) h in
    let here = parts.0 in
    grind (arith, nat_tests)
each_none f (s ∷ slots) h (suc k) lt =
    each_none f slots (and_parts (nat_le (f s) 0) (counters_below (map f slots) []) h).1 k (omega arith)

none_left : (n : ℕ) → n ≡ 0 → nat_le n 0 ≡ true
none_left n e = grind (arith, nat_tests)

pub none_each : (f : ℕ → ℕ) (slots : List ℕ) → ((k : ℕ) → k < length slots → f (get_or slots k 64) ≡ 0) → counters_below (map f slots) [] ≡ true
none_each f [] h = refl
none_each f (s ∷ slots) h =
    and_from (nat_le (f s) 0) (counters_below (map f slots) []) (none_left (f s) (h 0 (omega arith))) (none_each f slots (λ k lt. h (suc k) (omega arith)))

-- one for each pairing that passes a test
abbrev pub weights_by : (ℕ → Bool) → ℕ → List ℤ
weights_by test count = map (λ p. pos (if test p then 1 else 0)) (range_with_len 0 count)

pub weights_long : (test : ℕ → Bool) (count : ℕ) → length (weights_by test count) ≡ count
weights_long test count = length-map-range_with_len (λ p. pos (if test p then 1 else 0)) 0 count

weighs_one : (test : ℕ → Bool) (count : ℕ) → ((p : ℕ) → count ≤ p → test p ≡ false) → (p : ℕ)
    → weight_at (weights_by test count) p ≡ pos (if test p then 1 else 0)
weighs_one test count past p = elim (cases_lt p count) [
  | inl low ↦ get_or-map-range_with_len (λ p. pos (if test p then 1 else 0)) 0 count p p (pos 0) low (omega arith)
  | inr high ↦
      let long = weights_long test count in
      get_or_past (weights_by test count) p (pos 0) (omega (arith, long, high))
      ∙ ap (λ (b : Bool). pos (if b then 1 else 0)) (sym (past p high))
]

sum_pos : (x y : ℤ) (a b : ℕ) → x ≡ pos a → y ≡ pos b → (x +ℤ y) ≡ pos (a + b)
sum_pos x y a b e f = omega (arith, ints)

added_weighs : (test : ℕ → Bool) (count : ℕ) → ((p : ℕ) → count ≤ p → test p ≡ false) → (adds chain : List ℕ)
    → total (map (λ number. weight_at (weights_by test count) (slice_index_or adds number count)) chain)
    ≡ pos (along (λ number. if test (slice_index_or adds number count) then 1 else 0) chain)
added_weighs test count past adds [] = refl
added_weighs test count past adds (number ∷ chain) =
    sum_pos (weight_at (weights_by test count) (slice_index_or adds number count))
    (total (map (λ number. weight_at (weights_by test count) (slice_index_or adds number count)) chain))
    (if test (slice_index_or adds number count) then 1 else 0)
    (along (λ number. if test (slice_index_or adds number count) then 1 else 0) chain)
    (weighs_one test count past (slice_index_or adds number count)) (added_weighs test count past adds chain)

line_weighs : (test : ℕ → Bool) (count : ℕ) → ((p : ℕ) → count ≤ p → test p ≡ false) → (line : List ℕ)
    → weight_of (weights_by test count) line ≡ pos (along (λ p. if test p then 1 else 0) line)
unfolding weight_of
line_weighs test count past [] = refl
line_weighs test count past (p ∷ line) =
    sum_pos (weight_at (weights_by test count) p) (weight_of (weights_by test count) line)
    (if test p then 1 else 0) (along (λ p. if test p then 1 else 0) line)
    (weighs_one test count past p) (line_weighs test count past line)

counts_by : (test : ℕ → Bool) (line : List ℕ) → along (λ p. if test p then 1 else 0) line ≡ count_by test line
counts_by test line = is_count_by (along (λ p. if test p then 1 else 0)) test refl (λ p rest. step (test p) (along (λ p. if test p then 1 else 0) rest)) line
  where
    step : (b : Bool) (n : ℕ) → (if b then 1 else 0) + n ≡ cond b (1 + n) n
    step true n = omega arith
    step false n = omega arith

same_pos : (a b : ℕ) → pos a ≡ pos b → a ≡ b
same_pos a b e = omega (arith, ints)

-- where arcs add what a line has, they count what the line counts
pub added_counts : (test : ℕ → Bool) (count : ℕ) → ((p : ℕ) → count ≤ p → test p ≡ false) → (adds chain line : List ℕ)
    → total (map (λ number. weight_at (weights_by test count) (slice_index_or adds number count)) chain) ≡ weight_of (weights_by test count) line
    → along (λ number. if test (slice_index_or adds number count) then 1 else 0) chain ≡ count_by test line
added_counts test count past adds chain line same =
    same_pos (along (λ number. if test (slice_index_or adds number count) then 1 else 0) chain) (along (λ p. if test p then 1 else 0) line)
    (sym (added_weighs test count past adds chain) ∙ same ∙ line_weighs test count past line)
    ∙ counts_by test line
