-- The line that a node decides.
use Rattle.std.proofs.Common.{◌≡◌, ℕ, zero, suc, ◌+◌, ◌<◌, ◌≤◌, Bool, true, false, List, [], ◌∷◌, ◌++◌, length, refl, ap, ◌∙◌, arith, inl, inr, zero-add}
use Rattle.std.specs.Prelude.{All, filter}
use Rattle.std.specs.List.{range_with_len}
use Rattle.std.proofs.lemmas.Bool.{le-leb, and_from, cases_Bool}
use Rattle.std.proofs.lemmas.List.Elements.{All-nil, All-cons}
use Rattle.std.proofs.lemmas.List.{append-nil}
use Rattle.duty_calendar.proofs.Counting.{range-append}
use Rattle.roster_model.specs.declared.problem.Problem.{Problem}
use Rattle.roster_model.specs.declared.node.Decision.{Decision}
use Rattle.roster_model.specs.Ascending.{ascends_from}
use Rattle.roster_model.specs.Closing.{decided_line}
use Rattle.roster_model.specs.Decided.{is_decided_as}

-- what is kept of a range ascends
pub ascends_from-filter : (test : ℕ → Bool) (low start n : ℕ) → low ≤ start
    → ascends_from low (filter test (range_with_len start n)) ≡ true
ascends_from-filter test low start zero h = refl
ascends_from-filter test low start (suc n) h =
    elim (cases_Bool (test start)) [
      | inl t ↦ rw t (and_from _ _ (le-leb low start h) (ascends_from-filter test (start + 1) (start + 1) n (omega arith)))
      | inr f ↦ rw f (ascends_from-filter test low (start + 1) n (omega arith))
    ]

-- and is in the range
pub filter-below : (test : ℕ → Bool) (start n bound : ℕ) → start + n ≤ bound
    → All (λ p. p < bound) (filter test (range_with_len start n))
filter-below test start zero bound h = All-nil (λ p. p < bound)
filter-below test start (suc n) bound h =
    elim (cases_Bool (test start)) [
      | inl t ↦ rw t (All-cons (λ p. p < bound) start (filter test (range_with_len (start + 1) n)) (omega arith) (filter-below test (start + 1) n bound (omega arith)))
      | inr f ↦ rw f (filter-below test (start + 1) n bound (omega arith))
    ]

pub decided_line-in_range : (problem : Problem) (node : List Decision) (member : ℕ)
    → All (λ p. p < length problem.base.pairings) (decided_line problem node member)
unfolding decided_line
decided_line-in_range problem node member =
    filter-below (λ p. is_decided_as node member p true) 0 (length problem.base.pairings) (length problem.base.pairings) (omega arith)

-- one number more
filter-append : (test : ℕ → Bool) (xs ys : List ℕ) → filter test (xs ++ ys) ≡ filter test xs ++ filter test ys
filter-append test [] ys = refl
filter-append test (x ∷ xs) ys =
    elim (cases_Bool (test x)) [
      | inl t ↦ rw t (ap (λ (s : List ℕ). x ∷ s) (filter-append test xs ys))
      | inr f ↦ rw f (filter-append test xs ys)
    ]

pub filter_kept : (test : ℕ → Bool) (n : ℕ) → test n ≡ true
    → filter test (range_with_len 0 (n + 1)) ≡ filter test (range_with_len 0 n) ++ n ∷ []
filter_kept test n t =
    rw (range-append 0 n 1, zero-add n) (filter-append test (range_with_len 0 n) (n ∷ []) ∙ ap (λ (s : List ℕ). filter test (range_with_len 0 n) ++ s) (rw t refl))

pub filter_passed : (test : ℕ → Bool) (n : ℕ) → test n ≡ false
    → filter test (range_with_len 0 (n + 1)) ≡ filter test (range_with_len 0 n)
filter_passed test n f =
    rw (range-append 0 n 1, zero-add n) (filter-append test (range_with_len 0 n) (n ∷ []) ∙ ap (λ (s : List ℕ). filter test (range_with_len 0 n) ++ s) (rw f refl) ∙ append-nil (filter test (range_with_len 0 n)))
