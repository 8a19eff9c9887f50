-- Numbers of a list that are below a count.
use Rattle.std.proofs.Common.{◌≡◌, ℕ, ◌<◌, Bool, true, ◌&&◌, nat_lt, All, List, [], ◌∷◌, subst, sym, ◌∙◌, arith}
use Rattle.std.proofs.lemmas.Bool.{and_parts}
use Rattle.std.proofs.lemmas.Bool.Decides.{nat_tests}
use Rattle.std.proofs.lemmas.List.Elements.{All-nil, All-cons}
use Rattle.std.specs.List.{list_all}

below : (x n : ℕ) → nat_lt x n ≡ true → x < n
below x n h = grind (arith, nat_tests)

all_true : (n : ℕ) (xs : List ℕ) → list_all (λ (x : ℕ). nat_lt x n) xs ≡ true → All (λ (p : ℕ). p < n) xs
all_true n [] h = All-nil (λ (p : ℕ). p < n)
all_true n (x ∷ xs) h =
    let parts = and_parts (nat_lt x n) (list_all (λ (y : ℕ). nat_lt y n) xs) h in
    All-cons (λ (p : ℕ). p < n) x xs (below x n parts.0) (all_true n xs parts.1)

pub all_below : (count n : ℕ) (xs : List ℕ) (b : Bool) → count ≡ n → b ≡ list_all (λ (x : ℕ). nat_lt x count) xs → b ≡ true → All (λ (p : ℕ). p < n) xs
all_below count n xs b same is h = subst (λ (m : ℕ). All (λ (p : ℕ). p < m) xs) same (all_true count xs (sym is ∙ h))
