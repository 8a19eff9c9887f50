-- The best of one label more.
use Rattle.std.proofs.Common.{◌≡◌, ℕ, ℤ, ◌≤ℤ◌, ◌+◌, ◌<◌, List, Bool, true, false, cond, ◌&&◌, Option, Some, None, inl, inr, refl, sym, ap, subst, arith}
use Rattle.std.specs.Prelude.{slice_get, int_lt}
use Rattle.std.proofs.lemmas.Int.{ints}
use Rattle.label_setter.proofs.ListReads.{below_or_at, same_some, contains_read}
use Rattle.label_setter.specs.declared.labels.Label.{Label}
use Rattle.label_setter.specs.Labels.{IsBest, BestDone, beats}

not_less : (a b : ℤ) → int_lt a b ≡ false → b ≤ℤ a
not_less a b h = grind (arith, ints)

is_less : (a b : ℤ) → int_lt a b ≡ true → a ≤ℤ b
is_less a b h = grind (arith, ints)

int_refl : (a b : ℤ) → a ≡ b → a ≤ℤ b
int_refl a b e = omega (arith, ints)

int_trans : (a b c : ℤ) → a ≤ℤ b → b ≤ℤ c → a ≤ℤ c
int_trans a b c p q = omega (arith, ints)

module _ {R : Type 0} (done : R → Bool) (labels : List (Label R)) (i : ℕ) (label : Label R) (is : slice_get labels i ≡ Some label) where
  at_label : (k : ℕ) (x : Label R) → k ≡ i → slice_get labels k ≡ Some x → x ≡ label
  at_label k x now x_is = same_some _ x label x_is (subst (λ n. slice_get labels n ≡ Some label) (sym now) is)

  -- the label is no better: not done, or no greater gain
  kept_none : (d : Bool) → done label.resource ≡ d → d ≡ false → BestDone done labels i None → BestDone done labels (i + 1) None
  kept_none d e fails best k x within x_is x_done =
      elim (below_or_at k i within) [
        | inl earlier ↦ best k x earlier x_is x_done
        | inr now ↦ (let same = at_label k x now x_is in let at : done label.resource ≡ true = subst (λ (l : Label R). done l.resource ≡ true) same x_done in cc)
      ]

  kept_best : (b : Label R) → ((done label.resource ≡ true) → label.gain ≤ℤ b.gain) → IsBest done labels i b → IsBest done labels (i + 1) b
  kept_best b less best = record {
    stands = best.stands;
    is_done = best.is_done;
    most = λ k x within x_is x_done. elim (below_or_at k i within) [
      | inl earlier ↦ best.most k x earlier x_is x_done
      | inr now ↦ (let same = at_label k x now x_is in subst (λ (l : Label R). l.gain ≤ℤ b.gain) (sym same) (less (subst (λ (l : Label R). done l.resource ≡ true) same x_done)))
    ];
  }

  taken : ((k : ℕ) (x : Label R) → k < i → slice_get labels k ≡ Some x → done x.resource ≡ true → x.gain ≤ℤ label.gain) → done label.resource ≡ true → IsBest done labels (i + 1) label
  taken earlier_less is_done = record {
    stands = contains_read labels i label is;
    is_done = is_done;
    most = λ k x within x_is x_done. elim (below_or_at k i within) [
      | inl earlier ↦ earlier_less k x earlier x_is x_done
      | inr now ↦ int_refl x.gain label.gain (ap (λ (l : Label R). l.gain) (at_label k x now x_is))
    ];
  }

  by_test : (d b : Bool) (best : Option (Label R)) → done label.resource ≡ d → beats label best ≡ b → BestDone done labels i best → BestDone done labels (i + 1) (cond (d && b) (Some label) best)
  by_test false b None e f so_far = kept_none false e refl so_far
  by_test false b (Some best) e f so_far = kept_best best (λ is_done. cc) so_far
  by_test true true None e f so_far = taken (λ k x earlier x_is x_done. absurd (so_far k x earlier x_is x_done)) e
  by_test true false None e f so_far = cc
  by_test true true (Some best) e f so_far = taken (λ k x earlier x_is x_done. int_trans x.gain best.gain label.gain (so_far.most k x earlier x_is x_done) (is_less best.gain label.gain f)) e
  by_test true false (Some best) e f so_far = kept_best best (λ is_done. not_less best.gain label.gain f) so_far

  pub BestDone-more : (best : Option (Label R)) → BestDone done labels i best → BestDone done labels (i + 1) (cond (done label.resource && beats label best) (Some label) best)
  BestDone-more best so_far = by_test (done label.resource) (beats label best) best refl refl so_far
