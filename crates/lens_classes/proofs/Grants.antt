-- When a line grants a wish at a credit, by what the wish gives.
use Rattle.std.proofs.Common.{◌≡◌, ℕ, ◌<◌, ◌≤◌, Bool, true, false, not, ◌||◌, ◌&&◌, List, refl, arith}
use Rattle.std.specs.Prelude.{nat_le}
use Rattle.std.proofs.lemmas.Bool.Decides.{nat_tests}
use Rattle.roster_model.specs.declared.problem.Problem.{Problem}
use Rattle.roster_model.specs.declared.bid.Wish.{Wish}
use Rattle.roster_model.specs.declared.bid.Wish.TheVariants.{Fly, Avoid, Prefer, Off, CreditBelow, CreditAbove, DaysOff}
use Rattle.roster_model.specs.Lenses.{is_granting_at, is_trackable, is_whole}
use Rattle.roster_model.specs.Scores.{is_granting, days_off}
use Rattle.lens_classes.specs.Classes.{least_for, beyond_for, days_for, is_counting}

module _ (problem : Problem) (member x : ℕ) (line : List ℕ) where
  -- where a pairing can decide the wish, credit does not matter
  pub granting_trackable : (wish : Wish) → is_trackable wish ≡ true
      → is_granting_at problem member x line wish ≡ is_granting problem member line wish
  granting_trackable (Fly p) t = refl
  granting_trackable (Avoid f) t = refl
  granting_trackable (Prefer n f) t = refl
  granting_trackable (Off first last) t = refl
  granting_trackable (CreditBelow m) t = cc
  granting_trackable (CreditAbove m) t = cc
  granting_trackable (DaysOff n) t = refl

  pub granting_counting : (wish : Wish) → is_counting wish ≡ true
      → is_granting_at problem member x line wish ≡ is_granting problem member line wish
  granting_counting (Fly p) t = refl
  granting_counting (Avoid f) t = refl
  granting_counting (Prefer n f) t = refl
  granting_counting (Off first last) t = refl
  granting_counting (CreditBelow m) t = cc
  granting_counting (CreditAbove m) t = cc
  granting_counting (DaysOff n) t = refl

  pub is_least : (wish : Wish) → is_granting_at problem member x line wish ≡ true → least_for wish ≤ x
  is_least (Fly p) h = omega arith
  is_least (Avoid f) h = omega arith
  is_least (Prefer n f) h = omega arith
  is_least (Off first last) h = omega arith
  is_least (CreditBelow m) h = omega arith
  is_least (CreditAbove m) h = grind (arith, nat_tests)
  is_least (DaysOff n) h = omega arith

  pub is_beyond : (beyond : ℕ) (wish : Wish) → x < beyond → is_granting_at problem member x line wish ≡ true
      → x < beyond_for beyond wish
  is_beyond beyond (Fly p) lt h = lt
  is_beyond beyond (Avoid f) lt h = lt
  is_beyond beyond (Prefer n f) lt h = lt
  is_beyond beyond (Off first last) lt h = lt
  is_beyond beyond (CreditBelow m) lt h = grind (arith, nat_tests)
  is_beyond beyond (CreditAbove m) lt h = lt
  is_beyond beyond (DaysOff n) lt h = lt

  are_days : (n days : ℕ) → nat_le n days ≡ true → n ≤ days
  are_days n days h = grind (arith, nat_tests)

  pub is_days : (wish : Wish) → is_granting_at problem member x line wish ≡ true
      → days_for wish ≤ days_off problem member line
  is_days (Fly p) h = omega arith
  is_days (Avoid f) h = omega arith
  is_days (Prefer n f) h = omega arith
  is_days (Off first last) h = omega arith
  is_days (CreditBelow m) h = omega arith
  is_days (CreditAbove m) h = omega arith
  is_days (DaysOff n) h = are_days n (days_off problem member line) h

  so_many : (n days : ℕ) → n ≤ days → nat_le n days ≡ true
  so_many n days h = grind (arith, nat_tests)

  -- a wish that only a whole line decides is granted where the line keeps what it gives
  pub is_granted_by : (beyond : ℕ) (wish : Wish) → is_whole wish ≡ true → least_for wish ≤ x → x < beyond_for beyond wish
      → days_for wish ≤ days_off problem member line
      → (is_counting wish ≡ true → is_granting problem member line wish ≡ true)
      → is_granting_at problem member x line wish ≡ true
  is_granted_by beyond (Fly p) w l b d c = cc
  is_granted_by beyond (Avoid f) w l b d c = cc
  is_granted_by beyond (Prefer n f) w l b d c = c w
  is_granted_by beyond (Off first last) w l b d c = cc
  is_granted_by beyond (CreditBelow m) w l b d c = grind (arith, nat_tests)
  is_granted_by beyond (CreditAbove m) w l b d c = grind (arith, nat_tests)
  is_granted_by beyond (DaysOff n) w l b d c = so_many n (days_off problem member line) d

-- a wish that can be tracked is of one of the two kinds
pub kind_of : (wish : Wish) (w z : Bool) → (is_trackable wish || (w && (is_whole wish && z))) ≡ true → is_whole wish ≡ not (is_trackable wish)
kind_of wish w z h = refl

no_more : (b : Bool) → not b ≡ true → b ≡ false
no_more true h = cc
no_more false h = refl

-- and no wish is of both
pub kinds_apart : (wish : Wish) → is_whole wish ≡ true → is_trackable wish ≡ false
kinds_apart wish w = no_more (is_trackable wish) w
