-- How many reasons there are at most: one for each bid of each member.
use Rattle.std.proofs.Common.{◌≡◌, ℕ, suc, ◌+◌, ◌*◌, ◌<◌, ◌≤◌, List, [], ◌∷◌, length, Some, refl, arith, inl, inr}
use Rattle.std.specs.Prelude.{slice_get}
use Rattle.roster_model.specs.declared.problem.Problem.{Problem}
use Rattle.roster_model.specs.declared.goal.BidRef.{BidRef}
use Rattle.roster_model.specs.declared.award.Denial.{Denial}
use Rattle.roster_model.specs.Denials.{AreReasons, IsBefore}
use Rattle.roster_model.specs.Goals.{IsBidOf}
use Rattle.month_award.proofs.Numbers.{few_bids}

-- the number of a bid among 64 bids of each member
abbrev number_of : BidRef → ℕ
number_of bid = 64 * bid.member + bid.bid

number-before : (a b : BidRef) → a.bid < 64 → IsBefore a b → number_of a < number_of b
number-before a b few before = elim before [
  | inl senior ↦ omega (arith, few, senior)
  | inr same ↦ omega (arith, same.0, same.1)
]

-- elements with ascending numbers below a bound are at most as many
few-ascending : {X : Type 0} (number : X → ℕ) (low most : ℕ) (xs : List X) → low ≤ most
    → ((k : ℕ) (x : X) → slice_get xs k ≡ Some x → low ≤ number x)
    → ((k : ℕ) (x : X) → slice_get xs k ≡ Some x → number x < most)
    → ((j k : ℕ) (x y : X) → j < k → slice_get xs j ≡ Some x → slice_get xs k ≡ Some y → number x < number y)
    → length xs + low ≤ most
few-ascending number low most [] le above below up = omega (arith, le)
few-ascending number low most (x ∷ xs) le above below up =
    let rest = few-ascending number (number x + 1) most xs (omega (arith, below 0 x refl))
    (λ k y here. omega (arith, up 0 (suc k) x y (omega arith) refl here)) (λ k y here. below (suc k) y here)
    (λ j k y z lt here there. up (suc j) (suc k) y z (omega (arith, lt)) here there) in
    omega (arith, rest, above 0 x refl)

bid-small : (problem : Problem) (bid : BidRef) → IsBidOf problem bid → bid.bid < 64
bid-small problem bid is = omega (arith, is.number, few_bids problem.bids bid.member problem.valid.few_bids)

number-small : (problem : Problem) (bid : BidRef) → IsBidOf problem bid → number_of bid < 12800
number-small problem bid is = omega (arith, bid-small problem bid is, is.member, problem.valid.month.members_form.few)

pub few-reasons : (problem : Problem) (roster : List (List ℕ)) (reasons : List Denial) → AreReasons problem roster reasons
    → length reasons ≤ 12800
few-reasons problem roster reasons are =
    omega (
      arith,
      few-ascending (λ d. number_of d.bid) 0 12800 reasons (omega arith) (λ k d here. omega arith)
          (λ k d here. number-small problem d.bid (are.bids k d here))
          (λ j k d e lt here there. number-before d.bid e.bid (bid-small problem d.bid (are.bids j d here)) (are.ordered j k d e lt here there)),
    )
