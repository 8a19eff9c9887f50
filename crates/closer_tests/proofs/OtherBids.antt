-- Months of one base with one pairing and two members.
use Rattle.std.proofs.Common.{◌≡◌, ℕ, ◌≤◌, List, [], ◌∷◌, length, refl, sym, subst, arith}
use Rattle.std.specs.Prelude.{All, take}
use Rattle.std.proofs.lemmas.List.Elements.{All-from_recursion}
use Rattle.duty_calendar.specs.declared.member.Base.{Base}
use Rattle.duty_calendar.specs.declared.horizon.Horizon.{Horizon}
use Rattle.roster_model.specs.declared.bid.Bid.{Bid}
use Rattle.roster_model.specs.declared.bid.Wish.TheVariants.{Fly}
use Rattle.roster_model.specs.declared.problem.Problem.{Problem}
use Rattle.roster_model.specs.declared.proof.Item.{Item}
use Rattle.roster_model.specs.Lawful.{AreGreatest}
use Rattle.roster_model.specs.Rosters.{scores_of}
use Rattle.roster_model.specs.Valid.{IsBid, IsValid}
use Rattle.award_loop.specs.declared.outcome.Outcome.TheVariants.{Award}
use Rattle.award_loop.specs.Outcomes.{HasGreatestScores}

wants : (h : Horizon) → All (IsBid h 1) (record { weight = 10; wish = Fly 0 } ∷ [])
wants h = All-from_recursion (IsBid h 1) (record { weight = 10; wish = Fly 0 } ∷ [])
    (record { some_weight = omega arith; few_weight = omega arith; wish_form = refl }, tt)

-- the month's base, whose first member wants to fly the pairing, and whose second bids otherwise
pub month_valid : (month : Problem) (base : Base) (senior junior : List Bid) (bids : List (List Bid)) → base ≡ month.base → bids ≡ senior ∷ junior ∷ []
    → length month.base.members ≡ 2 → length month.base.pairings ≡ 1 → senior ≡ record { weight = 10; wish = Fly 0 } ∷ []
    → length junior ≤ 64 → ((h : Horizon) → All (IsBid h 1) junior) → IsValid base bids
month_valid month base senior junior bids same both members pairings fly few each =
    subst (λ (b : Base). IsValid b bids) (sym same) (subst (λ (bs : List (List Bid)). IsValid month.base bs) (sym both) here)
  where
    h : Horizon
    h = month.base.rules.horizon

    first : All (IsBid h 1) senior
    first = subst (All (IsBid h 1)) (sym fly) (wants h)

    short : length senior ≤ 64
    short = subst (λ (list : List Bid). length list ≤ 64) (sym fly) (omega arith)

    here : IsValid month.base (senior ∷ junior ∷ [])
    here = record {
      month = month.valid.month;
      lists = sym members;
      few_bids = All-from_recursion (λ (list : List Bid). length list ≤ 64) (senior ∷ junior ∷ []) (short, (few, tt));
      each_bid = subst (λ (n : ℕ). All (All (IsBid h n)) (senior ∷ junior ∷ [])) (sym pairings)
          (All-from_recursion (All (IsBid h 1)) (senior ∷ junior ∷ []) (first, (each h, tt)));
    }

-- of an award's scores the first is the greatest
pub first_greatest : (problem : Problem) (roster : List (List ℕ)) (proofs : List (List Item)) → HasGreatestScores problem (Award roster proofs)
    → length problem.base.members ≡ 2 → AreGreatest problem (take 1 (scores_of problem roster))
first_greatest problem roster proofs all two = all 1 (omega (arith, two))
