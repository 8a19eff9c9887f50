-- What shows how many vacant lines a month needs is sound.
use Rattle.std.proofs.Common.{◌≡◌, ℕ, zero, suc, List, [], Option, Some, None, subst, arith}
use Rattle.std.proofs.lemmas.Bool.{false≢true}
use Rattle.std.proofs.lemmas.Option.{slice_get_within}
use Rattle.roster_model.specs.declared.award.Awarded.{Awarded}
use Rattle.roster_model.specs.declared.award.Denial.{Denial}
use Rattle.roster_model.specs.declared.problem.Problem.{Problem}
use Rattle.roster_model.specs.declared.proof.Item.{Item}
use Rattle.roster_model.specs.Awards.{no_goal, HasNoRoster}
use Rattle.roster_model.specs.Closing.{Closes}
use Rattle.roster_model.proofs.Soundness.{closes_sound}
use Rattle.open_time.specs.Vacant.{IsWithVacant, IsUnfilledBelow, NeedsVacant}
use Rattle.open_time.specs.Refuted.{IsRefutedBelow, IsOpenAward}
use Rattle.open_time.proofs.OneMonth.{one_month}

-- where the goal of nothing is closed, no roster is complete
pub none_complete : (problem : Problem) (items : List Item) → Closes problem no_goal [] items → HasNoRoster problem
none_complete problem items closes roster complete =
    closes_sound problem no_goal [] items closes roster complete
    (λ m in_range. record {
      floor = λ floor at. absurd (let past = slice_get_within [] m floor at in omega arith);
      grant = λ b e mine. absurd (let none : None ≡ Some b = e in cc);
    })
    (λ m in_range p flies h. absurd (false≢true h))

pub below_unfilled : (problem : Problem) (count : ℕ) (below : Option (List Item)) → IsRefutedBelow problem count below → IsUnfilledBelow problem count
below_unfilled problem zero _ is less e = absurd (omega (arith, e))
below_unfilled problem (suc fewer) _ is less e = λ made of.
    let same : fewer ≡ less = omega (arith, e) in
    let with' : IsWithVacant problem less is.2.made = subst (λ (n : ℕ). IsWithVacant problem n is.2.made) same is.2.of in
    subst (λ (p : Problem). HasNoRoster p) (one_month problem less is.2.made made with' of) (none_complete is.2.made is.0 is.2.closes)

pub needs_vacant : (problem : Problem) (count : ℕ) (below : Option (List Item)) (roster : List (List ℕ)) (reasons : List Denial) (awarded : Awarded)
    → IsOpenAward problem count below roster reasons awarded → NeedsVacant problem count
needs_vacant problem count below roster reasons awarded is = record {
  filled = (is.award.made, is.award.of, (roster, is.award.accepted.best.complete));
  fewer = below_unfilled problem count below is.fewer;
}
