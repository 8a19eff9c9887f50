-- The text of reasons: a line for each.
use Rattle.std.specs.Prelude.{◌≡◌, ℕ, zero, suc, ◌+◌, ◌≤◌, List, [], ◌∷◌, ◌++◌, length, codes}
use Rattle.std.specs.List.{AllByRecursion, flat_map}
use Rattle.field_text.specs.Spelling.{number_text}
use Rattle.roster_model.specs.declared.problem.Problem.{Problem}
use Rattle.roster_model.specs.declared.award.Cause.{Cause}
use Rattle.roster_model.specs.declared.award.Cause.TheVariants.{Tie, Place}
use Rattle.roster_model.specs.declared.award.Denial.{Denial}
use Rattle.roster_model.specs.Goals.{IsBidOf}
use Rattle.roster_model.specs.Denials.{place_of}
use Rattle.bid_language.specs.Spelling.{text_of}
use Rattle.roster_text.specs.RosterText.{member_name}

-- A cause: a place above 0 with the member who stands at it.
unfoldable pub cause_text : Problem → Cause → List ℕ
cause_text problem Tie = codes "tie"
cause_text problem (Place zero) = codes "place 0"
cause_text problem (Place (suc m)) = codes "place " ++ number_text (suc m) ++ 32 ∷ member_name problem m

-- the member, the number of the bid from 1, and the cause, each with a space before the next
abbrev pub head_text : Problem → Denial → List ℕ
head_text problem denial =
    member_name problem denial.bid.member ++ 32 ∷ number_text (denial.bid.bid + 1)
    ++ 32 ∷ cause_text problem denial.cause

-- a colon and a space, the bid as it is written among the bids, and a line feed
unfoldable pub end_text : Problem → Denial → List ℕ
end_text problem denial = 58 ∷ 32 ∷ text_of problem denial.bid ++ 10 ∷ []

abbrev pub reason_text : Problem → Denial → List ℕ
reason_text problem denial = head_text problem denial ++ end_text problem denial

abbrev pub reasons_text : Problem → List Denial → List ℕ
reasons_text problem reasons = flat_map (reason_text problem) reasons

-- a reason for a bid of the problem, with a place of the problem
pub record IsReason (problem : Problem) (denial : Denial) : Type 0 where
  pub bid : IsBidOf problem denial.bid
  pub place : place_of denial.cause ≤ length problem.base.members

-- a text is that of reasons
abbrev pub IsReasonsText : Problem → List ℕ → List Denial → Type 0
IsReasonsText problem text reasons =
    AllByRecursion (IsReason problem) reasons × (text ≡ reasons_text problem reasons)

-- no award has more reasons
abbrev pub most_reasons : ℕ
most_reasons = 12800
