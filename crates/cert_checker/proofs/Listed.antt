-- What is wrong with the reasons at a bid, gone over bid by bid.
use Rattle.std.proofs.Common.{◌≡◌, ℕ, ◌+◌, ◌<◌, ◌≤◌, Bool, List, [], length, get_or, sym, ap, subst, ◌∙◌, arith, inl, inr}
use Rattle.std.proofs.lemmas.Bool.{cases_eq}
use Rattle.std.proofs.lemmas.List.{get_or_read}
use Rattle.std.proofs.lemmas.Option.{unwrap_or-slice_get}
use Rattle.roster_model.specs.declared.problem.Problem.{Problem}
use Rattle.roster_model.specs.declared.bid.Bid.{Bid}
use Rattle.roster_model.specs.declared.goal.BidRef.{BidRef}
use Rattle.roster_model.specs.declared.award.Denial.{Denial}
use Rattle.roster_model.specs.Scores.{bids_of, is_granted}
use Rattle.roster_model.specs.Rosters.{line_at}
use Rattle.roster_model.specs.Goals.{IsBidOf}
use Rattle.cert_checker.specs.Reasons.{IsMislisted, IsMislistedIn, IsFirstMislisted, AreRightOf, IsFirstOf}

-- the bids of a member, as they are read
pub bids_read : (problem : Problem) (member : ℕ) (lists : List (List Bid)) (list slice : List Bid) → member < length problem.base.members
    → lists ≡ problem.bids → list ≡ get_or lists member list → slice ≡ list → slice ≡ bids_of problem member
bids_read problem member lists list slice known e is same =
    let count : length lists ≡ length problem.base.members = ap (λ (xs : List (List Bid)). length xs) e ∙ problem.valid.lists in
    same
    ∙ get_or_read lists member list (omega (arith, known, count)) is []
    ∙ ap (λ (xs : List (List Bid)). get_or xs member []) e
    ∙ sym (unwrap_or-slice_get problem.bids member [])

-- one bid more of the member
pub right_more : (problem : Problem) (member : ℕ) (line : List ℕ) (reasons : List Denial) (number members : ℕ) (granted : Bool)
    → members ≡ length problem.base.members → granted ≡ is_granted problem member number line
    → (IsMislisted members granted reasons (record { member = member; bid = number }) → ⊥)
    → AreRightOf problem member line reasons number → AreRightOf problem member line reasons (number + 1)
right_more problem member line reasons number members granted e g right before k lt wrong =
    elim (cases_eq k number) [
      | inl same ↦
          right
          (subst (λ (n : ℕ). IsMislisted n granted reasons (record { member = member; bid = number })) (sym e)
          (subst (λ (b : Bool). IsMislisted (length problem.base.members) b reasons (record { member = member; bid = number })) (sym g)
          (subst (λ (j : ℕ). IsMislisted (length problem.base.members) (is_granted problem member j line) reasons (record { member = member; bid = j })) same wrong)))
      | inr other ↦ before k (omega (arith, lt, other)) wrong
    ]

-- all bids of the member
pub right_all : (problem : Problem) (member : ℕ) (line : List ℕ) (reasons : List Denial) (count : ℕ) (slice : List Bid)
    → slice ≡ bids_of problem member → length slice ≤ count → AreRightOf problem member line reasons count
    → AreRightOf problem member line reasons (length (bids_of problem member))
right_all problem member line reasons count slice e all right k lt =
    right k (let same = ap (λ (xs : List Bid). length xs) e in omega (arith, lt, all, same))

-- nothing is wrong at the bids of the first members
abbrev pub AreRightBefore : Problem → List (List ℕ) → List Denial → ℕ → Type 0
AreRightBefore problem roster reasons member =
    (bid : BidRef) → IsBidOf problem bid → bid.member < member → IsMislistedIn problem roster reasons bid → ⊥

-- at a bid of this member
of_member : (problem : Problem) (roster : List (List ℕ)) (reasons : List Denial) (member : ℕ) (line : List ℕ) (bid : BidRef)
    → line ≡ line_at roster member → bid.member ≡ member → IsMislistedIn problem roster reasons bid
    → IsMislisted (length problem.base.members) (is_granted problem member bid.bid line) reasons (record { member = member; bid = bid.bid })
of_member problem roster reasons member line bid e same wrong =
    subst (λ (xs : List ℕ). IsMislisted (length problem.base.members) (is_granted problem member bid.bid xs) reasons (record { member = member; bid = bid.bid })) (sym e)
    (subst (λ (k : ℕ). IsMislisted (length problem.base.members) (is_granted problem k bid.bid (line_at roster k)) reasons (record { member = k; bid = bid.bid })) same wrong)

pub members_more : (problem : Problem) (roster : List (List ℕ)) (reasons : List Denial) (member : ℕ) (line : List ℕ)
    → line ≡ line_at roster member → AreRightOf problem member line reasons (length (bids_of problem member))
    → AreRightBefore problem roster reasons member → AreRightBefore problem roster reasons (member + 1)
members_more problem roster reasons member line e right before bid known lt wrong =
    elim (cases_eq bid.member member) [
      | inl same ↦
          right bid.bid (subst (λ (k : ℕ). bid.bid < length (bids_of problem k)) same known.number) (of_member problem roster reasons member line bid e same wrong)
      | inr other ↦ before bid known (omega (arith, lt, other)) wrong
    ]

pub first_in : (problem : Problem) (roster : List (List ℕ)) (reasons : List Denial) (member number : ℕ) (line : List ℕ)
    → member < length problem.base.members → line ≡ line_at roster member → IsFirstOf problem member line reasons number
    → AreRightBefore problem roster reasons member
    → IsFirstMislisted problem roster reasons (record { member = member; bid = number })
first_in problem roster reasons member number line known e first before = record {
  known = record { member = known; number = first.known };
  wrong = subst (λ (xs : List ℕ). IsMislisted (length problem.base.members) (is_granted problem member number xs) reasons (record { member = member; bid = number })) e first.wrong;
  before =
      λ other is sooner wrong.
      elim sooner [
        | inl lt ↦ before other is lt wrong
        | inr same ↦ first.before other.bid same.1 (of_member problem roster reasons member line other e same.0 wrong)
      ];
}

-- the line of a member, as it is read
pub line_read : (problem : Problem) (roster slice : List (List ℕ)) (member : ℕ) (line : List ℕ) → slice ≡ roster → member < length slice
    → line ≡ get_or slice member line → line ≡ line_at roster member
line_read problem roster slice member line e lt is =
    get_or_read slice member line lt is [] ∙ ap (λ (xs : List (List ℕ)). get_or xs member []) e
