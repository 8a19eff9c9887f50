-- How the place of one bid is found.
use Rattle.std.proofs.Common.{◌≡◌, ◌≢◌, ℕ, ◌+◌, ◌^◌, ◌<◌, ◌≤◌, ◌⊎◌, inl, inr, List, [], length, Option, Some, None, refl, sym, ap, subst, ◌∙◌, arith}
use Rattle.std.proofs.lemmas.Bool.{lt-ltb, leb-true, le-leb, false_from_ne_true}
use Rattle.std.proofs.lemmas.List.{length-take-le}
use Rattle.roster_model.specs.declared.problem.Problem.{Problem}
use Rattle.roster_model.specs.declared.goal.Goal.{Goal}
use Rattle.roster_model.specs.declared.goal.BidRef.{BidRef}
use Rattle.roster_model.specs.declared.proof.Item.{Item}
use Rattle.roster_model.specs.Goals.{IsGoal, RosterMeets, IsBidOf}
use Rattle.roster_model.specs.Closing.{Closes}
use Rattle.roster_model.specs.Rosters.{IsComplete}
use Rattle.roster_model.specs.Denials.{ReachesBefore, granting}
use Rattle.roster_model.proofs.Denials.{grants_of_met}
use Rattle.branch_log.specs.Book.{Book}
use Rattle.completion_search.specs.Added.{AddsSearches, TakesSearches}
use Rattle.completion_search.specs.Found.{AddsSearch}
use Rattle.roster_model.specs.Ledgers.{pairs_of}
use Rattle.completion_search.proofs.Added.{AddsSearches-then, AddsSearches-one, AddsSearches-weaker, TakesSearches-none, TakesSearches-one, TakesSearches-then, TakesSearches-weaker}
use Rattle.denials.specs.Asked.{IsAskedFor, IsAnsweredFor, NarrowsBy}
use Rattle.denials.specs.Known.{IsReached}
use Rattle.denials.specs.Settled.{IsBracketed}

-- the goal of a place for a bid is a goal of the problem
pub granting_goal : (problem : Problem) (scores : List ℕ) (place : ℕ) (bid : BidRef) (goal : Goal) → goal ≡ granting scores place bid
    → length scores ≡ length problem.base.members → place ≤ length problem.base.members → IsBidOf problem bid → IsGoal problem goal
granting_goal problem scores place bid goal e members within is =
    subst (IsGoal problem) (sym e) (record {
      floors = omega (arith, length-take-le place scores (omega arith));
      grant = λ b here. (let same : bid ≡ b = cc in subst (IsBidOf problem) same is);
    })

place-same : (scores : List ℕ) (x y : ℕ) (a b : BidRef) → x ≤ length scores → y ≤ length scores
    → granting scores x a ≡ granting scores y b → x ≡ y
place-same scores x y a b lx ly e =
    sym (length-take-le x scores lx) ∙ ap (λ (g : Goal). length g.floors) e ∙ length-take-le y scores ly

module _ (problem : Problem) (scores : List ℕ) (bid : BidRef) (members : length scores ≡ length problem.base.members) (known : IsBidOf problem bid) where
  module _ (low high place : ℕ) (least : low ≤ place) (most : place < high) (within : high ≤ length problem.base.members + 1) where
    answered-apart : (g g' : Goal) → IsAnsweredFor problem scores bid low high g → g' ≡ granting scores place bid → g ≢ g'
    answered-apart g g' h e same =
        let places : h.place ≡ place = place-same scores h.place place bid bid (omega (arith, h.within, members)) (omega (arith, members)) (sym h.is ∙ same ∙ e) in
        elim h.settled [ inl reached ↦ omega (arith, places, reached) | inr over ↦ omega (arith, places, over) ]

    answered-up : (next : ℕ) → place < next → (g : Goal) → IsAnsweredFor problem scores bid low high g → IsAnsweredFor problem scores bid next high g
    answered-up next behind g h = record {
      place = h.place;
      within = h.within;
      settled = elim h.settled [ inl reached ↦ inl (omega (arith, reached, behind)) | inr over ↦ inr over ];
      is = h.is;
    }

    answered-down : (g : Goal) → IsAnsweredFor problem scores bid low high g → IsAnsweredFor problem scores bid low place g
    answered-down g h = record {
      place = h.place;
      within = h.within;
      settled = elim h.settled [ inl reached ↦ inl reached | inr over ↦ inr (omega (arith, over)) ];
      is = h.is;
    }

    answered-asked : (g : Goal) → IsAnsweredFor problem scores bid low high g → IsAskedFor problem scores (λ b. b ≡ bid) g
    answered-asked g h = record { bid = bid; place = h.place; known = known; among = refl; within = h.within; is = h.is }

    this-asked : (g : Goal) → g ≡ granting scores place bid → IsAskedFor problem scores (λ b. b ≡ bid) g
    this-asked g e = record { bid = bid; place = place; known = known; among = refl; within = omega arith; is = e }

    -- the place is reached
    pub adds-found : (next : ℕ) → place < next → (a b c : Book) → AddsSearches problem (IsAnsweredFor problem scores bid low high) a b
        → AddsSearch problem (granting scores place bid) b c → AddsSearches problem (IsAnsweredFor problem scores bid next high) a c
    adds-found next behind a b c f g =
        AddsSearches-then problem (IsAnsweredFor problem scores bid low high) (λ g. g ≡ granting scores place bid) (IsAnsweredFor problem scores bid next high) a b c
        (answered-up next behind) (λ g e. record { place = place; within = omega arith; settled = inl (omega (arith, behind)); is = e }) answered-apart f
        (AddsSearches-one problem (granting scores place bid) b c g)

    -- the place is refuted
    pub adds-refuted : (a b c : Book) → AddsSearches problem (IsAnsweredFor problem scores bid low high) a b
        → AddsSearch problem (granting scores place bid) b c → AddsSearches problem (IsAnsweredFor problem scores bid low place) a c
    adds-refuted a b c f g =
        AddsSearches-then problem (IsAnsweredFor problem scores bid low high) (λ g. g ≡ granting scores place bid) (IsAnsweredFor problem scores bid low place) a b c
        answered-down (λ g e. record { place = place; within = omega arith; settled = inr (omega arith); is = e }) answered-apart f
        (AddsSearches-one problem (granting scores place bid) b c g)

    -- the search came to no end
    pub adds-last : (a b c : Book) → AddsSearches problem (IsAnsweredFor problem scores bid low high) a b
        → AddsSearch problem (granting scores place bid) b c → AddsSearches problem (IsAskedFor problem scores (λ b. b ≡ bid)) a c
    adds-last a b c f g =
        AddsSearches-then problem (IsAnsweredFor problem scores bid low high) (λ g. g ≡ granting scores place bid) (IsAskedFor problem scores (λ b. b ≡ bid)) a b c
        answered-asked this-asked answered-apart f (AddsSearches-one problem (granting scores place bid) b c g)

  -- no place is left
  pub adds-all : (low high : ℕ) (a b : Book) → AddsSearches problem (IsAnsweredFor problem scores bid low high) a b
      → AddsSearches problem (IsAskedFor problem scores (λ b. b ≡ bid)) a b
  adds-all low high a b f =
      AddsSearches-weaker problem (IsAnsweredFor problem scores bid low high) (IsAskedFor problem scores (λ b. b ≡ bid)) a b
      (λ g h. record { bid = bid; place = h.place; known = known; among = refl; within = h.within; is = h.is }) f

-- how many searches that takes
pub narrows-none : (problem : Problem) (low high : ℕ) (a : Book) → high ≤ length problem.base.members + 1 + low → NarrowsBy problem low high a a
narrows-none problem low high a le = record { count = 0; few = omega arith; takes = TakesSearches-none problem a }

pub narrows-more : (problem : Problem) (goal : Goal) (low high low' high' : ℕ) (a b c : Book) → high' + low < high + low'
    → NarrowsBy problem low high a b → AddsSearch problem goal b c → length c.entries + 1 ≤ length b.entries + 2 ^ pairs_of problem
    → NarrowsBy problem low' high' a c
narrows-more problem goal low high low' high' a b c closer f g few = record {
  count = f.count + 1;
  few = omega (arith, f.few, closer);
  takes = TakesSearches-then problem f.count 1 a b c f.takes (TakesSearches-one problem goal b c g few);
}

pub narrows-last : (problem : Problem) (goal : Goal) (low high : ℕ) (a b c : Book) → low < high
    → NarrowsBy problem low high a b → AddsSearch problem goal b c → length c.entries + 1 ≤ length b.entries + 2 ^ pairs_of problem
    → TakesSearches problem (length problem.base.members + 1) a c
narrows-last problem goal low high a b c some f g few =
    TakesSearches-weaker problem (f.count + 1) (length problem.base.members + 1) a c (omega (arith, f.few))
    (TakesSearches-then problem f.count 1 a b c f.takes (TakesSearches-one problem goal b c g few))

pub narrows-all : (problem : Problem) (low high : ℕ) (a b : Book) → low ≤ high → NarrowsBy problem low high a b
    → TakesSearches problem (length problem.base.members + 1) a b
narrows-all problem low high a b le f =
    TakesSearches-weaker problem f.count (length problem.base.members + 1) a b (omega (arith, f.few)) f.takes

-- nothing is known at first
pub bracket-first : (problem : Problem) (scores : List ℕ) (bid : BidRef) (high : ℕ) → high ≡ length problem.base.members + 1
    → IsBracketed problem scores bid 0 high None None
bracket-first problem scores bid high e = record {
  within = omega arith;
  has_roster = refl;
  roster_is = λ x none. absurd (cc none);
  has_proof = sym (false_from_ne_true _ (λ t. (let le : high ≤ length problem.base.members = leb-true _ _ t in omega arith)));
  proof_is = λ x none. absurd (cc none);
}

-- a roster more, which may reach farther than it was asked to
pub bracket-found : (problem : Problem) (scores : List ℕ) (bid : BidRef) (low high place missed next : ℕ) (roster : Option (List (List ℕ))) (proof : Option (List Item)) (found : List (List ℕ))
    → length scores ≡ length problem.base.members → IsBidOf problem bid → IsComplete problem found → RosterMeets problem (granting scores place bid) found
    → ReachesBefore problem scores missed found → place < next → (next ≡ place + 1) ⊎ (next ≤ missed)
    → IsBracketed problem scores bid low high roster proof → IsBracketed problem scores bid next high (Some found) proof
bracket-found problem scores bid low high place missed next roster proof found members known complete meets reaches behind either was =
    let h = grants_of_met problem scores found bid place members known complete meets in
    record {
      within = was.within;
      has_roster = sym (lt-ltb 0 next (omega (arith, behind)));
      roster_is =
          λ x e.
          let same : found ≡ x = cc in
          subst (IsReached problem scores bid next) same
          (record {
            grants = h.0;
            reaches =
                λ m in_range lt.
                elim either [
                  | inl one ↦ h.1 m in_range (omega (arith, lt, one))
                  | inr far ↦ reaches m in_range (omega (arith, lt, far))
                ];
          });
      has_proof = was.has_proof;
      proof_is = was.proof_is;
    }

-- a proof more
pub bracket-refuted : (problem : Problem) (scores : List ℕ) (bid : BidRef) (low high place : ℕ) (roster : Option (List (List ℕ))) (proof : Option (List Item)) (items : List Item)
    → place < high → Closes problem (granting scores place bid) [] items
    → IsBracketed problem scores bid low high roster proof → IsBracketed problem scores bid low place roster (Some items)
bracket-refuted problem scores bid low high place roster proof items lt closes was = record {
  within = omega (arith, was.within);
  has_roster = was.has_roster;
  roster_is = was.roster_is;
  has_proof = sym (le-leb place (length problem.base.members) (omega (arith, was.within)));
  proof_is = λ x e. (let same : items ≡ x = cc in subst (Closes problem (granting scores place bid) []) same closes);
}
