-- Rosters that were found already, and how far they reach.
use Rattle.std.proofs.Common.{◌≡◌, ℕ, zero, suc, ◌+◌, ◌<◌, ◌≤◌, inl, inr, List, [], ◌∷◌, ◌++◌, length, get_or, Some, None, refl, sym, ap, subst, ◌∙◌, arith}
use Rattle.std.specs.Prelude.{All, slice_get, slice_index}
use Rattle.std.proofs.lemmas.Bool.{cases_eq, lt-ltb}
use Rattle.std.proofs.lemmas.List.{get_or_read}
use Rattle.std.proofs.lemmas.List.Elements.{All-append}
use Rattle.roster_model.specs.declared.problem.Problem.{Problem}
use Rattle.roster_model.specs.declared.goal.BidRef.{BidRef}
use Rattle.roster_model.specs.Scores.{score_of}
use Rattle.roster_model.specs.Rosters.{line_at}
use Rattle.roster_model.specs.Denials.{ReachesBefore}
use Rattle.denials.specs.declared.known.Known.{Known}
use Rattle.denials.specs.Known.{AreFound, IsFound, IsKnown, IsReached, MissesAt}
use Rattle.denials.specs.Settled.{IsBracketed}
use Rattle.denials.proofs.Narrowing.{bracket-first}

-- the line of a member, as it is read
pub line_read : (problem : Problem) (roster slice : List (List ℕ)) (member : ℕ) (line : List ℕ) → slice ≡ roster → member < length slice
    → line ≡ get_or slice member line → line ≡ line_at roster member
line_read problem roster slice member line e lt is =
    get_or_read slice member line lt is [] ∙ ap (λ (xs : List (List ℕ)). get_or xs member []) e

-- the scores of the first members are reached
abbrev pub AreReachedBelow : Problem → List ℕ → List (List ℕ) → ℕ → Type 0
AreReachedBelow problem scores roster count =
    (m : ℕ) → m < count → slice_index scores m ≤ score_of problem m (line_at roster m)

pub reached_more : (problem : Problem) (scores : List ℕ) (roster : List (List ℕ)) (member : ℕ) (line : List ℕ) (score read : ℕ)
    → line ≡ line_at roster member → score ≡ score_of problem member line → read ≡ slice_index scores member → read ≤ score
    → AreReachedBelow problem scores roster member → AreReachedBelow problem scores roster (member + 1)
reached_more problem scores roster member line score read e s r le before m lt =
    elim (cases_eq m member) [
      | inl is ↦
          subst (λ (k : ℕ). slice_index scores k ≤ score_of problem k (line_at roster k)) (sym is)
          (omega (arith, s ∙ ap (λ (xs : List ℕ). score_of problem member xs) e, r, le))
      | inr other ↦ before m (omega (arith, lt, other))
    ]

pub reached_before : (problem : Problem) (scores : List ℕ) (roster : List (List ℕ)) (member place : ℕ) → place ≤ member + 1
    → AreReachedBelow problem scores roster member → ReachesBefore problem scores place roster
reached_before problem scores roster member place le reached m known lt = reached m (omega (arith, lt, le))

pub missed_here : (problem : Problem) (scores : List ℕ) (roster : List (List ℕ)) (member : ℕ) (line : List ℕ) (score read : ℕ)
    → line ≡ line_at roster member → score ≡ score_of problem member line → read ≡ slice_index scores member → score < read
    → MissesAt problem scores (member + 1) roster
missed_here problem scores roster member line score read e s r lt m known is =
    let same : m ≡ member = omega (arith, is) in
    subst (λ (k : ℕ). score_of problem k (line_at roster k) < slice_index scores k) (sym same)
    (omega (arith, s ∙ ap (λ (xs : List ℕ). score_of problem member xs) e, r, lt))

pub none_missed : (problem : Problem) (scores : List ℕ) (roster : List (List ℕ)) (place : ℕ) → length problem.base.members < place
    → MissesAt problem scores place roster
none_missed problem scores roster place lt m known is = omega (arith, lt, known, is)

-- the roster with this number
pub known_at : (problem : Problem) (scores : List ℕ) (bid : BidRef) (known : List Known) (at place : ℕ) (one : Known)
    → slice_get known at ≡ Some one → IsReached problem scores bid place one.roster → IsKnown problem scores bid known at place
known_at problem scores bid known at place one here reached = record { one = one; here = here; reached = reached }

-- what is copied is known
pub bracket_known : (problem : Problem) (scores : List ℕ) (bid : BidRef) (known : List Known) (at place : ℕ) (one : Known) (copied : List (List ℕ))
    → 0 < place → slice_get known at ≡ Some one → copied ≡ one.roster → IsKnown problem scores bid known at place
    → IsBracketed problem scores bid place (length problem.base.members + 1) (Some copied) None
bracket_known problem scores bid known at place one copied some here same is =
    let first = bracket-first problem scores bid (length problem.base.members + 1) refl in
    let ones : one ≡ is.one = cc (here, is.here) in
    let rosters : is.one.roster ≡ copied = sym (same ∙ ap (λ (k : Known). k.roster) ones) in
    record {
      within = first.within;
      has_roster = sym (lt-ltb 0 place some);
      roster_is = λ x e. (let found : is.one.roster ≡ x = cc (rosters, e) in subst (IsReached problem scores bid place) found is.reached);
      has_proof = first.has_proof;
      proof_is = first.proof_is;
    }

pub known_moved : (problem : Problem) (scores : List ℕ) (bid : BidRef) (known : List Known) (at at' place place' : ℕ) → at' ≡ at → place' ≡ place
    → (0 < place → IsKnown problem scores bid known at place) → 0 < place' → IsKnown problem scores bid known at' place'
known_moved problem scores bid known at at' place place' e f is some =
    subst (λ (k : ℕ). IsKnown problem scores bid known k place') (sym e)
    (subst (λ (p : ℕ). IsKnown problem scores bid known at p) (sym f) (is (omega (arith, f, some))))

-- what holds of each element holds of one that is read
pub all_read : {X : Type 0} (P : X → Type 0) (xs : List X) (k : ℕ) (x : X) → All P xs → k < length xs → x ≡ get_or xs k x → P x
all_read P xs k x all lt is = subst P (sym is) (all k x lt)

-- nothing was found at first
pub none_found : (problem : Problem) (scores : List ℕ) (known : List Known) → known ≡ [] → AreFound problem scores known
none_found problem scores known e = subst (AreFound problem scores) (sym e) (λ k d lt. absurd (omega arith))

-- a roster more
pub found_more : (problem : Problem) (scores : List ℕ) (known known' : List Known) (one : Known) → known' ≡ known ++ one ∷ []
    → AreFound problem scores known → IsFound problem scores one → AreFound problem scores known'
found_more problem scores known known' one e all is =
    subst (AreFound problem scores) (sym e)
    (All-append (IsFound problem scores) known (one ∷ []) all (λ k d lt. last k d lt))
  where
    last : (k : ℕ) (d : Known) → k < 1 → IsFound problem scores (get_or (one ∷ []) k d)
    last zero d lt = is
    last (suc k) d lt = absurd (omega arith)

-- the same of a slice that holds them
pub found_same : (problem : Problem) (scores scores' : List ℕ) (known known' : List Known) → scores' ≡ scores → known' ≡ known
    → AreFound problem scores known → AreFound problem scores' known'
found_same problem scores scores' known known' e f all =
    subst (λ (xs : List ℕ). AreFound problem xs known') (sym e) (subst (AreFound problem scores) (sym f) all)
