-- How the score of one place is raised.
use Rattle.std.proofs.Common.{◌≡◌, ◌≢◌, ℕ, ◌+◌, ◌^◌, ◌<◌, ◌≤◌, inl, inr, List, [], ◌∷◌, ◌++◌, length, take, get_or, Some, None, refl, sym, ap, ◌∙◌, arith, length-append}
use Rattle.std.specs.Prelude.{slice_get}
use Rattle.std.proofs.lemmas.Bool.{cases_lt, false≢true}
use Rattle.std.proofs.lemmas.List.{get_or_at}
use Rattle.roster_model.specs.declared.problem.Problem.{Problem}
use Rattle.roster_model.specs.declared.goal.Goal.{Goal}
use Rattle.roster_model.specs.declared.proof.Item.{Item}
use Rattle.roster_model.specs.Closing.{Closes}
use Rattle.roster_model.specs.Goals.{RosterMeets}
use Rattle.roster_model.specs.Awards.{floor_goal}
use Rattle.roster_model.specs.Lawful.{AreGreatest, bids_weight}
use Rattle.roster_model.specs.Rosters.{scores_of, line_at}
use Rattle.roster_model.specs.Scores.{score_of}
use Rattle.roster_model.proofs.Bounds.{score-le-weight}
use Rattle.roster_model.proofs.Greatest.{score_at, length-scores, cases_floor}
use Rattle.roster_model.proofs.Soundness.{closes_sound}
use Rattle.branch_log.specs.Book.{Book}
use Rattle.completion_search.specs.Added.{AddsSearches, TakesSearches}
use Rattle.completion_search.specs.Found.{AddsSearch}
use Rattle.roster_model.specs.Ledgers.{pairs_of}
use Rattle.completion_search.proofs.Added.{AddsSearches-then, AddsSearches-one, AddsSearches-weaker, TakesSearches-none, TakesSearches-one, TakesSearches-then, TakesSearches-weaker}
use Rattle.award_loop.specs.Raised.{HasScores, IsSettled, IsGoalBehind, TakesSteps}

-- a complete roster with the scores before and this floor meets the goal of both
pub meets-floor : (problem : Problem) (before : List ℕ) (roster : List (List ℕ)) (floor : ℕ) → HasScores problem before roster
    → length before < length problem.base.members → floor ≤ score_of problem (length before) (line_at roster (length before))
    → RosterMeets problem (floor_goal before floor) roster
meets-floor problem before roster floor has place reached m in_range = record {
  floor =
      λ asked at.
      let all = scores_of problem roster in
      let long = length-scores problem roster in
      let at' : slice_get (take (length before) all ++ floor ∷ []) m ≡ Some asked =
      ap (λ (xs : List ℕ). slice_get (xs ++ floor ∷ []) m) has.same ∙ at in
      elim (cases_floor all (length before) floor m asked (omega arith) at') [
        | inl earlier ↦
            let is = score_at problem roster m (omega (arith, earlier.0)) in
            omega (arith, earlier.1, is)
        | inr here ↦
            let same : score_of problem m (line_at roster m) ≡ score_of problem (length before) (line_at roster (length before)) =
            ap (λ (k : ℕ). score_of problem k (line_at roster k)) here.0 in
            omega (arith, here.1, same, reached)
      ];
  grant = λ b e mine. absurd (let none : None ≡ Some b = e in cc);
}

-- no roster reaches what is refuted
pub below-refuted : (problem : Problem) (before : List ℕ) (roster : List (List ℕ)) (score refuted : ℕ) (proof : List Item)
    → HasScores problem before roster → length before < length problem.base.members
    → score ≡ score_of problem (length before) (line_at roster (length before))
    → (refuted ≤ bids_weight problem (length before) + 1 → Closes problem (floor_goal before refuted) [] proof) → score < refuted
below-refuted problem before roster score refuted proof has place is closes =
    let most = score-le-weight problem (length before) (line_at roster (length before)) in
    elim (cases_lt score refuted) [
      | inl less ↦ less
      | inr reached ↦
          absurd (closes_sound problem (floor_goal before refuted) [] proof (closes (omega arith)) roster has.complete
          (meets-floor problem before roster refuted has place (omega arith))
          (λ m in_range p flies h. absurd (false≢true h)))
    ]

floor-same : (before : List ℕ) (x y : ℕ) → floor_goal before x ≡ floor_goal before y → x ≡ y
floor-same before x y e =
    sym (get_or_at before x [] 0 (length before) refl) ∙ ap (λ (g : Goal). get_or g.floors (length before) 0) e ∙ get_or_at before y [] 0 (length before) refl

module _ (problem : Problem) (before : List ℕ) (score refuted floor : ℕ) (above : score < floor) (below : floor < refuted)
    (few : refuted ≤ bids_weight problem (length before) + 2) where
  settled-apart : (g g' : Goal) → IsSettled problem before score refuted g → g' ≡ floor_goal before floor → g ≢ g'
  settled-apart g g' h e same =
      let floors : h.floor ≡ floor = floor-same before h.floor floor (sym h.is ∙ same ∙ e) in
      elim h.settled [ inl reached ↦ omega (arith, floors, reached) | inr over ↦ omega (arith, floors, over) ]

  settled-up : (score' : ℕ) → score ≤ score' → (g : Goal) → IsSettled problem before score refuted g → IsSettled problem before score' refuted g
  settled-up score' le g h = record {
    floor = h.floor;
    is = h.is;
    least = h.least;
    most = h.most;
    settled = elim h.settled [ inl reached ↦ inl (omega (arith, reached)) | inr over ↦ inr over ];
  }

  settled-down : (g : Goal) → IsSettled problem before score refuted g → IsSettled problem before score floor g
  settled-down g h = record {
    floor = h.floor;
    is = h.is;
    least = h.least;
    most = h.most;
    settled = elim h.settled [ inl reached ↦ inl reached | inr over ↦ inr (omega (arith, over)) ];
  }

  settled-found : (score' : ℕ) → floor ≤ score' → (g : Goal) → g ≡ floor_goal before floor → IsSettled problem before score' refuted g
  settled-found score' le g e = record { floor = floor; is = e; least = omega arith; most = omega arith; settled = inl le }

  settled-refuted : (g : Goal) → g ≡ floor_goal before floor → IsSettled problem before score floor g
  settled-refuted g e = record { floor = floor; is = e; least = omega arith; most = omega arith; settled = inr (omega arith) }

  -- a search that found a roster
  pub asked-found : (score' : ℕ) (a b c : Book) → floor ≤ score' → AddsSearches problem (IsSettled problem before score refuted) a b
      → AddsSearch problem (floor_goal before floor) b c → AddsSearches problem (IsSettled problem before score' refuted) a c
  asked-found score' a b c le f g =
      AddsSearches-then problem (IsSettled problem before score refuted) (λ x. x ≡ floor_goal before floor) (IsSettled problem before score' refuted) a b c
      (settled-up score' (omega arith)) (settled-found score' le) settled-apart f (AddsSearches-one problem (floor_goal before floor) b c g)

  -- a search that found none
  pub asked-refuted : (a b c : Book) → AddsSearches problem (IsSettled problem before score refuted) a b
      → AddsSearch problem (floor_goal before floor) b c → AddsSearches problem (IsSettled problem before score floor) a c
  asked-refuted a b c f g =
      AddsSearches-then problem (IsSettled problem before score refuted) (λ x. x ≡ floor_goal before floor) (IsSettled problem before score floor) a b c
      settled-down settled-refuted settled-apart f (AddsSearches-one problem (floor_goal before floor) b c g)

  module _ (greatest : AreGreatest problem before) (place : length before < length problem.base.members) where
    goal-behind : (x : ℕ) → 1 ≤ x → x ≤ bids_weight problem (length before) + 1 → (g : Goal) → g ≡ floor_goal before x → IsGoalBehind problem before g
    goal-behind x least most g e = record {
      behind = ap (λ (y : Goal). length y.floors) e ∙ length-append before (x ∷ []);
      of_place = record { before = before; floor = x; greatest = greatest; place = place; least = least; most = most; is = e };
    }

    -- the last search, whatever it gave
    pub asked-last : (a b c : Book) → AddsSearches problem (IsSettled problem before score refuted) a b
        → AddsSearch problem (floor_goal before floor) b c → AddsSearches problem (IsGoalBehind problem before) a c
    asked-last a b c f g =
        AddsSearches-then problem (IsSettled problem before score refuted) (λ x. x ≡ floor_goal before floor) (IsGoalBehind problem before) a b c
        (λ x h. goal-behind h.floor h.least h.most x h.is) (goal-behind floor (omega arith) (omega arith)) settled-apart f (AddsSearches-one problem (floor_goal before floor) b c g)

-- no further search
pub asked-all : (problem : Problem) (before : List ℕ) (score refuted : ℕ) (a b : Book) → AreGreatest problem before
    → length before < length problem.base.members → AddsSearches problem (IsSettled problem before score refuted) a b
    → AddsSearches problem (IsGoalBehind problem before) a b
asked-all problem before score refuted a b greatest place f =
    AddsSearches-weaker problem (IsSettled problem before score refuted) (IsGoalBehind problem before) a b
    (λ g h. record {
      behind = ap (λ (y : Goal). length y.floors) h.is ∙ length-append before (h.floor ∷ []);
      of_place = record { before = before; floor = h.floor; greatest = greatest; place = place; least = h.least; most = h.most; is = h.is };
    }) f

-- one search more
pub steps-more : (problem : Problem) (goal : Goal) (most score refuted score' refuted' : ℕ) (a b c : Book)
    → refuted' + score + 1 ≤ refuted + score' → TakesSteps problem most score refuted a b → AddsSearch problem goal b c
    → length c.entries + 1 ≤ length b.entries + 2 ^ pairs_of problem → TakesSteps problem most score' refuted' a c
steps-more problem goal most score refuted score' refuted' a b c closer f g few = record {
  count = f.count + 1;
  few = omega (arith, f.few);
  takes = TakesSearches-then problem f.count 1 a b c f.takes (TakesSearches-one problem goal b c g few);
}

pub steps-last : (problem : Problem) (goal : Goal) (most score refuted : ℕ) (a b c : Book)
    → score + 1 < refuted → TakesSteps problem most score refuted a b → AddsSearch problem goal b c
    → length c.entries + 1 ≤ length b.entries + 2 ^ pairs_of problem → TakesSearches problem (most + 1) a c
steps-last problem goal most score refuted a b c apart f g few =
    TakesSearches-weaker problem (f.count + 1) (most + 1) a c (omega (arith, f.few))
    (TakesSearches-then problem f.count 1 a b c f.takes (TakesSearches-one problem goal b c g few))

pub steps-all : (problem : Problem) (most score refuted : ℕ) (a b : Book) → score < refuted → TakesSteps problem most score refuted a b
    → TakesSearches problem (most + 1) a b
steps-all problem most score refuted a b below f =
    TakesSearches-weaker problem f.count (most + 1) a b (omega (arith, f.few)) f.takes

pub steps-none : (problem : Problem) (most score refuted : ℕ) (a : Book) → refuted ≤ most + 2 → TakesSteps problem most score refuted a a
steps-none problem most score refuted a le = record { count = 0; few = omega arith; takes = TakesSearches-none problem a }
