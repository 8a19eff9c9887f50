-- How an award climbs from place to place.
use Rattle.std.proofs.Common.{◌≡◌, ◌≢◌, ℕ, zero, suc, ◌+◌, ◌^◌, ◌<◌, ◌≤◌, ◌⊎◌, inl, inr, List, [], ◌∷◌, ◌++◌, length, take, Some, None, refl, sym, ap, subst, ◌∙◌, arith, length-append}
use Rattle.std.specs.Prelude.{slice_get, slice_index, sum_by}
use Rattle.std.proofs.lemmas.Option.{slice_get_within}
use Rattle.std.proofs.lemmas.List.{get_or_at, get_or_append_left, take-append-le, length-take-le, take_all}
use Rattle.std.proofs.lemmas.List.Sums.{sum_by-append, sum_by-cons}
use Rattle.std.proofs.Math.Seq.{take-length}
use Rattle.roster_model.specs.declared.problem.Problem.{Problem}
use Rattle.roster_model.specs.declared.goal.Goal.{Goal}
use Rattle.roster_model.specs.declared.proof.Item.{Item}
use Rattle.roster_model.specs.Closing.{Closes}
use Rattle.roster_model.specs.Awards.{above_at, no_goal, floor_goal}
use Rattle.roster_model.specs.Lawful.{AreGreatest, IsRunGoal, bids_weight, total_bids}
use Rattle.roster_model.specs.Rosters.{IsComplete, IsGreater, scores_of}
use Rattle.roster_model.specs.Splits.{splits_in, all_splits}
use Rattle.roster_model.proofs.Bounds.{bids_before-more, bids_before-all, bids_before-le}
use Rattle.roster_model.proofs.Greatest.{length-scores}
use Rattle.roster_model.proofs.Seniority.{greatest-more, greatest-first}
use Rattle.branch_log.specs.Book.{Book}
use Rattle.completion_search.specs.Added.{AddsSearches, TakesSearches}
use Rattle.completion_search.specs.Found.{AddsSearch}
use Rattle.roster_model.specs.Ledgers.{pairs_of}
use Rattle.completion_search.proofs.Added.{AddsSearches-then, AddsSearches-one, AddsSearches-weaker, TakesSearches-none, TakesSearches-one, TakesSearches-then, TakesSearches-weaker}
use Rattle.award_loop.specs.declared.outcome.Outcome.{Outcome}
use Rattle.award_loop.specs.declared.outcome.Outcome.TheVariants.{Award, NoRoster, Spent}
use Rattle.award_loop.specs.Outcomes.{IsOutcome, IsOutcomeFrom, IsAwardFrom, ArePlaceProofs, HasGreatestScores, HasFewSplits, IsNotSpent, IsAwardGoal, IsLaterGoal}
use Rattle.award_loop.specs.Raised.{HasClimbed, IsGoalBehind, IsGoalBetween, IsTop, TakesPlaces}

-- the goal above a score before the last one, and above the last one
above-before : (scores : List ℕ) (score k : ℕ) → k < length scores → above_at (scores ++ score ∷ []) k ≡ above_at scores k
above-before scores score k lt =
    ap (λ (xs : List ℕ). floor_goal xs (slice_index (scores ++ score ∷ []) k + 1)) (take-append-le k scores (score ∷ []) (omega arith))
    ∙ ap (λ (x : ℕ). floor_goal (take k scores) (x + 1)) (get_or_append_left scores (score ∷ []) 0 k lt)

above-last : (scores : List ℕ) (score k : ℕ) → k ≡ length scores → above_at (scores ++ score ∷ []) k ≡ floor_goal scores (score + 1)
above-last scores score k e =
    ap (λ (xs : List ℕ). floor_goal xs (slice_index (scores ++ score ∷ []) k + 1))
    (take-append-le k scores (score ∷ []) (omega arith) ∙ ap (λ (n : ℕ). take n scores) e ∙ take-length scores)
    ∙ ap (λ (x : ℕ). floor_goal scores (x + 1)) (get_or_at scores score [] 0 k (sym e))

-- an element of a list with one more
cases_pushed : (xs : List (List Item)) (x y : List Item) (k : ℕ) → slice_get (xs ++ x ∷ []) k ≡ Some y
    → (slice_get xs k ≡ Some y) ⊎ ((k ≡ length xs) × (x ≡ y))
cases_pushed [] x y zero e = inr (refl, cc)
cases_pushed [] x y (suc k) e = absurd (cc e)
cases_pushed (z ∷ xs) x y zero e = inl e
cases_pushed (z ∷ xs) x y (suc k) e =
    elim (cases_pushed xs x y k e) [ inl before ↦ inl before | inr last ↦ inr (ap suc last.0, last.1) ]

-- one proof more
proofs-push : (problem : Problem) (scores : List ℕ) (score first : ℕ) (proofs : List (List Item)) (proof : List Item)
    → ArePlaceProofs problem scores first proofs → Closes problem (floor_goal scores (score + 1)) [] proof
    → ArePlaceProofs problem (scores ++ score ∷ []) first (proofs ++ proof ∷ [])
proofs-push problem scores score first proofs proof h closes = record {
  count = omega (arith, h.count, length-append proofs (proof ∷ []), length-append scores (score ∷ []));
  places =
      λ k p at.
      elim (cases_pushed proofs proof p k at) [
        | inl before ↦
            let lt = slice_get_within proofs k p before in
            subst (λ (g : Goal). Closes problem g [] p) (sym (above-before scores score (first + k) (omega (arith, lt, h.count)))) (h.places k p before)
        | inr last ↦
            subst (λ (g : Goal). Closes problem g [] p) (sym (above-last scores score (first + k) (omega (arith, last.0, h.count))))
            (subst (λ (q : List Item). Closes problem (floor_goal scores (score + 1)) [] q) last.1 closes)
      ];
}

-- the scores before the first place
pub climbed-start : (problem : Problem) (first : ℕ) (roster : List (List ℕ)) (scores : List ℕ) (proofs : List (List Item))
    → IsComplete problem roster → first ≤ length problem.base.members → AreGreatest problem (take first (scores_of problem roster))
    → scores ≡ take first (scores_of problem roster) → proofs ≡ [] → HasClimbed problem first first roster scores roster proofs
climbed-start problem first roster scores proofs complete few greatest is none =
    let long = length-scores problem roster in
    let count : length scores ≡ first = ap (λ (xs : List ℕ). length xs) is ∙ length-take-le first (scores_of problem roster) (omega arith) in
    record {
      count = count;
      has = record { complete = complete; same = ap (λ (n : ℕ). take n (scores_of problem roster)) count ∙ sym is };
      greatest = subst (λ (xs : List ℕ). AreGreatest problem xs) (sym is) greatest;
      kept = ap (λ (n : ℕ). take n scores) (sym count) ∙ take-length scores ∙ is;
      proved = subst (λ (ps : List (List Item)). ArePlaceProofs problem scores first ps) (sym none)
          (record { count = omega (arith, count); places = λ k p at. let lt = slice_get_within [] k p at in absurd (omega arith) });
    }

-- one place more
pub climbed-more : (problem : Problem) (first place : ℕ) (roster : List (List ℕ)) (scores scores' : List ℕ) (old best : List (List ℕ)) (proofs proofs' : List (List Item)) (score : ℕ) (proof : List Item) (a b : Book)
    → first ≤ place → place < length problem.base.members
    → HasClimbed problem first place roster scores old proofs → IsTop problem scores a b best score proof
    → scores' ≡ scores ++ score ∷ [] → proofs' ≡ proofs ++ proof ∷ []
    → HasClimbed problem first (place + 1) roster scores' best proofs'
climbed-more problem first place roster scores scores' old best proofs proofs' score proof a b le lt h top e e' =
    let count = h.count in
    let here : length scores < length problem.base.members = omega arith in
    let more = greatest-more problem best scores score proof h.greatest top.has.complete here top.has.same top.score_is top.closes in
    let longer : length (scores ++ score ∷ []) ≡ length scores + 1 = length-append scores (score ∷ []) in
    subst (λ (ps : List (List Item)). HasClimbed problem first (place + 1) roster scores' best ps) (sym e')
    (subst (λ (xs : List ℕ). HasClimbed problem first (place + 1) roster xs best (proofs ++ proof ∷ [])) (sym e)
    (record {
      count = omega (arith, longer);
      has = record { complete = top.has.complete; same = ap (λ (n : ℕ). take n (scores_of problem best)) longer ∙ more.1 };
      greatest = more.0;
      kept = take-append-le first scores (score ∷ []) (omega arith) ∙ h.kept;
      proved = proofs-push problem scores score first proofs proof h.proved top.closes;
    }))

-- all places are done
pub climbed-end : (problem : Problem) (first place : ℕ) (roster : List (List ℕ)) (scores : List ℕ) (best : List (List ℕ)) (proofs : List (List Item)) (after : Book)
    → place ≡ length problem.base.members → HasClimbed problem first place roster scores best proofs
    → length after.entries < after.cap → IsAwardFrom problem roster first after best proofs
climbed-end problem first place roster scores best proofs after all h room =
    let long = length-scores problem best in
    let is : scores ≡ scores_of problem best = sym h.has.same ∙ take_all (length scores) (scores_of problem best) (omega (arith, h.count)) in
    record {
      room = room;
      complete = h.has.complete;
      same = ap (λ (xs : List ℕ). take first xs) (sym is) ∙ h.kept;
      greatest = λ other whole more.
          let all_of : take (length scores) (scores_of problem other) ≡ scores_of problem other =
          take_all (length scores) (scores_of problem other) (omega (arith, h.count, length-scores problem other)) in
          h.greatest.most other whole (subst (λ (xs : List ℕ). IsGreater (take (length scores) (scores_of problem other)) xs) (sym is) (subst (λ (xs : List ℕ). IsGreater xs (scores_of problem best)) (sym all_of) more));
      proved = subst (λ (xs : List ℕ). ArePlaceProofs problem xs first proofs) is h.proved;
    }

-- what was asked, with one place more
module _ (problem : Problem) (first place : ℕ) (scores : List ℕ) (count : length scores ≡ place) (le : first ≤ place) where
  between-apart : (g g' : Goal) → IsGoalBetween problem first place g → IsGoalBehind problem scores g' → g ≢ g'
  between-apart g g' h h' same = omega (arith, h.earlier, h'.behind, ap (λ (x : Goal). length x.floors) same)

  pub asked-more : (a b c : Book) → AddsSearches problem (IsGoalBetween problem first place) a b → AddsSearches problem (IsGoalBehind problem scores) b c
      → AddsSearches problem (IsGoalBetween problem first (place + 1)) a c
  asked-more a b c f g =
      AddsSearches-then problem (IsGoalBetween problem first place) (IsGoalBehind problem scores) (IsGoalBetween problem first (place + 1)) a b c
      (λ x h. record { later = h.later; earlier = omega (arith, h.earlier); of_place = h.of_place })
      (λ x h. record { later = omega (arith, h.behind); earlier = omega (arith, h.behind); of_place = h.of_place })
      between-apart f g

  pub asked-last : (a b c : Book) → AddsSearches problem (IsGoalBetween problem first place) a b → AddsSearches problem (IsGoalBehind problem scores) b c
      → AddsSearches problem (IsLaterGoal problem first) a c
  asked-last a b c f g =
      AddsSearches-then problem (IsGoalBetween problem first place) (IsGoalBehind problem scores) (IsLaterGoal problem first) a b c
      (λ x h. record { later = h.later; of_place = h.of_place })
      (λ x h. record { later = omega (arith, h.behind); of_place = h.of_place })
      between-apart f g

pub asked-all : (problem : Problem) (first place : ℕ) (a b : Book) → AddsSearches problem (IsGoalBetween problem first place) a b
    → AddsSearches problem (IsLaterGoal problem first) a b
asked-all problem first place a b f =
    AddsSearches-weaker problem (IsGoalBetween problem first place) (IsLaterGoal problem first) a b
    (λ x h. record { later = h.later; of_place = h.of_place }) f

-- how many searches
pub places-none : (problem : Problem) (first : ℕ) (a : Book) → TakesPlaces problem first first a a
places-none problem first a = record { count = 0; few = omega arith; takes = TakesSearches-none problem a }

pub places-more : (problem : Problem) (first place k : ℕ) (a b c : Book) → k ≡ place → place < length problem.base.members
    → TakesPlaces problem first place a b → TakesSearches problem (bids_weight problem k + 1) b c → TakesPlaces problem first (place + 1) a c
places-more problem first place k a b c e lt f g =
    let same : bids_weight problem k ≡ bids_weight problem place = ap (bids_weight problem) e in
    record {
      count = f.count + (bids_weight problem k + 1);
      few = omega (arith, f.few, bids_before-more problem place lt, same);
      takes = TakesSearches-then problem f.count (bids_weight problem k + 1) a b c f.takes g;
    }

pub places-all : (problem : Problem) (first place : ℕ) (a b : Book) → place ≤ length problem.base.members
    → TakesPlaces problem first place a b → TakesPlaces problem first (length problem.base.members) a b
places-all problem first place a b le f = record {
  count = f.count;
  few = omega (arith, f.few, bids_before-le problem place, bids_before-all problem);
  takes = f.takes;
}

-- splits of proofs
pub all_splits-none : (proofs : List (List Item)) → proofs ≡ [] → all_splits proofs ≡ 0
unfolding all_splits
all_splits-none proofs e = ap (λ (ps : List (List Item)). sum_by splits_in ps) e

plus_none : (n : ℕ) → n + 0 ≡ n
plus_none n = omega arith

pub all_splits-push : (proofs proofs' : List (List Item)) (proof : List Item) → proofs' ≡ proofs ++ proof ∷ []
    → all_splits proofs' ≡ all_splits proofs + splits_in proof
unfolding all_splits
all_splits-push proofs proofs' proof e =
    ap (λ (ps : List (List Item)). sum_by splits_in ps) e ∙ sum_by-append splits_in proofs (proof ∷ [])
    ∙ ap (λ (n : ℕ). sum_by splits_in proofs + n) (sum_by-cons splits_in proof [] ∙ plus_none (splits_in proof))

-- the award of all places
pub whole-outcome : (problem : Problem) (kept : List (List ℕ)) (after : Book) (o : Outcome) → IsOutcomeFrom problem kept 0 after o → IsOutcome problem after o
whole-outcome problem kept after (Award roster proofs) h = record {
  room = h.room;
  best = record {
    complete = h.complete;
    count = omega (arith, h.proved.count, length-scores problem roster);
    places = λ k p at. let none : 0 + k ≡ k = omega arith in subst (λ (i : ℕ). Closes problem (above_at (scores_of problem roster) i) [] p) none (h.proved.places k p at);
  };
}
whole-outcome problem kept after (NoRoster proof) h = absurd h
whole-outcome problem kept after Spent h = h

pub greatest-outcome : (problem : Problem) (kept : List (List ℕ)) (place : ℕ) (after : Book) (o : Outcome)
    → IsOutcomeFrom problem kept place after o → HasGreatestScores problem o
greatest-outcome problem kept place after (Award roster proofs) h = λ k few. greatest-first problem roster k h.complete h.greatest few
greatest-outcome problem kept place after (NoRoster proof) h = tt
greatest-outcome problem kept place after Spent h = tt

pub not_spent-outcome : (problem : Problem) (after : Book) (o : Outcome) → length after.entries ≢ after.cap → IsOutcome problem after o → IsNotSpent o
not_spent-outcome problem after (Award roster proofs) room h = tt
not_spent-outcome problem after (NoRoster proof) room h = tt
not_spent-outcome problem after Spent room h = absurd (room h)

pub short-outcome : (a b c : Book) (o : Outcome) → length a.entries ≤ length b.entries → HasFewSplits b c o → HasFewSplits a c o
short-outcome a b c (Award roster proofs) le h = omega (arith, h)
short-outcome a b c (NoRoster proof) le h = omega (arith, h)
short-outcome a b c Spent le h = tt

-- the goals of an award
nothing-apart : (problem : Problem) (g g' : Goal) → g ≡ no_goal → IsLaterGoal problem 0 g' → g ≢ g'
nothing-apart problem g g' e h same = omega (arith, h.later, ap (λ (x : Goal). length x.floors) (sym same ∙ e))

pub asked-award : (problem : Problem) (a b c : Book) → AddsSearch problem no_goal a b → AddsSearches problem (IsLaterGoal problem 0) b c
    → AddsSearches problem (IsAwardGoal problem) a c
asked-award problem a b c f g =
    AddsSearches-then problem (λ x. x ≡ no_goal) (IsLaterGoal problem 0) (IsAwardGoal problem) a b c
    (λ x e. inl e) (λ x h. inr h.of_place) (nothing-apart problem) (AddsSearches-one problem no_goal a b f) g

pub asked-nothing : (problem : Problem) (a b : Book) → AddsSearch problem no_goal a b → AddsSearches problem (IsAwardGoal problem) a b
asked-nothing problem a b f =
    AddsSearches-weaker problem (λ x. x ≡ no_goal) (IsAwardGoal problem) a b (λ x e. inl e) (AddsSearches-one problem no_goal a b f)

pub award-run : (problem : Problem) (g : Goal) → IsAwardGoal problem g → IsRunGoal problem g
award-run problem g h = elim h [ inl e ↦ inl e | inr place ↦ inr (inl place) ]

pub award-no_bid : (problem : Problem) (g : Goal) → IsAwardGoal problem g → g.grant ≡ None
award-no_bid problem g h =
    elim h [ inl e ↦ ap (λ (x : Goal). x.grant) e | inr place ↦ ap (λ (x : Goal). x.grant) place.is ]

pub later-run : (problem : Problem) (first : ℕ) (g : Goal) → IsLaterGoal problem first g → IsRunGoal problem g
later-run problem first g h = inr (inl h.of_place)

pub later-no_bid : (problem : Problem) (first : ℕ) (g : Goal) → IsLaterGoal problem first g → g.grant ≡ None
later-no_bid problem first g h = ap (λ (x : Goal). x.grant) h.of_place.is

-- the searches of an award
pub takes-award : (problem : Problem) (a b c : Book) → AddsSearch problem no_goal a b
    → length b.entries + 1 ≤ length a.entries + 2 ^ pairs_of problem → TakesPlaces problem 0 (length problem.base.members) b c
    → TakesSearches problem (1 + length problem.base.members + total_bids problem) a c
takes-award problem a b c f few g =
    let searches = g.few in
    let all = bids_before-all problem in
    TakesSearches-weaker problem (1 + g.count) (1 + length problem.base.members + total_bids problem) a c (omega arith)
    (TakesSearches-then problem 1 g.count a b c (TakesSearches-one problem no_goal a b f few) g.takes)

pub takes-nothing : (problem : Problem) (a b : Book) → AddsSearch problem no_goal a b
    → length b.entries + 1 ≤ length a.entries + 2 ^ pairs_of problem
    → TakesSearches problem (1 + length problem.base.members + total_bids problem) a b
takes-nothing problem a b f few =
    TakesSearches-weaker problem 1 (1 + length problem.base.members + total_bids problem) a b (omega arith) (TakesSearches-one problem no_goal a b f few)
