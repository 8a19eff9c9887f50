use Rattle.std.proofs.Common.{◌≡◌, ◌+◌, ◌∙◌, ℕ, List, length, refl, sym, ap, subst, arith}
use Rattle.roster_model.specs.Lawful.{AreGreatest}
use Rattle.roster_model.proofs.Bounds.{total_bids-bound, bids_before-le}
use Rattle.completion_search.proofs.Grown.{iff_then}
use Rattle.completion_search.proofs.Added.{AddsSearches-none}
use Rattle.award_loop.specs.Raised.{HasScores, IsGoalBetween, IsTop}
use Rattle.award_loop.specs.Outcomes.{IsLaterGoal}
use Rattle.award_loop.proofs.Climbing.{climbed-start, climbed-more, climbed-end, asked-more, asked-last, asked-all, places-none, places-more, places-all, all_splits-none, all_splits-push}
use Rattle.award_loop.proofs.seniority.climb.Goals as goal

pub loop-place-init : goal.loop-place-init
loop-place-init g c = record {
  fits = λ other. (λ h. h, λ h. h);
  same_rounds = refl;
  rounds = c.requires.rounds;
  climbed = climbed-start c.args.problem.now c.args.first c.args.roster c.in_ok-scores.scores c.new-proofs.result c.requires.complete (omega arith) c.requires.greatest c.in_ok-scores.ensures.value c.new-proofs.ensures;
  adds = AddsSearches-none c.args.problem.now (IsGoalBetween c.args.problem.now c.args.first c.args.first) c.args.ledger.now c.requires.orderly;
  takes = places-none c.args.problem.now c.args.first c.args.ledger.now;
  room = λ lt. absurd (omega arith);
  short = omega (arith, all_splits-none c.new-proofs.result c.new-proofs.ensures);
}

pub raise-requires-clause-searches : goal.raise-requires-clause-searches
raise-requires-clause-searches g c =
    omega (arith, c.loop-place.invariant.takes.few, c.loop-place.invariant.takes.takes.goals, total_bids-bound c.args.problem.now, bids_before-le c.args.problem.now c.loop-place._place, c.args.problem.now.valid.month.members_form.few)

pub raise-requires-clause-place : goal.raise-requires-clause-place
raise-requires-clause-place g c = omega (arith, c.loop-place.invariant.climbed.count, ap (λ (xs : List ℕ). length xs) c.as_slice.ensures)

pub raise-requires-clause-greatest : goal.raise-requires-clause-greatest
raise-requires-clause-greatest g c = subst (λ (xs : List ℕ). AreGreatest c.args.problem.now xs) (sym c.as_slice.ensures) c.loop-place.invariant.climbed.greatest

pub raise-requires-clause-has : goal.raise-requires-clause-has
raise-requires-clause-has g c = subst (λ (xs : List ℕ). HasScores c.args.problem.now xs c.loop-place.best) (sym c.as_slice.ensures) c.loop-place.invariant.climbed.has

pub loop-place-preserved : goal.loop-place-preserved
loop-place-preserved g c =
    let problem = c.args.problem.now in
    let inv = c.loop-place.invariant in
    let scores = c.loop-place.scores in
    let count : length c.as_slice.result.now ≡ c.loop-place._place = ap (λ (xs : List ℕ). length xs) c.as_slice.ensures ∙ inv.climbed.count in
    let raised = rw c.in-Top.is at c.in_ok-score.ensures.raised in
    let top : IsTop problem scores c.loop-place.ledger c.raise.new.ledger c.raise.new.best c.in-Top.score c.in-Top.proof =
    subst (λ (xs : List ℕ). IsTop problem xs c.loop-place.ledger c.raise.new.ledger c.raise.new.best c.in-Top.score c.in-Top.proof) c.as_slice.ensures raised in
    record {
      fits = λ other. iff_then (c.raise.ensures.fits other) (inv.fits other);
      same_rounds = c.raise.ensures.rounds ∙ inv.same_rounds;
      rounds = c.raise.ensures.rounds ∙ inv.rounds ∙ sym c.raise.ensures.adds.rounds;
      climbed = climbed-more problem c.args.first c.loop-place._place c.args.roster scores c.add_score.new.scores c.loop-place.best c.raise.new.best c.loop-place.proofs c.add_proof.new.proofs c.in-Top.score c.in-Top.proof c.loop-place.ledger c.raise.new.ledger (omega arith) (omega arith) inv.climbed top c.in_ok-add_score-in-Top.ensures.ok c.in_ok-add_proof-in-Top.ensures.ok;
      adds = asked-more problem c.args.first c.loop-place._place c.as_slice.result.now count (omega arith) c.args.ledger.now c.loop-place.ledger c.raise.new.ledger inv.adds c.raise.ensures.adds;
      takes = places-more problem c.args.first c.loop-place._place (length c.as_slice.result.now) c.args.ledger.now c.loop-place.ledger c.raise.new.ledger count (omega arith) inv.takes c.raise.ensures.takes;
      room = λ lt. top.room;
      short = omega (arith, inv.short, top.short, all_splits-push c.loop-place.proofs c.add_proof.new.proofs c.in-Top.proof c.in_ok-add_proof-in-Top.ensures.ok);
    }

pub returns-in_err-scores-clause-adds : goal.returns-in_err-scores-clause-adds
returns-in_err-scores-clause-adds g c = AddsSearches-none c.args.problem.now (IsLaterGoal c.args.problem.now c.args.first) c.args.ledger.now c.requires.orderly

pub returns-in_err-scores-clause-takes : goal.returns-in_err-scores-clause-takes
returns-in_err-scores-clause-takes g c =
    places-all c.args.problem.now c.args.first c.args.first c.args.ledger.now c.args.ledger.now (omega arith) (places-none c.args.problem.now c.args.first c.args.ledger.now)

pub returns-clause-outcome : goal.returns-clause-outcome
returns-clause-outcome g c =
    let all : c.loop-place._place ≡ length c.args.problem.now.base.members = omega arith in
    climbed-end c.args.problem.now c.args.first c.loop-place._place c.args.roster c.loop-place.scores c.loop-place.best c.loop-place.proofs c.loop-place.ledger all c.loop-place.invariant.climbed (c.loop-place.invariant.room (omega arith))

pub returns-clause-adds : goal.returns-clause-adds
returns-clause-adds g c = asked-all c.args.problem.now c.args.first c.loop-place._place c.args.ledger.now c.loop-place.ledger c.loop-place.invariant.adds

pub returns-clause-takes : goal.returns-clause-takes
returns-clause-takes g c = places-all c.args.problem.now c.args.first c.loop-place._place c.args.ledger.now c.loop-place.ledger (omega arith) c.loop-place.invariant.takes

pub returns-in_err-score-clause-adds : goal.returns-in_err-score-clause-adds
returns-in_err-score-clause-adds g c =
    let count : length c.as_slice.result.now ≡ c.loop-place._place = ap (λ (xs : List ℕ). length xs) c.as_slice.ensures ∙ c.loop-place.invariant.climbed.count in
    asked-last c.args.problem.now c.args.first c.loop-place._place c.as_slice.result.now count (omega arith) c.args.ledger.now c.loop-place.ledger c.raise.new.ledger c.loop-place.invariant.adds c.raise.ensures.adds

pub returns-in_err-score-clause-takes : goal.returns-in_err-score-clause-takes
returns-in_err-score-clause-takes g c =
    let count : length c.as_slice.result.now ≡ c.loop-place._place = ap (λ (xs : List ℕ). length xs) c.as_slice.ensures ∙ c.loop-place.invariant.climbed.count in
    places-all c.args.problem.now c.args.first (c.loop-place._place + 1) c.args.ledger.now c.raise.new.ledger (omega arith)
    (places-more c.args.problem.now c.args.first c.loop-place._place (length c.as_slice.result.now) c.args.ledger.now c.loop-place.ledger c.raise.new.ledger count (omega arith) c.loop-place.invariant.takes c.raise.ensures.takes)

pub returns-in_err-add_score-in-Top-clause-adds : goal.returns-in_err-add_score-in-Top-clause-adds
returns-in_err-add_score-in-Top-clause-adds g c =
    let count : length c.as_slice.result.now ≡ c.loop-place._place = ap (λ (xs : List ℕ). length xs) c.as_slice.ensures ∙ c.loop-place.invariant.climbed.count in
    asked-last c.args.problem.now c.args.first c.loop-place._place c.as_slice.result.now count (omega arith) c.args.ledger.now c.loop-place.ledger c.raise.new.ledger c.loop-place.invariant.adds c.raise.ensures.adds

pub returns-in_err-add_score-in-Top-clause-takes : goal.returns-in_err-add_score-in-Top-clause-takes
returns-in_err-add_score-in-Top-clause-takes g c =
    let count : length c.as_slice.result.now ≡ c.loop-place._place = ap (λ (xs : List ℕ). length xs) c.as_slice.ensures ∙ c.loop-place.invariant.climbed.count in
    places-all c.args.problem.now c.args.first (c.loop-place._place + 1) c.args.ledger.now c.raise.new.ledger (omega arith)
    (places-more c.args.problem.now c.args.first c.loop-place._place (length c.as_slice.result.now) c.args.ledger.now c.loop-place.ledger c.raise.new.ledger count (omega arith) c.loop-place.invariant.takes c.raise.ensures.takes)

pub returns-in_err-add_proof-in-Top-clause-adds : goal.returns-in_err-add_proof-in-Top-clause-adds
returns-in_err-add_proof-in-Top-clause-adds g c =
    let count : length c.as_slice.result.now ≡ c.loop-place._place = ap (λ (xs : List ℕ). length xs) c.as_slice.ensures ∙ c.loop-place.invariant.climbed.count in
    asked-last c.args.problem.now c.args.first c.loop-place._place c.as_slice.result.now count (omega arith) c.args.ledger.now c.loop-place.ledger c.raise.new.ledger c.loop-place.invariant.adds c.raise.ensures.adds

pub returns-in_err-add_proof-in-Top-clause-takes : goal.returns-in_err-add_proof-in-Top-clause-takes
returns-in_err-add_proof-in-Top-clause-takes g c =
    let count : length c.as_slice.result.now ≡ c.loop-place._place = ap (λ (xs : List ℕ). length xs) c.as_slice.ensures ∙ c.loop-place.invariant.climbed.count in
    places-all c.args.problem.now c.args.first (c.loop-place._place + 1) c.args.ledger.now c.raise.new.ledger (omega arith)
    (places-more c.args.problem.now c.args.first c.loop-place._place (length c.as_slice.result.now) c.args.ledger.now c.loop-place.ledger c.raise.new.ledger count (omega arith) c.loop-place.invariant.takes c.raise.ensures.takes)

pub returns-in-Spent-clause-adds : goal.returns-in-Spent-clause-adds
returns-in-Spent-clause-adds g c =
    let count : length c.as_slice.result.now ≡ c.loop-place._place = ap (λ (xs : List ℕ). length xs) c.as_slice.ensures ∙ c.loop-place.invariant.climbed.count in
    asked-last c.args.problem.now c.args.first c.loop-place._place c.as_slice.result.now count (omega arith) c.args.ledger.now c.loop-place.ledger c.raise.new.ledger c.loop-place.invariant.adds c.raise.ensures.adds

pub returns-in-Spent-clause-takes : goal.returns-in-Spent-clause-takes
returns-in-Spent-clause-takes g c =
    let count : length c.as_slice.result.now ≡ c.loop-place._place = ap (λ (xs : List ℕ). length xs) c.as_slice.ensures ∙ c.loop-place.invariant.climbed.count in
    places-all c.args.problem.now c.args.first (c.loop-place._place + 1) c.args.ledger.now c.raise.new.ledger (omega arith)
    (places-more c.args.problem.now c.args.first c.loop-place._place (length c.as_slice.result.now) c.args.ledger.now c.loop-place.ledger c.raise.new.ledger count (omega arith) c.loop-place.invariant.takes c.raise.ensures.takes)
