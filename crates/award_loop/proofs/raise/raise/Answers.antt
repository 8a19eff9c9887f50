use Rattle.std.proofs.Common.{◌≡◌, ◌≤◌, ◌+◌, ◌∙◌, ℕ, [], length, refl, sym, subst, arith}
use Rattle.roster_model.specs.Closing.{Closes}
use Rattle.roster_model.specs.Awards.{floor_goal}
use Rattle.roster_model.specs.Lawful.{bids_weight}
use Rattle.roster_model.specs.Rosters.{line_at}
use Rattle.roster_model.proofs.Bounds.{bids_weight_small, score-le-weight}
use Rattle.roster_model.proofs.Seniority.{before_same, floor_reached}
use Rattle.completion_search.proofs.Grown.{iff_then}
use Rattle.completion_search.proofs.Added.{AddsSearches-none, entries-more, entries-more_one}
use Rattle.completion_search.proofs.Splits.{splits-none}
use Rattle.award_loop.specs.Raised.{IsSettled, HasScores}
use Rattle.award_loop.proofs.Raising.{below-refuted, asked-found, asked-refuted, asked-last, asked-all, steps-more, steps-last, steps-all, steps-none}
use Rattle.award_loop.proofs.raise.raise.Goals as goal

pub loop-score-init : goal.loop-score-init
loop-score-init g c =
    let problem = c.args.problem.now in
    let before = c.args.before.now in
    let most = score-le-weight problem (length before) (line_at c.args.best.now (length before)) in
    record {
      fits = λ other. (λ h. h, λ h. h);
      same_rounds = refl;
      rounds = c.requires.rounds;
      has = c.requires.has;
      score = c.score_in-score.ensures.value;
      below = omega (arith, most);
      refuted = omega arith;
      adds = AddsSearches-none problem (IsSettled problem before c.score_in-score.result (c.bids_weight-refuted.result + 2)) c.args.ledger.now c.requires.orderly;
      takes = steps-none problem (bids_weight problem (length before)) c.score_in-score.result (c.bids_weight-refuted.result + 2) c.args.ledger.now (omega arith);
      room = λ le. absurd (omega arith);
      closes = λ le. (let none : ⊥ = omega arith in absurd none);
      short = omega (arith, splits-none c.new-proof.result c.new-proof.ensures);
    }

pub overflow_add-refuted : goal.overflow_add-refuted
overflow_add-refuted g c = omega (arith, bids_weight_small c.args.problem.now (length c.args.before.now))

pub overflow_add-score : goal.overflow_add-score
overflow_add-score g c = omega (arith, bids_weight_small c.args.problem.now (length c.args.before.now), c.loop-score.invariant.below, c.loop-score.invariant.refuted)

pub ask-requires-clause-searches : goal.ask-requires-clause-searches
ask-requires-clause-searches g c =
    omega (arith, bids_weight_small c.args.problem.now (length c.args.before.now), c.loop-score.invariant.below, c.loop-score.invariant.refuted, c.loop-score.invariant.takes.few, c.loop-score.invariant.takes.takes.goals)

pub loop-score-preserved-in-Found : goal.loop-score-preserved-in-Found
loop-score-preserved-in-Found g c =
    let problem = c.args.problem.now in
    let before = c.args.before.now in
    let inv = c.loop-score.invariant in
    let floor = c.in_ok-proposal.proposal.floor in
    let met = rw c.in-Found.is at c.in_ok-better.ensures.found in
    let has : HasScores problem before c.in-Found.better = record {
      complete = met.complete;
      same = before_same problem c.in-Found.better before floor met.complete met.meets c.requires.place c.requires.greatest;
    } in
    let reached : floor ≤ c.score_in-score-in-Found.result =
    omega (arith, c.score_in-score-in-Found.ensures.value, floor_reached problem c.in-Found.better before floor met.complete met.meets c.requires.place) in
    record {
      fits = λ other. iff_then (c.ask.ensures.fits other) (iff_then (c.propose.ensures.fits other) (inv.fits other));
      same_rounds = c.ask.ensures.rounds ∙ c.propose.ensures.rounds ∙ inv.same_rounds;
      rounds = c.ask.ensures.rounds ∙ c.propose.ensures.rounds ∙ inv.rounds ∙ sym c.ask.ensures.adds.rounds;
      has = has;
      score = c.score_in-score-in-Found.ensures.value;
      below = below-refuted problem before c.in-Found.better c.score_in-score-in-Found.result c.loop-score.refuted c.loop-score.proof has c.requires.place c.score_in-score-in-Found.ensures.value inv.closes;
      refuted = inv.refuted;
      adds = asked-found problem before c.loop-score.score c.loop-score.refuted floor c.in_ok-proposal.ensures.above c.in_ok-proposal.ensures.below inv.refuted c.score_in-score-in-Found.result c.args.ledger.now c.loop-score.ledger c.ask.new.ledger reached inv.adds c.ask.ensures.adds;
      takes = steps-more problem (floor_goal before floor) (bids_weight problem (length before)) c.loop-score.score c.loop-score.refuted c.score_in-score-in-Found.result c.loop-score.refuted c.args.ledger.now c.loop-score.ledger c.ask.new.ledger (omega (arith, reached, c.in_ok-proposal.ensures.above)) inv.takes c.ask.ensures.adds c.ask.ensures.few;
      room = λ le. met.room;
      closes = inv.closes;
      short = omega (arith, inv.short, entries-more_one problem (floor_goal before floor) c.loop-score.ledger c.ask.new.ledger c.ask.ensures.adds);
    }

pub loop-score-preserved : goal.loop-score-preserved
loop-score-preserved g c =
    let problem = c.args.problem.now in
    let before = c.args.before.now in
    let inv = c.loop-score.invariant in
    let floor = c.in_ok-proposal.proposal.floor in
    let closed = rw c.in-Refuted.is at c.in_ok-better.ensures.found in
    let short = rw c.in-Refuted.is at c.in_ok-better.ensures.short in
    record {
      fits = λ other. iff_then (c.ask.ensures.fits other) (iff_then (c.propose.ensures.fits other) (inv.fits other));
      same_rounds = c.ask.ensures.rounds ∙ c.propose.ensures.rounds ∙ inv.same_rounds;
      rounds = c.ask.ensures.rounds ∙ c.propose.ensures.rounds ∙ inv.rounds ∙ sym c.ask.ensures.adds.rounds;
      has = inv.has;
      score = inv.score;
      below = c.in_ok-proposal.ensures.above;
      refuted = omega (arith, inv.refuted, c.in_ok-proposal.ensures.below);
      adds = asked-refuted problem before c.loop-score.score c.loop-score.refuted floor c.in_ok-proposal.ensures.above c.in_ok-proposal.ensures.below inv.refuted c.args.ledger.now c.loop-score.ledger c.ask.new.ledger inv.adds c.ask.ensures.adds;
      takes = steps-more problem (floor_goal before floor) (bids_weight problem (length before)) c.loop-score.score c.loop-score.refuted c.loop-score.score floor c.args.ledger.now c.loop-score.ledger c.ask.new.ledger (omega (arith, c.in_ok-proposal.ensures.below)) inv.takes c.ask.ensures.adds c.ask.ensures.few;
      room = λ le. closed.room;
      closes = λ le. closed.closes;
      short = omega (arith, short, inv.adds, entries-more problem (IsSettled problem before c.loop-score.score c.loop-score.refuted) c.args.ledger.now c.loop-score.ledger inv.adds);
    }

pub loop-score-smaller-in-Found : goal.loop-score-smaller-in-Found
loop-score-smaller-in-Found g c =
    let inv = c.loop-score.invariant in
    let met = rw c.in-Found.is at c.in_ok-better.ensures.found in
    omega (arith, inv.below, c.score_in-score-in-Found.ensures.value, c.in_ok-proposal.ensures.above, floor_reached c.args.problem.now c.in-Found.better c.args.before.now c.in_ok-proposal.proposal.floor met.complete met.meets c.requires.place)

pub returns-in_err-better-clause-adds : goal.returns-in_err-better-clause-adds
returns-in_err-better-clause-adds g c =
    asked-last c.args.problem.now c.args.before.now c.loop-score.score c.loop-score.refuted c.in_ok-proposal.proposal.floor c.in_ok-proposal.ensures.above c.in_ok-proposal.ensures.below c.loop-score.invariant.refuted c.requires.greatest c.requires.place c.args.ledger.now c.loop-score.ledger c.ask.new.ledger c.loop-score.invariant.adds c.ask.ensures.adds

pub returns-in-Spent-clause-adds : goal.returns-in-Spent-clause-adds
returns-in-Spent-clause-adds g c =
    asked-last c.args.problem.now c.args.before.now c.loop-score.score c.loop-score.refuted c.in_ok-proposal.proposal.floor c.in_ok-proposal.ensures.above c.in_ok-proposal.ensures.below c.loop-score.invariant.refuted c.requires.greatest c.requires.place c.args.ledger.now c.loop-score.ledger c.ask.new.ledger c.loop-score.invariant.adds c.ask.ensures.adds

pub returns-in_err-better-clause-takes : goal.returns-in_err-better-clause-takes
returns-in_err-better-clause-takes g c =
    steps-last c.args.problem.now (floor_goal c.args.before.now c.in_ok-proposal.proposal.floor) (bids_weight c.args.problem.now (length c.args.before.now)) c.loop-score.score c.loop-score.refuted c.args.ledger.now c.loop-score.ledger c.ask.new.ledger c.loop-score-test.true c.loop-score.invariant.takes c.ask.ensures.adds c.ask.ensures.few

pub returns-in-Spent-clause-takes : goal.returns-in-Spent-clause-takes
returns-in-Spent-clause-takes g c =
    steps-last c.args.problem.now (floor_goal c.args.before.now c.in_ok-proposal.proposal.floor) (bids_weight c.args.problem.now (length c.args.before.now)) c.loop-score.score c.loop-score.refuted c.args.ledger.now c.loop-score.ledger c.ask.new.ledger c.loop-score-test.true c.loop-score.invariant.takes c.ask.ensures.adds c.ask.ensures.few

pub returns-clause-raised : goal.returns-clause-raised
returns-clause-raised g c =
    let problem = c.args.problem.now in
    let before = c.args.before.now in
    let inv = c.loop-score.invariant in
    let next : c.loop-score.refuted ≡ c.loop-score.score + 1 = omega (arith, inv.below, c.loop-score-test.false) in
    let few : c.loop-score.refuted ≤ bids_weight problem (length before) + 1 =
    omega (arith, next, inv.score, score-le-weight problem (length before) (line_at c.loop-score.best (length before))) in
    record {
      room = inv.room few;
      has = inv.has;
      score_is = inv.score;
      closes = subst (λ (x : ℕ). Closes problem (floor_goal before x) [] c.loop-score.proof) next (inv.closes few);
      short = inv.short;
    }

pub returns-clause-adds : goal.returns-clause-adds
returns-clause-adds g c =
    asked-all c.args.problem.now c.args.before.now c.loop-score.score c.loop-score.refuted c.args.ledger.now c.loop-score.ledger c.requires.greatest c.requires.place c.loop-score.invariant.adds

pub returns-clause-takes : goal.returns-clause-takes
returns-clause-takes g c =
    steps-all c.args.problem.now (bids_weight c.args.problem.now (length c.args.before.now)) c.loop-score.score c.loop-score.refuted c.args.ledger.now c.loop-score.ledger c.loop-score.invariant.below c.loop-score.invariant.takes

pub returns-in_err-proposal-clause-adds : goal.returns-in_err-proposal-clause-adds
returns-in_err-proposal-clause-adds g c =
    asked-all c.args.problem.now c.args.before.now c.loop-score.score c.loop-score.refuted c.args.ledger.now c.loop-score.ledger c.requires.greatest c.requires.place c.loop-score.invariant.adds

pub returns-in_err-proposal-clause-takes : goal.returns-in_err-proposal-clause-takes
returns-in_err-proposal-clause-takes g c =
    steps-all c.args.problem.now (bids_weight c.args.problem.now (length c.args.before.now)) c.loop-score.score c.loop-score.refuted c.args.ledger.now c.loop-score.ledger c.loop-score.invariant.below c.loop-score.invariant.takes
