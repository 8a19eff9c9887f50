use Rattle.std.proofs.Common.{◌≡◌, ◌+◌, ◌∙◌, ℕ, None, length, refl, sym, subst, arith}
use Rattle.roster_model.specs.Denials.{granting}
use Rattle.completion_search.proofs.Added.{AddsSearches-none, entries-more, entries-more_one}
use Rattle.completion_search.proofs.Grown.{iff_then}
use Rattle.denials.specs.Asked.{IsAnsweredFor}
use Rattle.denials.specs.Settled.{IsBracketed}
use Rattle.denials.proofs.Knowing.{found_more}
use Rattle.denials.proofs.Narrowing.{adds-found, adds-refuted, adds-last, adds-all, narrows-none, narrows-more, narrows-last, narrows-all, bracket-found, bracket-refuted}
use Rattle.denials.proofs.places.settle.Goals as goal

pub loop-low-init : goal.loop-low-init
loop-low-init g c =
    let problem = c.args.problem.now in
    let high : c.len-members.result + 1 ≡ length problem.base.members + 1 = omega (arith, c.len-members.ensures) in
    record {
      fits = λ other. (λ h. h, λ h. h);
      same_rounds = refl;
      rounds = c.requires.rounds;
      order = omega (arith, high, c.requires.within);
      bracketed = subst (λ (x : ℕ). IsBracketed problem c.args.scores.now c.args.bid c.args.start.place x c.args.start.roster None) (sym high) c.requires.start;
      adds = AddsSearches-none problem (IsAnsweredFor problem c.args.scores.now c.args.bid c.args.start.place (c.len-members.result + 1)) c.args.ledger.now c.requires.orderly;
      narrows = narrows-none problem c.args.start.place (c.len-members.result + 1) c.args.ledger.now (omega (arith, high));
      known = c.requires.known;
      room = c.requires.room;
      short = omega arith;
    }

pub ask-requires-clause-searches : goal.ask-requires-clause-searches
ask-requires-clause-searches g c =
    omega (arith, c.requires.searches, c.loop-low.invariant.narrows.few, c.loop-low.invariant.narrows.takes.goals, c.loop-low-test.true)

pub ask-requires-clause-place : goal.ask-requires-clause-place
ask-requires-clause-place g c = omega (arith, c.loop-low.invariant.bracketed.within, c.in_ok-place.ensures.most)

pub loop-low-preserved-in-Found : goal.loop-low-preserved-in-Found
loop-low-preserved-in-Found g c =
    let problem = c.args.problem.now in
    let inv = c.loop-low.invariant in
    let place = c.in_ok-place.place in
    let next = c.place_behind-low.result in
    let goal = granting c.args.scores.now place c.args.bid in
    let met = rw c.in-Found.is at c.in_ok-roster.ensures.found in
    record {
      fits = λ other. iff_then (c.ask.ensures.fits other) (iff_then (c.next_place.ensures.fits other) (inv.fits other));
      same_rounds = c.ask.ensures.rounds ∙ c.next_place.ensures.rounds ∙ inv.same_rounds;
      rounds = c.ask.ensures.rounds ∙ c.next_place.ensures.rounds ∙ inv.rounds ∙ sym c.ask.ensures.adds.rounds;
      order = c.place_behind-low.ensures.within;
      bracketed =
          bracket-found problem c.args.scores.now c.args.bid c.loop-low.low c.loop-low.high place c.first_missed-missed.result next c.loop-low.reached c.loop-low.closing c.in-Found.roster
          c.requires.members c.requires.bid met.complete met.meets c.first_missed-missed.ensures.reaches c.place_behind-low.ensures.behind c.place_behind-low.ensures.reached inv.bracketed;
      adds =
          adds-found problem c.args.scores.now c.args.bid c.requires.members c.requires.bid c.loop-low.low c.loop-low.high place
          c.in_ok-place.ensures.least c.in_ok-place.ensures.most inv.bracketed.within next c.place_behind-low.ensures.behind c.args.ledger.now c.loop-low.ledger c.ask.new.ledger inv.adds c.ask.ensures.adds;
      narrows =
          narrows-more problem goal c.loop-low.low c.loop-low.high next c.loop-low.high c.args.ledger.now c.loop-low.ledger c.ask.new.ledger
          (omega (arith, c.in_ok-place.ensures.least, c.place_behind-low.ensures.behind)) inv.narrows c.ask.ensures.adds c.ask.ensures.few;
      room = met.room;
      short = omega (arith, inv.short, entries-more_one problem goal c.loop-low.ledger c.ask.new.ledger c.ask.ensures.adds);
      known =
          found_more problem c.args.scores.now c.loop-low.known c.keep.new.known (record { place = c.first_missed-missed.result; roster = c.in-Found.roster })
          c.in_ok-keep-in-Found.ensures.kept inv.known
          (record { complete = met.complete; within = c.first_missed-missed.ensures.within; reaches = c.first_missed-missed.ensures.reaches });
    }

pub loop-low-preserved : goal.loop-low-preserved
loop-low-preserved g c =
    let problem = c.args.problem.now in
    let inv = c.loop-low.invariant in
    let place = c.in_ok-place.place in
    let goal = granting c.args.scores.now place c.args.bid in
    let closed = rw c.in-Refuted.is at c.in_ok-roster.ensures.found in
    let short = rw c.in-Refuted.is at c.in_ok-roster.ensures.short in
    record {
      fits = λ other. iff_then (c.ask.ensures.fits other) (iff_then (c.next_place.ensures.fits other) (inv.fits other));
      same_rounds = c.ask.ensures.rounds ∙ c.next_place.ensures.rounds ∙ inv.same_rounds;
      rounds = c.ask.ensures.rounds ∙ c.next_place.ensures.rounds ∙ inv.rounds ∙ sym c.ask.ensures.adds.rounds;
      order = c.in_ok-place.ensures.least;
      bracketed =
          bracket-refuted problem c.args.scores.now c.args.bid c.loop-low.low c.loop-low.high place c.loop-low.reached c.loop-low.closing c.in-Refuted.proof
          c.in_ok-place.ensures.most closed.closes inv.bracketed;
      adds =
          adds-refuted problem c.args.scores.now c.args.bid c.requires.members c.requires.bid c.loop-low.low c.loop-low.high place
          c.in_ok-place.ensures.least c.in_ok-place.ensures.most inv.bracketed.within c.args.ledger.now c.loop-low.ledger c.ask.new.ledger inv.adds c.ask.ensures.adds;
      narrows =
          narrows-more problem goal c.loop-low.low c.loop-low.high c.loop-low.low place c.args.ledger.now c.loop-low.ledger c.ask.new.ledger
          (omega (arith, c.in_ok-place.ensures.most)) inv.narrows c.ask.ensures.adds c.ask.ensures.few;
      room = closed.room;
      short =
          omega (
            arith,
            short,
            entries-more problem (IsAnsweredFor problem c.args.scores.now c.args.bid c.loop-low.low c.loop-low.high) c.args.ledger.now c.loop-low.ledger inv.adds,
          );
      known = inv.known;
    }

pub returns-in_err-roster-clause-adds : goal.returns-in_err-roster-clause-adds
returns-in_err-roster-clause-adds g c =
    adds-last c.args.problem.now c.args.scores.now c.args.bid c.requires.members c.requires.bid c.loop-low.low c.loop-low.high c.in_ok-place.place
    c.in_ok-place.ensures.least c.in_ok-place.ensures.most c.loop-low.invariant.bracketed.within c.args.ledger.now c.loop-low.ledger c.ask.new.ledger c.loop-low.invariant.adds c.ask.ensures.adds

pub returns-in_err-keep-in-Found-clause-adds : goal.returns-in_err-keep-in-Found-clause-adds
returns-in_err-keep-in-Found-clause-adds g c =
    adds-last c.args.problem.now c.args.scores.now c.args.bid c.requires.members c.requires.bid c.loop-low.low c.loop-low.high c.in_ok-place.place
    c.in_ok-place.ensures.least c.in_ok-place.ensures.most c.loop-low.invariant.bracketed.within c.args.ledger.now c.loop-low.ledger c.ask.new.ledger c.loop-low.invariant.adds c.ask.ensures.adds

pub returns-in-Spent-clause-adds : goal.returns-in-Spent-clause-adds
returns-in-Spent-clause-adds g c =
    adds-last c.args.problem.now c.args.scores.now c.args.bid c.requires.members c.requires.bid c.loop-low.low c.loop-low.high c.in_ok-place.place
    c.in_ok-place.ensures.least c.in_ok-place.ensures.most c.loop-low.invariant.bracketed.within c.args.ledger.now c.loop-low.ledger c.ask.new.ledger c.loop-low.invariant.adds c.ask.ensures.adds

pub returns-in_err-roster-clause-takes : goal.returns-in_err-roster-clause-takes
returns-in_err-roster-clause-takes g c =
    narrows-last c.args.problem.now (granting c.args.scores.now c.in_ok-place.place c.args.bid) c.loop-low.low c.loop-low.high c.args.ledger.now c.loop-low.ledger c.ask.new.ledger
    c.loop-low-test.true c.loop-low.invariant.narrows c.ask.ensures.adds c.ask.ensures.few

pub returns-in_err-keep-in-Found-clause-takes : goal.returns-in_err-keep-in-Found-clause-takes
returns-in_err-keep-in-Found-clause-takes g c =
    narrows-last c.args.problem.now (granting c.args.scores.now c.in_ok-place.place c.args.bid) c.loop-low.low c.loop-low.high c.args.ledger.now c.loop-low.ledger c.ask.new.ledger
    c.loop-low-test.true c.loop-low.invariant.narrows c.ask.ensures.adds c.ask.ensures.few

pub returns-in-Spent-clause-takes : goal.returns-in-Spent-clause-takes
returns-in-Spent-clause-takes g c =
    narrows-last c.args.problem.now (granting c.args.scores.now c.in_ok-place.place c.args.bid) c.loop-low.low c.loop-low.high c.args.ledger.now c.loop-low.ledger c.ask.new.ledger
    c.loop-low-test.true c.loop-low.invariant.narrows c.ask.ensures.adds c.ask.ensures.few

pub returns-clause-settled : goal.returns-clause-settled
returns-clause-settled g c =
    let inv = c.loop-low.invariant in
    let same : c.loop-low.high ≡ c.loop-low.low = omega (arith, inv.order, c.loop-low-test.false) in
    record {
      room = inv.room;
      bracketed = subst (λ (x : ℕ). IsBracketed c.args.problem.now c.args.scores.now c.args.bid c.loop-low.low x c.loop-low.reached c.loop-low.closing) same inv.bracketed;
      short = inv.short;
    }

pub returns-clause-adds : goal.returns-clause-adds
returns-clause-adds g c =
    adds-all c.args.problem.now c.args.scores.now c.args.bid c.requires.members c.requires.bid c.loop-low.low c.loop-low.high c.args.ledger.now c.loop-low.ledger c.loop-low.invariant.adds

pub returns-clause-takes : goal.returns-clause-takes
returns-clause-takes g c =
    narrows-all c.args.problem.now c.loop-low.low c.loop-low.high c.args.ledger.now c.loop-low.ledger c.loop-low.invariant.order c.loop-low.invariant.narrows

pub returns-in_err-place-clause-adds : goal.returns-in_err-place-clause-adds
returns-in_err-place-clause-adds g c =
    adds-all c.args.problem.now c.args.scores.now c.args.bid c.requires.members c.requires.bid c.loop-low.low c.loop-low.high c.args.ledger.now c.loop-low.ledger c.loop-low.invariant.adds

pub returns-in_err-place-clause-takes : goal.returns-in_err-place-clause-takes
returns-in_err-place-clause-takes g c =
    narrows-all c.args.problem.now c.loop-low.low c.loop-low.high c.args.ledger.now c.loop-low.ledger c.loop-low.invariant.order c.loop-low.invariant.narrows
