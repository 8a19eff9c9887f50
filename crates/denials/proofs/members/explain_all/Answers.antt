use Rattle.std.proofs.Common.{◌<◌, ◌+◌, ◌∙◌, length, sym, arith, refl}
use Rattle.roster_model.specs.declared.goal.BidRef.{BidRef}
use Rattle.completion_search.proofs.Added.{AddsSearches-none}
use Rattle.completion_search.proofs.Grown.{iff_then}
use Rattle.denials.specs.Asked.{IsAskedFor}
use Rattle.denials.specs.Made.{first_bid, bids_below}
use Rattle.roster_model.specs.Rosters.{scores_of}
use Rattle.denials.proofs.Knowing.{found_same, none_found}
use Rattle.denials.proofs.Listing.{all_fit, none_explained, splits_then, splits_none}
use Rattle.denials.proofs.Rows.{adds-member, adds-of_all, takes-member, takes-of_all, takes-all, takes-none_below, few_searches, few_all, below_count}
use Rattle.denials.proofs.members.explain_all.Goals as goal

pub loop-member-init : goal.loop-member-init
loop-member-init g c = record {
  fits = λ other. (λ h. h, λ h. h);
  same_rounds = refl;
  rounds = c.requires.rounds;
  room = c.requires.room;
  explained = none_explained c.args.problem.now c.args.roster.now c.new.result c.new-2.result c.new.ensures c.new-2.ensures;
  known = none_found c.args.problem.now c.args.scores.now c.new-3.result c.new-3.ensures;
  short = omega (arith, splits_none c.new-2.result c.new-2.ensures);
  adds = AddsSearches-none c.args.problem.now (IsAskedFor c.args.problem.now c.args.scores.now (λ (b : BidRef). b.member < 0)) c.args.ledger.now c.requires.orderly;
  takes = takes-none_below c.args.problem.now c.args.ledger.now;
}

pub loop-member-preserved : goal.loop-member-preserved
loop-member-preserved g c =
    let inv = c.loop-member.invariant in
    let known : c.loop-member.member < length c.args.problem.now.base.members = omega (arith, c.loop-member-test.true, c.len-member-end.ensures) in
    let step = rw c.if-not-branch.false at c.in_ok-explain_member.ensures.goes_on in
    record {
      fits = λ other. iff_then (c.explain_member.ensures.fits other) (inv.fits other);
      same_rounds = c.explain_member.ensures.rounds ∙ inv.same_rounds;
      rounds = c.explain_member.ensures.rounds ∙ inv.rounds ∙ sym c.explain_member.ensures.adds.rounds;
      room = step.room;
      explained = step.explained;
      known = found_same c.args.problem.now (scores_of c.args.problem.now c.args.roster.now) c.args.scores.now c.explain_member.new.made.known c.explain_member.new.made.known c.requires.scores refl step.known;
      short =
          splits_then c.args.problem.now c.args.roster.now (first_bid (c.loop-member.member + 1)) c.args.ledger.now c.loop-member.ledger c.explain_member.new.ledger
          c.loop-member.made c.explain_member.new.made inv.short step;
      adds = adds-member c.args.problem.now c.args.scores.now c.loop-member.member c.args.ledger.now c.loop-member.ledger c.explain_member.new.ledger inv.adds c.explain_member.ensures.adds;
      takes = takes-member c.args.problem.now c.loop-member.member c.args.ledger.now c.loop-member.ledger c.explain_member.new.ledger known inv.takes c.explain_member.ensures.takes;
    }

pub explain_member-requires-clause-searches : goal.explain_member-requires-clause-searches
explain_member-requires-clause-searches g c =
    let below = below_count c.args.problem.now c.loop-member.member in
    let few = few_searches c.args.problem.now (bids_below c.args.problem.now c.loop-member.member) (omega (arith, below, few_all c.args.problem.now)) in
    omega (arith, c.requires.searches, few, c.loop-member.invariant.takes.goals)

pub returns-in_err-explain_member-clause-adds : goal.returns-in_err-explain_member-clause-adds
returns-in_err-explain_member-clause-adds g c =
    adds-of_all c.args.problem.now c.args.scores.now (c.loop-member.member + 1) c.args.ledger.now c.explain_member.new.ledger (omega (arith, c.loop-member-test.true, c.len-member-end.ensures))
    (adds-member c.args.problem.now c.args.scores.now c.loop-member.member c.args.ledger.now c.loop-member.ledger c.explain_member.new.ledger c.loop-member.invariant.adds c.explain_member.ensures.adds)

pub returns-then-not-branch-clause-adds : goal.returns-then-not-branch-clause-adds
returns-then-not-branch-clause-adds g c =
    adds-of_all c.args.problem.now c.args.scores.now (c.loop-member.member + 1) c.args.ledger.now c.explain_member.new.ledger (omega (arith, c.loop-member-test.true, c.len-member-end.ensures))
    (adds-member c.args.problem.now c.args.scores.now c.loop-member.member c.args.ledger.now c.loop-member.ledger c.explain_member.new.ledger c.loop-member.invariant.adds c.explain_member.ensures.adds)

pub returns-in_err-explain_member-clause-takes : goal.returns-in_err-explain_member-clause-takes
returns-in_err-explain_member-clause-takes g c =
    takes-of_all c.args.problem.now c.loop-member.member c.args.ledger.now c.loop-member.ledger c.explain_member.new.ledger
    (omega (arith, c.loop-member-test.true, c.len-member-end.ensures)) c.loop-member.invariant.takes c.explain_member.ensures.takes

pub returns-then-not-branch-clause-takes : goal.returns-then-not-branch-clause-takes
returns-then-not-branch-clause-takes g c =
    takes-of_all c.args.problem.now c.loop-member.member c.args.ledger.now c.loop-member.ledger c.explain_member.new.ledger
    (omega (arith, c.loop-member-test.true, c.len-member-end.ensures)) c.loop-member.invariant.takes c.explain_member.ensures.takes

pub returns-clause-outcome : goal.returns-clause-outcome
returns-clause-outcome g c = record {
  room = c.loop-member.invariant.room;
  fit =
      all_fit c.args.problem.now c.args.roster.now c.loop-member.made.reasons c.loop-member.made.shown c.loop-member.member
      (omega (arith, c.loop-member-test.false, c.len-member-end.ensures)) c.loop-member.invariant.explained;
}

pub returns-clause-adds : goal.returns-clause-adds
returns-clause-adds g c =
    adds-of_all c.args.problem.now c.args.scores.now c.loop-member.member c.args.ledger.now c.loop-member.ledger (omega (arith, c.loop-member.auto.member-end, c.len-member-end.ensures)) c.loop-member.invariant.adds

pub returns-clause-takes : goal.returns-clause-takes
returns-clause-takes g c = takes-all c.args.problem.now c.loop-member.member c.args.ledger.now c.loop-member.ledger c.loop-member.invariant.takes
