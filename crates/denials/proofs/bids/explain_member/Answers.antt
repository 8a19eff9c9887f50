use Rattle.std.proofs.Common.{◌≡◌, ◌<◌, ◌+◌, ◌∙◌, length, sym, arith, refl}
use Rattle.roster_model.specs.declared.goal.BidRef.{BidRef}
use Rattle.completion_search.proofs.Added.{AddsSearches-none}
use Rattle.completion_search.proofs.Grown.{iff_then}
use Rattle.denials.specs.Asked.{IsAskedFor}
use Rattle.roster_model.specs.Scores.{bids_of}
use Rattle.denials.specs.Made.{bid_behind}
use Rattle.roster_model.specs.Rosters.{scores_of}
use Rattle.denials.proofs.Knowing.{found_same}
use Rattle.denials.proofs.Listing.{goes_then, goes_member}
use Rattle.denials.proofs.Rows.{adds-bid, adds-of_member, takes-none, takes-bid, takes-of_member, takes-most, few_of_member, few_searches, count_read}
use Rattle.denials.proofs.bids.explain_member.Goals as goal

pub loop-number-init : goal.loop-number-init
loop-number-init g c = record {
  fits = λ other. (λ h. h, λ h. h);
  same_rounds = refl;
  rounds = c.requires.rounds;
  goes_on = record {
    room = c.requires.room;
    explained = c.requires.so_far;
    known = found_same c.args.problem.now c.args.scores.now (scores_of c.args.problem.now c.args.roster.now) c.args.made.now.known c.args.made.now.known (sym c.requires.scores) refl c.requires.known;
    short = omega arith;
  };
  adds = AddsSearches-none c.args.problem.now (IsAskedFor c.args.problem.now c.args.scores.now (λ (b : BidRef). (b.member ≡ c.args.member) × (b.bid < 0))) c.args.ledger.now c.requires.orderly;
  takes = takes-none c.args.problem.now c.args.ledger.now;
}

pub loop-number-preserved : goal.loop-number-preserved
loop-number-preserved g c =
    let inv = c.loop-number.invariant in
    let bid : BidRef = record { member = c.args.member; bid = c.loop-number.number } in
    record {
      fits = λ other. iff_then (c.explain_bid.ensures.fits other) (inv.fits other);
      same_rounds = c.explain_bid.ensures.rounds ∙ inv.same_rounds;
      rounds = c.explain_bid.ensures.rounds ∙ inv.rounds ∙ sym c.explain_bid.ensures.adds.rounds;
      goes_on =
          goes_then c.args.problem.now c.args.roster.now bid (bid_behind bid) c.args.ledger.now c.loop-number.ledger c.explain_bid.new.ledger
          c.args.made.now c.loop-number.made c.explain_bid.new.made inv.goes_on (rw c.if-not-branch.false at c.in_ok-explain_bid.ensures.goes_on);
      adds = adds-bid c.args.problem.now c.args.scores.now c.args.member c.loop-number.number c.args.ledger.now c.loop-number.ledger c.explain_bid.new.ledger inv.adds c.explain_bid.ensures.adds;
      takes = takes-bid c.args.problem.now c.loop-number.number c.args.ledger.now c.loop-number.ledger c.explain_bid.new.ledger inv.takes c.explain_bid.ensures.takes;
    }

pub returns-in_err-explain_bid-clause-adds : goal.returns-in_err-explain_bid-clause-adds
returns-in_err-explain_bid-clause-adds g c =
    adds-of_member c.args.problem.now c.args.scores.now c.args.member (c.loop-number.number + 1) c.args.ledger.now c.explain_bid.new.ledger
    (adds-bid c.args.problem.now c.args.scores.now c.args.member c.loop-number.number c.args.ledger.now c.loop-number.ledger c.explain_bid.new.ledger c.loop-number.invariant.adds c.explain_bid.ensures.adds)

pub returns-then-not-branch-clause-adds : goal.returns-then-not-branch-clause-adds
returns-then-not-branch-clause-adds g c =
    adds-of_member c.args.problem.now c.args.scores.now c.args.member (c.loop-number.number + 1) c.args.ledger.now c.explain_bid.new.ledger
    (adds-bid c.args.problem.now c.args.scores.now c.args.member c.loop-number.number c.args.ledger.now c.loop-number.ledger c.explain_bid.new.ledger c.loop-number.invariant.adds c.explain_bid.ensures.adds)

pub returns-in_err-explain_bid-clause-takes : goal.returns-in_err-explain_bid-clause-takes
returns-in_err-explain_bid-clause-takes g c =
    let count = count_read c.args.problem.now c.args.member c.as_slice-lists.result.now c.index-lists-member.result c.as_slice-bids.result.now c.requires.member c.as_slice-lists.ensures c.index-lists-member.is c.as_slice-bids.ensures in
    takes-of_member c.args.problem.now c.args.member c.loop-number.number c.args.ledger.now c.loop-number.ledger c.explain_bid.new.ledger
    (omega (arith, count, c.loop-number-test.true)) c.loop-number.invariant.takes c.explain_bid.ensures.takes

pub returns-then-not-branch-clause-takes : goal.returns-then-not-branch-clause-takes
returns-then-not-branch-clause-takes g c =
    let count = count_read c.args.problem.now c.args.member c.as_slice-lists.result.now c.index-lists-member.result c.as_slice-bids.result.now c.requires.member c.as_slice-lists.ensures c.index-lists-member.is c.as_slice-bids.ensures in
    takes-of_member c.args.problem.now c.args.member c.loop-number.number c.args.ledger.now c.loop-number.ledger c.explain_bid.new.ledger
    (omega (arith, count, c.loop-number-test.true)) c.loop-number.invariant.takes c.explain_bid.ensures.takes

pub returns-clause-goes_on : goal.returns-clause-goes_on
returns-clause-goes_on g c =
    let count = count_read c.args.problem.now c.args.member c.as_slice-lists.result.now c.index-lists-member.result c.as_slice-bids.result.now c.requires.member c.as_slice-lists.ensures c.index-lists-member.is c.as_slice-bids.ensures in
    goes_member c.args.problem.now c.args.roster.now c.args.member c.loop-number.number c.args.ledger.now c.loop-number.ledger c.args.made.now c.loop-number.made
    (omega (arith, count, c.loop-number-test.false)) c.loop-number.invariant.goes_on

pub returns-clause-takes : goal.returns-clause-takes
returns-clause-takes g c =
    let count = count_read c.args.problem.now c.args.member c.as_slice-lists.result.now c.index-lists-member.result c.as_slice-bids.result.now c.requires.member c.as_slice-lists.ensures c.index-lists-member.is c.as_slice-bids.ensures in
    takes-most c.args.problem.now c.loop-number.number (length (bids_of c.args.problem.now c.args.member)) c.args.ledger.now c.loop-number.ledger
    (omega (arith, count, c.loop-number.auto.number-end)) c.loop-number.invariant.takes

pub explain_bid-requires-clause-searches : goal.explain_bid-requires-clause-searches
explain_bid-requires-clause-searches g c =
    let count = count_read c.args.problem.now c.args.member c.as_slice-lists.result.now c.index-lists-member.result c.as_slice-bids.result.now c.requires.member c.as_slice-lists.ensures c.index-lists-member.is c.as_slice-bids.ensures in
    let few = few_searches c.args.problem.now c.loop-number.number (omega (arith, count, few_of_member c.args.problem.now c.args.member, c.loop-number-test.true)) in
    omega (arith, c.requires.searches, few, c.loop-number.invariant.takes.goals, c.args.problem.now.valid.month.members_form.few)

pub explain_bid-requires-clause-bid : goal.explain_bid-requires-clause-bid
explain_bid-requires-clause-bid g c =
    let count = count_read c.args.problem.now c.args.member c.as_slice-lists.result.now c.index-lists-member.result c.as_slice-bids.result.now c.requires.member c.as_slice-lists.ensures c.index-lists-member.is c.as_slice-bids.ensures in
    record { member = c.requires.member; number = omega (arith, count, c.loop-number-test.true) }

pub explain_bid-requires-clause-known : goal.explain_bid-requires-clause-known
explain_bid-requires-clause-known g c =
    found_same c.args.problem.now (scores_of c.args.problem.now c.args.roster.now) c.args.scores.now c.loop-number.made.known c.loop-number.made.known c.requires.scores refl c.loop-number.invariant.goes_on.known
