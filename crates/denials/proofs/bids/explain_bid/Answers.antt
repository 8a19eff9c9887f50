use Rattle.std.proofs.Common.{◌≡◌, ◌∙◌, ap, List, ℕ, length, refl, sym}
use Rattle.roster_model.specs.declared.goal.BidRef.{BidRef}
use Rattle.roster_model.proofs.Greatest.{length-scores}
use Rattle.completion_search.proofs.Added.{AddsSearches-none}
use Rattle.denials.specs.Asked.{IsAskedFor}
use Rattle.denials.proofs.Listing.{goes_granted, goes_denied}
use Rattle.denials.proofs.Knowing.{found_same}
use Rattle.denials.proofs.bids.explain_bid.Goals as goal

pub returns-then-is_granted-clause-goes_on : goal.returns-then-is_granted-clause-goes_on
returns-then-is_granted-clause-goes_on g c =
    goes_granted c.args.problem.now c.args.roster.now c.args.scores.now c.args.bid c.args.ledger.now c.args.made.now c.requires.scores c.requires.room
    (sym c.is_granted.ensures.granted ∙ c.if-is_granted.true) c.requires.so_far c.requires.known

pub returns-then-is_granted-clause-adds : goal.returns-then-is_granted-clause-adds
returns-then-is_granted-clause-adds g c =
    AddsSearches-none c.args.problem.now (IsAskedFor c.args.problem.now c.args.scores.now (λ (b : BidRef). b ≡ c.args.bid)) c.args.ledger.now c.requires.orderly

pub known_for-requires-clause-found : goal.known_for-requires-clause-found
known_for-requires-clause-found g c =
    found_same c.args.problem.now c.args.scores.now c.args.scores.now c.args.made.now.known c.as_slice.result.now refl c.as_slice.ensures c.requires.known

pub returns-in_err-start-clause-adds : goal.returns-in_err-start-clause-adds
returns-in_err-start-clause-adds g c =
    AddsSearches-none c.args.problem.now (IsAskedFor c.args.problem.now c.args.scores.now (λ (b : BidRef). b ≡ c.args.bid)) c.args.ledger.now c.requires.orderly

pub settle-requires-clause-members : goal.settle-requires-clause-members
settle-requires-clause-members g c = ap (λ (xs : List ℕ). length xs) c.requires.scores ∙ length-scores c.args.problem.now c.args.roster.now

pub returns-in_ok-add-in-Some-clause-goes_on : goal.returns-in_ok-add-in-Some-clause-goes_on
returns-in_ok-add-in-Some-clause-goes_on g c =
    let settled = rw c.in-Some.is at c.in_ok-settle.ensures.settled in
    goes_denied c.args.problem.now c.args.roster.now c.args.scores.now c.args.bid c.args.ledger.now c.settle.new.ledger c.args.made.now c.add.new.made
    c.settle.new.known c.len.result c.in-Some.settled c.requires.scores c.requires.greatest c.len.ensures c.requires.bid
    (sym c.is_granted.ensures.granted ∙ c.if-is_granted.false) c.requires.so_far settled c.in_ok-settle.ensures.known
    c.in_ok-add-in-Some.ensures.reasons c.in_ok-add-in-Some.ensures.shown c.add.ensures.known
