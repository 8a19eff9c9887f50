use Rattle.std.proofs.Common.{◌≡◌, ◌↔◌, ◌<◌}
use Rattle.roster_model.specs.declared.problem.Problem.{Problem}
use Rattle.completion_search.specs.Added.{AddsSearches, TakesSearches}
use Rattle.denials.specs.Asked.{IsAskedFor}
use Rattle.denials.specs.Made.{GoesOn}
use Rattle.denials.specs.Explained.{bid_searches}
use Rattle.denials.proofs.bids.explain_member.Given as goal

abbrev pub invariant-loop-number : goal.invariant-loop-number
invariant-loop-number g l = record {
  fits : (other : Problem) → g.C.Closer.fits l.closer other ↔ g.C.Closer.fits l.fn.closer other;
  same_rounds : g.C.Closer.rounds l.closer ≡ g.C.Closer.rounds l.fn.closer;
  rounds : g.C.Closer.rounds l.closer ≡ l.ledger.rounds;
  goes_on : GoesOn l.problem l.roster (record { member = l.member; bid = l.number }) l.fn.ledger l.ledger l.fn.made l.made;
  adds : AddsSearches l.problem (IsAskedFor l.problem l.scores (λ b. (b.member ≡ l.member) × (b.bid < l.number))) l.fn.ledger l.ledger;
  takes : TakesSearches l.problem (bid_searches l.problem l.number) l.fn.ledger l.ledger;
}
