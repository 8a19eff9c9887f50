use Rattle.std.proofs.Common.{◌≡◌, ◌↔◌, ◌<◌, ◌≤◌, ◌+◌, length}
use Rattle.roster_model.specs.declared.problem.Problem.{Problem}
use Rattle.completion_search.specs.Added.{AddsSearches, TakesSearches}
use Rattle.completion_search.specs.Found.{HasRoom}
use Rattle.denials.specs.Asked.{IsAskedFor}
use Rattle.denials.specs.Made.{AreExplained, bids_below, first_bid}
use Rattle.denials.specs.Explained.{bid_searches}
use Rattle.roster_model.specs.Splits.{shown_splits}
use Rattle.denials.specs.Known.{AreFound}
use Rattle.denials.proofs.members.explain_all.Given as goal

abbrev pub invariant-loop-member : goal.invariant-loop-member
invariant-loop-member g l = record {
  fits : (other : Problem) → g.C.Closer.fits l.closer other ↔ g.C.Closer.fits l.fn.closer other;
  same_rounds : g.C.Closer.rounds l.closer ≡ g.C.Closer.rounds l.fn.closer;
  rounds : g.C.Closer.rounds l.closer ≡ l.ledger.rounds;
  room : HasRoom l.ledger;
  explained : AreExplained l.problem l.roster l.made.reasons l.made.shown (first_bid l.member);
  known : AreFound l.problem l.scores l.made.known;
  short : shown_splits l.made.shown + length l.fn.ledger.entries ≤ length l.ledger.entries;
  adds : AddsSearches l.problem (IsAskedFor l.problem l.scores (λ b. b.member < l.member)) l.fn.ledger l.ledger;
  takes : TakesSearches l.problem (bid_searches l.problem (bids_below l.problem l.member)) l.fn.ledger l.ledger;
}
