use Rattle.std.proofs.Common.{◌≡◌, ◌↔◌, ◌≤◌, ◌+◌, ◌-◌, length}
use Rattle.roster_model.specs.declared.problem.Problem.{Problem}
use Rattle.completion_search.specs.Added.{AddsSearches}
use Rattle.completion_search.specs.Found.{HasRoom}
use Rattle.denials.specs.Asked.{IsAnsweredFor, NarrowsBy}
use Rattle.denials.specs.Known.{AreFound}
use Rattle.denials.specs.Settled.{IsBracketed}
use Rattle.roster_model.specs.Splits.{splits_of}
use Rattle.denials.proofs.places.settle.Given as goal

abbrev pub invariant-loop-low : goal.invariant-loop-low
invariant-loop-low g l = record {
  fits : (other : Problem) → g.C.Closer.fits l.closer other ↔ g.C.Closer.fits l.fn.closer other;
  same_rounds : g.C.Closer.rounds l.closer ≡ g.C.Closer.rounds l.fn.closer;
  rounds : g.C.Closer.rounds l.closer ≡ l.ledger.rounds;
  order : l.low ≤ l.high;
  bracketed : IsBracketed l.problem l.scores l.bid l.low l.high l.reached l.closing;
  adds : AddsSearches l.problem (IsAnsweredFor l.problem l.scores l.bid l.low l.high) l.fn.ledger l.ledger;
  narrows : NarrowsBy l.problem l.low l.high l.fn.ledger l.ledger;
  known : AreFound l.problem l.scores l.known;
  room : HasRoom l.ledger;
  short : splits_of l.closing + length l.fn.ledger.entries ≤ length l.ledger.entries;
}

abbrev pub decreases-loop-low : goal.decreases-loop-low
decreases-loop-low g l = l.high - l.low
