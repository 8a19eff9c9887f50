use Rattle.std.proofs.Common.{◌≡◌, ◌↔◌, ◌<◌, ◌≤◌, ◌+◌, ◌-◌, ◌*◌, true, [], ◌∷◌, length}
use Rattle.std.specs.Option.{ForSome}
use Rattle.roster_model.specs.declared.problem.Problem.{Problem}
use Rattle.roster_model.specs.Decided.{open_nodes}
use Rattle.roster_model.specs.Splits.{splits_in}
use Rattle.roster_model.specs.Walk.{Leads}
use Rattle.branch_log.specs.Honest.{IsHonest}
use Rattle.completion_search.specs.Path.{IsAt, HasGrown}
use Rattle.completion_search.proofs.walk.descend.Given as goal

abbrev pub invariant-loop-is_open : goal.invariant-loop-is_open
invariant-loop-is_open g l = record {
  fits : (other : Problem) → g.C.Closer.fits l.closer other ↔ g.C.Closer.fits l.fn.closer other;
  same_rounds : g.C.Closer.rounds l.closer ≡ g.C.Closer.rounds l.fn.closer;
  rounds : g.C.Closer.rounds l.closer ≡ l.ledger.rounds;
  room : length l.ledger.entries < l.ledger.cap;
  grown : HasGrown l.problem l.number l.fn.ledger l.ledger;
  walked : Leads l.problem l.goal ([] ∷ []) l.items (open_nodes l.is_open l.node);
  here : l.is_open ≡ true → IsAt l.problem l.ledger.entries l.number l.node l.parents.items;
  first : ForSome l.first (IsHonest l.problem l.ledger.rounds l.goal l.node);
  short : splits_in l.items + length l.fn.ledger.entries ≤ length l.ledger.entries;
}

abbrev pub decreases-loop-is_open : goal.decreases-loop-is_open
decreases-loop-is_open g l = 2 * (l.ledger.cap - length l.ledger.entries) + length (open_nodes l.is_open l.node)
