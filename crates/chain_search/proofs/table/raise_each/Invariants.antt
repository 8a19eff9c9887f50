use Rattle.chain_search.proofs.TableRows.{Raised}
use Rattle.chain_search.proofs.table.raise_each.Given as goal

abbrev pub invariant-loop-state : goal.invariant-loop-state
invariant-loop-state g l = Raised (g.C.Coarse.moves l.by) l.there l.arc.gain l.state l.initial.here l.here
