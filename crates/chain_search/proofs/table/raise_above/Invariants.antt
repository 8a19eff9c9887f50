use Rattle.chain_search.specs.Rooms.{less_by}
use Rattle.chain_search.proofs.TableRows.{Raised}
use Rattle.chain_search.proofs.table.raise_above.Given as goal

abbrev pub invariant-loop-state : goal.invariant-loop-state
invariant-loop-state g l = Raised (less_by l.down) l.there l.arc.gain l.state l.initial.here l.here
