use Rattle.chain_search.specs.Rows.{none_from}
use Rattle.chain_search.proofs.TableRows.{Raised}
use Rattle.chain_search.proofs.table.raise_below.Given as goal

abbrev pub invariant-loop-state : goal.invariant-loop-state
invariant-loop-state g l = Raised (none_from l.below) l.there l.arc.gain l.state l.initial.here l.here
