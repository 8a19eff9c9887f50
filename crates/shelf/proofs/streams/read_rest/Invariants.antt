use Rattle.shelf.proofs.Flows.{Gathered}
use Rattle.shelf.proofs.streams.read_rest.Given as goal

abbrev pub invariant-loop : goal.invariant-loop
invariant-loop g l = Gathered l.bytes.items l.limit (g.R.Read.remaining l.initial.reader) (g.R.Read.remaining l.reader)
