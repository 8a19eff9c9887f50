use Rattle.shelf.proofs.Flows.{Handed}
use Rattle.shelf.proofs.streams.write_rest.Given as goal

abbrev pub invariant-loop : goal.invariant-loop
invariant-loop g l = Handed l.bytes l.rest (g.W.Write.contents l.initial.writer) (g.W.Write.contents l.writer)
