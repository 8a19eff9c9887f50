use Rattle.std.proofs.Common.{rules}
use Rattle.shelf.proofs.Flows.{gives_more}
use Rattle.shelf.proofs.streams.read_rest.Goals as goal

pub returns-in-Ok-clause-long : goal.returns-in-Ok-clause-long
returns-in-Ok-clause-long g c = λ _. gives_more _ c.in-Ok.count c.len.result _ c.read.new.buf _ _ _ c.loop.invariant c.in-Ok.ensures.bytes.0 c.in-Ok.ensures.bound.1 (search rules) c.if-count-limit.true
