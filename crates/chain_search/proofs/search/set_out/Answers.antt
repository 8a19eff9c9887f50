use Rattle.std.proofs.Common.{Bool, Ok, arith, ap}
use Rattle.chain_search.proofs.Hunting.{hunt_start}
use Rattle.chain_search.proofs.search.set_out.Goals as goal

pub from-leaving-requires : goal.from-leaving-requires
from-leaving-requires g c = record { within = (let count = c.requires.ways.count in let two = c.sink_of.ensures.graph.two in omega (arith, count, two)) }

pub spread-requires-clause-leaving : goal.spread-requires-clause-leaving
spread-requires-clause-leaving g c = c.requires.ways.leaving 0 c.from-leaving.result.now c.from-leaving.ensures.leaving

pub spread-requires-clause-before : goal.spread-requires-clause-before
spread-requires-clause-before g c = (let two = c.sink_of.ensures.graph.two in omega (arith, two))

pub returns-clause-hunts : goal.returns-clause-hunts
returns-clause-hunts g c =
    let spreads = c.in_ok-spread.ensures.spreads (ap (λ (b : Bool). Ok b) c.if-not-branch.false) in
    let sink = c.sink_of.ensures.sink in
    let many = c.in_ok-new.ensures.count in
    rw c.new-2.ensures.items (hunt_start g.R.Resource.extend g.R.Resource.done c.args.graph.now c.args.above.now.over c.in_ok-new.field-0 c.spread.new.waiting.items c.in_ok-new.ensures.none (omega (arith, sink, many))
    (rw (c.new.ensures.items, c.start.ensures.start) at spreads))
