use Rattle.std.proofs.Common.{◌≤◌, length, refl, arith}
use Rattle.line_lens.proofs.ItemOrder.{flights_few}
use Rattle.take_graphs.proofs.take_desk.TakeDesk.draw.Goals as goal

pub unreachable-requires : goal.unreachable-requires
unreachable-requires g c =
    let fits : length c.args.problem.now.base.pairings ≤ c.self.inside.pairings = rw (← c.self.view_is) at c.requires.fits in
    c.fill_takes.ensures.calm c.self.inside.pairings fits c.self.invariant (rw c.in-Err-NoMemory.is refl)

pub invariant_of-self : goal.invariant_of-self
invariant_of-self g c = c.fill_takes.ensures.room c.self.inside.pairings c.self.invariant

pub returns-clause-places_fit : goal.returns-clause-places_fit
returns-clause-places_fit g c =
    let few = flights_few c.args.problem.now c.args.member c.args.lens.now in
    let count = c.in-Ok.ensures.places in
    let fits = c.requires.fits in
    omega (arith, few, count, fits)

pub returns-clause-arcs_fit : goal.returns-clause-arcs_fit
returns-clause-arcs_fit g c =
    let few = flights_few c.args.problem.now c.args.member c.args.lens.now in
    let count = c.in-Ok.ensures.few in
    let fits = c.requires.fits in
    omega (arith, few, count, fits)
