use Rattle.label_setter.proofs.Thinning.{Gains-push}
use Rattle.label_setter.proofs.spots.push_found.Goals as goal

pub returns-clause-gains : goal.returns-clause-gains
returns-clause-gains g c = rw c.in_ok-push.ensures.items (Gains-push g.R.Lattice.below g.met.R.Lattice.lattice_laws c.args.spot.now.here.items c.args.spot.now.found.items c.args.label)
