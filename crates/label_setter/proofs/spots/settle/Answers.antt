use Rattle.std.proofs.Common.{◌∙◌, ap, Err}
use Rattle.label_setter.proofs.RoomLemmas.{same_error}
use Rattle.label_setter.proofs.Thinning.{Thins-sorted, ThinsOver-sorted}
use Rattle.label_setter.proofs.spots.settle.Goals as goal

pub returns-in_err-keep_all-clause-full : goal.returns-in_err-keep_all-clause-full
returns-in_err-keep_all-clause-full g c = λ stops.
    let full = same_error c.from_residual.result _ _ c.from_residual.ensures.1 stops in
    ThinsOver-sorted g.R.Lattice.below c.args.spot.now.here.items c.args.spot.now.found.items c.sort_found.new.found.items c.args.left c.sort_found.ensures.same
    (rw c.deref.ensures.value at c.keep_all.ensures.full (c.in_err-keep_all.was ∙ ap Err full))

pub returns-clause-thins : goal.returns-clause-thins
returns-clause-thins g c =
    Thins-sorted g.R.Lattice.below c.args.spot.now.here.items c.args.spot.now.found.items c.sort_found.new.found.items c.keep_all.new.here.items c.sort_found.ensures.same
    (rw c.deref.ensures.value at c.in_ok-keep_all.ensures.thins)
