use Rattle.std.proofs.Common.{◌∙◌, ap, refl, Err}
use Rattle.label_setter.specs.Spots.{all_of}
use Rattle.label_setter.proofs.RoomLemmas.{same_error}
use Rattle.label_setter.proofs.Thinning.{Gains-thinned, Thins-found}
use Rattle.label_setter.proofs.spots.add_found.Goals as goal

pub returns-in_err-settle-clause-full : goal.returns-in_err-settle-clause-full
returns-in_err-settle-clause-full g c = λ stops.
    let full = same_error c.from_residual-in_err-settle.result _ _ c.from_residual-in_err-settle.ensures.1 stops in
    c.settle.ensures.full (c.in_err-settle.was ∙ ap Err full)

pub returns-in_err-settle-clause-calm : goal.returns-in_err-settle-clause-calm
returns-in_err-settle-clause-calm g c = λ serves stops.
    let none = same_error c.from_residual-in_err-settle.result _ _ c.from_residual-in_err-settle.ensures.1 stops in
    c.settle.ensures.calm serves (c.in_err-settle.was ∙ ap Err none)

pub returns-clause-gains : goal.returns-clause-gains
returns-clause-gains g c =
    Gains-thinned g.R.Lattice.below g.met.R.Lattice.lattice_laws (all_of c.args.spot.now) (all_of c.settle.new.spot) (all_of c.push_found-2.new.spot) c.args.label
    (Thins-found g.R.Lattice.below (all_of c.args.spot.now) c.settle.new.spot.here.items c.settle.new.spot.found.items c.in_ok-settle.ensures.none c.in_ok-settle.ensures.thins)
    c.in_ok-push_found-2.ensures.gains

pub returns-in_err-push_found-clause-calm : goal.returns-in_err-push_found-clause-calm
returns-in_err-push_found-clause-calm g c = λ serves stops. c.push_found.ensures.calm c.args.left serves (rw c.in_err-push_found.was refl)

pub returns-then-len-spot-clause-spot : goal.returns-then-len-spot-clause-spot
returns-then-len-spot-clause-spot g c = c.in_ok-push_found.ensures.spot c.args.left c.requires.spot

pub returns-clause-spot : goal.returns-clause-spot
returns-clause-spot g c = c.in_ok-push_found-2.ensures.spot c.args.left c.in_ok-settle.ensures.spot
