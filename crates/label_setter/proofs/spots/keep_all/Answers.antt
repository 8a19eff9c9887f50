use Rattle.std.proofs.Common.{◌≡◌, ◌∙◌, ◌++◌, length, arith, refl, sym, subst, ap, take, Err}
use Rattle.std.proofs.Math.Seq.{take-length}
use Rattle.std.proofs.lemmas.Option.{slice_get_read}
use Rattle.label_setter.specs.Labels.{Thins}
use Rattle.label_setter.proofs.Keep.{kept_with-apart}
use Rattle.label_setter.proofs.RoomLemmas.{same_error}
use Rattle.label_setter.proofs.Thinning.{Thins-start, Thins-next, Thins-over}
use Rattle.label_setter.proofs.spots.keep_all.Goals as goal

pub loop-label-init : goal.loop-label-init
loop-label-init g c = record {
  thins = Thins-start g.R.Lattice.below c.args.here.now.items;
  bucketed = c.requires.bucketed;
  apart = c.requires.apart;
  within = c.requires.within;
  labels = omega arith;
  groups = omega arith;
}

pub returns-in_err-keep-clause-full : goal.returns-in_err-keep-clause-full
returns-in_err-keep-clause-full g c = λ stops.
    let label = c.label-item.result in
    let read = slice_get_read c.args.found.now _ c.loop-label.label-index label refl c.loop-label-test.true c.label-item.is in
    let full = same_error c.from_residual.result _ _ c.from_residual.ensures.1 stops in
    Thins-over g.R.Lattice.below g.met.R.Lattice.lattice_laws c.args.here.now.items c.args.found.now c.loop-label.here.items c.loop-label.label-index label c.args.left read c.loop-label.invariant.apart c.loop-label.invariant.thins
    (c.keep.ensures.full (c.in_err-keep.was ∙ ap Err full))

pub returns-in_err-keep-clause-calm : goal.returns-in_err-keep-clause-calm
returns-in_err-keep-clause-calm g c = λ room is labels groups stops.
    let none = same_error c.from_residual.result _ _ c.from_residual.ensures.1 stops in
    let more = c.loop-label.invariant.labels in
    let wider = c.loop-label.invariant.groups in
    c.keep.ensures.calm room is (omega (arith, labels, more)) (omega (arith, groups, wider)) (c.in_err-keep.was ∙ ap Err none)

pub returns-in_err-keep-clause-labels : goal.returns-in_err-keep-clause-labels
returns-in_err-keep-clause-labels g c = let old = c.loop-label.invariant.labels in let new = c.keep.ensures.labels in omega arith

pub returns-in_err-keep-clause-groups : goal.returns-in_err-keep-clause-groups
returns-in_err-keep-clause-groups g c = let old = c.loop-label.invariant.groups in let new = c.keep.ensures.groups in omega arith

pub loop-label-preserved : goal.loop-label-preserved
loop-label-preserved g c =
    let label = c.label-item.result in
    let read = slice_get_read c.args.found.now _ c.loop-label.label-index label refl c.loop-label-test.true c.label-item.is in
    record {
      thins = rw c.in_ok-keep.ensures.kept (Thins-next g.R.Lattice.below g.met.R.Lattice.lattice_laws c.args.here.now.items c.args.found.now c.loop-label.here.items c.loop-label.label-index label read c.loop-label.invariant.thins);
      bucketed = c.in_ok-keep.ensures.bucketed;
      apart = rw c.in_ok-keep.ensures.kept (kept_with-apart g.met.R.Lattice.lattice_laws c.loop-label.here.items label c.loop-label.invariant.apart);
      within = c.in_ok-keep.ensures.room;
      labels = let old = c.loop-label.invariant.labels in let new = c.keep.ensures.labels in omega arith;
      groups = let old = c.loop-label.invariant.groups in let new = c.keep.ensures.groups in omega arith;
    }

pub returns-clause-thins : goal.returns-clause-thins
returns-clause-thins g c =
    let all : length c.args.found.now ≡ c.loop-label.label-index = omega arith in
    subst (λ xs. Thins g.R.Lattice.below (c.args.here.now.items ++ xs) c.loop-label.here.items) (take-length c.args.found.now)
    (subst (λ n. Thins g.R.Lattice.below (c.args.here.now.items ++ take n c.args.found.now) c.loop-label.here.items) (sym all) c.loop-label.invariant.thins)
