use Rattle.std.proofs.Common.{FitsSigned, w64, to_z, rules, get_or, ap, sym, subst, ◌∙◌}
use Rattle.std.specs.Prelude.{ℤ, pos, ◌+ℤ◌}
use Rattle.std.proofs.lemmas.Int.{to_z-of_z}
use Rattle.std.proofs.lemmas.Option.{slice_get-get_or}
use Rattle.weight_certificates.proofs.Bounded.{total-take}
use Rattle.weight_certificates.proofs.bounds.sum_of.Goals as goal

pub loop-bound-preserved : goal.loop-bound-preserved
loop-bound-preserved c =
    let bounds = c.args.bounds.now in
    let k = c.loop-bound.bound-index in
    let x = get_or bounds k (pos 0) in
    let fits : FitsSigned w64 x = search rules in
    let more = total-take bounds k x (slice_get-get_or bounds k (pos 0) c.loop-bound-test.true) in
    let added = c.in_ok-sum.ensures in
    to_z-of_z w64 c.in_ok-sum.sum (subst (FitsSigned w64) (sym added.1) added.0) ∙ added.1
    ∙ ap (λ (z : ℤ). to_z w64 c.loop-bound.sum-bits +ℤ z) (to_z-of_z w64 x fits)
    ∙ ap (λ (z : ℤ). z +ℤ x) c.loop-bound.invariant ∙ sym more
