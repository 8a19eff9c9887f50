use Rattle.std.proofs.Common.{FitsSigned, w64, to_z, rules, length, refl, ap, subst, sym, ◌∙◌}
use Rattle.std.specs.Prelude.{ℤ, ◌+ℤ◌}
use Rattle.std.proofs.lemmas.Int.{to_z-of_z}
use Rattle.std.proofs.lemmas.Option.{slice_get_read}
use Rattle.cert_checker.proofs.Taken.{some_at}
use Rattle.cert_checker.proofs.Together.{bound_more}
use Rattle.cert_checker.proofs.bounded.bounds_weigh.Goals as goal

pub loop-member-preserved : goal.loop-member-preserved
loop-member-preserved c =
    let k = c.loop-member.member in
    let list = c.args.lenses.now in
    let sum = to_z w64 c.loop-member.sum-bits in
    let here = slice_get_read list (length list) k c.index-lenses-member.result refl c.loop-member-test.true c.index-lenses-member.is in
    let is = some_at c.in_ok-bound.bound c.in-Some.bound _ c.in-Some.is c.in_ok-bound.ensures.bound in
    let fits : FitsSigned w64 c.in-Some.bound = search rules in
    let added = c.in-Some-checked_add.ensures in
    let new =
    to_z-of_z w64 c.in-Some-checked_add.more (subst (FitsSigned w64) (sym added.1) added.0) ∙ added.1
    ∙ ap (λ (z : ℤ). sum +ℤ z) (to_z-of_z w64 c.in-Some.bound fits) in
    bound_more c.args.problem.now c.args.goal.now c.args.node.now c.args.weights.now list k sum _ c.in-Some.bound c.index-lenses-member.result
    c.loop-member.invariant here is new
