use Rattle.std.proofs.Common.{◌+◌, ◌*◌, ◌<◌, ℤ, arith, length, sym, subst, w64, to_z, refl}
use Rattle.std.proofs.lemmas.Option.{slice_get_read}
use Rattle.cert_checker.specs.Bests.{IsWithin}
use Rattle.cert_checker.proofs.Taken.{err_at}
use Rattle.cert_checker.proofs.Together.{nothing_first, together_more, sum_kept, sum_within}
use Rattle.cert_checker.proofs.weights.best_weights.Goals as goal

pub returns-in_err-sum-clause-fault : goal.returns-in_err-sum-clause-fault
returns-in_err-sum-clause-fault c =
    let list = c.args.lenses.now in
    let here = slice_get_read list (length list) c.loop-member.member c.index-lenses-member.result refl c.loop-member-test.true c.index-lenses-member.is in
    err_at c.from_residual.result c.in_err-sum.field-0.0 _ c.from_residual.ensures.1
    (nothing_first c.args.problem.now c.args.goal.now c.args.node.now c.args.weights.now list c.loop-member.member (to_z w64 c.loop-member.sum-bits) c.index-lenses-member.result c.in_err-sum.field-0.0
    c.loop-member.invariant.together c.requires.asked.shapes here c.in_err-sum.ensures.fault)

pub loop-member-preserved : goal.loop-member-preserved
loop-member-preserved c =
    let k = c.loop-member.member in
    let sum = to_z w64 c.loop-member.sum-bits in
    let list = c.args.lenses.now in
    let here = slice_get_read list (length list) k c.index-lenses-member.result refl c.loop-member-test.true c.index-lenses-member.is in
    let few : k * 1288490188200 + 1288490188200 < 9223372036854775808 =
    omega (arith, c.loop-member-test.true, c.requires.asked.per_member, c.args.problem.now.valid.month.members_form.few) in
    let new = sum_kept (k * 1288490188200) 1288490188200 sum c.in_ok-sum.field-0 few c.loop-member.invariant.within c.in_ok-sum.ensures.within in
    record {
      together =
          together_more c.args.problem.now c.args.goal.now c.args.node.now c.args.weights.now list k sum _ c.in_ok-sum.field-0 c.index-lenses-member.result
          c.loop-member.invariant.together here c.in_ok-sum.ensures.best new;
      within =
          subst (λ (z : ℤ). IsWithin ((k + 1) * 1288490188200) z) (sym new)
          (sum_within (k * 1288490188200) 1288490188200 ((k + 1) * 1288490188200) sum c.in_ok-sum.field-0 (omega arith) c.loop-member.invariant.within c.in_ok-sum.ensures.within);
      right = c.in_ok-sum.ensures.right;
    }
