use Rattle.std.proofs.Common.{◌≡◌, ◌+◌, ◌*◌, ◌<◌, ◌∙◌, ℤ, pos, ◌*ℤ◌, List, arith, length, sym, ap, subst, w64, to_z, refl}
use Rattle.std.specs.Prelude.{slice_get, Some}
use Rattle.std.proofs.lemmas.Int.{ints}
use Rattle.std.proofs.lemmas.Option.{slice_get_read}
use Rattle.duty_calendar.specs.declared.pairing.Pairing.{Pairing}
use Rattle.cert_checker.specs.Bests.{IsWithin}
use Rattle.cert_checker.proofs.Together.{needed_more, needed_none, small_kept, sum_fits, sum_kept, sum_within}
use Rattle.cert_checker.proofs.weights.needed_weight.Goals as goal

pub loop-pairing-init : goal.loop-pairing-init
loop-pairing-init c = record {
  sum_is = needed_none c.args.problem.now c.args.weights.now;
  within = (omega (arith, ints), omega (arith, ints));
}

pub overflow_add-sum : goal.overflow_add-sum
overflow_add-sum c =
    let same = ap (λ (xs : List Pairing). length xs) c.as_slice-wanted-items.ensures in
    sum_fits (c.loop-pairing.pairing * 19327352823) 19327352823 (to_z w64 c.loop-pairing.sum-bits) c.times-sum.result
    (omega (arith, c.loop-pairing-test.true, same, c.args.problem.now.valid.month.pairings_form.few))
    c.loop-pairing.invariant.within c.times-sum.ensures.within

pub loop-pairing-preserved : goal.loop-pairing-preserved
loop-pairing-preserved c =
    let k = c.loop-pairing.pairing in
    let sum = to_z w64 c.loop-pairing.sum-bits in
    let list = c.as_slice-wanted-items.result.now in
    let same = ap (λ (xs : List Pairing). length xs) c.as_slice-wanted-items.ensures in
    let here : slice_get c.args.problem.now.base.pairings k ≡ Some c.wanted-item.result =
    subst (λ (xs : List Pairing). slice_get xs k ≡ Some c.wanted-item.result) c.as_slice-wanted-items.ensures
    (slice_get_read list (length list) k c.wanted-item.result refl c.loop-pairing-test.true c.wanted-item.is) in
    let few : k * 19327352823 + 19327352823 < 9223372036854775808 =
    omega (arith, c.loop-pairing-test.true, same, c.args.problem.now.valid.month.pairings_form.few) in
    let new = sum_kept (k * 19327352823) 19327352823 sum c.times-sum.result few c.loop-pairing.invariant.within c.times-sum.ensures.within in
    let one = c.times-sum.ensures.value ∙ ap (λ (z : ℤ). pos c.wanted-item.result.need *ℤ z) (small_kept c.args.weights.now k c.requires.small) in
    record {
      sum_is = needed_more c.args.problem.now c.args.weights.now k c.wanted-item.result sum c.times-sum.result _ c.loop-pairing.invariant.sum_is here one new;
      within =
          subst (λ (z : ℤ). IsWithin ((k + 1) * 19327352823) z) (sym new)
          (sum_within (k * 19327352823) 19327352823 ((k + 1) * 19327352823) sum c.times-sum.result (omega arith) c.loop-pairing.invariant.within c.times-sum.ensures.within);
    }
