use Rattle.std.proofs.Common.{ℕ, subst, ◌∙◌, arith}
use Rattle.cert_text.proofs.SpareSteps.{IsSpare, spare_from, spare_more, spare_last}
use Rattle.cert_text.proofs.spare.covers.Goals as goal

pub loop-place-preserved : goal.loop-place-preserved
loop-place-preserved c =
    spare_more c.args.items.now c.args.lenses.now c.max-count.result c.loop-place.place c.loop-place.spare c.min-spare.result c.requires.items c.requires.lenses (omega (arith, c.max-count.ensures))
    (omega (arith, c.max-count.ensures)) c.loop-place-test.true
    (c.min-spare.ensures ∙ spare_from c.loop-place.spare c.saturating_sub.result c.digit_at-used.result c.digit_at-taken.result _ _ c.saturating_sub.ensures c.digit_at-used.ensures.value c.digit_at-taken.ensures.value)
    c.loop-place.invariant

pub returns : goal.returns
returns c = record {
  value =
      spare_last c.args.items.now c.args.lenses.now c.max-count.result c.loop-place.spare c.requires.items c.requires.lenses (omega (arith, c.max-count.ensures)) (omega (arith, c.max-count.ensures))
      (subst (λ (k : ℕ). IsSpare c.args.items.now c.args.lenses.now c.max-count.result k c.loop-place.spare) (omega (arith, c.loop-place-test.false, c.loop-place.auto.place-end)) c.loop-place.invariant);
}
