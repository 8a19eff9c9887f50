use Rattle.std.proofs.Common.{ℕ, List, ◌++◌, ap, ◌∙◌}
use Rattle.answer_texts.proofs.Texts.{verdicts_more}
use Rattle.answer_texts.proofs.trade_ends.put_verdicts.Goals as goal

pub loop-i-preserved : goal.loop-i-preserved
loop-i-preserved c =
    verdicts_more c.loop-i.out c.put_bytes.new.out c.args.verdicts.now c.loop-i.i _ _ c.loop-i-test.true
    (c.in_ok-put_bytes.ensures.whole ∙ ap (λ (t : List ℕ). c.loop-i.out ++ t) (c.as_slice.ensures ∙ c.in_ok-line.ensures.value)) c.loop-i.invariant
