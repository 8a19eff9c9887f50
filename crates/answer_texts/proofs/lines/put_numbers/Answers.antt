use Rattle.std.proofs.Common.{◌++◌, ap, refl, ◌∙◌, List, ℕ, get_or, decimal}
use Rattle.answer_texts.proofs.Texts.{numbers_more}
use Rattle.answer_texts.proofs.lines.put_numbers.Goals as goal

pub loop-number-preserved : goal.loop-number-preserved
loop-number-preserved c =
    c.in_ok-put_count.ensures.whole ∙ ap (λ (t : List ℕ). t ++ decimal (get_or c.args.list.now c.loop-number.number-index 0)) c.in_ok-put_bytes.ensures.whole
    ∙ numbers_more c.loop-number.out c.args.out.now c.args.list.now c.loop-number.number-index (get_or c.args.list.now c.loop-number.number-index 0) c.loop-number-test.true refl c.loop-number.invariant
