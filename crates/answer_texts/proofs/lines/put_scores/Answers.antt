use Rattle.std.proofs.Common.{◌++◌, ap, ◌∙◌, List, ℕ, decimal}
use Rattle.answer_texts.proofs.Texts.{numbers_more}
use Rattle.answer_texts.proofs.lines.put_scores.Goals as goal

pub loop-score-preserved : goal.loop-score-preserved
loop-score-preserved c =
    c.in_ok-put_count.ensures.whole ∙ ap (λ (t : List ℕ). t ++ decimal c.from.result) c.in_ok-put_bytes.ensures.whole
    ∙ numbers_more c.loop-score.out c.args.out.now c.args.scores.now c.loop-score.score-index c.from.result c.loop-score-test.true c.from.ensures c.loop-score.invariant
