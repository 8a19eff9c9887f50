use Rattle.std.proofs.Common.{refl}
use Rattle.std.proofs.lemmas.Option.{slice_get_read}
use Rattle.label_setter.proofs.Best.{BestDone-more}
use Rattle.label_setter.proofs.winner.best_done.Goals as goal

pub loop-label-preserved : goal.loop-label-preserved
loop-label-preserved g c = rw (c.better_of-best.ensures.better, c.done.ensures.is_done) (BestDone-more (λ r. g.R.Resource.done r c.args.end.now) c.args.labels.now c.loop-label.label-index c.label-item.result (slice_get_read _ _ _ _ refl c.loop-label-test.true c.label-item.is) c.loop-label.best c.loop-label.invariant)
