use Rattle.label_setter.specs.Labels.{BestDone}
use Rattle.label_setter.proofs.winner.best_done.Given as goal

abbrev pub invariant-loop-label : goal.invariant-loop-label
invariant-loop-label g l = BestDone (λ resource. g.R.Resource.done resource l.end) l.labels l.label-index l.best
