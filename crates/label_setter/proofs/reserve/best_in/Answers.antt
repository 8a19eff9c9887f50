use Rattle.std.proofs.Common.{true}
use Rattle.label_setter.proofs.Over.{if_some, if_none}
use Rattle.label_setter.proofs.Theorem.{all_sought, any_sought}
use Rattle.label_setter.proofs.reserve.best_in.Goals as goal

pub returns-in-Ok-clause-greatest : goal.returns-in-Ok-clause-greatest
returns-in-Ok-clause-greatest g c = if_some c.in-Ok.answer _ _
    (λ best h chain gain feasible. h (λ end. true) (all_sought g.R.Lattice.below g.R.Resource.extend c.args.arcs.now) chain gain (any_sought g.R.Resource.extend g.R.Resource.done _ chain gain feasible))
    c.in-Ok.ensures.greatest

pub returns-in-Ok-clause-none : goal.returns-in-Ok-clause-none
returns-in-Ok-clause-none g c = if_none c.in-Ok.answer _ _
    (λ h chain gain feasible. h (λ end. true) (all_sought g.R.Lattice.below g.R.Resource.extend c.args.arcs.now) chain gain (any_sought g.R.Resource.extend g.R.Resource.done _ chain gain feasible))
    c.in-Ok.ensures.none
