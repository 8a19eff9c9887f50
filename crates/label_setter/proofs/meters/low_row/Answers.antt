use Rattle.std.proofs.Common.{sym, subst}
use Rattle.label_setter.specs.Meters.{IsBetween}
use Rattle.label_setter.proofs.MeterRows.{low_between}
use Rattle.label_setter.proofs.meters.low_row.Goals as goal

pub returns-clause-between : goal.returns-clause-between
returns-clause-between c = subst (IsBetween 1) (sym (c.in_ok-vec.ensures.items_if_clones_equal (λ y h. h))) (low_between c.args.width)
