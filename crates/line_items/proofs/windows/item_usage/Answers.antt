use Rattle.line_items.proofs.WindowSteps.{item_none, item_some}
use Rattle.line_items.proofs.windows.item_usage.Goals as goal

pub returns-then-item-pairings : goal.returns-then-item-pairings
returns-then-item-pairings g c = record { usage = λ member. item_none g.row.N c.args.problem.now member c.args.lens.now c.args.item _ c.as_slice-pairings.ensures c.if-item-pairings.true }

pub returns : goal.returns
returns g c = record {
  usage = λ member. item_some g.row.N c.args.problem.now member c.args.lens.now c.args.item _ c.index-pairings-item.result _ _ c.as_slice-pairings.ensures c.as_slice.ensures c.if-item-pairings.false c.index-pairings-item.is c.pairing_usage.ensures.usage;
}
