use Rattle.std.proofs.Common.{[], ◌∷◌, arith}
use Rattle.roster_model.specs.Decided.{open_nodes}
use Rattle.cert_checker.proofs.Taken.{Leads-more, Closes_at_end}
use Rattle.cert_checker.proofs.walk.first_fault.Goals as goal

pub loop-at-preserved : goal.loop-at-preserved
loop-at-preserved c = record {
  leads =
      Leads-more c.args.problem.now c.args.goal.now ([] ∷ []) (open_nodes c.in-Ok.still_open c.step.new.node) c.args.items.now c.loop-at.at c.index-items-at.result c.loop-at.is_open c.loop-at.node
      c.loop-at-test.true c.index-items-at.is c.if-not-is_open.false c.loop-at.invariant.leads c.in-Ok.ensures.goes;
  node = c.in-Ok.ensures.node;
  right = c.in-Ok.ensures.right;
}

pub returns-clause-closed : goal.returns-clause-closed
returns-clause-closed c =
    Closes_at_end c.args.problem.now c.args.goal.now c.args.items.now c.loop-at.at c.loop-at.is_open c.loop-at.node (omega arith) c.if-is_open.false c.loop-at.invariant.leads
