use Rattle.roster_model.specs.Closing.{IsAccepted, IsMisfit}
use Rattle.weight_certificates.proofs.closing.close_node.Goals as goal

pub returns-in-Some : goal.returns-in-Some
unfolding IsAccepted
returns-in-Some g c = record { honest = c.in-Some.ensures.first }

pub returns-in-Some-2 : goal.returns-in-Some-2
unfolding IsAccepted
returns-in-Some-2 g c =
    let misfit : IsMisfit c.args.problem.now c.args.goal.now c.args.node.now c.in-Some-2.member = rw c.in-Some-2.is at c.in_ok-member.ensures.first in
    record { honest = misfit }
