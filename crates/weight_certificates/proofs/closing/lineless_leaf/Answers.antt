use Rattle.roster_model.specs.Closing.{IsAccepted}
use Rattle.weight_certificates.proofs.closing.lineless_leaf.Goals as goal

pub returns-then-branch : goal.returns-then-branch
unfolding IsAccepted
returns-then-branch c = record { accepted = c.in_ok-is_lineless.ensures.lineless c.if-branch.true }
