use Rattle.std.proofs.Common.{take}
use Rattle.cert_checker.specs.Choices.{AreChoices}
use Rattle.cert_checker.proofs.fixed.choices_of.Given as goal

abbrev pub invariant-loop-decision : goal.invariant-loop-decision
invariant-loop-decision l = AreChoices (take l.decision-index l.decisions) l.member l.pairings l.choices.items
