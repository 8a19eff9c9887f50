use Rattle.std.proofs.Common.{take}
use Rattle.std.specs.Prelude.{All}
use Rattle.line_bounds.specs.Serving.{Keeps}
use Rattle.line_bounds.proofs.serving.keeps_all.Given as goal

abbrev pub invariant-loop-decision : goal.invariant-loop-decision
invariant-loop-decision l = All (Keeps l.member l.line) (take l.decision-index l.decisions)
