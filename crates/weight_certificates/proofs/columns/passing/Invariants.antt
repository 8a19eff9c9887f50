use Rattle.std.specs.Prelude.{All}
use Rattle.roster_model.specs.Rounds.{IsStandardLine}
use Rattle.weight_certificates.proofs.columns.passing.Given as goal

abbrev pub invariant-loop-part : goal.invariant-loop-part
invariant-loop-part l = All (IsStandardLine l.problem l.goal l.node l.member) l.lines
