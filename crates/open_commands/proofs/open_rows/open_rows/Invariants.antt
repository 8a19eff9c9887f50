use Rattle.open_commands.proofs.Those.{AreRowsBelow}
use Rattle.open_commands.proofs.open_rows.open_rows.Given as goal

abbrev pub invariant-loop-number : goal.invariant-loop-number
invariant-loop-number l = AreRowsBelow l.problem l.made l.roster l.number l.rows
