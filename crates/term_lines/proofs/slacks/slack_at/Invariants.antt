use Rattle.term_lines.proofs.SlackRows.{IsBeforeFirst}
use Rattle.term_lines.proofs.slacks.slack_at.Given as goal

abbrev pub invariant-loop-number : goal.invariant-loop-number
invariant-loop-number g l = IsBeforeFirst l.graph.arcs l.rows l.sink l.leaving l.number-index l.here
