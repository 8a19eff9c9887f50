use Rattle.term_lines.proofs.SlackRows.{Built}
use Rattle.term_lines.proofs.slacks.slacks_of.Given as goal

abbrev pub invariant-loop-back : goal.invariant-loop-back
invariant-loop-back g l = Built l.graph.arcs l.sink l.rows.items l.back
