use Rattle.term_lines.proofs.SlackRows.{leaving_inside}
use Rattle.term_lines.proofs.slacks.leaving.Goals as goal

pub returns-clause-leaving : goal.returns-clause-leaving
returns-clause-leaving g c = c.requires.ways.leaving c.args.place c.from.result.now c.from.ensures.leaving

pub returns-clause-inside : goal.returns-clause-inside
returns-clause-inside g c =
    leaving_inside c.args._graph.now.arcs c.args.place c.from.result.now
    (c.requires.ways.leaving c.args.place c.from.result.now c.from.ensures.leaving)
