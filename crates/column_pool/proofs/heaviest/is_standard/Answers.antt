use Rattle.column_pool.proofs.Heavier.{standard_tested}
use Rattle.column_pool.proofs.heaviest.is_standard.Goals as goal

pub returns : goal.returns
returns c = record {
  standard =
      standard_tested c.lens_line.result c.args.problem.now c.args.member c.args.goal.now c.args.node.now c.args.lens.now c.args.line.now
      c.requires.standard c.lens_line.ensures.passes;
}
