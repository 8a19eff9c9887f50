use Rattle.roster_model.proofs.Relaxation.{relaxation}
use Rattle.lens_classes.proofs.laws.legal_lines_pass.Goals as goal

pub returns : goal.returns
returns c = record {
  pass = λ member goal node lens line shape legal meets obeys. relaxation c.args.problem.now member goal node lens line shape legal meets obeys;
}
