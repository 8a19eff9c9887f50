use Rattle.std.proofs.Common.{ap, Err}
use Rattle.line_generator.specs.declared.best_fault.BestFault.{BestFault}
use Rattle.weight_certificates.proofs.Shapes.{lens_excluded}
use Rattle.weight_certificates.proofs.best.heaviest_line.Goals as goal

pub unreachable-requires : goal.unreachable-requires
unreachable-requires c =
    lens_excluded c.args.problem.now c.args.member c.args.lens.now c.in-Err-Lens._why c.requires.shape
    (c.in-Err-Lens.ensures.fault c.in-Err-Lens._why (ap (λ (fault : BestFault). Err fault) c.in-Err-Lens.field-0-is))
