use Rattle.std.proofs.Common.{◌≡◌, length}
use Rattle.roster_model.specs.Lenses.{AreLenses}
use Rattle.roster_model.specs.Effort.{AreStandardLenses}
use Rattle.weight_certificates.proofs.closing.standard_lenses.Given as goal

abbrev pub invariant-loop-member : goal.invariant-loop-member
invariant-loop-member l = record {
  lines : length l.lenses ≡ l.member;
  standard : AreStandardLenses l.problem l.lenses;
  shapes : AreLenses l.problem l.lenses;
}
