use Rattle.std.proofs.Common.{◌≡◌}
use Rattle.whatif_commands.proofs.again.learned.Given as goal

abbrev pub invariant-loop-one : goal.invariant-loop-one
invariant-loop-one g l = record {
  rounds : g.C.Closer.rounds l.closer ≡ 400;
  fits : g.C.Closer.fits l.closer l.question.other;
}
