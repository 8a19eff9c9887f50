use Rattle.column_pool.specs.Heaviest.{IsHeaviest}
use Rattle.column_pool.proofs.Heavier.{HasWeight}
use Rattle.column_pool.proofs.heaviest.heaviest.Given as goal

abbrev pub invariant-loop-place : goal.invariant-loop-place
invariant-loop-place l = record {
  is : IsHeaviest l.problem l.goal l.node l.member l.weights l.lines l.place l.heaviest;
  weighed : HasWeight l.weights l.lines l.heaviest l.most;
}
