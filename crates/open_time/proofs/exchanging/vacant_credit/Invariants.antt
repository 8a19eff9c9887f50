use Rattle.std.proofs.Common.{◌≡◌, ◌-◌, ◌≤◌}
use Rattle.std.specs.Prelude.{◌*◌, sum_by}
use Rattle.std.specs.List.{range_with_len}
use Rattle.roster_model.specs.Rosters.{line_at}
use Rattle.roster_model.specs.Timelines.{credit_of}
use Rattle.open_time.proofs.exchanging.vacant_credit.Given as goal

abbrev pub invariant-loop-member : goal.invariant-loop-member
invariant-loop-member l = record {
  sum : l.total ≡ sum_by (λ m. credit_of l.problem m (line_at l.roster m)) (range_with_len l.crew (l.member - l.crew));
  few : l.total ≤ l.member * 4294967296;
}
