use Rattle.std.proofs.Common.{◌≡◌, ◌≤◌}
use Rattle.duty_calendar.specs.Minutes.{count_between}
use Rattle.roster_model.specs.Filters.{is_kept}
use Rattle.line_generator.proofs.scarce.kept_pairings.Given as goal

abbrev pub invariant-loop-pairing : goal.invariant-loop-pairing
invariant-loop-pairing l = record {
  kept : l.kept ≡ count_between (is_kept l.problem l.filter) 0 l.pairing;
  small : l.kept ≤ l.pairing;
}
