use Rattle.std.proofs.Common.{◌≡◌, ℕ, length}
use Rattle.std.specs.Prelude.{All}
use Rattle.duty_calendar.specs.declared.horizon.Horizon.{Horizon}
use Rattle.roster_model.specs.Valid.{IsBid}
use Rattle.line_tests.proofs.whole_lines.credit_bids.Given as goal

abbrev pub invariant-loop-number : goal.invariant-loop-number
invariant-loop-number l = record {
  count : length l.list ≡ l.number;
  form : (h : Horizon) (n : ℕ) → All (IsBid h n) l.list;
}
