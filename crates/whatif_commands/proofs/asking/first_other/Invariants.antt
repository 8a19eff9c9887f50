use Rattle.std.proofs.Common.{◌≡◌, ◌≢◌, ◌<◌, ℕ}
use Rattle.roster_model.specs.Scores.{bids_of}
use Rattle.whatif_commands.proofs.asking.first_other.Given as goal

abbrev pub invariant-loop-member : goal.invariant-loop-member
invariant-loop-member l = record {
  same : (m : ℕ) → m < l.member → m ≢ l.question.member → bids_of l.question.problem m ≡ bids_of l.question.other m;
}
