use Rattle.std.proofs.Common.{◌≡◌, ℕ, ◌<◌, true}
use Rattle.std.specs.Prelude.{filter}
use Rattle.std.specs.List.{range_with_len}
use Rattle.roster_model.specs.Decided.{is_decided, is_decided_as}
use Rattle.cert_checker.proofs.fixed.decided_line.Given as goal

abbrev pub invariant-loop-pairing : goal.invariant-loop-pairing
invariant-loop-pairing l = record {
  flown : l.flown ≡ filter (λ p. is_decided_as l.node l.member p true) (range_with_len 0 l.pairing);
  decided : (p : ℕ) → p < l.pairing → is_decided l.node l.member p ≡ true;
}
