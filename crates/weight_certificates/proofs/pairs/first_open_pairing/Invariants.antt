use Rattle.std.proofs.Common.{◌≡◌, ℕ, ◌<◌, true}
use Rattle.roster_model.specs.Decided.{is_decided}
use Rattle.weight_certificates.proofs.pairs.first_open_pairing.Given as goal

abbrev pub invariant-loop-pairing : goal.invariant-loop-pairing
invariant-loop-pairing l = (p : ℕ) → p < l.pairing → is_decided l.node l.member p ≡ true
