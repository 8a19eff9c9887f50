use Rattle.std.proofs.Common.{◌≡◌, ◌-◌, length}
use Rattle.roster_text.specs.NameReading.{names_at}
use Rattle.roster_text.proofs.Several.{with_front}
use Rattle.roster_text.proofs.names.names_of.Given as goal

abbrev pub invariant-loop-pairing : goal.invariant-loop-pairing
invariant-loop-pairing l =
    with_front l.line (names_at l.problem l.pairing (length l.problem.base.pairings - l.pairing) l.rest)
    ≡ names_at l.problem 0 (length l.problem.base.pairings) l.bytes
