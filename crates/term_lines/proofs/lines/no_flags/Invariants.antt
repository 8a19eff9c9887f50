use Rattle.std.proofs.Common.{◌≡◌, false, length}
use Rattle.std.specs.Prelude.{All}
use Rattle.term_lines.proofs.lines.no_flags.Given as goal

abbrev pub invariant-loop-pairing : goal.invariant-loop-pairing
invariant-loop-pairing l = record {
  count : length l.flags.items ≡ l._pairing;
  none : All (λ flag. flag ≡ false) l.flags.items;
}
