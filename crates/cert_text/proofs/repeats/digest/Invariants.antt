use Rattle.std.proofs.Common.{◌≡◌, ◌<◌, ◌^◌, drop}
use Rattle.cert_text.specs.Sorting.{digest_from}
use Rattle.cert_text.proofs.repeats.digest.Given as goal

abbrev pub invariant-loop-byte : goal.invariant-loop-byte
invariant-loop-byte l = record {
  low : l.number < 2 ^ 56;
  read : digest_from l.number (drop l.byte-index l.line) ≡ digest_from 0 l.line;
}
