use Rattle.std.proofs.Common.{refl, sym, arith}
use Rattle.cert_text.proofs.SortedLines.{digest_more, digest_done}
use Rattle.cert_text.proofs.repeats.digest.Goals as goal

pub loop-byte-preserved : goal.loop-byte-preserved
loop-byte-preserved c = record {
  low = omega arith;
  read = digest_more c.loop-byte.number c.from.result _ c.loop-byte.byte-index c.args.line.now _ c.loop-byte-test.true (sym c.from.ensures) refl c.loop-byte.invariant.read;
}

pub returns : goal.returns
returns c = record { value = digest_done c.loop-byte.number c.loop-byte.byte-index c.args.line.now _ (omega (arith, c.loop-byte-test.false)) c.loop-byte.invariant.read }
