use Rattle.std.proofs.Common.{arith}
use Rattle.cert_text.proofs.SortedLines.{least_next, least_all}
use Rattle.cert_text.proofs.repeats.least_repeat.Goals as goal

pub loop-i-preserved : goal.loop-i-preserved
loop-i-preserved c =
    least_next c.args.pairs.now c.args.count c.loop-i.i c.loop-i.least c.lower-least.result _ _ c.loop-i.auto.i c.loop-i-test.true c.lower-least.ensures.value c.loop-i.invariant

pub returns : goal.returns
returns c = record { least = least_all c.args.pairs.now c.args.count c.loop-i.i c.loop-i.least (omega (arith, c.loop-i-test.false)) c.loop-i.invariant }
