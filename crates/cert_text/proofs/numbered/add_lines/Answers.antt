use Rattle.std.proofs.Common.{arith}
use Rattle.cert_text.specs.LensLines.{texts}
use Rattle.cert_text.proofs.LineSteps.{lines_longer, so_far_line, so_far_stops, texts_length, may_is, plain_more}
use Rattle.cert_text.proofs.numbered.add_lines.Goals as goal

pub loop-i-preserved : goal.loop-i-preserved
loop-i-preserved c = record {
  count = lines_longer c.loop-i.table c.push.new.list c.in_ok-seen.seen.bytes c.loop-i.i c.loop-i.invariant.count c.in_ok-push.ensures.ok;
  bound = c.in_ok-seen.ensures.bound;
  plain = plain_more c.loop-i.table c.push.new.list c.in_ok-seen.seen.bytes c.loop-i.plain c.in_ok-seen.seen.whole c.is_still_plain-plain.result c.in_ok-push.ensures.ok c.loop-i.invariant.plain c.in_ok-seen.ensures.whole
      c.is_still_plain-plain.ensures.value;
  read =
      so_far_line c.args.wanted c.args.count c.loop-i.i c.loop-i.table c.push.new.list c.in_ok-seen.seen.bytes c.args.lines.now c.loop-i.lines c.lens_line.new.lines c.may_in-may.result c.loop-i.invariant.count c.loop-i-test.true
      (may_is c.args.wanted c.args.count c.loop-i.i c.loop-i.table c.loop-i.plain c.may_in-may.result c.loop-i.invariant.count c.loop-i.invariant.plain c.may_in-may.ensures.value)
      c.in_ok-seen.ensures.reads c.in_ok-seen.ensures.key c.in_ok-push.ensures.ok c.loop-i.invariant.read;
}

pub returns-in_err-seen-clause-reads : goal.returns-in_err-seen-clause-reads
returns-in_err-seen-clause-reads c =
    λ fresh.
    let long = texts_length c.loop-i.table in
    let count = c.loop-i.invariant.count in
    so_far_stops c.from_residual.result c.in_err-seen.field-0.0 c.args.wanted c.args.count (texts c.loop-i.table) _ c.args.lines.now c.loop-i.lines _ c.may_in-may.result c.from_residual.ensures.1
    (may_is c.args.wanted c.args.count c.loop-i.i c.loop-i.table c.loop-i.plain c.may_in-may.result c.loop-i.invariant.count c.loop-i.invariant.plain c.may_in-may.ensures.value)
    c.in_err-seen.ensures.reads (omega (arith, long, count, c.loop-i-test.true)) c.loop-i.invariant.read fresh
