use Rattle.std.proofs.Common.{arith, ◌∙◌, sym}
use Rattle.std.proofs.lemmas.Bool.Decides.{nat_tests}
use Rattle.bid_language.specs.Sheets.{read_of}
use Rattle.bid_language.proofs.ReadSteps.{lines-end, lines-next, lines-fault}
use Rattle.bid_language.proofs.reading.read_lines.Goals as goal

pub returns-in-Err : goal.returns-in-Err
returns-in-Err c = record {
  value = lines-fault c.args.base.now c.loop-rest.number (read_of c.loop-rest.sheet) c.loop-rest.rest.now c.next_line.result.0.now c.next_line.result.1.now c.in-Err.fault _
      c.next_line.ensures.lines c.loop-rest.invariant.same c.in-Err.ensures.value;
}

pub loop-rest-preserved : goal.loop-rest-preserved
loop-rest-preserved c = record {
  first = omega arith;
  room = omega arith;
  members = omega arith;
  same = lines-next c.args.base.now c.loop-rest.number (read_of c.loop-rest.sheet) _ c.loop-rest.rest.now c.next_line.result.0.now c.next_line.result.1.now c.in-Ok.entry
      c.next_line.ensures.lines c.in-Ok.ensures.value c.in_ok-apply.ensures.ok ∙ c.loop-rest.invariant.same;
}

pub returns : goal.returns
returns c = record { value = sym c.loop-rest.invariant.same ∙ lines-end c.args.base.now c.loop-rest.number (read_of c.loop-rest.sheet) c.loop-rest.rest.now (grind (arith, nat_tests, c.loop-rest-test.ensures)) }
