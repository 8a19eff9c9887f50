use Rattle.std.proofs.Common.{length, refl, arith}
use Rattle.std.proofs.lemmas.Option.{slice_get_read}
use Rattle.weight_certificates.proofs.ColumnSteps.{first_more, first_all}
use Rattle.weight_certificates.proofs.columns.Columns.gather.Goals as goal

pub passing-requires-clause-shape : goal.passing-requires-clause-shape
passing-requires-clause-shape c =
    let list = c.args.lenses.now in
    let here = slice_get_read list (length list) c.loop-member.member c.index-lenses-member.result refl c.loop-member-test.true c.index-lenses-member.is in
    c.requires.lenses.shapes c.loop-member.member c.index-lenses-member.result here

pub passing-requires-clause-standard : goal.passing-requires-clause-standard
passing-requires-clause-standard c =
    let list = c.args.lenses.now in
    let here = slice_get_read list (length list) c.loop-member.member c.index-lenses-member.result refl c.loop-member-test.true c.index-lenses-member.is in
    c.requires.lenses.standard c.loop-member.member c.index-lenses-member.result here

pub loop-member-preserved : goal.loop-member-preserved
loop-member-preserved c =
    first_more c.args.problem.now c.args.goal.now c.args.node.now c.loop-member.lists c.append.new.list c.in_ok-lines.lines c.loop-member.member
    c.loop-member.invariant c.in_ok-lines.ensures.standard c.in_ok-append.ensures.added

pub returns : goal.returns
returns c = record {
  columns =
      first_all c.args.problem.now c.args.goal.now c.args.node.now c.loop-member.lists c.loop-member.member c.loop-member.invariant
      (omega (arith, c.requires.lenses.per_member));
}
