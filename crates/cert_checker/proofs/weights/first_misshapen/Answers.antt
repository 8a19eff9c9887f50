use Rattle.std.proofs.Common.{arith, length, refl}
use Rattle.std.proofs.lemmas.Option.{slice_get_read}
use Rattle.cert_checker.proofs.Together.{shapes_more, shapes_all}
use Rattle.cert_checker.proofs.weights.first_misshapen.Goals as goal

pub loop-member-preserved : goal.loop-member-preserved
loop-member-preserved c =
    shapes_more c.args.problem.now c.args.lenses.now c.loop-member.member c.index-lenses-member.result c.loop-member.invariant
    (slice_get_read c.args.lenses.now (length c.args.lenses.now) c.loop-member.member c.index-lenses-member.result refl c.loop-member-test.true c.index-lenses-member.is)
    c.in_default.ensures.shape

pub returns : goal.returns
returns c = record { first = shapes_all c.args.problem.now c.args.lenses.now c.loop-member.member (omega arith) c.loop-member.invariant }
