use Rattle.std.proofs.Common.{◌≤◌, arith}
use Rattle.roster_model.specs.Weights.{weight_at}
use Rattle.weight_certificates.proofs.RowSums.{miss-none, miss-more, miss-within}
use Rattle.weight_certificates.proofs.rows.set_miss.Goals as goal

pub loop-line-init : goal.loop-line-init
loop-line-init c = λ j lt. miss-none c.args.problem.now c.args.round.now j (weight_at c.loop-p.row j) (c.loop-p.invariant j (omega arith))

pub count_line-requires-clause-small : goal.count_line-requires-clause-small
count_line-requires-clause-small c =
    let few : c.loop-line.line-index ≤ 200 = omega (arith, c.loop-line-test.true, c.requires.per_member, c.args.problem.now.valid.month.members_form.few) in
    let small = miss-within c.args.problem.now c.args.round.now c.loop-line.row c.loop-line.line-index few (omega arith) c.loop-line.invariant in
    λ k lt. omega (arith, small k lt)

pub loop-line-preserved : goal.loop-line-preserved
loop-line-preserved c = λ j lt.
    miss-more c.args.problem.now c.args.round.now c.loop-line.line-index j c.line-item.result (weight_at c.loop-line.row j) (weight_at c.count_line.new.counts j)
    c.loop-line-test.true c.line-item.is (c.loop-line.invariant j lt) (c.count_line.ensures.more j (omega arith))

pub returns-clause-within : goal.returns-clause-within
returns-clause-within c =
    let few : c.loop-line.line-index ≤ 200 = omega (arith, c.requires.per_member, c.args.problem.now.valid.month.members_form.few) in
    miss-within c.args.problem.now c.args.round.now c.loop-line.row c.loop-line.line-index few (omega arith) c.loop-line.invariant
