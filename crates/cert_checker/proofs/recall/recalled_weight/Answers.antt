use Rattle.std.proofs.lemmas.List.Elements.{All-same}
use Rattle.cert_checker.specs.Recalls.{IsRightSheet}
use Rattle.cert_checker.proofs.Recalls.{answer_right, right_best, right_none, right_within}
use Rattle.cert_checker.proofs.recall.recalled_weight.Goals as goal

pub returns-in-Some-clause-best : goal.returns-in-Some-clause-best
returns-in-Some-clause-best c =
    right_best c.args.problem.now c.args.weights.now c.args.member _ c.floor_of-floor.result c.args.lens.now c.in-Some.best c.args.goal.now c.args.node.now
    (c.is_empty.ensures.none.0 c.if-not-is_empty.false) c.floor_of-floor.ensures.floor (c.asks_alone.ensures.alone c.if-not-asks_alone.false)
    (c.in-Some.ensures.right c.args.problem.now (All-same (IsRightSheet c.args.problem.now) c.as_slice.result.now c.args.recall.now.sheets c.as_slice.ensures c.requires.right.each))

pub returns-in-Some-clause-within : goal.returns-in-Some-clause-within
returns-in-Some-clause-within c =
    right_within c.args.problem.now c.args.weights.now c.args.member _ c.floor_of-floor.result c.args.lens.now c.in-Some.best c.args.goal.now
    c.floor_of-floor.ensures.floor (c.asks_alone.ensures.alone c.if-not-asks_alone.false)
    (c.in-Some.ensures.right c.args.problem.now (All-same (IsRightSheet c.args.problem.now) c.as_slice.result.now c.args.recall.now.sheets c.as_slice.ensures c.requires.right.each))

pub returns-in-Some-clause-none : goal.returns-in-Some-clause-none
returns-in-Some-clause-none c =
    right_none c.args.problem.now c.args.weights.now c.args.member _ c.floor_of-floor.result c.args.lens.now c.in-Some.best c.args.goal.now c.args.node.now
    (c.is_empty.ensures.none.0 c.if-not-is_empty.false) c.floor_of-floor.ensures.floor (c.asks_alone.ensures.alone c.if-not-asks_alone.false)
    (c.in-Some.ensures.right c.args.problem.now (All-same (IsRightSheet c.args.problem.now) c.as_slice.result.now c.args.recall.now.sheets c.as_slice.ensures c.requires.right.each))

pub returns-in_err-keep-clause-right : goal.returns-in_err-keep-clause-right
returns-in_err-keep-clause-right c = record {
  each = c.keep.ensures.right c.args.problem.now c.requires.right.each
      (answer_right c.args.problem.now c.args.weights.now c.args.member _ c.floor_of-floor.result c.args.lens.now c.in_ok-copy.field-0 c.in_ok-best.best c.args.goal.now c.args.node.now
      (c.is_empty.ensures.none.0 c.if-not-is_empty.false) c.floor_of-floor.ensures.floor c.in_ok-copy.ensures.equal (c.asks_alone.ensures.alone c.if-not-asks_alone.false)
      c.in_ok-best.ensures.best c.in_ok-best.ensures.within c.in_ok-best.ensures.none);
}

pub returns-clause-right : goal.returns-clause-right
returns-clause-right c = record {
  each = c.keep.ensures.right c.args.problem.now c.requires.right.each
      (answer_right c.args.problem.now c.args.weights.now c.args.member _ c.floor_of-floor.result c.args.lens.now c.in_ok-copy.field-0 c.in_ok-best.best c.args.goal.now c.args.node.now
      (c.is_empty.ensures.none.0 c.if-not-is_empty.false) c.floor_of-floor.ensures.floor c.in_ok-copy.ensures.equal (c.asks_alone.ensures.alone c.if-not-asks_alone.false)
      c.in_ok-best.ensures.best c.in_ok-best.ensures.within c.in_ok-best.ensures.none);
}
