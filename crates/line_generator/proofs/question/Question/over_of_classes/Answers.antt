use Rattle.std.proofs.Common.{◌≡◌, ℤ, ◌≤ℤ◌, ◌+◌, ◌^◌, ◌<◌, Option, Ok, rules, ap, sym, ◌∙◌, subst, arith}
use Rattle.std.specs.Prelude.{IfSome}
use Rattle.std.specs.Int.Signed.{◌<ℤ◌}
use Rattle.roster_model.specs.Weights.{weight_of}
use Rattle.lens_classes.specs.Classes.{is_in}
use Rattle.line_generator.specs.ClassLines.{AllBelow, AllOfClass, raised}
use Rattle.line_generator.specs.Overs.{IsLensOver}
use Rattle.line_generator.specs.Questions.{Passes}
use Rattle.term_lines.specs.Overs.{IsMost}
use Rattle.term_lines.specs.declared.above.Over.{Over}
use Rattle.term_lines.specs.declared.above.Over.TheVariants.{Limit}
use Rattle.term_lines.specs.declared.priced.PricedLine.{PricedLine}
use Rattle.line_generator.proofs.ClassBests.{below_all, below_spared, few_whole}
use Rattle.line_generator.proofs.ClassOvers.{above_first, answer_has, below_answer, end_has, end_most, end_none, end_told, line_if, line_never, steps_at_end, steps_within}
use Rattle.line_generator.proofs.question.Question.over_of_classes.Goals as goal

pub sets_of-number-end-requires : goal.sets_of-number-end-requires
sets_of-number-end-requires g c =
    let q = c.args.self.now in
    record { few = few_whole q.problem.now q.member q.goal.now q.node.now q.lens.now q.weights.now c.whole_bids-bids.result c.requires.asked.shape c.whole_bids-bids.ensures.bids }

pub returns-in_err-answer-clause-steps : goal.returns-in_err-answer-clause-steps
returns-in_err-answer-clause-steps g c =
    let less = c.loop-number-test.true in
    let few = c.sets_of-number-end.ensures.small in
    let before = c.loop-number.invariant.steps in
    let steps = c.over_of_class.ensures.steps in
    let limit = c.raised-higher.ensures.limit in
    steps_within c.args.steps.now c.over_of_class.new.steps c.loop-number.number c.args.sought.now.limit (omega (arith, less, few)) (omega (arith, before, steps, limit))

pub returns-then-is_last-clause-steps : goal.returns-then-is_last-clause-steps
returns-then-is_last-clause-steps g c =
    let less = c.loop-number-test.true in
    let few = c.sets_of-number-end.ensures.small in
    let before = c.loop-number.invariant.steps in
    let steps = c.over_of_class.ensures.steps in
    let limit = c.raised-higher.ensures.limit in
    steps_within c.args.steps.now c.over_of_class.new.steps c.loop-number.number c.args.sought.now.limit (omega (arith, less, few)) (omega (arith, before, steps, limit))

pub returns-then-is_last-clause-limit : goal.returns-then-is_last-clause-limit
returns-then-is_last-clause-limit g c = λ answer.
    let told : c.in_ok-answer.answer ≡ Limit = cc in
    let spent = c.in_ok-answer.ensures.limit (ap (λ (o : Over). Ok o) told) in
    let limit = c.raised-higher.ensures.limit in
    let onward = c.loop-number.invariant.onward in
    omega (arith, spent, limit, onward)

pub returns-then-is_last-clause-over : goal.returns-then-is_last-clause-over
returns-then-is_last-clause-over g c =
    let q = c.args.self.now in
    let says = c.in_ok-answer.ensures.over in
    record {
      line = says.line;
      weight = says.weight;
      above = above_first c.args.sought.now.over c.raised-higher.result.over c.loop-number.best c.in_ok-answer.answer c.raised-higher.ensures.over c.loop-number.invariant.above says.above;
      most = λ heaviest. line_never _ (λ (b : PricedLine). IsMost (Passes q) q.weights.now b.weight) c.in_ok-answer.answer (c.is_last.ensures.first c.if-is_last.true) (λ first. cc);
      none = λ told. absurd (c.is_last.ensures.some c.if-is_last.true told);
    }

pub loop-number-preserved-then-is_spared : goal.loop-number-preserved-then-is_spared
loop-number-preserved-then-is_spared g c =
    let q = c.args.self.now in
    let before = c.loop-number.invariant.steps in
    record {
      line = c.loop-number.invariant.line;
      weight = c.loop-number.invariant.weight;
      above = c.loop-number.invariant.above;
      most = below_spared q.problem.now q.member q.goal.now q.node.now q.lens.now q.weights.now c.whole_bids-bids.result c.loop-number.number
          (λ (w : ℤ). w ≤ℤ raised c.loop-number.best c.args.sought.now.over) (c.is_spared.ensures.spared c.if-is_spared.true) c.loop-number.invariant.most;
      onward = c.loop-number.invariant.onward;
      steps = omega (arith, before);
    }

pub loop-number-preserved : goal.loop-number-preserved
loop-number-preserved g c =
    let q = c.args.self.now in
    let over = c.args.sought.now.over in
    let from = c.raised-higher.result.over in
    let at = c.raised-higher.ensures.over in
    let best = c.loop-number.best in
    let answer = c.in_ok-answer.answer in
    let says = c.in_ok-answer.ensures.over in
    let is = sym c.with_answer-best.ensures.found in
    let onward = c.loop-number.invariant.onward in
    let more = c.in_ok-answer.ensures.onward in
    let before = c.loop-number.invariant.steps in
    let steps = c.over_of_class.ensures.steps in
    let limit = c.raised-higher.ensures.limit in
    record {
      line = subst (λ (o : Option PricedLine). IfSome o (λ b. Passes q b.line)) is
          (answer_has (λ (b : PricedLine). Passes q b.line) best answer c.loop-number.invariant.line says.line);
      weight = subst (λ (o : Option PricedLine). IfSome o (λ b. weight_of q.weights.now b.line ≡ b.weight)) is
          (answer_has (λ (b : PricedLine). weight_of q.weights.now b.line ≡ b.weight) best answer c.loop-number.invariant.weight says.weight);
      above = subst (λ (o : Option PricedLine). IfSome o (λ b. over <ℤ b.weight)) is
          (answer_has (λ (b : PricedLine). over <ℤ b.weight) best answer c.loop-number.invariant.above (above_first over from best answer at c.loop-number.invariant.above says.above));
      most = subst (λ (o : Option PricedLine). AllBelow q.problem.now q.member q.goal.now q.node.now q.lens.now q.weights.now (is_in c.whole_bids-bids.result) (c.loop-number.number + 1) (λ w. w ≤ℤ raised o over)) is
          (below_answer q.problem.now q.member q.goal.now q.node.now q.lens.now q.weights.now c.whole_bids-bids.result c.loop-number.number c.spread-granted.result over from best answer at c.spread-granted.ensures.spread
          (c.is_last.ensures.limit c.if-is_last.false) says.above
          (line_if _ (λ (b : PricedLine). AllOfClass q.problem.now q.member q.goal.now q.node.now q.lens.now q.weights.now (is_in c.spread-granted.result) (λ w. w ≤ℤ b.weight)) answer (c.is_last.ensures.heaviest c.if-is_last.false)
          (λ heaviest. says.most (c.raised-higher.ensures.wanted ∙ heaviest)))
          (λ nothing. says.none nothing) c.loop-number.invariant.most);
      onward = omega (arith, onward, more);
      steps = omega (arith, before, steps, limit);
    }

pub returns-clause-over : goal.returns-clause-over
returns-clause-over g c =
    let q = c.args.self.now in
    let over = c.args.sought.now.over in
    let best = c.loop-number.best in
    let small : c.whole_bids-bids.result < 2 ^ 64 = search rules in
    let sets = c.sets_of-number-end.ensures.sets in
    let past = c.loop-number-test.false in
    let most =
    below_all q.problem.now q.member q.goal.now q.node.now q.lens.now q.weights.now c.whole_bids-bids.result c.loop-number.number (λ w. w ≤ℤ raised best over) small (omega (arith, sets, past)) c.requires.asked.shape c.whole_bids-bids.ensures.bids
    c.loop-number.invariant.most in
    subst (λ (o : Over). IsLensOver q c.args.sought.now o) (sym c.answer_of.ensures.over)
    (record {
      line = end_has (λ (b : PricedLine). Passes q b.line) best c.loop-number.invariant.line;
      weight = end_has (λ (b : PricedLine). weight_of q.weights.now b.line ≡ b.weight) best c.loop-number.invariant.weight;
      above = end_has (λ (b : PricedLine). over <ℤ b.weight) best c.loop-number.invariant.above;
      most = λ heaviest. end_most q.problem.now q.member q.goal.now q.node.now q.lens.now q.weights.now over best most;
      none = λ told. end_none q.problem.now q.member q.goal.now q.node.now q.lens.now q.weights.now over best told most;
    })

pub returns-clause-limit : goal.returns-clause-limit
returns-clause-limit g c = λ answer.
    let told : c.answer_of.result ≡ Limit = cc in
    absurd (end_told c.loop-number.best (sym c.answer_of.ensures.over ∙ told))

pub returns-clause-steps : goal.returns-clause-steps
returns-clause-steps g c =
    let few = c.sets_of-number-end.ensures.small in
    let end = c.loop-number.auto.number-end in
    let before = c.loop-number.invariant.steps in
    steps_at_end c.args.steps.now c.loop-number.steps c.loop-number.number c.args.sought.now.limit (omega (arith, few, end)) before
