use Rattle.std.proofs.Common.{◌≡◌, ◌+◌, ◌^◌, ◌<◌, Option, sym, subst, arith, rules}
use Rattle.std.specs.Prelude.{IfSome}
use Rattle.roster_model.specs.Weights.{weight_of}
use Rattle.lens_classes.specs.Classes.{is_in}
use Rattle.line_generator.specs.ClassLines.{AllBelow, AtMost, heavier}
use Rattle.line_generator.specs.Questions.{Passes}
use Rattle.term_lines.specs.declared.priced.PricedLine.{PricedLine}
use Rattle.line_generator.proofs.ClassBests.{below_more, below_spared, few_whole, heavier_first, heavier_has, heavier_second, most_of_all, most_of_class, none_of_all}
use Rattle.line_generator.proofs.question.Question.greatest_of_classes.Goals as goal

pub sets_of-number-end-requires : goal.sets_of-number-end-requires
sets_of-number-end-requires g c =
    let q = c.args.self.now in
    record { few = few_whole q.problem.now q.member q.goal.now q.node.now q.lens.now q.weights.now c.whole_bids-bids.result c.requires.asked.shape c.whole_bids-bids.ensures.bids }

pub loop-number-preserved-then-is_spared : goal.loop-number-preserved-then-is_spared
loop-number-preserved-then-is_spared g c =
    let q = c.args.self.now in
    record {
      line = c.loop-number.invariant.line;
      weight = c.loop-number.invariant.weight;
      most = below_spared q.problem.now q.member q.goal.now q.node.now q.lens.now q.weights.now c.whole_bids-bids.result c.loop-number.number (AtMost c.loop-number.best)
          (c.is_spared.ensures.spared c.if-is_spared.true) c.loop-number.invariant.most;
    }

pub loop-number-preserved : goal.loop-number-preserved
loop-number-preserved g c =
    let q = c.args.self.now in
    let best = c.loop-number.best in
    let found = c.in_ok-found.found in
    let says = c.in_ok-found.ensures.best in
    let is = sym c.heavier-best.ensures.heavier in
    record {
      line = subst (λ (o : Option PricedLine). IfSome o (λ b. Passes q b.line)) is (heavier_has _ best found c.loop-number.invariant.line says.line);
      weight = subst (λ (o : Option PricedLine). IfSome o (λ b. weight_of q.weights.now b.line ≡ b.weight)) is (heavier_has _ best found c.loop-number.invariant.weight says.weight);
      most = subst (λ (o : Option PricedLine). AllBelow q.problem.now q.member q.goal.now q.node.now q.lens.now q.weights.now (is_in c.whole_bids-bids.result) (c.loop-number.number + 1) (AtMost o)) is
          (below_more q.problem.now q.member q.goal.now q.node.now q.lens.now q.weights.now c.whole_bids-bids.result c.loop-number.number c.spread-granted.result (AtMost best) (AtMost found) (AtMost (heavier best found))
          (heavier_first best found) (heavier_second best found) c.spread-granted.ensures.spread c.loop-number.invariant.most
          (most_of_class q.problem.now q.member q.goal.now q.node.now q.lens.now q.weights.now (is_in c.spread-granted.result) found says.most says.none));
    }

pub returns : goal.returns
returns g c =
    let q = c.args.self.now in
    let small : c.whole_bids-bids.result < 2 ^ 64 = search rules in
    let sets = c.sets_of-number-end.ensures.sets in
    let past = c.loop-number-test.false in
    record {
      best = record {
        line = c.loop-number.invariant.line;
        weight = c.loop-number.invariant.weight;
        most = most_of_all q.problem.now q.member q.goal.now q.node.now q.lens.now q.weights.now c.whole_bids-bids.result c.loop-number.number c.loop-number.best small (omega (arith, sets, past)) c.requires.asked.shape c.whole_bids-bids.ensures.bids c.loop-number.invariant.most;
        none = none_of_all q.problem.now q.member q.goal.now q.node.now q.lens.now q.weights.now c.whole_bids-bids.result c.loop-number.number c.loop-number.best small (omega (arith, sets, past)) c.requires.asked.shape c.whole_bids-bids.ensures.bids c.loop-number.invariant.most;
      };
    }
