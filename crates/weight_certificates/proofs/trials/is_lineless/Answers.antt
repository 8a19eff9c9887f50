use Rattle.std.proofs.Common.{◌≡◌, ◌∙◌, length, ap, refl, Ok, arith, pos, rules}
use Rattle.std.specs.Prelude.{replicate}
use Rattle.term_lines.specs.declared.above.Over.{Over}
use Rattle.weight_certificates.proofs.Raised.{none_above, zeros_at}
use Rattle.weight_certificates.proofs.trials.is_lineless.Goals as goal

pub returns-in-Nothing : goal.returns-in-Nothing
returns-in-Nothing c =
    let zeros : c.deref.result.now ≡ replicate (length c.args.problem.now.base.pairings) (pos 0) = search rules in
    let none = c.line_over.ensures.none (c.in_ok-line_over.was ∙ ap (λ (answer : Over). Ok answer) c.in-Nothing.is) in
    record {
      lineless =
          λ yes.
          record {
            in_range = omega arith;
            shape = none.shape;
            none =
                none_above c.args.problem.now c.args.member c.args.goal.now c.args.node.now c.args.lens.now c.deref.result.now
                (zeros_at c.deref.result.now (length c.args.problem.now.base.pairings) zeros) none.most;
          };
    }

pub returns-then-is_out_of_reach : goal.returns-then-is_out_of_reach
returns-then-is_out_of_reach c = record {
  lineless =
      λ yes.
      record {
        in_range = omega arith;
        shape = c.in_default.ensures.shape;
        none = c.if-is_out_of_reach.ensures.none refl c.args.node.now c.args.lens.now;
      };
}
