use Rattle.std.proofs.Common.{sym, subst, ◌∙◌, List}
use Rattle.std.specs.Prelude.{ℤ}
use Rattle.roster_model.specs.declared.proof.Lens.{Lens}
use Rattle.roster_model.specs.Closing.{IsAccepted}
use Rattle.roster_model.specs.Lenses.{IsOutweighed}
use Rattle.weight_certificates.proofs.closing.weights_leaf.Goals as goal

pub returns : goal.returns
unfolding IsAccepted
returns c = record {
  accepted =
      subst (λ (ys : List ℤ). IsOutweighed c.args.problem.now c.args.goal.now c.args.node.now ys c.args.bounded.lenses) (c.deref.ensures.value ∙ sym (c.in_ok-narrowed.ensures.same ∙ c.deref-4.ensures.value))
      (subst (λ (ls : List Lens). IsOutweighed c.args.problem.now c.args.goal.now c.args.node.now c.deref.result.now ls) c.as_slice.ensures
      (c.in_ok-is_closed.ensures.outweighed c.if-not-is_closed.false));
}
