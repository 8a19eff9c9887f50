use Rattle.std.proofs.Common.{sym, subst, ◌∙◌, List, ℤ}
use Rattle.roster_model.specs.declared.proof.Lens.{Lens}
use Rattle.roster_model.specs.Closing.{IsAccepted}
use Rattle.roster_model.specs.Lenses.{IsOutweighed}
use Rattle.weight_certificates.specs.Evidence.{HasLastRound}
use Rattle.weight_certificates.specs.Pricing.{IsWithoutLine}
use Rattle.weight_certificates.proofs.OpenOrWhole.{whole_from_round, branch_honest}
use Rattle.weight_certificates.proofs.closing.close_by_rounds.Goals as goal

pub returns-in_default : goal.returns-in_default
returns-in_default c =
    let ended : HasLastRound c.args.problem.now c.args.goal.now c.args.node.now c.args.count c.in-Even.last = rw c.in-Even.is at c.in_ok-evidence.ensures.evidence in
    record {
      honest = whole_from_round c.args.problem.now c.args.goal.now c.args.node.now c.in-Even.last ended.round c.requires.crews c.requires.fitting c.in_default.ensures.pair;
    }

pub returns : goal.returns
returns c =
    let ended : HasLastRound c.args.problem.now c.args.goal.now c.args.node.now c.args.count c.in-Even.last = rw c.in-Even.is at c.in_ok-evidence.ensures.evidence in
    record {
      honest =
          branch_honest c.args.problem.now c.args.goal.now c.args.node.now c.args.count c.in-Some.member c.in-Some.pairing c.in-Even.last c.requires.crews c.requires.fitting
          ended c.in-Some.ensures.pair;
    }

pub returns-in-NoLine : goal.returns-in-NoLine
unfolding IsAccepted
returns-in-NoLine c =
    let none : IsWithoutLine c.args.problem.now c.args.goal.now c.args.node.now c.in-NoLine.member = rw c.in-NoLine.is at c.in_ok-evidence.ensures.evidence in
    record {
      honest = record {
        in_range = none.in_range;
        shape = c.standard_lens-lens.ensures.shape;
        none = none.none c.standard_lens-lens.result c.standard_lens-lens.ensures.standard;
      };
    }

pub returns-in-Outweighed : goal.returns-in-Outweighed
unfolding IsAccepted
returns-in-Outweighed c =
    let is : IsOutweighed c.args.problem.now c.args.goal.now c.args.node.now c.in-Outweighed.weights.items c.as_slice-2.result.now = rw c.in-Outweighed.is at c.in_ok-evidence.ensures.evidence in
    record {
      honest =
          subst (λ (ys : List ℤ). IsOutweighed c.args.problem.now c.args.goal.now c.args.node.now ys c.in_ok-lenses.lenses) (sym (c.in_ok-weights-in-Outweighed.ensures.same ∙ c.deref.ensures.value))
          (subst (λ (ls : List Lens). IsOutweighed c.args.problem.now c.args.goal.now c.args.node.now c.in-Outweighed.weights.items ls) c.as_slice-2.ensures is);
    }
