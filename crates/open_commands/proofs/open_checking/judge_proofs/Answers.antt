use Rattle.std.proofs.Common.{◌∙◌, ℕ, List, refl, sym, subst}
use Rattle.std.proofs.lemmas.Result.{err_from_is_err_and}
use Rattle.roster_text.specs.ReasonFaults.{HasReasonFault}
use Rattle.roster_text.specs.RosterFaults.{HasFault}
use Rattle.roster_text.proofs.ReasonSteps.{are_reasons}
use Rattle.open_commands.specs.OpenCheckingTexts.{view_lodged}
use Rattle.open_commands.proofs.OpenCheckingLaws.{ends_at_reasons, ends_at_roster}
use Rattle.open_commands.proofs.open_checking.judge_proofs.Goals as goal

pub returns-in_err-reasons : goal.returns-in_err-reasons
returns-in_err-reasons c =
    let p = err_from_is_err_and c.from_residual.result c.from_residual.ensures.1 in
    record {
      end = rw (p.1, p.2) (ends_at_reasons c.args.problem.now c.args.count (view_lodged c.args.texts.now) c.args.made.now c.args.none.now c.args.awarded.now c.requires.says
          c.in_err-reasons.field-0.0 c.in_err-reasons.field-0.0.code refl
          (λ known. subst (λ (b : List ℕ). HasReasonFault c.args.made.now b c.in_err-reasons.field-0.0) c.deref.ensures.value (c.in_err-reasons.ensures.fault known)));
    }

pub returns-in_err-roster : goal.returns-in_err-roster
returns-in_err-roster c =
    let p = err_from_is_err_and c.from_residual-in_err-roster.result c.from_residual-in_err-roster.ensures.1 in
    record {
      end = rw (p.1, p.2) (ends_at_roster c.args.problem.now c.args.count (view_lodged c.args.texts.now) c.args.made.now c.args.none.now c.args.awarded.now c.requires.says
          c.in_ok-reasons.reasons (are_reasons _ _ c.in_ok-reasons.ensures.bids c.in_ok-reasons.ensures.places, sym (c.in_ok-reasons.ensures.read ∙ c.deref.ensures.value))
          c.in_err-roster.field-0.0 c.in_err-roster.field-0.0.code refl
          (λ known. subst (λ (b : List ℕ). HasFault c.args.made.now b c.in_err-roster.field-0.0) c.deref-2.ensures.value (c.in_err-roster.ensures.fault known)));
    }

pub returns : goal.returns
returns c = record {
  end = c.judge_said.ensures.end (view_lodged c.args.texts.now) (record {
    proofs = c.requires.says;
    reasons_read = (are_reasons _ _ c.in_ok-reasons.ensures.bids c.in_ok-reasons.ensures.places, sym (c.in_ok-reasons.ensures.read ∙ c.deref.ensures.value));
    roster_read = (c.in_ok-roster.ensures.valid, sym (c.in_ok-roster.ensures.read ∙ c.deref-2.ensures.value));
  });
}
