use Rattle.std.proofs.Common.{ℕ, List, refl, sym, subst, ◌∙◌}
use Rattle.std.proofs.lemmas.Result.{err_from_is_err_and}
use Rattle.roster_text.proofs.ReasonSteps.{are_reasons}
use Rattle.roster_text.specs.ReasonFaults.{HasReasonFault}
use Rattle.roster_text.specs.RosterFaults.{HasFault}
use Rattle.month_page.specs.Pages.{view_seen}
use Rattle.month_page.proofs.PageLaws.{ends_at_month, ends_at_roster, ends_at_reasons}
use Rattle.month_page.proofs.paging.page_of.Goals as goal

pub returns-in_err-problem : goal.returns-in_err-problem
returns-in_err-problem c =
    let p = err_from_is_err_and c.from_residual.result c.from_residual.ensures.1 in
    record {
      comes = rw (p.1, p.2) (ends_at_month (view_seen c.args.seen.now) c.in_err-problem.field-0.0 c.in_err-problem.ensures.month);
    }

pub returns-in_err-roster : goal.returns-in_err-roster
returns-in_err-roster c =
    let p = err_from_is_err_and c.from_residual-in_err-roster.result c.from_residual-in_err-roster.ensures.1 in
    record {
      comes = rw (p.1, p.2) (ends_at_roster (view_seen c.args.seen.now) c.in_ok-problem.problem c.in_ok-problem.ensures.month
          c.in_err-roster.field-0.0 c.in_err-roster.field-0.0.code refl
          (λ known. subst (λ (b : List ℕ). HasFault c.in_ok-problem.problem b c.in_err-roster.field-0.0) c.deref.ensures.value (c.in_err-roster.ensures.fault known)));
    }

pub returns-in_err-reasons : goal.returns-in_err-reasons
returns-in_err-reasons c =
    let p = err_from_is_err_and c.from_residual-in_err-reasons.result c.from_residual-in_err-reasons.ensures.1 in
    record {
      comes = rw (p.1, p.2) (ends_at_reasons (view_seen c.args.seen.now) c.in_ok-problem.problem c.in_ok-problem.ensures.month
          c.in_ok-roster.roster (c.in_ok-roster.ensures.valid, sym (c.in_ok-roster.ensures.read ∙ c.deref.ensures.value))
          c.in_err-reasons.field-0.0 c.in_err-reasons.field-0.0.code refl
          (λ known. subst (λ (b : List ℕ). HasReasonFault c.in_ok-problem.problem b c.in_err-reasons.field-0.0) c.deref-2.ensures.value (c.in_err-reasons.ensures.fault known)));
    }

pub returns : goal.returns
returns c = record {
  comes = record {
    problem = c.in_ok-problem.problem;
    names = c.in_ok-problem.ensures.month;
    roster = c.in_ok-roster.roster;
    roster_read = (c.in_ok-roster.ensures.valid, sym (c.in_ok-roster.ensures.read ∙ c.deref.ensures.value));
    reasons = c.in_ok-reasons.reasons;
    reasons_read = (are_reasons _ _ c.in_ok-reasons.ensures.bids c.in_ok-reasons.ensures.places, sym (c.in_ok-reasons.ensures.read ∙ c.deref-2.ensures.value));
    all = c.len.ensures;
  };
}
