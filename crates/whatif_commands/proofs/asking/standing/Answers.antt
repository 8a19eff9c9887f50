use Rattle.std.proofs.Common.{ℕ, List, refl, sym, subst, ◌∙◌}
use Rattle.std.proofs.lemmas.Result.{err_from_is_err_and}
use Rattle.roster_text.proofs.ReasonSteps.{are_reasons}
use Rattle.roster_text.specs.RosterFaults.{HasFault}
use Rattle.whatif_commands.specs.AskingTexts.{view_claimed}
use Rattle.whatif_commands.proofs.AskingEnds.{unclaimed_roster, unclaimed_judge}
use Rattle.whatif_commands.proofs.Limits.{small_parts, countable_parts}
use Rattle.whatif_commands.proofs.asking.standing.Goals as goal

pub returns-in_err-roster-clause-refused : goal.returns-in_err-roster-clause-refused
returns-in_err-roster-clause-refused c =
    let p = err_from_is_err_and c.from_residual.result c.from_residual.ensures.1 in
    rw (p.1, p.2) (unclaimed_roster c.args.question.now (view_claimed c.args.claimed.now) c.in_err-roster.field-0.0 c.in_err-roster.field-0.0.code refl
    (λ known. subst (λ (b : List ℕ). HasFault c.args.question.now.problem b c.in_err-roster.field-0.0) c.deref.ensures.value (c.in_err-roster.ensures.fault known)))

pub judge_noting-requires-clause-small_shown : goal.judge_noting-requires-clause-small_shown
judge_noting-requires-clause-small_shown c = small_parts c.args.question.now.awarded c.requires.limits

pub judge_noting-requires-clause-countable_shown : goal.judge_noting-requires-clause-countable_shown
judge_noting-requires-clause-countable_shown c = countable_parts c.args.question.now.awarded c.requires.limits

pub returns-in_err-judge_noting-clause-refused : goal.returns-in_err-judge_noting-clause-refused
returns-in_err-judge_noting-clause-refused c =
    let p = err_from_is_err_and c.from_residual-in_err-judge_noting.result c.from_residual-in_err-judge_noting.ensures.1 in
    rw (p.1, p.2) (unclaimed_judge c.args.question.now (view_claimed c.args.claimed.now) c.in_ok-roster.roster
    (c.in_ok-roster.ensures.valid, sym (c.in_ok-roster.ensures.read ∙ c.deref.ensures.value)) c.in_ok-reasons.reasons
    (are_reasons _ _ c.in_ok-reasons.ensures.bids c.in_ok-reasons.ensures.places, sym (c.in_ok-reasons.ensures.read ∙ c.deref-2.ensures.value))
    c.in_err-judge_noting.field-0.0 c.in_err-judge_noting.ensures.first c.in_err-judge_noting.ensures.refused)

pub returns-clause-found : goal.returns-clause-found
returns-clause-found c = record {
  reasons = c.in_ok-reasons.reasons;
  roster_read = (c.in_ok-roster.ensures.valid, sym (c.in_ok-roster.ensures.read ∙ c.deref.ensures.value));
  reasons_read = (are_reasons _ _ c.in_ok-reasons.ensures.bids c.in_ok-reasons.ensures.places, sym (c.in_ok-reasons.ensures.read ∙ c.deref-2.ensures.value));
  accepted = c.in_ok-judge_noting.ensures.accepted;
}
