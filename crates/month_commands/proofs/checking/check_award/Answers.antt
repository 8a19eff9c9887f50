use Rattle.std.proofs.Common.{ℕ, List, refl, sym, ◌∙◌, subst}
use Rattle.std.proofs.lemmas.Result.{err_from_is_err_and}
use Rattle.roster_text.proofs.ReasonSteps.{are_reasons}
use Rattle.roster_text.specs.ReasonFaults.{HasReasonFault}
use Rattle.roster_text.specs.RosterFaults.{HasFault}
use Rattle.month_commands.specs.Check.{view_claimed}
use Rattle.month_commands.proofs.CheckLaws.{ends_at_claim, ends_at_roster, ends_at_reasons, award_accepted, award_refused}
use Rattle.month_commands.proofs.HandedLaws.{handed_roster, handed_reasons, handed_refused, handed_accepted}
use Rattle.month_commands.proofs.checking.check_award.Goals as goal

pub returns-in_err-text-clause-told : goal.returns-in_err-text-clause-told
returns-in_err-text-clause-told g c = λ files told named.
    let p = err_from_is_err_and c.from_residual.result c.from_residual.ensures.1 in
    rw (p.1, p.2) (ends_at_claim files c.args.problem.now c.args.awarded.now named c.in_err-text.field-0.0 (c.in_err-text.ensures.told files told))

pub returns-in_err-roster-clause-told : goal.returns-in_err-roster-clause-told
returns-in_err-roster-clause-told g c = λ files told named.
    let p = err_from_is_err_and c.from_residual-in_err-roster.result c.from_residual-in_err-roster.ensures.1 in
    rw (p.1, p.2) (ends_at_roster files c.args.problem.now c.args.awarded.now named (view_claimed (c.in_ok-text.text, c.in_ok-text.reasons_text)) (c.in_ok-text.ensures.told files told)
    c.in_err-roster.field-0.0 c.in_err-roster.field-0.0.code refl
    (λ known. subst (λ (b : List ℕ). HasFault c.args.problem.now b c.in_err-roster.field-0.0) c.deref.ensures.value (c.in_err-roster.ensures.fault known)))

pub returns-in_err-reasons-clause-told : goal.returns-in_err-reasons-clause-told
returns-in_err-reasons-clause-told g c = λ files told named.
    let p = err_from_is_err_and c.from_residual-in_err-reasons.result c.from_residual-in_err-reasons.ensures.1 in
    rw (p.1, p.2) (ends_at_reasons files c.args.problem.now c.args.awarded.now named (view_claimed (c.in_ok-text.text, c.in_ok-text.reasons_text)) (c.in_ok-text.ensures.told files told)
    c.in_ok-roster.roster (c.in_ok-roster.ensures.valid, sym (c.in_ok-roster.ensures.read ∙ c.deref.ensures.value))
    c.in_err-reasons.field-0.0 c.in_err-reasons.field-0.0.code refl
    (λ known. subst (λ (b : List ℕ). HasReasonFault c.args.problem.now b c.in_err-reasons.field-0.0) c.deref-2.ensures.value (c.in_err-reasons.ensures.fault known)))

pub returns-in_err-scores-clause-told : goal.returns-in_err-scores-clause-told
returns-in_err-scores-clause-told g c = λ files told named.
    let p = err_from_is_err_and c.from_residual-in_err-scores.result c.from_residual-in_err-scores.ensures.1 in
    rw (p.1, p.2) (award_refused files c.args.problem.now c.args.awarded.now named (view_claimed (c.in_ok-text.text, c.in_ok-text.reasons_text)) (c.in_ok-text.ensures.told files told)
    c.in_ok-roster.roster (c.in_ok-roster.ensures.valid, sym (c.in_ok-roster.ensures.read ∙ c.deref.ensures.value))
    c.in_ok-reasons.reasons (are_reasons _ _ c.in_ok-reasons.ensures.bids c.in_ok-reasons.ensures.places, sym (c.in_ok-reasons.ensures.read ∙ c.deref-2.ensures.value))
    c.in_err-scores.field-0.0 c.in_err-scores.ensures.first c.in_err-scores.ensures.refused)

pub returns-clause-told : goal.returns-clause-told
returns-clause-told g c = λ files told named.
    award_accepted files c.args.problem.now c.args.awarded.now named (view_claimed (c.in_ok-text.text, c.in_ok-text.reasons_text)) (c.in_ok-text.ensures.told files told)
    c.in_ok-roster.roster (c.in_ok-roster.ensures.valid, sym (c.in_ok-roster.ensures.read ∙ c.deref.ensures.value))
    c.in_ok-reasons.reasons (are_reasons _ _ c.in_ok-reasons.ensures.bids c.in_ok-reasons.ensures.places, sym (c.in_ok-reasons.ensures.read ∙ c.deref-2.ensures.value))
    c.in_ok-scores.scores c.in_ok-scores.ensures.accepted c.in_ok-scores.ensures.greatest c.in_ok-scores.ensures.answered c.in_ok-scores.ensures.value

pub returns-in_err-text-clause-handed : goal.returns-in_err-text-clause-handed
returns-in_err-text-clause-handed g c = λ old read.
    let p = err_from_is_err_and c.from_residual.result c.from_residual.ensures.1 in
    rw (p.1, p.2) tt

pub returns-in_err-roster-clause-handed : goal.returns-in_err-roster-clause-handed
returns-in_err-roster-clause-handed g c = λ old read.
    let p = err_from_is_err_and c.from_residual-in_err-roster.result c.from_residual-in_err-roster.ensures.1 in
    rw (p.1, p.2) (handed_roster old _ _ c.args.problem.now c.args.awarded.now read (view_claimed (c.in_ok-text.text, c.in_ok-text.reasons_text)) c.in_ok-text.ensures.logged c.in_ok-text.ensures.brief
    c.in_err-roster.field-0.0 c.in_err-roster.field-0.0.code refl
    (λ known. subst (λ (b : List ℕ). HasFault c.args.problem.now b c.in_err-roster.field-0.0) c.deref.ensures.value (c.in_err-roster.ensures.fault known)))

pub returns-in_err-reasons-clause-handed : goal.returns-in_err-reasons-clause-handed
returns-in_err-reasons-clause-handed g c = λ old read.
    let p = err_from_is_err_and c.from_residual-in_err-reasons.result c.from_residual-in_err-reasons.ensures.1 in
    rw (p.1, p.2) (handed_reasons old _ _ c.args.problem.now c.args.awarded.now read (view_claimed (c.in_ok-text.text, c.in_ok-text.reasons_text)) c.in_ok-text.ensures.logged c.in_ok-text.ensures.brief
    c.in_ok-roster.roster (c.in_ok-roster.ensures.valid, sym (c.in_ok-roster.ensures.read ∙ c.deref.ensures.value))
    c.in_err-reasons.field-0.0 c.in_err-reasons.field-0.0.code refl
    (λ known. subst (λ (b : List ℕ). HasReasonFault c.args.problem.now b c.in_err-reasons.field-0.0) c.deref-2.ensures.value (c.in_err-reasons.ensures.fault known)))

pub returns-in_err-scores-clause-handed : goal.returns-in_err-scores-clause-handed
returns-in_err-scores-clause-handed g c = λ old read.
    let p = err_from_is_err_and c.from_residual-in_err-scores.result c.from_residual-in_err-scores.ensures.1 in
    rw (p.1, p.2) (handed_refused old _ _ c.args.problem.now c.args.awarded.now read (view_claimed (c.in_ok-text.text, c.in_ok-text.reasons_text)) c.in_ok-text.ensures.logged c.in_ok-text.ensures.brief
    c.in_ok-roster.roster (c.in_ok-roster.ensures.valid, sym (c.in_ok-roster.ensures.read ∙ c.deref.ensures.value))
    c.in_ok-reasons.reasons (are_reasons _ _ c.in_ok-reasons.ensures.bids c.in_ok-reasons.ensures.places, sym (c.in_ok-reasons.ensures.read ∙ c.deref-2.ensures.value))
    c.in_err-scores.field-0.0 c.in_err-scores.ensures.first c.in_err-scores.ensures.refused)

pub returns-clause-handed : goal.returns-clause-handed
returns-clause-handed g c = λ old read.
    handed_accepted old _ _ c.args.problem.now c.args.awarded.now read (view_claimed (c.in_ok-text.text, c.in_ok-text.reasons_text)) c.in_ok-text.ensures.logged c.in_ok-text.ensures.brief
    c.in_ok-roster.roster (c.in_ok-roster.ensures.valid, sym (c.in_ok-roster.ensures.read ∙ c.deref.ensures.value))
    c.in_ok-reasons.reasons (are_reasons _ _ c.in_ok-reasons.ensures.bids c.in_ok-reasons.ensures.places, sym (c.in_ok-reasons.ensures.read ∙ c.deref-2.ensures.value))
    c.in_ok-scores.scores c.in_ok-scores.ensures.accepted c.in_ok-scores.ensures.greatest c.in_ok-scores.ensures.answered c.in_ok-scores.ensures.value
