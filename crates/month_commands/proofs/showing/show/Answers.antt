use Rattle.std.proofs.Common.{ℕ, List, refl, sym, subst, ◌∙◌}
use Rattle.std.proofs.lemmas.Result.{err_from_is_err_and}
use Rattle.roster_text.specs.RosterFaults.{HasFault}
use Rattle.month_files.specs.Sights.{view_seen}
use Rattle.month_commands.proofs.ShowLaws.{ends_at_month, ends_at_roster, ends_at_nobody, ends_in_view, handed_month, handed_roster, handed_nobody, handed_view}
use Rattle.month_commands.proofs.showing.show.Goals as goal

pub returns-in_err-problem-clause-told : goal.returns-in_err-problem-clause-told
returns-in_err-problem-clause-told g c = λ files told.
    let p = err_from_is_err_and c.from_residual-in_err-problem.result c.from_residual-in_err-problem.ensures.1 in
    rw (p.1, p.2) (ends_at_month files c.args.name.now (view_seen (c.in_ok-texts.texts, c.in_ok-texts.text)) (c.in_ok-texts.ensures.told files told) c.in_err-problem.field-0.0 c.in_err-problem.ensures.month)

pub returns-in_err-problem-clause-handed : goal.returns-in_err-problem-clause-handed
returns-in_err-problem-clause-handed g c =
    let p = err_from_is_err_and c.from_residual-in_err-problem.result c.from_residual-in_err-problem.ensures.1 in
    rw (p.1, p.2) (handed_month _ _ c.args.name.now (view_seen (c.in_ok-texts.texts, c.in_ok-texts.text)) c.in_ok-texts.ensures.logged c.in_ok-texts.ensures.short c.in_ok-texts.ensures.limit
    c.in_err-problem.field-0.0 c.in_err-problem.ensures.month)

pub returns-in_err-roster-clause-told : goal.returns-in_err-roster-clause-told
returns-in_err-roster-clause-told g c = λ files told.
    let p = err_from_is_err_and c.from_residual-in_err-roster.result c.from_residual-in_err-roster.ensures.1 in
    rw (p.1, p.2) (ends_at_roster files c.args.name.now (view_seen (c.in_ok-texts.texts, c.in_ok-texts.text)) (c.in_ok-texts.ensures.told files told)
    c.in_ok-problem.problem c.in_ok-problem.ensures.month c.in_err-roster.field-0.0 c.in_err-roster.field-0.0.code refl
    (λ known. subst (λ (b : List ℕ). HasFault c.in_ok-problem.problem b c.in_err-roster.field-0.0) c.deref.ensures.value (c.in_err-roster.ensures.fault known)))

pub returns-in_err-roster-clause-handed : goal.returns-in_err-roster-clause-handed
returns-in_err-roster-clause-handed g c =
    let p = err_from_is_err_and c.from_residual-in_err-roster.result c.from_residual-in_err-roster.ensures.1 in
    rw (p.1, p.2) (handed_roster _ _ c.args.name.now (view_seen (c.in_ok-texts.texts, c.in_ok-texts.text)) c.in_ok-texts.ensures.logged c.in_ok-texts.ensures.short c.in_ok-texts.ensures.limit
    c.in_ok-problem.problem c.in_ok-problem.ensures.month c.in_err-roster.field-0.0 c.in_err-roster.field-0.0.code refl
    (λ known. subst (λ (b : List ℕ). HasFault c.in_ok-problem.problem b c.in_err-roster.field-0.0) c.deref.ensures.value (c.in_err-roster.ensures.fault known)))

pub returns-in_default-clause-told : goal.returns-in_default-clause-told
returns-in_default-clause-told g c = λ files told.
    ends_at_nobody files c.args.name.now (view_seen (c.in_ok-texts.texts, c.in_ok-texts.text)) (c.in_ok-texts.ensures.told files told)
    c.in_ok-problem.problem c.in_ok-problem.ensures.month
    c.in_ok-roster.roster (c.in_ok-roster.ensures.valid, sym (c.in_ok-roster.ensures.read ∙ c.deref.ensures.value)) (sym c.in_default.ensures.value)

pub returns-in_default-clause-handed : goal.returns-in_default-clause-handed
returns-in_default-clause-handed g c =
    handed_nobody _ _ c.args.name.now (view_seen (c.in_ok-texts.texts, c.in_ok-texts.text)) c.in_ok-texts.ensures.logged c.in_ok-texts.ensures.short c.in_ok-texts.ensures.limit
    c.in_ok-problem.problem c.in_ok-problem.ensures.month
    c.in_ok-roster.roster (c.in_ok-roster.ensures.valid, sym (c.in_ok-roster.ensures.read ∙ c.deref.ensures.value)) (sym c.in_default.ensures.value)

pub returns-clause-told : goal.returns-clause-told
returns-clause-told g c = λ files told.
    ends_in_view files c.args.name.now (view_seen (c.in_ok-texts.texts, c.in_ok-texts.text)) (c.in_ok-texts.ensures.told files told)
    c.in_ok-problem.problem c.in_ok-problem.ensures.month
    c.in_ok-roster.roster (c.in_ok-roster.ensures.valid, sym (c.in_ok-roster.ensures.read ∙ c.deref.ensures.value))
    c.in-Some.member c.in_ok-print_month.field-0 (sym c.in-Some.ensures.value) c.in_ok-print_month.ensures.whole

pub returns-clause-handed : goal.returns-clause-handed
returns-clause-handed g c =
    handed_view _ _ c.args.name.now (view_seen (c.in_ok-texts.texts, c.in_ok-texts.text)) c.in_ok-texts.ensures.logged c.in_ok-texts.ensures.short c.in_ok-texts.ensures.limit
    c.in_ok-problem.problem c.in_ok-problem.ensures.month
    c.in_ok-roster.roster (c.in_ok-roster.ensures.valid, sym (c.in_ok-roster.ensures.read ∙ c.deref.ensures.value))
    c.in-Some.member c.in_ok-print_month.field-0 (sym c.in-Some.ensures.value) c.in_ok-print_month.ensures.whole
