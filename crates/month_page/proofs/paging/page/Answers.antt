use Rattle.std.proofs.Common.{◌∙◌}
use Rattle.std.proofs.lemmas.Result.{err_from_is_err_and}
use Rattle.month_page.specs.Pages.{view_seen}
use Rattle.month_page.proofs.PageLaws.{stopped_told, stopped_cause, stopped_leaves, stopped_handed, shown_handed, lost_handed}
use Rattle.month_page.proofs.paging.page.Goals as goal

pub returns-in_err-sheet-clause-cause : goal.returns-in_err-sheet-clause-cause
returns-in_err-sheet-clause-cause g c =
    let p = err_from_is_err_and c.from_residual-in_err-sheet.result c.from_residual-in_err-sheet.ensures.1 in
    rw (p.1, p.2) (stopped_cause (view_seen c.in_ok-seen.seen) _ _ c.in_ok-seen.ensures.cause c.in_err-sheet.field-0.0 c.in_err-sheet.ensures.comes)

pub returns-in_err-sheet-clause-told : goal.returns-in_err-sheet-clause-told
returns-in_err-sheet-clause-told g c =
    let p = err_from_is_err_and c.from_residual-in_err-sheet.result c.from_residual-in_err-sheet.ensures.1 in
    rw (p.1, p.2) (stopped_told _ (view_seen c.in_ok-seen.seen) c.in_ok-seen.ensures.told c.in_err-sheet.field-0.0 c.in_err-sheet.ensures.comes)

pub returns-in_err-sheet-clause-left : goal.returns-in_err-sheet-clause-left
returns-in_err-sheet-clause-left g c =
    let p = err_from_is_err_and c.from_residual-in_err-sheet.result c.from_residual-in_err-sheet.ensures.1 in
    rw (p.1, p.2) (stopped_leaves (view_seen c.in_ok-seen.seen) _ _ c.in_ok-seen.ensures.kept c.in_err-sheet.field-0.0 c.in_err-sheet.ensures.comes)

pub returns-in_err-sheet-clause-handed : goal.returns-in_err-sheet-clause-handed
returns-in_err-sheet-clause-handed g c =
    let p = err_from_is_err_and c.from_residual-in_err-sheet.result c.from_residual-in_err-sheet.ensures.1 in
    rw (p.1, p.2) (stopped_handed _ _ (view_seen c.in_ok-seen.seen) c.in_ok-seen.ensures.logged c.in_ok-seen.ensures.short c.in_ok-seen.ensures.roster_limit c.in_ok-seen.ensures.reasons_limit c.in_err-sheet.field-0.0 c.in_err-sheet.ensures.comes)

pub returns-in-Ok-clause-handed : goal.returns-in-Ok-clause-handed
returns-in-Ok-clause-handed g c =
    shown_handed _ _ (view_seen c.in_ok-seen.seen) (c.write_page.ensures.unlogged ∙ c.in_ok-seen.ensures.logged) c.in_ok-seen.ensures.short c.in_ok-seen.ensures.roster_limit c.in_ok-seen.ensures.reasons_limit c.in_ok-sheet.sheet.members c.in_ok-sheet.ensures.comes

pub returns-clause-handed : goal.returns-clause-handed
returns-clause-handed g c =
    lost_handed _ _ (view_seen c.in_ok-seen.seen) (c.write_page.ensures.unlogged ∙ c.in_ok-seen.ensures.logged) c.in_ok-seen.ensures.short c.in_ok-seen.ensures.roster_limit c.in_ok-seen.ensures.reasons_limit c.in_ok-sheet.sheet.members c.in_ok-sheet.ensures.comes c.in-Err.why
