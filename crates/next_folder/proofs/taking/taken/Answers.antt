use Rattle.std.proofs.Common.{ℕ, ◌≤◌, List, length, sym, subst, ◌∙◌}
use Rattle.std.proofs.lemmas.Result.{err_from_is_err_and}
use Rattle.month_files.specs.FileNames.{limit_of}
use Rattle.month_files.specs.declared.file.File.TheVariants.{History}
use Rattle.next_folder.specs.Texts.{view_theirs}
use Rattle.next_folder.proofs.Long.{bad_members, long_crew, long_fixed, long_history}
use Rattle.next_folder.proofs.taking.taken.Goals as goal

pub returns-in_err-fits-clause-cause : goal.returns-in_err-fits-clause-cause
returns-in_err-fits-clause-cause c = λ ours force problem roster members due is_crew is_past is_coming.
    let p = err_from_is_err_and c.from_residual.result c.from_residual.ensures.1 in
    let long = c.in_err-fits.ensures.long in
    rw (p.1, p.2, long.0) (long_crew ours (view_theirs c.args.theirs.now) force problem roster c.args.rules.now members due c.or_draft-crew.result.now c.args.texts.now.history c.or_draft-fixed.result.now c.args.texts.now.crew c.args.texts.now.fixed
    c.or_draft-crew.ensures.value is_crew is_past c.or_draft-fixed.ensures.value is_coming long.1)

pub returns-in_err-fits-2-clause-cause : goal.returns-in_err-fits-2-clause-cause
returns-in_err-fits-2-clause-cause c = λ ours force problem roster members due is_crew is_past is_coming.
    let p = err_from_is_err_and c.from_residual-in_err-fits-2.result c.from_residual-in_err-fits-2.ensures.1 in
    let long = c.in_err-fits-2.ensures.long in
    rw (p.1, p.2, long.0) (long_history ours (view_theirs c.args.theirs.now) force problem roster c.args.rules.now members due c.or_draft-crew.result.now c.as_slice.result.now c.or_draft-fixed.result.now c.args.texts.now.crew c.args.texts.now.fixed
    c.or_draft-crew.ensures.value is_crew (c.as_slice.ensures ∙ is_past) c.or_draft-fixed.ensures.value is_coming c.in_ok-fits.ensures.short long.1)

pub returns-in_err-fits-3-clause-cause : goal.returns-in_err-fits-3-clause-cause
returns-in_err-fits-3-clause-cause c = λ ours force problem roster members due is_crew is_past is_coming.
    let p = err_from_is_err_and c.from_residual-in_err-fits-3.result c.from_residual-in_err-fits-3.ensures.1 in
    let long = c.in_err-fits-3.ensures.long in
    rw (p.1, p.2, long.0) (long_fixed ours (view_theirs c.args.theirs.now) force problem roster c.args.rules.now members due c.or_draft-crew.result.now c.as_slice.result.now c.or_draft-fixed.result.now c.args.texts.now.crew c.args.texts.now.fixed
    c.or_draft-crew.ensures.value is_crew (c.as_slice.ensures ∙ is_past) c.or_draft-fixed.ensures.value is_coming c.in_ok-fits.ensures.short c.in_ok-fits-2.ensures.short long.1)

pub returns-in_err-members-clause-cause : goal.returns-in_err-members-clause-cause
returns-in_err-members-clause-cause c = λ ours force problem roster members due is_crew is_past is_coming.
    let p = err_from_is_err_and c.from_residual-in_err-members.result c.from_residual-in_err-members.ensures.1 in
    rw (p.1, p.2) (bad_members ours (view_theirs c.args.theirs.now) force problem roster c.args.rules.now members due c.or_draft-crew.result.now c.as_slice-2.result.now c.or_draft-fixed.result.now c.args.texts.now.crew c.args.texts.now.fixed
    c.or_draft-crew.ensures.value is_crew (c.as_slice-2.ensures ∙ is_past) c.or_draft-fixed.ensures.value is_coming c.in_ok-fits.ensures.short
    (subst (λ (t : List ℕ). length t ≤ limit_of History) (c.as_slice.ensures ∙ sym c.as_slice-2.ensures) c.in_ok-fits-2.ensures.short) c.in_ok-fits-3.ensures.short c.in_err-members.field-0.0 c.in_err-members.ensures.value)
