use Rattle.std.proofs.lemmas.Result.{err_from_is_err_and}
use Rattle.open_commands.specs.OpenCheckingTexts.{view_lodged}
use Rattle.open_commands.proofs.OpenCheckingLaws.{bad_lodged, ends_told, bad_lodged_handed, ends_handed}
use Rattle.open_commands.proofs.open_checking.check_open.Goals as goal

pub returns-in_err-problem-clause-told : goal.returns-in_err-problem-clause-told
returns-in_err-problem-clause-told g c = λ files told.
    let p = err_from_is_err_and c.from_residual-in_err-problem.result c.from_residual-in_err-problem.ensures.1 in
    rw (p.1, p.2) (bad_lodged files c.args.count (view_lodged c.in_ok-texts.texts) (c.in_ok-texts.ensures.told files told) c.in_err-problem.field-0.0 c.in_err-problem.ensures.month)

pub returns-in_err-problem-clause-handed : goal.returns-in_err-problem-clause-handed
returns-in_err-problem-clause-handed g c =
    let p = err_from_is_err_and c.from_residual-in_err-problem.result c.from_residual-in_err-problem.ensures.1 in
    rw (p.1, p.2) (bad_lodged_handed _ _ c.args.count (view_lodged c.in_ok-texts.texts) c.in_ok-texts.ensures.logged c.in_ok-texts.ensures.short c.in_ok-texts.ensures.brief
    c.in_ok-texts.ensures.due c.in_err-problem.field-0.0 c.in_err-problem.ensures.month)

pub returns-clause-told : goal.returns-clause-told
returns-clause-told g c = λ files told.
    ends_told files c.args.count (view_lodged c.in_ok-texts.texts) (c.in_ok-texts.ensures.told files told) c.in_ok-problem.problem c.in_ok-problem.ensures.month
    c.judge_lodged.result c.judge_lodged.ensures.end

pub returns-clause-handed : goal.returns-clause-handed
returns-clause-handed g c =
    ends_handed _ _ c.args.count (view_lodged c.in_ok-texts.texts) c.in_ok-texts.ensures.logged c.in_ok-texts.ensures.short c.in_ok-texts.ensures.brief
    c.in_ok-texts.ensures.due c.in_ok-problem.problem c.in_ok-problem.ensures.month c.judge_lodged.result c.judge_lodged.ensures.end
