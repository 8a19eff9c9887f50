use Rattle.std.proofs.lemmas.Result.{err_from_is_err_and}
use Rattle.month_files.specs.Reading.{view_texts}
use Rattle.open_commands.proofs.OpeningLaws.{finds_nothing, is_found, bad_month_handed, nothing_handed, found_handed}
use Rattle.open_commands.proofs.opening.open_lines.Goals as goal

pub returns-in_err-problem-clause-handed : goal.returns-in_err-problem-clause-handed
returns-in_err-problem-clause-handed g c =
    let p = err_from_is_err_and c.from_residual-in_err-problem.result c.from_residual-in_err-problem.ensures.1 in
    rw (p.1, p.2) (bad_month_handed _ _ c.args.most c.args.nodes (view_texts c.in_ok-texts.texts) c.in_ok-texts.ensures.logged c.in_ok-texts.ensures.short c.in_err-problem.field-0.0 c.in_err-problem.ensures.month)

pub returns-in_err-finding-clause-told : goal.returns-in_err-finding-clause-told
returns-in_err-finding-clause-told g c = λ files told.
    let p = err_from_is_err_and c.from_residual-in_err-finding.result c.from_residual-in_err-finding.ensures.1 in
    rw (p.1, p.2) (finds_nothing files c.args.most c.args.nodes (view_texts c.in_ok-texts.texts) (c.in_ok-texts.ensures.told files told) c.in_ok-problem.problem c.in_ok-problem.ensures.month
    c.in_err-finding.field-0.0 c.in_err-finding.ensures.end)

pub returns-in_err-finding-clause-handed : goal.returns-in_err-finding-clause-handed
returns-in_err-finding-clause-handed g c =
    let p = err_from_is_err_and c.from_residual-in_err-finding.result c.from_residual-in_err-finding.ensures.1 in
    rw (p.1, p.2) (nothing_handed _ _ c.args.most c.args.nodes (view_texts c.in_ok-texts.texts) c.in_ok-texts.ensures.logged c.in_ok-texts.ensures.short c.in_ok-problem.problem c.in_ok-problem.ensures.month
    c.in_err-finding.field-0.0 c.in_err-finding.ensures.end)

pub returns-clause-told : goal.returns-clause-told
returns-clause-told g c = λ files told.
    c.write_found.ensures.told files c.args.most c.args.nodes
    (is_found files c.args.most c.args.nodes (view_texts c.in_ok-texts.texts) (c.in_ok-texts.ensures.told files told) c.in_ok-problem.problem c.in_ok-problem.ensures.month
    c.in_ok-finding.finding c.in_ok-finding.ensures.end)

pub returns-clause-handed : goal.returns-clause-handed
returns-clause-handed g c =
    c.write_found.ensures.handed _ c.args.most c.args.nodes
    (found_handed _ _ c.args.most c.args.nodes (view_texts c.in_ok-texts.texts) c.in_ok-texts.ensures.logged c.in_ok-texts.ensures.short c.in_ok-problem.problem c.in_ok-problem.ensures.month
    c.in_ok-finding.finding c.in_ok-finding.ensures.end)
