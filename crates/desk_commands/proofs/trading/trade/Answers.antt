use Rattle.std.proofs.lemmas.Result.{err_from_is_err_and}
use Rattle.desk_commands.specs.TradeTexts.{view_offered}
use Rattle.desk_commands.proofs.TradeLaws.{bad_offer, handed_month, ends_at_desk, handed_desk, has_traded, handed_traded}
use Rattle.desk_commands.proofs.trading.trade.Goals as goal

pub returns-in_err-problem-clause-told : goal.returns-in_err-problem-clause-told
returns-in_err-problem-clause-told g c = λ files told.
    let p = err_from_is_err_and c.from_residual-in_err-problem.result c.from_residual-in_err-problem.ensures.1 in
    rw (p.1, p.2) (bad_offer files (view_offered c.in_ok-texts.texts) (c.in_ok-texts.ensures.told files told) c.in_err-problem.field-0.0 c.in_err-problem.ensures.month)

pub returns-in_err-problem-clause-handed : goal.returns-in_err-problem-clause-handed
returns-in_err-problem-clause-handed g c =
    let p = err_from_is_err_and c.from_residual-in_err-problem.result c.from_residual-in_err-problem.ensures.1 in
    rw (p.1, p.2) (handed_month _ _ (view_offered c.in_ok-texts.texts) c.in_ok-texts.ensures.logged c.in_ok-texts.ensures.short c.in_ok-texts.ensures.brief c.in_err-problem.field-0.0 c.in_err-problem.ensures.month)

pub returns-in-Ok-clause-told : goal.returns-in-Ok-clause-told
returns-in-Ok-clause-told g c = λ files told.
    c.write_traded.ensures.told files
    (has_traded files (view_offered c.in_ok-texts.texts) (c.in_ok-texts.ensures.told files told) c.in_ok-problem.problem c.in_ok-problem.ensures.month c.in-Ok.traded c.in-Ok.ensures.end)

pub returns-in-Ok-clause-handed : goal.returns-in-Ok-clause-handed
returns-in-Ok-clause-handed g c =
    c.write_traded.ensures.handed _
    (handed_traded _ _ (view_offered c.in_ok-texts.texts) c.in_ok-texts.ensures.logged c.in_ok-texts.ensures.short c.in_ok-texts.ensures.brief c.in_ok-problem.problem c.in_ok-problem.ensures.month c.in-Ok.traded c.in-Ok.ensures.end)

pub returns-clause-told : goal.returns-clause-told
returns-clause-told g c = λ files told.
    ends_at_desk files (view_offered c.in_ok-texts.texts) (c.in_ok-texts.ensures.told files told) c.in_ok-problem.problem c.in_ok-problem.ensures.month c.in-Err.stop c.in-Err.ensures.end

pub returns-clause-handed : goal.returns-clause-handed
returns-clause-handed g c =
    handed_desk _ _ (view_offered c.in_ok-texts.texts) c.in_ok-texts.ensures.logged c.in_ok-texts.ensures.short c.in_ok-texts.ensures.brief c.in_ok-problem.problem c.in_ok-problem.ensures.month c.in-Err.stop c.in-Err.ensures.end
