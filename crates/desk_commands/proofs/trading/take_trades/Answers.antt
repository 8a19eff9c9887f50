use Rattle.std.proofs.Common.{◌≡◌, ℕ, List, Ok, Err, refl, subst}
use Rattle.std.proofs.lemmas.Result.{err_from_is_err_and}
use Rattle.trade_desk.specs.Reading.{trades_in}
use Rattle.desk_commands.specs.TradeTexts.{view_offered}
use Rattle.desk_commands.proofs.TradeLaws.{refused_trades, last_complete, is_traded}
use Rattle.desk_commands.proofs.trading.take_trades.Goals as goal

pub returns-in_err-trades : goal.returns-in_err-trades
returns-in_err-trades c =
    let p = err_from_is_err_and c.from_residual-in_err-trades.result c.from_residual-in_err-trades.ensures.1 in
    record {
      end = rw (p.1, p.2) (refused_trades c.args.problem.now (view_offered c.args.texts.now) c.in_ok-roster.roster c.in_ok-roster.ensures.found
          c.in_err-trades.field-0.0 c.in_err-trades.field-0.0.code refl
          (λ known. subst (λ (b : List ℕ). trades_in c.args.problem.now b ≡ Err c.in_err-trades.field-0.0) c.deref.ensures.value (c.in_err-trades.ensures.read known)));
    }

pub traded-requires : goal.traded-requires
traded-requires c = record {
  complete = last_complete c.args.problem.now (view_offered c.args.texts.now) c.in_ok-roster.roster c.in_ok-desk.desk.roster _ c.in_ok-desk.desk.verdicts
      c.in_ok-desk.ensures.complete c.in_ok-desk.ensures.desk.final;
}

pub returns : goal.returns
returns c = record {
  end = is_traded c.args.problem.now (view_offered c.args.texts.now) c.in_ok-roster.roster c.in_ok-desk.desk.roster c.in_ok-roster.ensures.found
      c.in_ok-trades.trades _ c.in_ok-desk.desk.verdicts c.in_ok-traded.field-0
      (subst (λ (b : List ℕ). trades_in c.args.problem.now b ≡ Ok c.in_ok-trades.trades) c.deref.ensures.value c.in_ok-trades.ensures.read)
      c.as_slice.ensures c.in_ok-desk.ensures.desk c.in_ok-desk.ensures.complete
      c.in_ok-traded.ensures.verdicts c.in_ok-traded.ensures.scores c.in_ok-traded.ensures.drafts c.in_ok-traded.ensures.readable;
}
