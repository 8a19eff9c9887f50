use Rattle.std.proofs.Common.{ℕ, List, refl, sym, subst, ◌∙◌}
use Rattle.std.proofs.lemmas.Result.{err_from_is_err_and}
use Rattle.roster_text.specs.RosterFaults.{HasFault}
use Rattle.desk_commands.specs.TradeTexts.{view_offered}
use Rattle.desk_commands.proofs.TradeLaws.{refused_roster, refused_incomplete}
use Rattle.desk_commands.proofs.trading.roster_of.Goals as goal

pub returns-in_err-roster-clause-refused : goal.returns-in_err-roster-clause-refused
returns-in_err-roster-clause-refused c =
    let p = err_from_is_err_and c.from_residual.result c.from_residual.ensures.1 in
    rw (p.1, p.2) (refused_roster c.args.problem.now (view_offered c.args.texts.now) c.in_err-roster.field-0.0 c.in_err-roster.field-0.0.code refl
    (λ known. subst (λ (b : List ℕ). HasFault c.args.problem.now b c.in_err-roster.field-0.0) c.deref.ensures.value (c.in_err-roster.ensures.fault known)))

pub returns-in_err-complete-clause-refused : goal.returns-in_err-complete-clause-refused
returns-in_err-complete-clause-refused c =
    let p = err_from_is_err_and c.from_residual-in_err-complete.result c.from_residual-in_err-complete.ensures.1 in
    rw (p.1, p.2) (refused_incomplete c.args.problem.now (view_offered c.args.texts.now) c.in_ok-roster.roster
    (c.in_ok-roster.ensures.valid, sym (c.in_ok-roster.ensures.read ∙ c.deref.ensures.value)) c.in_err-complete.field-0.0 c.in_err-complete.ensures.fault c.in_err-complete.ensures.incomplete)

pub returns-clause-found : goal.returns-clause-found
returns-clause-found c = record {
  read = (c.in_ok-roster.ensures.valid, sym (c.in_ok-roster.ensures.read ∙ c.deref.ensures.value));
  complete = c.in_ok-complete.ensures.ok;
}
