use Rattle.std.proofs.Common.{ℕ, List, refl, sym, subst, ◌∙◌}
use Rattle.std.proofs.lemmas.Result.{err_from_is_err_and}
use Rattle.roster_text.specs.RosterFaults.{HasFault}
use Rattle.next_folder.specs.Texts.{view_ours}
use Rattle.next_folder.proofs.Bars.{bars_roster, bars_shortfall}
use Rattle.next_folder.proofs.planning.roster_of.Goals as goal

pub returns-in_err-roster-clause-cause : goal.returns-in_err-roster-clause-cause
returns-in_err-roster-clause-cause c = λ theirs force names.
    let p = err_from_is_err_and c.from_residual.result c.from_residual.ensures.1 in
    rw (p.1, p.2) (bars_roster (view_ours c.args.ours.now) theirs force c.args.problem.now names c.in_err-roster.field-0.0 c.in_err-roster.field-0.0.code refl
    (λ known. subst (λ (b : List ℕ). HasFault c.args.problem.now b c.in_err-roster.field-0.0) c.deref.ensures.value (c.in_err-roster.ensures.fault known)))

pub returns-in_err-complete-clause-cause : goal.returns-in_err-complete-clause-cause
returns-in_err-complete-clause-cause c = λ theirs force names.
    let p = err_from_is_err_and c.from_residual-in_err-complete.result c.from_residual-in_err-complete.ensures.1 in
    rw (p.1, p.2) (bars_shortfall (view_ours c.args.ours.now) theirs force c.args.problem.now names c.in_ok-roster.roster
    (c.in_ok-roster.ensures.valid, sym (c.in_ok-roster.ensures.read ∙ c.deref.ensures.value)) c.in_err-complete.field-0.0 c.in_err-complete.ensures.fault c.in_err-complete.ensures.incomplete)

pub returns-clause-read : goal.returns-clause-read
returns-clause-read c = (c.in_ok-roster.ensures.valid, sym (c.in_ok-roster.ensures.read ∙ c.deref.ensures.value))
