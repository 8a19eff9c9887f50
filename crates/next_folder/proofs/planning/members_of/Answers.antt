use Rattle.std.proofs.Common.{List, subst}
use Rattle.std.proofs.lemmas.Result.{err_from_is_err_and}
use Rattle.duty_calendar.specs.declared.member.Member.{Member}
use Rattle.next_month.specs.Causes.{HasFault}
use Rattle.next_month.specs.Heirs.{AreHeirs}
use Rattle.next_month.specs.Lags.{ForLag}
use Rattle.next_folder.specs.Texts.{view_theirs}
use Rattle.next_folder.proofs.Bars.{bars_heir}
use Rattle.next_folder.proofs.planning.members_of.Goals as goal

pub returns-in_err-crew-clause-cause : goal.returns-in_err-crew-clause-cause
returns-in_err-crew-clause-cause c = λ ours force before.
    let p = err_from_is_err_and c.from_residual.result c.from_residual.ensures.1 in
    rw (p.1, p.2) (c.in_err-crew.ensures.cause ours force c.args.roster.now before)

pub returns-in_err-members-clause-cause : goal.returns-in_err-members-clause-cause
returns-in_err-members-clause-cause c = λ ours force before.
    let p = err_from_is_err_and c.from_residual-in_err-members.result c.from_residual-in_err-members.ensures.1 in
    rw (p.1, p.2) (bars_heir ours (view_theirs c.args.theirs.now) force c.args.problem.now c.args.roster.now c.args.rules.now before c.in_ok-crew.crew c.in_ok-crew.ensures.crew c.in_err-members.field-0.0
    (subst (λ (cs : List Member). ForLag c.args.problem.now.base.rules.horizon c.args.rules.now.horizon (λ d. HasFault c.args.problem.now c.args.roster.now d cs c.in_err-members.field-0.0)) c.as_slice.ensures c.in_err-members.ensures.cause))

pub returns-clause-members : goal.returns-clause-members
returns-clause-members c = record {
  crew = c.in_ok-crew.crew;
  next_crew = c.in_ok-crew.ensures.crew;
  heirs = subst (λ (cs : List Member). ForLag c.args.problem.now.base.rules.horizon c.args.rules.now.horizon (λ d. AreHeirs c.args.problem.now c.args.roster.now d cs c.in_ok-members.members))
      c.as_slice.ensures c.in_ok-members.ensures.heirs;
}
