use Rattle.std.proofs.lemmas.Result.{err_from_is_err_and}
use Rattle.next_folder.specs.Texts.{view_ours, view_theirs}
use Rattle.next_folder.proofs.Rolls.{all_rolled}
use Rattle.next_folder.proofs.planning.plan.Goals as goal

pub returns-in_err-problem-clause-cause : goal.returns-in_err-problem-clause-cause
returns-in_err-problem-clause-cause c =
    let p = err_from_is_err_and c.from_residual.result c.from_residual.ensures.1 in
    rw (p.1, p.2) (c.in_err-problem.ensures.cause (view_theirs c.args.theirs.now) c.args.is_forced)

pub returns-in_err-roster-clause-cause : goal.returns-in_err-roster-clause-cause
returns-in_err-roster-clause-cause c =
    let p = err_from_is_err_and c.from_residual-in_err-roster.result c.from_residual-in_err-roster.ensures.1 in
    rw (p.1, p.2) (c.in_err-roster.ensures.cause (view_theirs c.args.theirs.now) c.args.is_forced c.in_ok-problem.ensures.names)

pub returns-in_err-rules-clause-cause : goal.returns-in_err-rules-clause-cause
returns-in_err-rules-clause-cause c =
    let p = err_from_is_err_and c.from_residual-in_err-rules.result c.from_residual-in_err-rules.ensures.1 in
    rw (p.1, p.2) (c.in_err-rules.ensures.cause (view_ours c.args.ours.now) c.args.is_forced c.in_ok-roster.roster (record { names = c.in_ok-problem.ensures.names; read = c.in_ok-roster.ensures.read; complete = c.in_ok-roster.ensures.complete }))

pub returns-in_err-spared-clause-cause : goal.returns-in_err-spared-clause-cause
returns-in_err-spared-clause-cause c =
    let p = err_from_is_err_and c.from_residual-in_err-spared.result c.from_residual-in_err-spared.ensures.1 in
    rw (p.1, p.2) (c.in_err-spared.ensures.cause (view_ours c.args.ours.now) c.in_ok-problem.problem c.in_ok-roster.roster c.in_ok-rules.rules (record { month = record { names = c.in_ok-problem.ensures.names; read = c.in_ok-roster.ensures.read; complete = c.in_ok-roster.ensures.complete }; due = c.in_ok-rules.ensures.rules; follows = c.in_ok-rules.ensures.follows }))

pub returns-in_err-members-clause-cause : goal.returns-in_err-members-clause-cause
returns-in_err-members-clause-cause c =
    let p = err_from_is_err_and c.from_residual-in_err-members.result c.from_residual-in_err-members.ensures.1 in
    rw (p.1, p.2) (c.in_err-members.ensures.cause (view_ours c.args.ours.now) c.args.is_forced (record { next = record { month = record { names = c.in_ok-problem.ensures.names; read = c.in_ok-roster.ensures.read; complete = c.in_ok-roster.ensures.complete }; due = c.in_ok-rules.ensures.rules; follows = c.in_ok-rules.ensures.follows }; spared = c.in_ok-spared.ensures.spared }))

pub returns : goal.returns
returns c = record {
  rolled =
      all_rolled (view_ours c.args.ours.now) (view_theirs c.args.theirs.now) c.args.is_forced c.in_ok-problem.problem c.in_ok-roster.roster c.in_ok-rules.rules c.in_ok-members.members c.rolled.result
      c.in_ok-problem.ensures.names c.in_ok-roster.ensures.read c.in_ok-roster.ensures.complete c.in_ok-rules.ensures.rules c.in_ok-rules.ensures.follows c.in_ok-spared.ensures.spared
      c.in_ok-members.ensures.members c.rolled.ensures.given c.rolled.ensures.said;
  cause = c.rolled.ensures.cause (view_ours c.args.ours.now) c.args.is_forced c.in_ok-roster.roster (record { next = record { month = record { names = c.in_ok-problem.ensures.names; read = c.in_ok-roster.ensures.read; complete = c.in_ok-roster.ensures.complete }; due = c.in_ok-rules.ensures.rules; follows = c.in_ok-rules.ensures.follows }; spared = c.in_ok-spared.ensures.spared }) c.in_ok-members.ensures.members;
}
