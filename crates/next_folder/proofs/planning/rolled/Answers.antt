use Rattle.next_folder.specs.Texts.{view_theirs}
use Rattle.std.proofs.Common.{List, ap, ◌∙◌}
use Rattle.std.proofs.lemmas.Result.{err_from_is_err_and}
use Rattle.crew_files.specs.Texts.{crew_text}
use Rattle.duty_calendar.specs.declared.member.Member.{Member}
use Rattle.next_folder.specs.Rolled.{coming_text, past_text}
use Rattle.next_folder.proofs.Found.{again_of, says_of}
use Rattle.next_folder.proofs.planning.rolled.Goals as goal

pub returns-in_err-taken-clause-cause : goal.returns-in_err-taken-clause-cause
returns-in_err-taken-clause-cause c = λ ours force roster before heirs.
    let p = err_from_is_err_and c.from_residual-in_err-taken.result c.from_residual-in_err-taken.ensures.1 in
    rw (p.1, p.2) (c.in_err-taken.ensures.cause ours force c.args.problem.now roster c.args.members
    (record {
      before = before;
      heirs = heirs;
      again = again_of c.args.rules c.args.members c.as_slice.result.now _ _ _ c.as_slice.ensures c.in_ok-texts.ensures.crew c.in_ok-texts.ensures.history c.in_ok-texts.ensures.fixed c.in_ok-texts.ensures.again;
    })
    (c.in_ok-texts.ensures.crew ∙ ap (λ (ms : List Member). crew_text ms) c.as_slice.ensures)
    (c.in_ok-texts.ensures.history ∙ ap (λ (ms : List Member). past_text c.args.rules ms) c.as_slice.ensures)
    (c.in_ok-texts.ensures.fixed ∙ ap (λ (ms : List Member). coming_text c.args.rules ms) c.as_slice.ensures))

pub returns-clause-said : goal.returns-clause-said
returns-clause-said c =
    says_of c.args.problem.now (view_theirs c.args.theirs.now)
    (record { rules = c.args.rules; members = c.args.members; taken = c.in_ok-taken.taken; drafts = c.in_ok-drafts.drafts; newcomers = c.in_ok-newcomers.newcomers; leavers = c.in_ok-leavers.leavers })
    c.as_slice.result.now c.as_slice-2.result.now c.as_slice-3.result.now _ _ _ c.as_slice.ensures c.as_slice-2.ensures c.as_slice-3.ensures
    c.in_ok-texts.ensures.crew c.in_ok-texts.ensures.history c.in_ok-texts.ensures.fixed c.in_ok-texts.ensures.again c.in_ok-taken.ensures.taken c.in_ok-drafts.ensures.again
    (c.in_ok-drafts.ensures.drafts c.as_slice.result.now c.in_ok-texts.ensures.crew c.in_ok-texts.ensures.history c.in_ok-texts.ensures.fixed)
    c.in_ok-newcomers.ensures.value c.in_ok-leavers.ensures.value
