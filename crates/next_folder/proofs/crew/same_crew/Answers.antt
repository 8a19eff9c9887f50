use Rattle.std.proofs.Common.{List, ap, ◌∙◌, map}
use Rattle.duty_calendar.specs.declared.member.Member.{Member}
use Rattle.next_folder.specs.Rolled.{bare}
use Rattle.next_folder.proofs.Bare.{all_bare}
use Rattle.next_folder.proofs.crew.same_crew.Goals as goal

pub returns-clause-valid : goal.returns-clause-valid
returns-clause-valid c = λ h.
    all_bare c.args.problem.now.base.rules.horizon h c.args.problem.now.base.members c.in_ok-crew.crew c.args.problem.now.valid.month.members_form
    (c.in_ok-crew.ensures.value ∙ ap (λ (ms : List Member). map bare ms) c.as_slice.ensures)
