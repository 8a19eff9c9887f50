use Rattle.std.proofs.Common.{◌≡◌, List, Result, refl, subst}
use Rattle.duty_calendar.specs.declared.member.Member.{Member}
use Rattle.field_text.specs.Rows.{Fails}
use Rattle.field_text.specs.declared.file_fault.FileFault.{FileFault}
use Rattle.crew_files.specs.Files.{members_of}
use Rattle.month_files.specs.declared.fault.InputFault.TheVariants as input
use Rattle.month_files.specs.Months.{GivesMembers}
use Rattle.month_files.specs.Reading.{view_texts}
use Rattle.month_files.proofs.Ends.{file_ends}
use Rattle.month_files.proofs.month.members_of.Goals as goal

pub returns-in-Err-clause-members : goal.returns-in-Err-clause-members
returns-in-Err-clause-members c =
    let t = view_texts c.args.texts.now in
    let same : members_of c.args.rules.now.horizon c.deref.result.now c.deref-2.result.now c.deref-3.result.now ≡ members_of c.args.rules.now.horizon t.crew t.history t.fixed =
    rw (c.deref.ensures.value, c.deref-2.ensures.value, c.deref-3.ensures.value) refl in
    rw c.member_end.ensures.value
    (file_ends (GivesMembers t c.args.rules.now) t (input.Members c.in-Err.fault) c.in-Err.fault (members_of c.args.rules.now.horizon t.crew t.history t.fixed)
    (λ h. record { rules = c.args.rules.now; pairings = c.args.pairings.now; rules_before = c.requires.rules; pairings_before = c.requires.pairings; here = h }) c.in-Err.fault.code
    (subst (λ (r : Result (List Member) FileFault). Fails c.in-Err.fault.code c.in-Err.fault r) same c.in-Err.ensures.value))
