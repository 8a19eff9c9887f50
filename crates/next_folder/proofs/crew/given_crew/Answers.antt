use Rattle.std.proofs.Common.{◌≡◌, ℕ, List, Err, subst}
use Rattle.std.specs.Prelude.{MatchOption}
use Rattle.std.proofs.lemmas.Result.{err_from_is_err_and}
use Rattle.crew_files.specs.Files.{members_of}
use Rattle.field_text.specs.Rows.{told_by}
use Rattle.field_text.specs.declared.file_fault.FileFault.{FileFault}
use Rattle.next_folder.specs.Rolled.{no_events}
use Rattle.next_folder.specs.Texts.{view_theirs}
use Rattle.next_folder.proofs.Bars.{bars_crew}
use Rattle.next_folder.proofs.crew.given_crew.Goals as goal

pub returns-in_err-read_members-clause-cause : goal.returns-in_err-read_members-clause-cause
returns-in_err-read_members-clause-cause c = λ ours force roster before.
    let p = err_from_is_err_and c.from_residual.result c.from_residual.ensures.1 in
    let e = c.in_err-read_members.field-0.0 in
    rw (p.1, p.2) (bars_crew ours (view_theirs c.args.theirs.now) force c.args.problem.now roster c.args.rules.now before c.args.text.now c.requires.there c.in_err-read_members.field-0.0
    (subst (λ (t : List ℕ). MatchOption (told_by e.code e) (Unit {0}) (λ (fault : FileFault). members_of c.args.rules.now.horizon c.args.text.now t no_events ≡ Err fault)) c.no_events.ensures.value
    (subst (λ (t : List ℕ). MatchOption (told_by e.code e) (Unit {0}) (λ (fault : FileFault). members_of c.args.rules.now.horizon c.args.text.now c.no_events.result.now t ≡ Err fault)) c.no_events-2.ensures.value
    c.in_err-read_members.ensures.value)))
