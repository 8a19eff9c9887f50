use Rattle.std.proofs.Common.{◌≡◌, List, Result, refl, subst}
use Rattle.field_text.specs.Rows.{Fails}
use Rattle.field_text.specs.declared.file_fault.FileFault.{FileFault}
use Rattle.duty_calendar.specs.declared.pairing.Pairing.{Pairing}
use Rattle.pairing_files.specs.Files.{pairings_of}
use Rattle.month_files.specs.declared.fault.InputFault.TheVariants as input
use Rattle.month_files.specs.Months.{GivesPairings}
use Rattle.month_files.specs.Reading.{view_texts}
use Rattle.month_files.proofs.Ends.{file_ends}
use Rattle.month_files.proofs.month.pairings_of.Goals as goal

pub returns-in-Err-clause-pairings : goal.returns-in-Err-clause-pairings
returns-in-Err-clause-pairings c =
    let t = view_texts c.args.texts.now in
    let same : pairings_of c.args.rules.now.horizon c.deref.result.now c.deref-2.result.now c.deref-3.result.now ≡ pairings_of c.args.rules.now.horizon t.pairings t.duties t.legs =
    rw (c.deref.ensures.value, c.deref-2.ensures.value, c.deref-3.ensures.value) refl in
    rw c.pairing_end.ensures.value
    (file_ends (GivesPairings t c.args.rules.now) t (input.Pairings c.in-Err.fault) c.in-Err.fault (pairings_of c.args.rules.now.horizon t.pairings t.duties t.legs)
    (λ h. record { rules = c.args.rules.now; before = c.requires.rules; here = h }) c.in-Err.fault.code
    (subst (λ (r : Result (List Pairing) FileFault). Fails c.in-Err.fault.code c.in-Err.fault r) same c.in-Err.ensures.value))
