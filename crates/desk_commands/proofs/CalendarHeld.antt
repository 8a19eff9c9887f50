-- What the reads of `calendar` handed in, as files that hold it.
use Rattle.std.proofs.Common.{◌≡◌, ◌≤◌, [], ◌∷◌, ◌++◌, length, Ok, refl}
use Rattle.shelf.specs.Files.{Files}
use Rattle.shelf.specs.Logs.{Entries, holding}
use Rattle.month_files.specs.declared.file.File.TheVariants.{Roster}
use Rattle.month_files.specs.FileNames.{name_of, limit_of}
use Rattle.month_files.specs.Handing.{FromReads}
use Rattle.month_files.specs.Reading.{AreShort}
use Rattle.month_files.specs.Sights.{Seen, seen_in, seen_texts}
use Rattle.desk_commands.specs.Calendars.{calendar_order}
use Rattle.desk_commands.proofs.Held.{held, then_ok, inputs_held}

-- the inputs and the roster
module _ (old new : Entries) (seen : Seen) (logged : new ≡ old ++ seen_texts seen) (short : AreShort seen.inputs) (limit : length seen.roster ≤ limit_of Roster) where
  pub seen_held : seen_in (holding (seen_texts seen)) ≡ Ok seen
  unfolding seen_in
  seen_held =
      then_ok _ _ seen.inputs _ (inputs_held seen.inputs ((name_of Roster, seen.roster) ∷ []) short)
      (then_ok _ _ seen.roster _ (held (seen_texts seen) Roster seen.roster refl limit) refl)

  pub from_seen : (P : Files → Type 0) → P (holding (seen_texts seen)) → FromReads calendar_order old new P
  from_seen P h = record { texts = seen_texts seen; logged = logged; count = 9; names = refl; found = h }

pub on_reads : (old new : Entries) (P Q : Files → Type 0) → FromReads calendar_order old new P → ((files : Files) → P files → Q files)
    → FromReads calendar_order old new Q
on_reads old new P Q h f = record { texts = h.texts; logged = h.logged; count = h.count; names = h.names; found = f (holding h.texts) h.found }
