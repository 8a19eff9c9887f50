-- How `migrate` ends, from what its stages answer.
use Rattle.std.proofs.Common.{◌≡◌, ℕ, ◌≤◌, List, [], ◌∷◌, ◌++◌, length, Ok, Err, refl}
use Rattle.month_files.specs.FileNames.{name_of, limit_of}
use Rattle.month_files.specs.Handing.{FromReads}
use Rattle.month_files.specs.Reading.{text_in}
use Rattle.month_files.specs.declared.file.File.TheVariants.{Certificate as CertificateFile}
use Rattle.shelf.specs.Files.{Files}
use Rattle.shelf.specs.Logs.{Entries, holding}
use Rattle.desk_commands.specs.declared.migrate_stop.Migrated.{Migrated}
use Rattle.desk_commands.specs.declared.migrate_stop.MigrateStop.{MigrateStop}
use Rattle.desk_commands.specs.declared.migrate_stop.MigrateStop.TheVariants as stop
use Rattle.desk_commands.proofs.Held.{held}
use Rattle.desk_commands.specs.Migrate.{IsRespelling, IsUnmigrated, IsMigrated, IsMigration, IsMigrationHanded, OfCertificate, migrating_order}

-- ---- over files

module _ (files : Files) (text : List ℕ) (read : text_in files CertificateFile ≡ Ok text) where
  pub ends_at_text : (e : MigrateStop) → IsRespelling text (Err e) → IsMigration files (Err e)
  ends_at_text (stop.Unread why) h = absurd h
  ends_at_text (stop.No why) h = record { text = text; read = read; found = h }
  ends_at_text (stop.Unwritten m u) h = absurd h
  ends_at_text stop.NoMemory h = tt

  pub is_migrated : (m : Migrated) → IsRespelling text (Ok m) → IsMigrated files m
  is_migrated m h = record { text = text; read = read; found = h }

-- ---- over the text that the read handed in

module _ (old new : Entries) (text : List ℕ) (logged : new ≡ old ++ (name_of CertificateFile, text) ∷ []) (limit : length text ≤ limit_of CertificateFile) where
  abbrev texts : Entries
  texts = (name_of CertificateFile, text) ∷ []

  text_held : text_in (holding texts) CertificateFile ≡ Ok text
  text_held = held texts CertificateFile text refl limit

  from_text : (P : Files → Type 0) → P (holding texts) → FromReads migrating_order old new P
  from_text P h = record { texts = texts; logged = logged; count = 1; names = refl; found = h }

  pub text_handed : (e : MigrateStop) → IsRespelling text (Err e) → IsMigrationHanded old new (Err e)
  text_handed (stop.Unread why) h = tt
  text_handed (stop.No why) h =
      from_text (λ files. OfCertificate files (IsUnmigrated why)) (ends_at_text (holding texts) text text_held (stop.No why) h)
  text_handed (stop.Unwritten m u) h = absurd h
  text_handed stop.NoMemory h = tt

  pub migrated_handed : (m : Migrated) → IsRespelling text (Ok m) → FromReads migrating_order old new (λ files. IsMigrated files m)
  migrated_handed m h = from_text (λ files. IsMigrated files m) (is_migrated (holding texts) text text_held m h)
