-- What an end of `migrate` says of the certificate's file, told or handed in.
use Rattle.std.proofs.Common.{◌≡◌, ℕ, List, map, Option, Some, Result, Ok, Err, sym, ap, subst, ◌∙◌}
use Rattle.std.specs.FinMap.{insert}
use Rattle.shelf.specs.Files.{Files, file}
use Rattle.shelf.specs.Logs.{Entries}
use Rattle.shelf.specs.Puts.{with_piece}
use Rattle.cert_text.specs.Spelling.{written_text}
use Rattle.command_words.specs.declared.command.Command.{Command}
use Rattle.command_words.specs.declared.command.Command.TheVariants as command
use Rattle.desk_commands.specs.Migrate.{IsMigrated, IsMigration, IsMigrationHanded, migrating_order}
use Rattle.desk_commands.specs.MigrateEnds.{migrate_written}
use Rattle.desk_commands.specs.declared.migrate_stop.Migrated.{Migrated}
use Rattle.desk_commands.specs.declared.migrate_stop.MigrateStop.{MigrateStop}
use Rattle.desk_commands.specs.declared.migrate_stop.MigrateStop.TheVariants as stop
use Rattle.month_files.specs.FileNames.{name_of}
use Rattle.month_files.specs.Writes.{Leaves, named_bytes, with_files, written}
use Rattle.month_files.specs.declared.file.File.TheVariants.{Certificate as CertificateFile}
use Rattle.month_files.specs.declared.unread.Unread.TheVariants as unread
use Rattle.month_files.specs.declared.writing.Draft.{Draft}
use Rattle.month_files.specs.declared.writing.WriteStop.{WriteStop}
use Rattle.month_files.specs.declared.writing.WriteStop.TheVariants as write
use Rattle.answer_texts.specs.MigrateTexts.{migrate_status, migrate_text}
use Rattle.answer_texts.specs.WriteEnds.{write_status}
use Rattle.answer_texts.specs.declared.status.Status.{Status}
use Rattle.pbs_engine.specs.AwardHeadline.{Tells}
use Rattle.pbs_engine.specs.MigrateHeadline.{HasCertificate, CertificateIsWritten, Migrates, MigratesRead}
use Rattle.pbs_engine.specs.Outcomes.{status_of, text_of, written_by, IsRight, IsHandedIn}
use Rattle.pbs_engine.specs.Runs.{Shelved, Sunk, ComesTo, Says}
use Rattle.pbs_engine.specs.declared.outcome.Outcome.{Outcome}
use Rattle.pbs_engine.specs.declared.outcome.Outcome.TheVariants as outcome
use Rattle.pbs_engine.proofs.Answering.{of_migrate, said_by, on_reads}
use Rattle.pbs_engine.proofs.AwardStanding.{other_file, certificate_stands}
use Rattle.pbs_engine.proofs.Standing.{there}

abbrev has_certificate : (files : Files) (m : Migrated) → IsMigrated files m → HasCertificate files m.version
has_certificate files m h = record {
  text = h.text;
  there = there CertificateFile (file files (name_of CertificateFile)) h.text h.read;
  certificate = h.found.certificate;
  spelt = record { version = h.found.version; named = h.found.named; number_is = h.found.number; whole = h.found.whole; read = h.found.read };
  fits = h.found.fits;
}

certificate_left : (old : Files) (new : Option Files) (m : Migrated) → IsMigrated old m → Leaves (Some old) new (written m.drafts (Ok tt))
    → Tells new (λ files. CertificateIsWritten old files m.version)
certificate_left old new m h left =
    let bytes : List ℕ = written_text h.found.certificate in
    record {
      files = insert old (name_of CertificateFile) bytes;
      told = left ∙ ap (λ (ds : List Draft). with_files (Some old) (map named_bytes ds)) h.found.drafts_are;
      found = record {
        before = has_certificate old m h;
        certificate_file = certificate_stands old bytes;
        others = λ name apart. other_file old (name_of CertificateFile) bytes name apart;
      };
    }

unwritten_migrates : (old : Files) (new : Option Files) (why : WriteStop) (before after : Option (List ℕ)) → Migrates old new before after (write_status why)
unwritten_migrates old new write.Fault before after = tt
unwritten_migrates old new write.NoMemory before after = tt

end_migrates : (old : Files) (new : Option Files) (end : Result Migrated MigrateStop) → IsMigration old end → Leaves (Some old) new (migrate_written end) → (before after : Option (List ℕ))
    → after ≡ with_piece before (migrate_text end) → Migrates old new before after (migrate_status end)
end_migrates old new (Ok m) right left before after put = record { number = m.version; files = certificate_left old new m right left; put = put }
end_migrates old new (Err (stop.Unread (unread.Missing f))) right left before after put = left
end_migrates old new (Err (stop.Unread (unread.ReadFault f))) right left before after put = left
end_migrates old new (Err (stop.Unread (unread.TooLong f))) right left before after put = left
end_migrates old new (Err (stop.Unread unread.NoMemory)) right left before after put = tt
end_migrates old new (Err (stop.No why)) right left before after put = record { why = why; unmigrated = right; same = left; put = put }
end_migrates old new (Err (stop.Unwritten m u)) right left before after put = unwritten_migrates old new u.why before after
end_migrates old new (Err stop.NoMemory) right left before after put = tt

unwritten_read : (old new : Entries) (why : WriteStop) (before after : Option (List ℕ)) → MigratesRead old new before after (write_status why)
unwritten_read old new write.Fault before after = tt
unwritten_read old new write.NoMemory before after = tt

end_read : (old new : Entries) (end : Result Migrated MigrateStop) → IsMigrationHanded old new end → (before after : Option (List ℕ))
    → after ≡ with_piece before (migrate_text end) → MigratesRead old new before after (migrate_status end)
end_read old new (Ok m) read before after put = record {
  number = m.version;
  found = on_reads migrating_order old new _ _ read (λ files h. has_certificate files m h);
  put = put;
}
end_read old new (Err (stop.Unread (unread.Missing f))) read before after put = tt
end_read old new (Err (stop.Unread (unread.ReadFault f))) read before after put = tt
end_read old new (Err (stop.Unread (unread.TooLong f))) read before after put = tt
end_read old new (Err (stop.Unread unread.NoMemory)) read before after put = tt
end_read old new (Err (stop.No why)) read before after put = record { why = why; unmigrated = read; put = put }
end_read old new (Err (stop.Unwritten m u)) read before after put = unwritten_read old new u.why before after
end_read old new (Err stop.NoMemory) read before after put = tt

module _ (c : Option Command) (files : Files) (at to : Shelved) (before after : Sunk) where
  whole : (o : Outcome) (end : Result Migrated MigrateStop) → o ≡ outcome.Migrate end → IsRight files o → Leaves (Some files) to.files (written_by o)
      → after.bytes ≡ with_piece before.bytes (text_of o) → Migrates files to.files before.bytes after.bytes (status_of o)
  whole o end e =
      subst (λ (x : Outcome). IsRight files x → Leaves (Some files) to.files (written_by x) → after.bytes ≡ with_piece before.bytes (text_of x)
      → Migrates files to.files before.bytes after.bytes (status_of x)) (sym e)
      (λ right left put. end_migrates files to.files end right left before.bytes after.bytes put)

  pub run_migrates : (o : Outcome) (result : Status) → ComesTo c at to o → at.files ≡ Some files → c ≡ Some command.Migrate
      → Says o before after result → Migrates files to.files before.bytes after.bytes result
  run_migrates o result comes told asked says =
      let t = of_migrate o (sym comes.asked ∙ asked) in
      said_by (λ (s : Status). Migrates files to.files before.bytes after.bytes s) o before after result tt tt
      (whole o t.0 t.1 (comes.right files told) (subst (λ (held : Option Files). Leaves held to.files (written_by o)) told comes.left)) says

module _ (c : Option Command) (at to : Shelved) (before after : Sunk) where
  whole_read : (o : Outcome) (end : Result Migrated MigrateStop) → o ≡ outcome.Migrate end → IsHandedIn at.log to.log o
      → after.bytes ≡ with_piece before.bytes (text_of o) → MigratesRead at.log to.log before.bytes after.bytes (status_of o)
  whole_read o end e =
      subst (λ (x : Outcome). IsHandedIn at.log to.log x → after.bytes ≡ with_piece before.bytes (text_of x)
      → MigratesRead at.log to.log before.bytes after.bytes (status_of x)) (sym e)
      (λ read put. end_read at.log to.log end read before.bytes after.bytes put)

  pub run_migrates_read : (o : Outcome) (result : Status) → ComesTo c at to o → c ≡ Some command.Migrate
      → Says o before after result → MigratesRead at.log to.log before.bytes after.bytes result
  run_migrates_read o result comes asked says =
      let t = of_migrate o (sym comes.asked ∙ asked) in
      said_by (λ (s : Status). MigratesRead at.log to.log before.bytes after.bytes s) o before after result tt tt
      (whole_read o t.0 t.1 comes.handed) says
