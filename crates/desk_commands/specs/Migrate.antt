-- What `migrate` makes of the certificate in a folder: its text in version 2, or 3 where a lens looks at whole lines.
use Rattle.std.specs.Prelude.{◌≡◌, ◌≤◌, ◌<◌, ℕ, List, [], ◌∷◌, length, Some, Result, Ok, Err}
use Rattle.cert_text.specs.Reading.{certificate_in, version_of, version_number}
use Rattle.cert_text.specs.Spelling.{certificate_text, written_text}
use Rattle.cert_text.specs.declared.version.Version.{Version}
use Rattle.month_files.specs.FileNames.{limit_of}
use Rattle.month_files.specs.Handing.{FromReads}
use Rattle.month_files.specs.Reading.{UnreadIs, text_in}
use Rattle.month_files.specs.Writes.{IsStop}
use Rattle.month_files.specs.declared.file.File.{File}
use Rattle.month_files.specs.declared.file.File.TheVariants.{Certificate as CertificateFile}
use Rattle.month_files.specs.declared.writing.Draft.{Draft}
use Rattle.month_files.specs.declared.writing.Unwritten.{Unwritten}
use Rattle.roster_model.specs.declared.award.Certificate.{Certificate}
use Rattle.shelf.specs.Files.{Files}
use Rattle.shelf.specs.Logs.{Entries}
use Rattle.desk_commands.specs.declared.migrate_stop.Migrated.{Migrated}
use Rattle.desk_commands.specs.declared.migrate_stop.MigrateStop.{MigrateStop}
use Rattle.desk_commands.specs.declared.migrate_stop.MigrateStop.TheVariants as stop
use Rattle.desk_commands.specs.declared.migrate_stop.Unmigrated.{Unmigrated}
use Rattle.desk_commands.specs.declared.migrate_stop.Unmigrated.TheVariants as unmigrated

-- a certificate in its file, in the version in which it is written
abbrev pub new_draft : Certificate → Draft
new_draft certificate = record { file = CertificateFile; bytes = written_text certificate }

-- ---- what a text is

-- the text of a certificate in the version that its first line names, which is written within the limit of the file
pub record IsRespelt (m : Migrated) (text : List ℕ) : Type 0 where
  pub certificate : Certificate
  pub version : Version
  pub named : version_of text ≡ Some version
  pub number : m.version ≡ version_number version
  pub whole : text ≡ certificate_text version certificate
  pub read : certificate_in text ≡ Ok certificate
  pub drafts_are : m.drafts ≡ new_draft certificate ∷ []
  pub fits : length (written_text certificate) ≤ limit_of CertificateFile

-- the text of a certificate that is written beyond it
pub record IsTooLong (text : List ℕ) : Type 0 where
  pub certificate : Certificate
  pub read : certificate_in text ≡ Ok certificate
  pub long : limit_of CertificateFile < length (written_text certificate)

abbrev pub IsUnmigrated : Unmigrated → List ℕ → Type 0
IsUnmigrated (unmigrated.Certificate fault) text = certificate_in text ≡ Err fault
IsUnmigrated unmigrated.TooLong text = IsTooLong text

-- what comes of a text: of its own, and never a file that was not read or not written
abbrev pub IsRespelling : List ℕ → Result Migrated MigrateStop → Type 0
IsRespelling text (Ok m) = IsRespelt m text
IsRespelling text (Err (stop.Unread why)) = ⊥
IsRespelling text (Err (stop.No why)) = IsUnmigrated why text
IsRespelling text (Err (stop.Unwritten m u)) = ⊥
IsRespelling text (Err stop.NoMemory) = Unit {0}

-- ---- over files

-- P holds of the text of the certificate's file
pub record OfCertificate (files : Files) (P : List ℕ → Type 0) : Type 0 where
  pub text : List ℕ
  pub read : text_in files CertificateFile ≡ Ok text
  pub found : P text

abbrev pub IsMigrated : Files → Migrated → Type 0
IsMigrated files m = OfCertificate files (IsRespelt m)

-- this was to be written, and was not
pub record IsUnwritten (files : Files) (m : Migrated) (u : Unwritten) : Type 0 where
  pub found : IsMigrated files m
  pub stopped : IsStop m.drafts u

abbrev pub IsMigration : Files → Result Migrated MigrateStop → Type 0
IsMigration files (Ok m) = IsMigrated files m
IsMigration files (Err (stop.Unread why)) = UnreadIs why (text_in files CertificateFile)
IsMigration files (Err (stop.No why)) = OfCertificate files (IsUnmigrated why)
IsMigration files (Err (stop.Unwritten m u)) = IsUnwritten files m u
IsMigration files (Err stop.NoMemory) = Unit {0}

-- ---- of the text that the read handed in, be files told or not

-- the file that `migrate` reads
abbrev pub migrating_order : List File
migrating_order = CertificateFile ∷ []

-- where it was not read, or memory was wanting, nothing is said
abbrev pub IsMigrationHanded : Entries → Entries → Result Migrated MigrateStop → Type 0
IsMigrationHanded old new (Ok m) = FromReads migrating_order old new (λ files. IsMigrated files m)
IsMigrationHanded old new (Err (stop.Unread why)) = Unit {0}
IsMigrationHanded old new (Err (stop.No why)) =
    FromReads migrating_order old new (λ files. OfCertificate files (IsUnmigrated why))
IsMigrationHanded old new (Err (stop.Unwritten m u)) =
    FromReads migrating_order old new (λ files. IsUnwritten files m u)
IsMigrationHanded old new (Err stop.NoMemory) = Unit {0}
