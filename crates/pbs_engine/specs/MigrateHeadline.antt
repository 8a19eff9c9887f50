-- What an answer of `migrate` says of the certificate's file before and after it.
use Rattle.std.specs.Prelude.{◌≡◌, ◌≢◌, ◌≤◌, ℕ, List, length, Option, Some, Ok}
use Rattle.shelf.specs.Files.{Files, file}
use Rattle.shelf.specs.Logs.{Entries}
use Rattle.shelf.specs.Puts.{with_piece}
use Rattle.cert_text.specs.Reading.{certificate_in, version_of, version_number}
use Rattle.cert_text.specs.Spelling.{certificate_text, written_text}
use Rattle.cert_text.specs.declared.version.Version.{Version}
use Rattle.desk_commands.specs.Migrate.{OfCertificate, IsUnmigrated, migrating_order}
use Rattle.desk_commands.specs.declared.migrate_stop.Unmigrated.{Unmigrated}
use Rattle.month_files.specs.FileNames.{name_of, limit_of}
use Rattle.month_files.specs.Handing.{FromReads}
use Rattle.month_files.specs.declared.file.File.TheVariants.{Certificate as CertificateFile}
use Rattle.roster_model.specs.declared.award.Certificate.{Certificate}
use Rattle.answer_texts.specs.MigrateTexts.{migrated_line, unmigrated_text}
use Rattle.answer_texts.specs.declared.status.Status.{Status}
use Rattle.answer_texts.specs.declared.status.Status.TheVariants as status
use Rattle.pbs_engine.specs.AwardHeadline.{Tells}

-- the text is that of the certificate in the version of this number, which its first line names
pub record IsSpelt (text : List ℕ) (number : ℕ) (certificate : Certificate) : Type 0 where
  pub version : Version
  pub named : version_of text ≡ Some version
  pub number_is : number ≡ version_number version
  pub whole : text ≡ certificate_text version certificate
  pub read : certificate_in text ≡ Ok certificate

-- the certificate's file is the text of a certificate in the version of this number, which can say it, and the text in
-- which that certificate is written is within the file's limit
pub record HasCertificate (files : Files) (number : ℕ) : Type 0 where
  pub text : List ℕ
  pub there : file files (name_of CertificateFile) ≡ Some text
  pub certificate : Certificate
  pub spelt : IsSpelt text number certificate
  pub fits : length (written_text certificate) ≤ limit_of CertificateFile

-- it is now that certificate's text of version 2, or 3 where a lens looks at whole lines, and each other file is as before
pub record CertificateIsWritten (old new : Files) (number : ℕ) : Type 0 where
  pub before : HasCertificate old number
  pub certificate_file : file new (name_of CertificateFile) ≡ Some (written_text before.certificate)
  pub others : (name : List ℕ) → name ≢ name_of CertificateFile → file new name ≡ file old name

pub record EndsMigrated (old : Files) (new : Option Files) (before after : Option (List ℕ)) : Type 0 where
  pub number : ℕ
  pub files : Tells new (λ files. CertificateIsWritten old files number)
  pub put : after ≡ with_piece before (migrated_line number)

-- the file is no certificate's text, or the one to be written would be longer than the file may be
pub record EndsUnmigrated (old : Files) (new : Option Files) (before after : Option (List ℕ)) : Type 0 where
  pub why : Unmigrated
  pub unmigrated : OfCertificate old (IsUnmigrated why)
  pub same : new ≡ Some old
  pub put : after ≡ with_piece before (unmigrated_text why)

-- what a run of `migrate` says by its status
abbrev pub Migrates : Files → Option Files → Option (List ℕ) → Option (List ℕ) → Status → Type 0
Migrates old new before after status.Done = EndsMigrated old new before after
Migrates old new before after status.No = EndsUnmigrated old new before after
Migrates old new before after status.Usage = ⊥
Migrates old new before after status.NoRoster = ⊥
Migrates old new before after status.Budget = ⊥
Migrates old new before after status.BadInput = ⊥
Migrates old new before after status.Missing = new ≡ Some old
Migrates old new before after status.ReadFault = new ≡ Some old
Migrates old new before after status.TooLong = new ≡ Some old
Migrates old new before after status.WriteFault = Unit {0}
Migrates old new before after status.NoMemory = Unit {0}

-- ---- of the text that the read handed in, be files told or not

pub record ReadsMigrated (old new : Entries) (before after : Option (List ℕ)) : Type 0 where
  pub number : ℕ
  pub found : FromReads migrating_order old new (λ files. HasCertificate files number)
  pub put : after ≡ with_piece before (migrated_line number)

pub record ReadsUnmigrated (old new : Entries) (before after : Option (List ℕ)) : Type 0 where
  pub why : Unmigrated
  pub unmigrated : FromReads migrating_order old new (λ files. OfCertificate files (IsUnmigrated why))
  pub put : after ≡ with_piece before (unmigrated_text why)

abbrev pub MigratesRead : Entries → Entries → Option (List ℕ) → Option (List ℕ) → Status → Type 0
MigratesRead old new before after status.Done = ReadsMigrated old new before after
MigratesRead old new before after status.No = ReadsUnmigrated old new before after
MigratesRead old new before after status.Usage = ⊥
MigratesRead old new before after status.NoRoster = ⊥
MigratesRead old new before after status.Budget = ⊥
MigratesRead old new before after status.BadInput = ⊥
MigratesRead old new before after status.Missing = Unit {0}
MigratesRead old new before after status.ReadFault = Unit {0}
MigratesRead old new before after status.TooLong = Unit {0}
MigratesRead old new before after status.WriteFault = Unit {0}
MigratesRead old new before after status.NoMemory = Unit {0}
