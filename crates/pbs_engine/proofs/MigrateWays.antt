-- The certificate's file has `migrate` end in one way, where nothing fails and memory is there.
use Rattle.std.proofs.Common.{◌≡◌, ℕ, ◌<◌, ◌≤◌, List, length, Ok, Err, inl, inr, refl, sym, ◌∙◌, arith}
use Rattle.std.specs.Prelude.{◌⊎◌}
use Rattle.shelf.specs.Files.{Files}
use Rattle.cert_text.specs.Reading.{certificate_in}
use Rattle.cert_text.specs.Spelling.{written_text}
use Rattle.cert_text.specs.declared.fault.CertFault.{CertFault}
use Rattle.desk_commands.specs.Migrate.{OfCertificate, IsMigrated, IsUnmigrated}
use Rattle.desk_commands.specs.declared.migrate_stop.Migrated.{Migrated}
use Rattle.desk_commands.specs.declared.migrate_stop.Unmigrated.{Unmigrated}
use Rattle.desk_commands.specs.declared.migrate_stop.Unmigrated.TheVariants as unmigrated
use Rattle.month_files.specs.FileNames.{limit_of}
use Rattle.month_files.specs.Reading.{text_in}
use Rattle.month_files.specs.declared.file.File.TheVariants.{Certificate as CertificateFile}
use Rattle.month_files.specs.declared.unread.Unread.{Unread}
use Rattle.roster_model.specs.declared.award.Certificate.{Certificate}
use Rattle.answer_texts.specs.MonthEnds.{unread_status}
use Rattle.answer_texts.specs.declared.status.Status.{Status}
use Rattle.answer_texts.specs.declared.status.Status.TheVariants as status
use Rattle.pbs_engine.proofs.OneAnswer.{By, IsOne, one_is, one_by, enter, leave}

-- the text to be written is within the limit, or not
abbrev AfterCertificate : Certificate → Status → Type 0
AfterCertificate certificate s =
    ((length (written_text certificate) ≤ limit_of CertificateFile) × (s ≡ status.Done))
    ⊎ ((limit_of CertificateFile < length (written_text certificate)) × (s ≡ status.No))

abbrev AfterText : List ℕ → Status → Type 0
AfterText text s = By (λ (fault : CertFault) u. u ≡ status.No) AfterCertificate (certificate_in text) s

abbrev pub MigratePath : Files → Status → Type 0
MigratePath files s = By (λ why u. u ≡ unread_status why) AfterText (text_in files CertificateFile) s

not_both : (a b : ℕ) → a ≤ b → b < a → ⊥
not_both a b le lt = omega (arith, le, lt)

one_certificate : (certificate : Certificate) → IsOne (AfterCertificate certificate)
one_certificate certificate s t (inl x) (inl y) = x.1 ∙ sym y.1
one_certificate certificate s t (inl x) (inr y) = absurd (not_both (length (written_text certificate)) (limit_of CertificateFile) x.0 y.0)
one_certificate certificate s t (inr x) (inl y) = absurd (not_both (length (written_text certificate)) (limit_of CertificateFile) y.0 x.0)
one_certificate certificate s t (inr x) (inr y) = x.1 ∙ sym y.1

one_text : (text : List ℕ) → IsOne (AfterText text)
one_text text = one_by (λ (fault : CertFault) u. u ≡ status.No) AfterCertificate (λ fault. one_is status.No) one_certificate (certificate_in text)

pub one_migrate : (files : Files) → IsOne (MigratePath files)
one_migrate files = one_by (λ why u. u ≡ unread_status why) AfterText (λ why. one_is (unread_status why)) one_text (text_in files CertificateFile)

module _ (files : Files) where
  text_path : (s : Status) (text : List ℕ) → text_in files CertificateFile ≡ Ok text → AfterText text s → MigratePath files s
  text_path s text read h = enter (λ why u. u ≡ unread_status why) AfterText (text_in files CertificateFile) text s read h

  certificate_path : (s : Status) (text : List ℕ) (certificate : Certificate) → text_in files CertificateFile ≡ Ok text → certificate_in text ≡ Ok certificate
      → AfterCertificate certificate s → MigratePath files s
  certificate_path s text certificate there read h =
      text_path s text there (enter (λ (fault : CertFault) u. u ≡ status.No) AfterCertificate (certificate_in text) certificate s read h)

  pub migrated_path : (m : Migrated) → IsMigrated files m → MigratePath files status.Done
  migrated_path m h = certificate_path status.Done h.text h.found.certificate h.read h.found.read (inl (h.found.fits, refl))

  pub unmigrated_path : (why : Unmigrated) → OfCertificate files (IsUnmigrated why) → MigratePath files status.No
  unmigrated_path (unmigrated.Certificate fault) h =
      text_path status.No h.text h.read (leave (λ (f : CertFault) u. u ≡ status.No) AfterCertificate (certificate_in h.text) fault status.No h.found refl)
  unmigrated_path unmigrated.TooLong h = certificate_path status.No h.text h.found.certificate h.read h.found.read (inr (h.found.long, refl))

  pub unread_certificate_path : (why : Unread) → text_in files CertificateFile ≡ Err why → MigratePath files (unread_status why)
  unread_certificate_path why h = leave (λ w u. u ≡ unread_status w) AfterText (text_in files CertificateFile) why (unread_status why) h refl
