-- What a certificate is written as.
use Rattle.std.proofs.Common.{◌≡◌, ◌≤◌, ℕ, true, List, [], ◌∷◌, length, Option, Some, None, refl, sym}
use Rattle.std.specs.Prelude.{MatchOption, Ok}
use Rattle.std.specs.Option.{option_map}
use Rattle.cert_text.specs.Limits.{is_sayable}
use Rattle.cert_text.specs.Reading.{certificate_in, version_of, version_number, IsTextOf}
use Rattle.cert_text.specs.Spelling.{certificate_text, written_text}
use Rattle.cert_text.specs.declared.version.Version.{Version}
use Rattle.cert_text.proofs.LineLaws.{some_is}
use Rattle.desk_commands.specs.Migrate.{new_draft, IsRespelt}
use Rattle.month_files.specs.FileNames.{limit_of}
use Rattle.month_files.specs.declared.file.File.TheVariants.{Certificate as CertificateFile}
use Rattle.month_files.specs.declared.writing.Draft.{Draft}
use Rattle.roster_model.specs.declared.award.Certificate.{Certificate}

pub respelt_is : (text : List ℕ) (certificate : Certificate) (number : ℕ) (drafts : List Draft) → IsTextOf certificate text → option_map version_number (version_of text) ≡ Some number
    → certificate_in text ≡ Ok certificate → drafts ≡ new_draft certificate ∷ [] → length (written_text certificate) ≤ limit_of CertificateFile
    → IsRespelt (record { version = number; drafts = drafts }) text
respelt_is text certificate number drafts found named read drafts_are fits = by_version (version_of text) refl found named
  where
    by_version : (o : Option Version) → version_of text ≡ o → MatchOption o ⊥ (λ v. (text ≡ certificate_text v certificate) × (is_sayable v certificate ≡ true))
        → option_map version_number o ≡ Some number → IsRespelt (record { version = number; drafts = drafts }) text
    by_version None is found named = absurd found
    by_version (Some v) is found named = record {
      certificate = certificate;
      version = v;
      named = is;
      number = sym (some_is (version_number v) number named);
      whole = found.0;
      read = read;
      drafts_are = drafts_are;
      fits = fits;
    }
