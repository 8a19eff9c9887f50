-- What an answer of `opencheck` says of the files of a folder.
use Rattle.std.specs.Prelude.{◌≡◌, ℕ, List, Option, None, Some, Ok, true}
use Rattle.shelf.specs.Files.{Files, file}
use Rattle.shelf.specs.Logs.{Entries}
use Rattle.shelf.specs.Puts.{with_piece}
use Rattle.cert_text.specs.Limits.{is_sayable}
use Rattle.cert_text.specs.Spelling.{certificate_text}
use Rattle.cert_text.specs.declared.version.Version.{Version}
use Rattle.month_files.specs.FileNames.{name_of}
use Rattle.month_files.specs.Handing.{FromReads}
use Rattle.month_files.specs.Months.{Names}
use Rattle.month_files.specs.Reading.{Inputs, texts_in}
use Rattle.month_files.specs.declared.file.File.TheVariants.{OpenNone, OpenCertificate, OpenReasons, OpenRoster}
use Rattle.open_time.specs.Refuted.{IsOpenAward}
use Rattle.open_time.specs.Vacant.{IsWithVacant, IsUnfilledUnder, NeedsVacant}
use Rattle.open_commands.specs.OpenChecking.{checking_order}
use Rattle.open_commands.specs.declared.open_check_stop.Unopened.{Unopened}
use Rattle.roster_model.specs.declared.award.Awarded.{Awarded}
use Rattle.roster_model.specs.declared.award.Certificate.TheVariants.{Award, NoRoster}
use Rattle.roster_model.specs.declared.award.Denial.{Denial}
use Rattle.roster_model.specs.declared.problem.Problem.{Problem}
use Rattle.roster_model.specs.declared.proof.Item.{Item}
use Rattle.roster_text.specs.ReasonText.{reasons_text}
use Rattle.roster_text.specs.RosterText.{roster_text}
use Rattle.answer_texts.specs.OpenCheckTexts.{opened_text, unopened_text}
use Rattle.answer_texts.specs.declared.status.Status.{Status}
use Rattle.answer_texts.specs.declared.status.Status.TheVariants as status
use Rattle.pbs_engine.specs.AwardHeadline.{IsAwardOf}
use Rattle.pbs_engine.specs.Rows.{HasUnopened}

-- the file of the proof that one vacant line less is not enough, which is read where there is one
abbrev pub BelowIsRead : Files → Option (List Item) → Type 0
BelowIsRead files None = Unit {0}
BelowIsRead files (Some proof) =
    (version : Version) × (file files (name_of OpenNone) ≡ Some (certificate_text version (NoRoster proof)))
    × (is_sayable version (NoRoster proof) ≡ true)

-- The eight inputs name a problem, and the roster's file is the text of a roster of its month with so many vacant lines. So
-- many are needed, and no lesser number is enough. The roster is complete, these are its scores, and no complete roster of
-- that month has greater ones. The judge accepts what the files show of it.
pub record OpenStands (files : Files) (count : ℕ) (scores : List ℕ) : Type 0 where
  pub inputs : Inputs
  pub read : texts_in files ≡ Ok inputs
  pub problem : Problem
  pub names : Names inputs problem
  pub made : Problem
  pub of : IsWithVacant problem count made
  pub needs : NeedsVacant problem count
  pub fewest : IsUnfilledUnder problem count
  pub roster : List (List ℕ)
  pub roster_file : file files (name_of OpenRoster) ≡ Some (roster_text made roster)
  pub award : IsAwardOf made roster scores
  pub below : Option (List Item)
  pub below_file : BelowIsRead files below
  pub awarded : Awarded
  pub version : Version
  pub certificate_file : file files (name_of OpenCertificate) ≡ Some (certificate_text version (Award awarded))
  pub sayable : is_sayable version (Award awarded) ≡ true
  pub reasons : List Denial
  pub reasons_file : file files (name_of OpenReasons) ≡ Some (reasons_text made reasons)
  pub judged : IsOpenAward problem count below roster reasons awarded

-- ---- at the end of a run

pub record EndsInYes (files : Files) (count : ℕ) (before after : Option (List ℕ)) : Type 0 where
  pub scores : List ℕ
  pub stands : OpenStands files count scores
  pub put : after ≡ with_piece before (opened_text count scores)

-- this is the first of the reasons for a no
pub record EndsInNo (files : Files) (count : ℕ) (before after : Option (List ℕ)) : Type 0 where
  pub why : Unopened
  pub unopened : HasUnopened files count why
  pub put : after ≡ with_piece before (unopened_text why)

-- what a run of `opencheck` of so many vacant lines says by its status
abbrev pub OpenChecks : Files → ℕ → Option (List ℕ) → Option (List ℕ) → Status → Type 0
OpenChecks files count before after status.Done = EndsInYes files count before after
OpenChecks files count before after status.No = EndsInNo files count before after
OpenChecks files count before after status.Usage = ⊥
OpenChecks files count before after status.NoRoster = ⊥
OpenChecks files count before after status.Budget = ⊥
OpenChecks files count before after status.BadInput = Unit {0}
OpenChecks files count before after status.Missing = Unit {0}
OpenChecks files count before after status.ReadFault = Unit {0}
OpenChecks files count before after status.TooLong = Unit {0}
OpenChecks files count before after status.WriteFault = Unit {0}
OpenChecks files count before after status.NoMemory = Unit {0}

-- ---- of the texts that reads handed in, be files told or not

pub record ReadsYes (old new : Entries) (count : ℕ) (before after : Option (List ℕ)) : Type 0 where
  pub scores : List ℕ
  pub stands : FromReads (checking_order count) old new (λ files. OpenStands files count scores)
  pub put : after ≡ with_piece before (opened_text count scores)

pub record ReadsNo (old new : Entries) (count : ℕ) (before after : Option (List ℕ)) : Type 0 where
  pub why : Unopened
  pub unopened : FromReads (checking_order count) old new (λ files. HasUnopened files count why)
  pub put : after ≡ with_piece before (unopened_text why)

abbrev pub OpenChecksRead : Entries → Entries → ℕ → Option (List ℕ) → Option (List ℕ) → Status → Type 0
OpenChecksRead old new count before after status.Done = ReadsYes old new count before after
OpenChecksRead old new count before after status.No = ReadsNo old new count before after
OpenChecksRead old new count before after status.Usage = ⊥
OpenChecksRead old new count before after status.NoRoster = ⊥
OpenChecksRead old new count before after status.Budget = ⊥
OpenChecksRead old new count before after status.BadInput = Unit {0}
OpenChecksRead old new count before after status.Missing = Unit {0}
OpenChecksRead old new count before after status.ReadFault = Unit {0}
OpenChecksRead old new count before after status.TooLong = Unit {0}
OpenChecksRead old new count before after status.WriteFault = Unit {0}
OpenChecksRead old new count before after status.NoMemory = Unit {0}
