-- What an answer of `open` says of the files of a folder: of the month in them with vacant lines, and of what they hold
-- afterwards.
use Rattle.std.specs.Prelude.{◌≡◌, ◌≢◌, ℕ, ◌+◌, ◌<◌, ◌≤◌, List, [], codes, length, Option, None, Some}
use Rattle.shelf.specs.Files.{Files, file}
use Rattle.shelf.specs.Logs.{Entries}
use Rattle.shelf.specs.Puts.{with_piece}
use Rattle.cert_text.specs.Spelling.{written_text}
use Rattle.month_commands.specs.Award.{OfMonth}
use Rattle.month_files.specs.FileNames.{name_of, limit_of}
use Rattle.month_files.specs.Handing.{FromReads}
use Rattle.month_files.specs.declared.file.File.TheVariants.{OpenNone, OpenCertificate, OpenReasons, OpenRoster}
use Rattle.open_time.specs.declared.fault.OpenFault.{OpenFault}
use Rattle.open_time.specs.Refuted.{IsOpenAward}
use Rattle.open_time.specs.Vacant.{IsWithVacant, IsUnfilledUnder, IsUnfilledWith, NeedsVacant}
use Rattle.open_commands.specs.OpenRows.{AreOpenRows}
use Rattle.open_commands.specs.Opening.{opening_order}
use Rattle.open_commands.specs.declared.open_stop.OpenRow.{OpenRow}
use Rattle.open_commands.specs.declared.open_stop.Opening.TheVariants.{Award, NoRoster}
use Rattle.roster_model.specs.declared.award.Awarded.{Awarded}
use Rattle.roster_model.specs.declared.award.Certificate.TheVariants as form
use Rattle.roster_model.specs.declared.award.Denial.{Denial}
use Rattle.roster_model.specs.declared.problem.Problem.{Problem}
use Rattle.roster_model.specs.declared.proof.Item.{Item}
use Rattle.roster_model.specs.Awards.{no_goal}
use Rattle.roster_model.specs.Closing.{Closes}
use Rattle.roster_model.specs.Splits.{splits_in, all_splits, shown_splits}
use Rattle.roster_text.specs.ReasonText.{reasons_text}
use Rattle.roster_text.specs.RosterText.{roster_text}
use Rattle.answer_texts.specs.OpenTexts.{fault_numbers, open_lines}
use Rattle.answer_texts.specs.Lines.{line_of}
use Rattle.answer_texts.specs.declared.status.Status.{Status}
use Rattle.answer_texts.specs.declared.status.Status.TheVariants as status
use Rattle.pbs_engine.specs.AwardHeadline.{IsAwardOf, Tells, budget_line}
use Rattle.pbs_engine.specs.Ledgers.{HasLedgerWith, SpendsWith}
use Rattle.pbs_engine.specs.Rows.{HasClosed, HasShown}

-- ---- what is found

-- The award of the month with so many vacant lines: the judge accepts it with the proof that one less is not enough. So many
-- are needed, no more than were asked for, and no lesser number is enough. The roster has these scores, than which no complete
-- roster has greater ones; the rows are the pairings of its vacant lines, and who may fly each. A lawful ledger has as many
-- entries as were counted, fewer than were allowed and no fewer than the certificate has splits.
pub record IsOpenedMonth (problem made : Problem) (most nodes count entries : ℕ) (scores : List ℕ) (rows : List OpenRow)
    (below : Option (List Item)) (roster : List (List ℕ)) (reasons : List Denial) (awarded : Awarded) : Type 0 where
  pub of : IsWithVacant problem count made
  pub judged : IsOpenAward problem count below roster reasons awarded
  pub within : count ≤ most
  pub needs : NeedsVacant problem count
  pub fewest : IsUnfilledUnder problem count
  pub award : IsAwardOf made roster scores
  pub rows_are : AreOpenRows problem made roster rows
  pub ledger : HasLedgerWith problem count nodes entries
  pub room : entries < nodes
  pub splits : all_splits awarded.proofs + shown_splits awarded.shown ≤ entries

-- No number of vacant lines up to the most that were asked for is enough: the proof closes the goal that asks for nothing in
-- the month with the most. The same of a ledger.
pub record IsUnopenable (problem made : Problem) (most nodes entries : ℕ) (proof : List Item) : Type 0 where
  pub of : IsWithVacant problem most made
  pub closes : Closes made no_goal [] proof
  pub none : (count : ℕ) → count ≤ most → IsUnfilledWith problem count
  pub ledger : HasLedgerWith problem most nodes entries
  pub room : entries < nodes
  pub splits : splits_in proof ≤ entries

-- ---- what is written

-- the file of the proof that one vacant line less is not enough, which is written where there is one
abbrev pub BelowIsWritten : Files → Files → Option (List Item) → Type 0
BelowIsWritten old new None = file new (name_of OpenNone) ≡ file old (name_of OpenNone)
BelowIsWritten old new (Some proof) = file new (name_of OpenNone) ≡ Some (written_text (form.NoRoster proof))

-- all other files are as they were
abbrev pub OthersAreKept : Files → Files → Type 0
OthersAreKept old new =
    (name : List ℕ) → name ≢ name_of OpenNone → name ≢ name_of OpenCertificate → name ≢ name_of OpenReasons
    → name ≢ name_of OpenRoster → file new name ≡ file old name

-- the files hold what was found, and `opencheck` of so many vacant lines accepts them
pub record OpenIsWritten (old new : Files) (most nodes count entries : ℕ) (scores : List ℕ) (rows : List OpenRow)
    (problem : Problem) : Type 0 where
  pub made : Problem
  pub below : Option (List Item)
  pub roster : List (List ℕ)
  pub reasons : List Denial
  pub awarded : Awarded
  pub found : IsOpenedMonth problem made most nodes count entries scores rows below roster reasons awarded
  pub below_file : BelowIsWritten old new below
  pub certificate_file : file new (name_of OpenCertificate) ≡ Some (written_text (form.Award awarded))
  pub reasons_file : file new (name_of OpenReasons) ≡ Some (reasons_text made reasons)
  pub roster_file : file new (name_of OpenRoster) ≡ Some (roster_text made roster)
  pub others : OthersAreKept old new
  pub accepted : HasShown new count scores
  pub certificate_fits : length (written_text (form.Award awarded)) ≤ limit_of OpenCertificate
  pub reasons_fits : length (reasons_text made reasons) ≤ limit_of OpenReasons
  pub roster_fits : length (roster_text made roster) ≤ limit_of OpenRoster

-- the file of the proof alone
pub record UnopenableIsWritten (old new : Files) (most nodes entries : ℕ) (problem : Problem) : Type 0 where
  pub made : Problem
  pub proof : List Item
  pub found : IsUnopenable problem made most nodes entries proof
  pub proof_file : file new (name_of OpenNone) ≡ Some (written_text (form.NoRoster proof))
  pub others : (name : List ℕ) → name ≢ name_of OpenNone → file new name ≡ file old name
  pub proof_fits : length (written_text (form.NoRoster proof)) ≤ limit_of OpenNone

-- ---- at the end of a run

abbrev pub closed_line : OpenFault → List ℕ
closed_line why = line_of (codes "no open") (fault_numbers why)

pub record EndsInOpen (old : Files) (new : Option Files) (most nodes : ℕ) (before after : Option (List ℕ)) : Type 0 where
  pub count : ℕ
  pub entries : ℕ
  pub scores : List ℕ
  pub rows : List OpenRow
  pub files : Tells new (λ files. OfMonth old (OpenIsWritten old files most nodes count entries scores rows))
  pub put : after ≡ with_piece before (open_lines (Award count scores rows) entries)

pub record EndsInNoOpen (old : Files) (new : Option Files) (most nodes : ℕ) (before after : Option (List ℕ)) : Type 0 where
  pub entries : ℕ
  pub files : Tells new (λ files. OfMonth old (UnopenableIsWritten old files most nodes entries))
  pub put : after ≡ with_piece before (open_lines NoRoster entries)

-- this is the reason why so many vacant lines cannot be added
pub record EndsClosed (old : Files) (new : Option Files) (most : ℕ) (before after : Option (List ℕ)) : Type 0 where
  pub why : OpenFault
  pub closed : HasClosed old most why
  pub same : new ≡ Some old
  pub put : after ≡ with_piece before (closed_line why)

-- for one of the numbers up to the most, one less is not enough, and a lawful ledger has as many entries as were allowed
pub record EndsSpent (old : Files) (new : Option Files) (most nodes : ℕ) (before after : Option (List ℕ)) : Type 0 where
  pub month : OfMonth old (λ problem. SpendsWith problem most nodes)
  pub same : new ≡ Some old
  pub put : after ≡ with_piece before (budget_line nodes)

-- what a run of `open` with so many vacant lines at most and so many nodes says by its status
abbrev pub Opens : Files → Option Files → ℕ → ℕ → Option (List ℕ) → Option (List ℕ) → Status → Type 0
Opens old new most nodes before after status.Done = EndsInOpen old new most nodes before after
Opens old new most nodes before after status.NoRoster = EndsInNoOpen old new most nodes before after
Opens old new most nodes before after status.No = EndsClosed old new most before after
Opens old new most nodes before after status.Budget = EndsSpent old new most nodes before after
Opens old new most nodes before after status.Usage = ⊥
Opens old new most nodes before after status.BadInput = new ≡ Some old
Opens old new most nodes before after status.Missing = new ≡ Some old
Opens old new most nodes before after status.ReadFault = new ≡ Some old
Opens old new most nodes before after status.TooLong = new ≡ Some old
Opens old new most nodes before after status.WriteFault = Unit {0}
Opens old new most nodes before after status.NoMemory = Unit {0}

-- ---- of the texts that reads handed in, be files told or not

-- what is found, of a month
pub record HasOpenedMonth (most nodes count entries : ℕ) (scores : List ℕ) (rows : List OpenRow) (problem : Problem) : Type 0 where
  pub made : Problem
  pub below : Option (List Item)
  pub roster : List (List ℕ)
  pub reasons : List Denial
  pub awarded : Awarded
  pub found : IsOpenedMonth problem made most nodes count entries scores rows below roster reasons awarded

abbrev pub HasUnopenable : ℕ → ℕ → ℕ → Problem → Type 0
HasUnopenable most nodes entries problem =
    (made : Problem) × (proof : List Item) × IsUnopenable problem made most nodes entries proof

pub record ReadsOpen (old new : Entries) (most nodes : ℕ) (before after : Option (List ℕ)) : Type 0 where
  pub count : ℕ
  pub entries : ℕ
  pub scores : List ℕ
  pub rows : List OpenRow
  pub month : FromReads opening_order old new (λ files. OfMonth files (HasOpenedMonth most nodes count entries scores rows))
  pub put : after ≡ with_piece before (open_lines (Award count scores rows) entries)

pub record ReadsNoOpen (old new : Entries) (most nodes : ℕ) (before after : Option (List ℕ)) : Type 0 where
  pub entries : ℕ
  pub month : FromReads opening_order old new (λ files. OfMonth files (HasUnopenable most nodes entries))
  pub put : after ≡ with_piece before (open_lines NoRoster entries)

pub record ReadsClosed (old new : Entries) (most : ℕ) (before after : Option (List ℕ)) : Type 0 where
  pub why : OpenFault
  pub closed : FromReads opening_order old new (λ files. HasClosed files most why)
  pub put : after ≡ with_piece before (closed_line why)

pub record ReadsSpent (old new : Entries) (most nodes : ℕ) (before after : Option (List ℕ)) : Type 0 where
  pub month : FromReads opening_order old new (λ files. OfMonth files (λ problem. SpendsWith problem most nodes))
  pub put : after ≡ with_piece before (budget_line nodes)

abbrev pub OpensRead : Entries → Entries → ℕ → ℕ → Option (List ℕ) → Option (List ℕ) → Status → Type 0
OpensRead old new most nodes before after status.Done = ReadsOpen old new most nodes before after
OpensRead old new most nodes before after status.NoRoster = ReadsNoOpen old new most nodes before after
OpensRead old new most nodes before after status.No = ReadsClosed old new most before after
OpensRead old new most nodes before after status.Budget = ReadsSpent old new most nodes before after
OpensRead old new most nodes before after status.Usage = ⊥
OpensRead old new most nodes before after status.BadInput = Unit {0}
OpensRead old new most nodes before after status.Missing = Unit {0}
OpensRead old new most nodes before after status.ReadFault = Unit {0}
OpensRead old new most nodes before after status.TooLong = Unit {0}
OpensRead old new most nodes before after status.WriteFault = Unit {0}
OpensRead old new most nodes before after status.NoMemory = Unit {0}
