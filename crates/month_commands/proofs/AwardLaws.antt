-- How `award` ends, from what its stages answer.
use Rattle.std.proofs.Common.{◌≡◌, ℕ, ◌≤◌, List, [], ◌∷◌, ◌++◌, length, get_or, Option, Some, Ok, Err, refl, sym, subst}
use Rattle.std.specs.Prelude.{All, slice_get}
use Rattle.std.specs.List.{AllByRecursion}
use Rattle.std.proofs.lemmas.List.Elements.{All-from_get_or, All-head, All-tail}
use Rattle.std.proofs.lemmas.Option.{slice_get-get_or}
use Rattle.shelf.specs.Files.{Files}
use Rattle.shelf.specs.Logs.{Entries, holding}
use Rattle.shelf.specs.declared.tally.Tally.{Tally}
use Rattle.roster_model.specs.declared.award.Awarded.{Awarded}
use Rattle.roster_model.specs.declared.award.Cause.TheVariants.{Tie}
use Rattle.roster_model.specs.declared.award.Denial.{Denial}
use Rattle.roster_model.specs.declared.problem.Problem.{Problem}
use Rattle.roster_model.specs.Denials.{IsAwarded, place_of}
use Rattle.roster_model.specs.Goals.{IsBidOf}
use Rattle.roster_text.specs.ReasonText.{IsReason}
use Rattle.month_files.specs.declared.fault.BadInput.{BadInput}
use Rattle.month_files.specs.declared.fault.BadInput.TheVariants as bad
use Rattle.month_files.specs.Handing.{FromReads, input_texts}
use Rattle.month_files.specs.Months.{Names, Ends}
use Rattle.month_files.specs.Reading.{Inputs, AreShort, texts_in}
use Rattle.month_commands.specs.declared.award_stop.AwardStop.{AwardStop}
use Rattle.month_commands.specs.declared.award_stop.AwardStop.TheVariants as stop
use Rattle.month_commands.specs.declared.award_stop.Finding.{Finding}
use Rattle.month_commands.specs.declared.award_stop.Miss.{Miss}
use Rattle.month_commands.specs.declared.award_stop.Miss.TheVariants as miss
use Rattle.month_files.specs.declared.writing.Unwritten.{Unwritten}
use Rattle.month_commands.specs.Award.{IsFinding, IsFound, IsBadMonth, OfMonth, SpendsBudget, IsAward, IsAwardHanded, awarding_order}
use Rattle.month_commands.specs.AwardEnds.{miss_stop}
use Rattle.month_commands.specs.AwardEnds.{AwardCause, award_written}
use Rattle.month_files.specs.Writes.{Leaves, IsStop}
use Rattle.month_commands.proofs.HandedLaws.{inputs_held}

-- ---- a search that ends with nothing found

pub miss_cause : (at : Tally) (m : Miss) → AwardCause at at (Err (miss_stop m))
miss_cause at (miss.Budget ledger) = refl
miss_cause at miss.NoMemory = refl

pub miss_left : (old new : Option Files) (m : Miss) → new ≡ old → Leaves old new (award_written (Err (miss_stop m)))
miss_left old new (miss.Budget ledger) same = same
miss_left old new miss.NoMemory same = same

-- ---- over files whose inputs are read

module _ (files : Files) (nodes : ℕ) (inputs : Inputs) (read : texts_in files ≡ Ok inputs) where
  pub bad_month : (why : BadInput) → Ends {X = Problem} (Names inputs) inputs (Err why) → IsBadMonth files why
  bad_month (bad.Fault fault) h = record { inputs = inputs; read = read; bad = h }
  bad_month bad.NoMemory h = tt

  module _ (problem : Problem) (names : Names inputs problem) where
    pub finds_nothing : (m : Miss) → IsFinding problem nodes (Err m) → IsAward files nodes (Err (miss_stop m))
    finds_nothing (miss.Budget ledger) h = record { inputs = inputs; read = read; problem = problem; names = names; found = h }
    finds_nothing miss.NoMemory h = tt

    pub is_found : (f : Finding) → IsFinding problem nodes (Ok f) → IsFound files nodes f
    is_found f h = record { inputs = inputs; read = read; problem = problem; names = names; found = h }

pub on_month : (files : Files) (P Q : Problem → Type 0) → OfMonth files P → ((problem : Problem) → P problem → Q problem) → OfMonth files Q
on_month files P Q month f = record { inputs = month.inputs; read = month.read; problem = month.problem; names = month.names; found = f month.problem month.found }

-- ---- over the texts that reads handed in

pub on_texts : (old new : Entries) (P Q : Files → Type 0) → FromReads awarding_order old new P → ((files : Files) → P files → Q files) → FromReads awarding_order old new Q
on_texts old new P Q h f = record { texts = h.texts; logged = h.logged; count = h.count; names = h.names; found = f (holding h.texts) h.found }

module _ (old new : Entries) (nodes : ℕ) (inputs : Inputs) (logged : new ≡ old ++ input_texts inputs) (short : AreShort inputs) where
  held : texts_in (holding (input_texts inputs)) ≡ Ok inputs
  held = inputs_held inputs [] short

  from_inputs : (P : Files → Type 0) → P (holding (input_texts inputs)) → FromReads awarding_order old new P
  from_inputs P h = record { texts = input_texts inputs; logged = logged; count = 8; names = refl; found = h }

  pub bad_month_handed : (why : BadInput) → Ends {X = Problem} (Names inputs) inputs (Err why) → IsAwardHanded old new nodes (Err (stop.BadInput why))
  bad_month_handed why h = from_inputs (λ files. IsBadMonth files why) (bad_month (holding (input_texts inputs)) nodes inputs held why h)

  module _ (problem : Problem) (names : Names inputs problem) where
    pub nothing_handed : (m : Miss) → IsFinding problem nodes (Err m) → IsAwardHanded old new nodes (Err (miss_stop m))
    nothing_handed (miss.Budget ledger) h =
        from_inputs (λ files. OfMonth files (λ p. SpendsBudget p nodes ledger)) (finds_nothing (holding (input_texts inputs)) nodes inputs held problem names (miss.Budget ledger) h)
    nothing_handed miss.NoMemory h = tt

    pub found_handed : (f : Finding) → IsFinding problem nodes (Ok f) → FromReads awarding_order old new (λ files. IsFound files nodes f)
    found_handed f h = from_inputs (λ files. IsFound files nodes f) (is_found (holding (input_texts inputs)) nodes inputs held problem names f h)

-- a file was not written
pub unwritten_handed : (old new log : Entries) (nodes : ℕ) (f : Finding) (u : Unwritten) → log ≡ new → IsStop f.drafts u → FromReads awarding_order old new (λ files. IsFound files nodes f)
    → IsAwardHanded old log nodes (Err (stop.Unwritten f u))
unwritten_handed old new log nodes f u same stopped h =
    subst (λ (l : Entries). IsAwardHanded old l nodes (Err (stop.Unwritten f u))) (sym same)
    (on_texts old new (λ files. IsFound files nodes f) _ h (λ files found. record { found = found; stopped = stopped }))

-- ---- what is said of each reason

pub all_read : {A : Type 0} (P : A → Type 0) (xs : List A) (d : A) → ((at : ℕ) (x : A) → slice_get xs at ≡ Some x → P x) → All P xs
all_read P xs d h = All-from_get_or P xs d (λ i lt. h i (get_or xs i d) (slice_get-get_or xs i d lt))

pub each_reason : (problem : Problem) (reasons : List Denial) → All (λ d. IsBidOf problem d.bid) reasons → All (λ d. place_of d.cause ≤ length problem.base.members) reasons
    → AllByRecursion (IsReason problem) reasons
each_reason problem [] bids places = tt
each_reason problem (d ∷ ds) bids places = (
  record {
    bid = All-head (λ (x : Denial). IsBidOf problem x.bid) d ds bids;
    place = All-head (λ (x : Denial). place_of x.cause ≤ length problem.base.members) d ds places;
  },
  each_reason problem ds (All-tail (λ (x : Denial). IsBidOf problem x.bid) d ds bids) (All-tail (λ (x : Denial). place_of x.cause ≤ length problem.base.members) d ds places),
)

no_denial : Denial
no_denial = record { bid = record { member = 0; bid = 0 }; cause = Tie }

pub known_bids : (problem : Problem) (roster : List (List ℕ)) (reasons : List Denial) (awarded : Awarded) → IsAwarded problem roster reasons awarded → All (λ d. IsBidOf problem d.bid) reasons
known_bids problem roster reasons awarded h = all_read (λ (d : Denial). IsBidOf problem d.bid) reasons no_denial h.denials.listed.bids

pub known_places : (problem : Problem) (roster : List (List ℕ)) (reasons : List Denial) (awarded : Awarded) → IsAwarded problem roster reasons awarded
    → All (λ d. place_of d.cause ≤ length problem.base.members) reasons
known_places problem roster reasons awarded h = all_read (λ (d : Denial). place_of d.cause ≤ length problem.base.members) reasons no_denial h.denials.places
