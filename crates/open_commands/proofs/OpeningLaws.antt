-- How `open` ends, over files and over the texts that reads handed in, from what its stages answer.
use Rattle.std.proofs.Common.{◌≡◌, ℕ, ◌+◌, ◌<◌, ◌≤◌, zero, suc, List, [], ◌∷◌, ◌++◌, length, get_or, Option, Some, None, Ok, Err, refl, sym, ap, subst, ◌∙◌, arith, append_assoc}
use Rattle.std.specs.Prelude.{All, slice_get}
use Rattle.std.specs.Option.{ForSome}
use Rattle.std.proofs.lemmas.List.Elements.{All-from_get_or}
use Rattle.std.proofs.lemmas.Option.{slice_get-get_or, slice_get_within}
use Rattle.duty_calendar.specs.declared.member.Member.{Member}
use Rattle.shelf.specs.Files.{Files}
use Rattle.shelf.specs.Logs.{Entries, holding}
use Rattle.shelf.specs.declared.tally.Tally.{Tally}
use Rattle.roster_model.specs.declared.award.Awarded.{Awarded}
use Rattle.roster_model.specs.declared.award.Cause.TheVariants.{Tie}
use Rattle.roster_model.specs.declared.award.Certificate.TheVariants as form
use Rattle.roster_model.specs.declared.award.Denial.{Denial}
use Rattle.roster_model.specs.declared.problem.Problem.{Problem}
use Rattle.roster_model.specs.declared.proof.Item.{Item}
use Rattle.roster_model.specs.Awards.{no_goal, above_at}
use Rattle.roster_model.specs.Denials.{IsAwarded, place_of}
use Rattle.roster_model.specs.Goals.{IsBidOf}
use Rattle.roster_model.specs.Rosters.{IsComplete, scores_of}
use Rattle.roster_model.specs.Splits.{splits_of, all_splits, shown_splits}
use Rattle.branch_log.specs.Book.{Book}
use Rattle.month_award.specs.Months.{IsWritable}
use Rattle.month_award.proofs.Certificates.{award-writable, none-writable}
use Rattle.month_award.proofs.Closings.{AreTidy, closing-tidy}
use Rattle.month_award.proofs.Parts.{parts-tidy}
use Rattle.month_award.proofs.Reasons.{few-reasons}
use Rattle.month_files.specs.declared.fault.BadInput.{BadInput}
use Rattle.month_files.specs.declared.fault.BadInput.TheVariants as bad
use Rattle.month_files.specs.declared.file.File.TheVariants.{OpenNone}
use Rattle.month_files.specs.declared.writing.Draft.{Draft}
use Rattle.month_files.specs.declared.writing.Unwritten.{Unwritten}
use Rattle.month_files.specs.Handing.{FromReads, input_texts}
use Rattle.month_files.specs.Months.{Names, Ends}
use Rattle.month_files.specs.Reading.{Inputs, AreShort, texts_in}
use Rattle.month_files.specs.Writes.{Leaves, IsStop}
use Rattle.open_time.specs.Opened.{IsOpenedAward, IsOpenedNone, IsOpenedSpent}
use Rattle.open_time.specs.Refuted.{IsRefutedBelow, IsOpenAward}
use Rattle.open_time.specs.Vacant.{HasRoomFor, IsFirstTaken, IsVacantName, IsWithVacant}
use Rattle.open_time.proofs.OneMonth.{one_month}
use Rattle.open_commands.specs.declared.open_stop.OpenFinding.{OpenFinding}
use Rattle.open_commands.specs.declared.open_stop.OpenMiss.{OpenMiss}
use Rattle.open_commands.specs.declared.open_stop.OpenMiss.TheVariants as miss
use Rattle.open_commands.specs.declared.open_stop.OpenStop.TheVariants as stop
use Rattle.open_commands.specs.declared.open_stop.OpenRow.{OpenRow}
use Rattle.open_commands.specs.Opening.{FindsNone, FindsOpen, IsReadable, SaysAward, none_drafts, IsBadMonth, IsFound, IsOpen, IsOpenEnd, IsOpenHanded, IsRefused, IsSpent, OfMonth, opening_order}
use Rattle.open_commands.specs.OpeningEnds.{miss_end, OpenCause, open_written}
use Rattle.open_commands.proofs.Held.{inputs_held}

-- ---- months with vacant lines, and their rosters

pub name_free : (problem : Problem) (count member : ℕ) → IsFirstTaken problem count member → HasRoomFor problem count → ⊥
name_free problem count member h room =
    let lt = slice_get_within problem.base.members member h.has h.here in
    let at = slice_get-get_or problem.base.members member h.has lt in
    let same : get_or problem.base.members member h.has ≡ h.has = cc in
    subst (λ (m : Member). IsVacantName count m.name → ⊥) same (room.free member h.has lt) h.taken

same_default : (xs : List (List ℕ)) (k : ℕ) (a b : List ℕ) → k < length xs → get_or xs k a ≡ get_or xs k b
same_default xs k a b lt =
    let p = slice_get-get_or xs k a lt in
    let q = slice_get-get_or xs k b lt in
    cc

pub in_range : (made : Problem) (roster : List (List ℕ)) → IsComplete made roster → All (All (λ p. p < length made.base.pairings)) roster
in_range made roster complete = λ k d lt.
    subst (λ (line : List ℕ). All (λ p. p < length made.base.pairings) line) (same_default roster k [] d lt)
    (complete.legal k (omega (arith, lt, complete.lines))).in_range

-- ---- what the search found can be written

-- the accepted award of the one month with so many vacant lines
pub award_of : (problem : Problem) (count : ℕ) (below : Option (List Item)) (roster : List (List ℕ)) (reasons : List Denial) (awarded : Awarded) (made : Problem)
    → IsOpenAward problem count below roster reasons awarded → IsWithVacant problem count made → IsAwarded made roster reasons awarded
award_of problem count below roster reasons awarded made is of =
    subst (λ (p : Problem). IsAwarded p roster reasons awarded) (one_month problem count is.award.made made is.award.of of) is.award.accepted

pub writable_none : (problem : Problem) (count : ℕ) (below : Option (List Item)) → IsRefutedBelow problem count below → splits_of below ≤ 20000
    → ForSome below (λ proof. IsWritable (form.NoRoster proof))
writable_none problem zero _ is few = λ proof e. absurd (let none : None ≡ Some proof = sym is ∙ e in cc)
writable_none problem (suc less) below is few = λ proof e.
    let same : is.0 ≡ proof = (let both : Some is.0 ≡ Some proof = sym is.1 ∙ e in cc) in
    let short : splits_of (Some is.0) ≤ 20000 = subst (λ (o : Option (List Item)). splits_of o ≤ 20000) is.1 few in
    subst (λ (items : List Item). IsWritable (form.NoRoster items)) same
    (none-writable is.0 (closing-tidy is.2.made no_goal [] is.0 is.2.closes) short)

pub writable_award : (made : Problem) (roster : List (List ℕ)) (reasons : List Denial) (awarded : Awarded) → IsAwarded made roster reasons awarded
    → all_splits awarded.proofs + shown_splits awarded.shown ≤ 20000 → IsWritable (form.Award awarded)
writable_award made roster reasons awarded is few =
    let tidy : AreTidy awarded.proofs = λ k proof here. closing-tidy made (above_at (scores_of made roster) k) [] proof (is.best.places k proof here) in
    let some = few-reasons made roster reasons is.denials.listed in
    award-writable awarded.proofs awarded.shown tidy (parts-tidy made roster reasons awarded.shown is.denials)
    (omega (arith, is.best.count, made.valid.month.members_form.few)) (omega (arith, some, is.denials.count)) few

pub few_reasons : (made : Problem) (roster : List (List ℕ)) (reasons : List Denial) (awarded : Awarded) → IsAwarded made roster reasons awarded
    → length reasons ≤ 12800
few_reasons made roster reasons awarded is = few-reasons made roster reasons is.denials.listed

-- ---- what is said of each reason

all_read : {A : Type 0} (P : A → Type 0) (xs : List A) (d : A) → ((at : ℕ) (x : A) → slice_get xs at ≡ Some x → P x) → All P xs
all_read P xs d h = All-from_get_or P xs d (λ i lt. h i (get_or xs i d) (slice_get-get_or xs i d lt))

no_denial : Denial
no_denial = record { bid = record { member = 0; bid = 0 }; cause = Tie }

pub known_bids : (problem : Problem) (roster : List (List ℕ)) (reasons : List Denial) (awarded : Awarded) → IsAwarded problem roster reasons awarded → All (λ d. IsBidOf problem d.bid) reasons
known_bids problem roster reasons awarded h = all_read (λ (d : Denial). IsBidOf problem d.bid) reasons no_denial h.denials.listed.bids

pub known_places : (problem : Problem) (roster : List (List ℕ)) (reasons : List Denial) (awarded : Awarded) → IsAwarded problem roster reasons awarded
    → All (λ d. place_of d.cause ≤ length problem.base.members) reasons
known_places problem roster reasons awarded h = all_read (λ (d : Denial). place_of d.cause ≤ length problem.base.members) reasons no_denial h.denials.places

-- ---- what is said of what the search found

pub three_more : (start a b c d : List Draft) (x y z : Draft) → a ≡ start → b ≡ a ++ x ∷ [] → c ≡ b ++ y ∷ [] → d ≡ c ++ z ∷ []
    → d ≡ start ++ x ∷ y ∷ z ∷ []
three_more start a b c d x y z e f g h =
    h ∙ ap (λ (l : List Draft). l ++ z ∷ []) (g ∙ ap (λ (l : List Draft). l ++ y ∷ []) (f ∙ ap (λ (l : List Draft). l ++ x ∷ []) e))
    ∙ append_assoc (start ++ x ∷ []) (y ∷ []) (z ∷ []) ∙ append_assoc start (x ∷ []) (y ∷ z ∷ [])

module _ (problem : Problem) (most nodes : ℕ) (few : nodes ≤ 20000) where
  module _ (count : ℕ) (below : Option (List Item)) (roster : List (List ℕ)) (awarded : Awarded) (reasons : List Denial) (book : Book)
      (is : IsOpenedAward problem most nodes count below roster awarded reasons book) where
    pub few_below : splits_of below ≤ 20000
    few_below = omega (arith, is.short, few)

    pub few_splits : all_splits awarded.proofs + shown_splits awarded.shown ≤ 20000
    few_splits = omega (arith, is.splits, is.room, is.run.run.cap, few)

    pub finds_award : (scores : List ℕ) (rows : List OpenRow) (drafts : List Draft) → HasRoomFor problem most
        → SaysAward problem count below roster reasons awarded scores rows drafts
        → FindsOpen problem most nodes count scores rows book drafts
    finds_award scores rows drafts room says = record {
      below = below;
      roster = roster;
      reasons = reasons;
      awarded = awarded;
      most_fit = room;
      within = is.within;
      needs = is.needs;
      fewest = is.fewest;
      award = is.award;
      settled = is.settled;
      says = says;
      run = is.run;
      room = omega (arith, is.room, is.run.run.cap);
      splits = is.splits;
    }

  module _ (proof : List Item) (book : Book) (is : IsOpenedNone problem most nodes proof book) where
    pub writable_last : ForSome (Some proof) (λ items. IsWritable (form.NoRoster items))
    writable_last =
        writable_none problem (suc most) (Some proof) (proof, refl, is.refuted) (omega (arith, is.splits, is.room, is.run.run.cap, few))

    pub finds_none : (drafts : List Draft) → HasRoomFor problem most → drafts ≡ none_drafts (Some proof) → ForSome (Some proof) (λ items. IsReadable OpenNone (form.NoRoster items))
        → FindsNone problem most nodes book drafts
    finds_none drafts room drafts_are readable = record {
      proof = proof;
      most_fit = room;
      refuted = is.refuted;
      run = is.run;
      room = omega (arith, is.room, is.run.run.cap);
      splits = is.splits;
      drafts_are = drafts_are;
      readable = readable proof refl;
    }

pub spends : (problem : Problem) (most nodes count : ℕ) (book : Book) → HasRoomFor problem most → IsOpenedSpent problem most nodes count book
    → IsSpent problem most nodes book
spends problem most nodes count book room is = record {
  most_fit = room;
  count = count;
  within = is.within;
  fewer = is.fewer;
  run = is.run;
  full = is.full;
}

-- ---- a search that ends with nothing found

pub miss_cause : (at : Tally) (m : OpenMiss) → OpenCause at at (Err (miss_end m))
miss_cause at (miss.No why) = refl
miss_cause at (miss.Budget ledger) = refl
miss_cause at miss.NoMemory = refl

pub miss_left : (old new : Option Files) (m : OpenMiss) → new ≡ old → Leaves old new (open_written (Err (miss_end m)))
miss_left old new (miss.No why) same = same
miss_left old new (miss.Budget ledger) same = same
miss_left old new miss.NoMemory same = same

-- ---- over files whose inputs are read

module _ (files : Files) (most nodes : ℕ) (inputs : Inputs) (read : texts_in files ≡ Ok inputs) where
  pub bad_month : (why : BadInput) → Ends {X = Problem} (Names inputs) inputs (Err why) → IsBadMonth files why
  bad_month (bad.Fault fault) h = record { inputs = inputs; read = read; bad = h }
  bad_month bad.NoMemory h = tt

  module _ (problem : Problem) (names : Names inputs problem) where
    pub finds_nothing : (m : OpenMiss) → IsOpenEnd problem most nodes (Err m) → IsOpen files most nodes (Err (miss_end m))
    finds_nothing (miss.No why) h = record { inputs = inputs; read = read; problem = problem; names = names; found = h }
    finds_nothing (miss.Budget ledger) h = record { inputs = inputs; read = read; problem = problem; names = names; found = h }
    finds_nothing miss.NoMemory h = tt

    pub is_found : (f : OpenFinding) → IsOpenEnd problem most nodes (Ok f) → IsFound files most nodes f
    is_found f h = record { inputs = inputs; read = read; problem = problem; names = names; found = h }

-- ---- over the texts that reads handed in

pub on_texts : (old new : Entries) (P Q : Files → Type 0) → FromReads opening_order old new P → ((files : Files) → P files → Q files) → FromReads opening_order old new Q
on_texts old new P Q h f = record { texts = h.texts; logged = h.logged; count = h.count; names = h.names; found = f (holding h.texts) h.found }

module _ (old new : Entries) (most nodes : ℕ) (inputs : Inputs) (logged : new ≡ old ++ input_texts inputs) (short : AreShort inputs) where
  held : texts_in (holding (input_texts inputs)) ≡ Ok inputs
  held = inputs_held inputs [] short

  from_inputs : (P : Files → Type 0) → P (holding (input_texts inputs)) → FromReads opening_order old new P
  from_inputs P h = record { texts = input_texts inputs; logged = logged; count = 8; names = refl; found = h }

  pub bad_month_handed : (why : BadInput) → Ends {X = Problem} (Names inputs) inputs (Err why) → IsOpenHanded old new most nodes (Err (stop.BadInput why))
  bad_month_handed why h = from_inputs (λ files. IsBadMonth files why) (bad_month (holding (input_texts inputs)) most nodes inputs held why h)

  module _ (problem : Problem) (names : Names inputs problem) where
    pub nothing_handed : (m : OpenMiss) → IsOpenEnd problem most nodes (Err m) → IsOpenHanded old new most nodes (Err (miss_end m))
    nothing_handed (miss.No why) h =
        from_inputs (λ files. OfMonth files (λ p. IsRefused p most why)) (finds_nothing (holding (input_texts inputs)) most nodes inputs held problem names (miss.No why) h)
    nothing_handed (miss.Budget ledger) h =
        from_inputs (λ files. OfMonth files (λ p. IsSpent p most nodes ledger)) (finds_nothing (holding (input_texts inputs)) most nodes inputs held problem names (miss.Budget ledger) h)
    nothing_handed miss.NoMemory h = tt

    pub found_handed : (f : OpenFinding) → IsOpenEnd problem most nodes (Ok f) → FromReads opening_order old new (λ files. IsFound files most nodes f)
    found_handed f h = from_inputs (λ files. IsFound files most nodes f) (is_found (holding (input_texts inputs)) most nodes inputs held problem names f h)

-- a file was not written
pub unwritten_handed : (old new log : Entries) (most nodes : ℕ) (f : OpenFinding) (u : Unwritten) → log ≡ new → IsStop f.drafts u
    → FromReads opening_order old new (λ files. IsFound files most nodes f) → IsOpenHanded old log most nodes (Err (stop.Unwritten f u))
unwritten_handed old new log most nodes f u same stopped h =
    subst (λ (l : Entries). IsOpenHanded old l most nodes (Err (stop.Unwritten f u))) (sym same)
    (on_texts old new (λ files. IsFound files most nodes f) _ h (λ files found. record { found = found; stopped = stopped }))
