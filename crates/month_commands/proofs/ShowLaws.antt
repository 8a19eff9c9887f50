-- How `show` ends, from what its stages answer.
use Rattle.std.proofs.Common.{◌≡◌, ◌≢◌, ℕ, ◌≤◌, List, [], ◌∷◌, ◌++◌, map, take, length, Some, None, Result, Ok, Err, refl, sym, ap, ◌∙◌}
use Rattle.shelf.specs.Files.{Files}
use Rattle.shelf.specs.Logs.{Entries, holding}
use Rattle.shelf.specs.declared.tally.Tally.{Tally}
use Rattle.month_files.specs.declared.fault.BadInput.{BadInput}
use Rattle.month_files.specs.declared.fault.BadInput.TheVariants as bad
use Rattle.month_files.specs.declared.file.File.TheVariants.{Roster}
use Rattle.month_files.specs.FileNames.{name_of, limit_of}
use Rattle.month_files.specs.Months.{Names, Ends}
use Rattle.month_files.specs.Reading.{AreShort}
use Rattle.roster_model.specs.declared.problem.Problem.{Problem}
use Rattle.roster_text.specs.declared.fault.RosterTextCode.{RosterTextCode}
use Rattle.roster_text.specs.declared.fault.RosterTextCode.TheVariants as text
use Rattle.roster_text.specs.declared.fault.RosterTextFault.{RosterTextFault}
use Rattle.roster_text.specs.MonthText.{month_text}
use Rattle.roster_text.specs.ReasonWords.{member_named}
use Rattle.roster_text.specs.RosterFaults.{HasFault}
use Rattle.roster_text.specs.RosterText.{IsTextOf}
use Rattle.roster_text.specs.RowReading.{no_memory}
use Rattle.month_commands.specs.declared.show_stop.ShowStop.{ShowStop}
use Rattle.month_commands.specs.declared.show_stop.ShowStop.TheVariants as stop
use Rattle.month_commands.specs.declared.show_stop.Unshown.TheVariants as unshown
use Rattle.month_files.specs.Sights.{Seen, seen_in, seen_texts, OfSight}
use Rattle.month_commands.specs.Show.{showing_order, IsShow, IsShowHanded}
use Rattle.month_commands.specs.ShowEnds.{unread_roster, ShowCause}
use Rattle.month_commands.proofs.HandedLaws.{held, inputs_held, then_ok}

-- the ends come with no change of the shelf's counts
pub unread_cause : (at : Tally) (c : RosterTextCode) (fault : RosterTextFault) → ShowCause at at (Err (unread_roster c fault))
unread_cause at text.NoMemory fault = refl
unread_cause at text.Header fault = refl
unread_cause at text.Shape fault = refl
unread_cause at text.Member fault = refl
unread_cause at text.Pairing fault = refl
unread_cause at text.Sums fault = refl
unread_cause at text.Rows fault = refl

-- ---- over files that are read

module _ (files : Files) (name : List ℕ) (seen : Seen) (read : seen_in files ≡ Ok seen) where
  pub ends_at_month : (why : BadInput) → Ends {X = Problem} (Names seen.inputs) seen.inputs (Err why) → IsShow files name (Err (stop.BadInput why))
  ends_at_month (bad.Fault fault) h = record { seen = seen; read = read; bad = h }
  ends_at_month bad.NoMemory h = tt

  module _ (problem : Problem) (names : Names seen.inputs problem) where
    of_sight : (P : Problem → List ℕ → Type 0) → P problem seen.roster → OfSight files P
    of_sight P h = record { seen = seen; read = read; problem = problem; names = names; found = h }

    faulty : (fault : RosterTextFault) (c : RosterTextCode) → fault.code ≡ c → (c ≡ text.NoMemory → ⊥) → (fault ≢ no_memory → HasFault problem seen.roster fault)
        → OfSight files (λ p t. HasFault p t fault)
    faulty fault c is other h = of_sight (λ p t. HasFault p t fault) (h (λ e. other (sym is ∙ ap (λ (f : RosterTextFault). f.code) e)))

    pub ends_at_roster : (fault : RosterTextFault) (c : RosterTextCode) → fault.code ≡ c → (fault ≢ no_memory → HasFault problem seen.roster fault) → IsShow files name (Err (unread_roster c fault))
    ends_at_roster fault text.NoMemory is h = tt
    ends_at_roster fault text.Header is h = faulty fault text.Header is (λ (e : text.Header ≡ text.NoMemory). absurd cc) h
    ends_at_roster fault text.Shape is h = faulty fault text.Shape is (λ (e : text.Shape ≡ text.NoMemory). absurd cc) h
    ends_at_roster fault text.Member is h = faulty fault text.Member is (λ (e : text.Member ≡ text.NoMemory). absurd cc) h
    ends_at_roster fault text.Pairing is h = faulty fault text.Pairing is (λ (e : text.Pairing ≡ text.NoMemory). absurd cc) h
    ends_at_roster fault text.Sums is h = faulty fault text.Sums is (λ (e : text.Sums ≡ text.NoMemory). absurd cc) h
    ends_at_roster fault text.Rows is h = faulty fault text.Rows is (λ (e : text.Rows ≡ text.NoMemory). absurd cc) h

    module _ (roster : List (List ℕ)) (is : IsTextOf problem seen.roster roster) where
      pub ends_at_nobody : member_named problem name ≡ None → IsShow files name (Err (stop.No unshown.Member))
      ends_at_nobody nobody = of_sight _ (record { roster = roster; read = is; nobody = nobody })

      pub ends_in_view : (member : ℕ) (view : List ℕ) → member_named problem name ≡ Some member → view ≡ month_text problem roster member → IsShow files name (Ok view)
      ends_in_view member view named view_is = of_sight _ (record { roster = roster; read = is; member = member; named = named; view_is = view_is })

-- ---- over the texts that reads handed in

handed : (old new texts : Entries) (name : List ℕ) → new ≡ old ++ texts → (count : ℕ) → map (λ x. x.0) texts ≡ take count (map name_of showing_order)
    → (end : Result (List ℕ) ShowStop) → IsShow (holding texts) name end → IsShowHanded old new name end
handed old new texts name logged count names (Ok view) h = record { texts = texts; logged = logged; count = count; names = names; found = h }
handed old new texts name logged count names (Err (stop.Unread why)) h = tt
handed old new texts name logged count names (Err (stop.BadInput why)) h = record { texts = texts; logged = logged; count = count; names = names; found = h }
handed old new texts name logged count names (Err (stop.No why)) h = record { texts = texts; logged = logged; count = count; names = names; found = h }
handed old new texts name logged count names (Err stop.NoMemory) h = tt

module _ (old new : Entries) (name : List ℕ) (seen : Seen) (logged : new ≡ old ++ seen_texts seen) (short : AreShort seen.inputs) (limit : length seen.roster ≤ limit_of Roster) where
  seen_held : seen_in (holding (seen_texts seen)) ≡ Ok seen
  unfolding seen_in
  seen_held =
      then_ok _ _ seen.inputs _ (inputs_held seen.inputs ((name_of Roster, seen.roster) ∷ []) short)
      (then_ok _ _ seen.roster _ (held (seen_texts seen) Roster seen.roster refl limit) refl)

  by_texts : (end : Result (List ℕ) ShowStop) → IsShow (holding (seen_texts seen)) name end → IsShowHanded old new name end
  by_texts end h = handed old new (seen_texts seen) name logged 9 refl end h

  pub handed_month : (why : BadInput) → Ends {X = Problem} (Names seen.inputs) seen.inputs (Err why) → IsShowHanded old new name (Err (stop.BadInput why))
  handed_month why h = by_texts (Err (stop.BadInput why)) (ends_at_month (holding (seen_texts seen)) name seen seen_held why h)

  module _ (problem : Problem) (names : Names seen.inputs problem) where
    pub handed_roster : (fault : RosterTextFault) (c : RosterTextCode) → fault.code ≡ c → (fault ≢ no_memory → HasFault problem seen.roster fault) → IsShowHanded old new name (Err (unread_roster c fault))
    handed_roster fault c is h = by_texts (Err (unread_roster c fault)) (ends_at_roster (holding (seen_texts seen)) name seen seen_held problem names fault c is h)

    module _ (roster : List (List ℕ)) (is : IsTextOf problem seen.roster roster) where
      pub handed_nobody : member_named problem name ≡ None → IsShowHanded old new name (Err (stop.No unshown.Member))
      handed_nobody nobody = by_texts (Err (stop.No unshown.Member)) (ends_at_nobody (holding (seen_texts seen)) name seen seen_held problem names roster is nobody)

      pub handed_view : (member : ℕ) (view : List ℕ) → member_named problem name ≡ Some member → view ≡ month_text problem roster member → IsShowHanded old new name (Ok view)
      handed_view member view named view_is =
          by_texts (Ok view) (ends_in_view (holding (seen_texts seen)) name seen seen_held problem names roster is member view named view_is)
