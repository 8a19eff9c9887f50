-- How `calendar` ends, from what its stages answer.
use Rattle.std.proofs.Common.{◌≡◌, ◌≢◌, ℕ, ◌≤◌, List, [], ◌++◌, length, Some, None, Result, Ok, Err, refl, sym, ap, subst, ◌∙◌}
use Rattle.shelf.specs.Files.{Files}
use Rattle.shelf.specs.Logs.{Entries, holding}
use Rattle.shelf.specs.declared.tally.Tally.{Tally}
use Rattle.crew_calendar.specs.Seen.{Book}
use Rattle.crew_calendar.specs.Table.{table}
use Rattle.month_files.specs.declared.fault.BadInput.{BadInput}
use Rattle.month_files.specs.declared.fault.BadInput.TheVariants as bad
use Rattle.month_files.specs.declared.file.File.TheVariants.{Roster}
use Rattle.month_files.specs.FileNames.{limit_of}
use Rattle.month_files.specs.Handing.{FromReads}
use Rattle.month_files.specs.Months.{Names, Ends}
use Rattle.month_files.specs.Reading.{AreShort}
use Rattle.roster_model.specs.declared.problem.Problem.{Problem}
use Rattle.roster_text.specs.declared.fault.RosterTextCode.{RosterTextCode}
use Rattle.roster_text.specs.declared.fault.RosterTextCode.TheVariants as text
use Rattle.roster_text.specs.declared.fault.RosterTextFault.{RosterTextFault}
use Rattle.roster_text.specs.ReasonWords.{member_named}
use Rattle.roster_text.specs.RosterFaults.{HasFault}
use Rattle.roster_text.specs.RosterText.{IsTextOf, member_name}
use Rattle.roster_text.specs.RowReading.{no_memory}
use Rattle.desk_commands.specs.declared.calendars.MemberCalendar.{MemberCalendar}
use Rattle.desk_commands.specs.declared.calendar_stop.CalendarStop.{CalendarStop}
use Rattle.desk_commands.specs.declared.calendar_stop.CalendarStop.TheVariants as stop
use Rattle.desk_commands.specs.declared.calendar_stop.Undated.TheVariants as undated
use Rattle.month_files.specs.Sights.{Seen, seen_in, seen_texts, OfSight, IsBadSight}
use Rattle.desk_commands.specs.Calendars.{calendar_order, OfMember, OfCalendar, IsDated, IsFileOf, IsCalendarFile, IsCalendarRun, IsCalendarHanded}
use Rattle.desk_commands.specs.CalendarEnds.{unread_roster, CalendarCause}
use Rattle.desk_commands.proofs.CalendarHeld.{seen_held, from_seen}
use Rattle.desk_commands.proofs.CalendarNames.{named_so}

-- a roster that does not read changes nothing
pub unread_cause : (at : Tally) (c : RosterTextCode) (fault : RosterTextFault) → CalendarCause at at (Err (unread_roster c fault))
unread_cause at text.NoMemory fault = refl
unread_cause at text.Header fault = refl
unread_cause at text.Shape fault = refl
unread_cause at text.Member fault = refl
unread_cause at text.Pairing fault = refl
unread_cause at text.Sums fault = refl
unread_cause at text.Rows fault = refl

-- ---- over files that are read

module _ (files : Files) (name : List ℕ) (seen : Seen) (read : seen_in files ≡ Ok seen) where
  pub ends_at_month : (why : BadInput) → Ends {X = Problem} (Names seen.inputs) seen.inputs (Err why) → IsBadSight files why
  ends_at_month (bad.Fault fault) h = record { seen = seen; read = read; bad = h }
  ends_at_month bad.NoMemory h = tt

  module _ (problem : Problem) (names : Names seen.inputs problem) where
    of_sight : (P : Problem → List ℕ → Type 0) → P problem seen.roster → OfSight files P
    of_sight P h = record { seen = seen; read = read; problem = problem; names = names; found = h }

    faulty : (fault : RosterTextFault) (c : RosterTextCode) → fault.code ≡ c → (c ≡ text.NoMemory → ⊥) → (fault ≢ no_memory → HasFault problem seen.roster fault)
        → OfSight files (λ p t. HasFault p t fault)
    faulty fault c is other h = of_sight (λ p t. HasFault p t fault) (h (λ e. other (sym is ∙ ap (λ (f : RosterTextFault). f.code) e)))

    pub ends_at_roster : (fault : RosterTextFault) (c : RosterTextCode) → fault.code ≡ c → (fault ≢ no_memory → HasFault problem seen.roster fault) → IsCalendarRun files name (Err (unread_roster c fault))
    ends_at_roster fault text.NoMemory is h = tt
    ends_at_roster fault text.Header is h = faulty fault text.Header is (λ (e : text.Header ≡ text.NoMemory). absurd cc) h
    ends_at_roster fault text.Shape is h = faulty fault text.Shape is (λ (e : text.Shape ≡ text.NoMemory). absurd cc) h
    ends_at_roster fault text.Member is h = faulty fault text.Member is (λ (e : text.Member ≡ text.NoMemory). absurd cc) h
    ends_at_roster fault text.Pairing is h = faulty fault text.Pairing is (λ (e : text.Pairing ≡ text.NoMemory). absurd cc) h
    ends_at_roster fault text.Sums is h = faulty fault text.Sums is (λ (e : text.Sums ≡ text.NoMemory). absurd cc) h
    ends_at_roster fault text.Rows is h = faulty fault text.Rows is (λ (e : text.Rows ≡ text.NoMemory). absurd cc) h

    module _ (roster : List (List ℕ)) (is : IsTextOf problem seen.roster roster) where
      pub ends_at_nobody : member_named problem name ≡ None → IsCalendarRun files name (Err (stop.No undated.Member))
      ends_at_nobody nobody = of_sight _ (record { roster = roster; read = is; nobody = nobody })

      module _ (member : ℕ) (named : member_named problem name ≡ Some member) where
        of_calendar : (P : Book → Type 0) → P (table problem roster member) → OfCalendar files name P
        of_calendar P h = of_sight (OfMember name P) (record { roster = roster; read = is; member = member; named = named; found = h })

        pub ends_at_no_events : IsDated (member_name problem member) (table problem roster member) None → IsCalendarRun files name (Err (stop.No undated.NoEvents))
        ends_at_no_events h = of_calendar (λ book. book.entries ≡ []) h

        pub is_file : (m : MemberCalendar) → IsDated (member_name problem member) (table problem roster member) (Some m) → IsCalendarFile files name m
        is_file m h =
            of_calendar (IsFileOf name m)
            (subst (λ (n : List ℕ). IsFileOf n m (table problem roster member)) (named_so problem name member named) h)

-- ---- over the texts that reads handed in

module _ (old new : Entries) (name : List ℕ) (seen : Seen) (logged : new ≡ old ++ seen_texts seen) (short : AreShort seen.inputs) (limit : length seen.roster ≤ limit_of Roster) where
  there : seen_in (holding (seen_texts seen)) ≡ Ok seen
  there = seen_held old new seen logged short limit

  by_texts : (P : Files → Type 0) → P (holding (seen_texts seen)) → FromReads calendar_order old new P
  by_texts P h = from_seen old new seen logged short limit P h

  handed : (end : Result MemberCalendar CalendarStop) → IsCalendarRun (holding (seen_texts seen)) name end → IsCalendarHanded old new name end
  handed (Ok m) h = by_texts _ h
  handed (Err (stop.Unread why)) h = tt
  handed (Err (stop.BadInput why)) h = by_texts _ h
  handed (Err (stop.No why)) h = by_texts _ h
  handed (Err (stop.Unwritten m why)) h = by_texts _ h
  handed (Err stop.NoMemory) h = tt

  pub handed_month : (why : BadInput) → Ends {X = Problem} (Names seen.inputs) seen.inputs (Err why) → IsCalendarHanded old new name (Err (stop.BadInput why))
  handed_month why h = by_texts (λ files. IsBadSight files why) (ends_at_month (holding (seen_texts seen)) name seen there why h)

  module _ (problem : Problem) (names : Names seen.inputs problem) where
    pub handed_roster : (fault : RosterTextFault) (c : RosterTextCode) → fault.code ≡ c → (fault ≢ no_memory → HasFault problem seen.roster fault) → IsCalendarHanded old new name (Err (unread_roster c fault))
    handed_roster fault c is h = handed (Err (unread_roster c fault)) (ends_at_roster (holding (seen_texts seen)) name seen there problem names fault c is h)

    module _ (roster : List (List ℕ)) (is : IsTextOf problem seen.roster roster) where
      pub handed_nobody : member_named problem name ≡ None → IsCalendarHanded old new name (Err (stop.No undated.Member))
      handed_nobody nobody = handed (Err (stop.No undated.Member)) (ends_at_nobody (holding (seen_texts seen)) name seen there problem names roster is nobody)

      module _ (member : ℕ) (named : member_named problem name ≡ Some member) where
        pub handed_no_events : IsDated (member_name problem member) (table problem roster member) None → IsCalendarHanded old new name (Err (stop.No undated.NoEvents))
        handed_no_events h =
            handed (Err (stop.No undated.NoEvents)) (ends_at_no_events (holding (seen_texts seen)) name seen there problem names roster is member named h)

        pub handed_file : (m : MemberCalendar) → IsDated (member_name problem member) (table problem roster member) (Some m) → FromReads calendar_order old new (λ files. IsCalendarFile files name m)
        handed_file m h = by_texts (λ files. IsCalendarFile files name m) (is_file (holding (seen_texts seen)) name seen there problem names roster is member named m h)
