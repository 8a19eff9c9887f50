-- The files of a folder have `calendar` end in one way, where nothing fails and memory is there.
use Rattle.std.proofs.Common.{◌≡◌, ℕ, ◌≤◌, List, [], length, Option, Some, None, Ok, Err, inl, inr, refl, sym, ap, subst, ◌∙◌, arith}
use Rattle.std.specs.Prelude.{◌⊎◌}
use Rattle.shelf.specs.Files.{Files}
use Rattle.crew_calendar.specs.Seen.{Entry}
use Rattle.crew_calendar.specs.Table.{table}
use Rattle.month_files.specs.Sights.{Seen, seen_in, HasBadSight}
use Rattle.desk_commands.specs.Calendars.{IsCalendarFile, IsUndated}
use Rattle.desk_commands.specs.declared.calendar_stop.Undated.{Undated}
use Rattle.desk_commands.specs.declared.calendar_stop.Undated.TheVariants as undated
use Rattle.desk_commands.specs.declared.calendars.MemberCalendar.{MemberCalendar}
use Rattle.month_files.proofs.OneMonth.{one_problem, never_both}
use Rattle.month_files.specs.Months.{Names, HasFault}
use Rattle.month_files.specs.declared.fault.InputFault.{InputFault}
use Rattle.month_files.specs.declared.unread.Unread.{Unread}
use Rattle.roster_model.specs.declared.problem.Problem.{Problem}
use Rattle.roster_text.proofs.FaultLaws.{not_both}
use Rattle.roster_text.proofs.RowLaws.{one_roster}
use Rattle.roster_text.specs.ReasonWords.{member_named}
use Rattle.roster_text.specs.RosterText.{IsTextOf}
use Rattle.answer_texts.specs.MonthEnds.{unread_status}
use Rattle.answer_texts.specs.declared.status.Status.{Status}
use Rattle.answer_texts.specs.declared.status.Status.TheVariants as status
use Rattle.pbs_engine.proofs.OneAnswer.{By, ByOption, IsOne, one_is, one_by, one_by_option, FaultyRoster, enter, leave}

-- the calendar has an entry, or none
abbrev AfterEntries : List Entry → Status → Type 0
AfterEntries entries s = ((1 ≤ length entries) × (s ≡ status.Done)) ⊎ ((entries ≡ []) × (s ≡ status.No))

-- a member has the name, or none
abbrev AfterName : Problem → List (List ℕ) → Option ℕ → Status → Type 0
AfterName p roster member s = ByOption (λ u. u ≡ status.No) (λ (m : ℕ) u. AfterEntries (table p roster m).entries u) member s

-- the text is that of a roster
pub record RosterSeen (name : List ℕ) (p : Problem) (text : List ℕ) (s : Status) : Type 0 where
  pub roster : List (List ℕ)
  pub read : IsTextOf p text roster
  pub then' : AfterName p roster (member_named p name) s

abbrev AfterProblem : List ℕ → Problem → List ℕ → Status → Type 0
AfterProblem name p text s = FaultyRoster p text s ⊎ RosterSeen name p text s

-- the inputs have a fault, or name a problem
pub record FaultySight (seen : Seen) (s : Status) : Type 0 where
  pub fault : InputFault
  pub has : HasFault seen.inputs fault
  pub is : s ≡ status.BadInput

pub record NamedSight (name : List ℕ) (seen : Seen) (s : Status) : Type 0 where
  pub problem : Problem
  pub names : Names seen.inputs problem
  pub then' : AfterProblem name problem seen.roster s

abbrev AfterSeen : List ℕ → Seen → Status → Type 0
AfterSeen name seen s = FaultySight seen s ⊎ NamedSight name seen s

abbrev pub CalendarPath : Files → List ℕ → Status → Type 0
CalendarPath files name s = By (λ why u. u ≡ unread_status why) (AfterSeen name) (seen_in files) s

-- ---- there is one way

never_empty : (entries : List Entry) → 1 ≤ length entries → entries ≡ [] → ⊥
never_empty entries some e = let none = ap (λ (xs : List Entry). length xs) e in omega (arith, some, none)

one_entries : (entries : List Entry) → IsOne (AfterEntries entries)
one_entries entries s t (inl x) (inl y) = x.1 ∙ sym y.1
one_entries entries s t (inl x) (inr y) = absurd (never_empty entries x.0 y.0)
one_entries entries s t (inr x) (inl y) = absurd (never_empty entries y.0 x.0)
one_entries entries s t (inr x) (inr y) = x.1 ∙ sym y.1

one_name : (p : Problem) (roster : List (List ℕ)) (member : Option ℕ) → IsOne (AfterName p roster member)
one_name p roster member =
    one_by_option (λ u. u ≡ status.No) (λ (m : ℕ) u. AfterEntries (table p roster m).entries u) (one_is status.No) (λ m. one_entries (table p roster m).entries) member

one_problem_seen : (name : List ℕ) (p : Problem) (text : List ℕ) → IsOne (AfterProblem name p text)
one_problem_seen name p text s t (inl x) (inl y) = x.is ∙ sym y.is
one_problem_seen name p text s t (inl x) (inr y) = absurd (not_both p text y.roster x.fault y.read x.has)
one_problem_seen name p text s t (inr x) (inl y) = absurd (not_both p text x.roster y.fault x.read y.has)
one_problem_seen name p text s t (inr x) (inr y) =
    one_name p y.roster (member_named p name) s t
    (subst (λ (r : List (List ℕ)). AfterName p r (member_named p name) s) (one_roster p text x.roster y.roster x.read y.read) x.then') y.then'

one_seen : (name : List ℕ) (seen : Seen) → IsOne (AfterSeen name seen)
one_seen name seen s t (inl x) (inl y) = x.is ∙ sym y.is
one_seen name seen s t (inl x) (inr y) = absurd (never_both seen.inputs y.problem x.fault y.names x.has)
one_seen name seen s t (inr x) (inl y) = absurd (never_both seen.inputs x.problem y.fault x.names y.has)
one_seen name seen s t (inr x) (inr y) =
    one_problem_seen name y.problem seen.roster s t
    (subst (λ (p : Problem). AfterProblem name p seen.roster s) (one_problem seen.inputs x.problem y.problem x.names y.names) x.then') y.then'

pub one_calendar : (files : Files) (name : List ℕ) → IsOne (CalendarPath files name)
one_calendar files name = one_by (λ why u. u ≡ unread_status why) (AfterSeen name) (λ why. one_is (unread_status why)) (one_seen name) (seen_in files)

-- ---- each answer has its way

module _ (files : Files) (name : List ℕ) where
  seen_path : (s : Status) (seen : Seen) → seen_in files ≡ Ok seen → AfterSeen name seen s → CalendarPath files name s
  seen_path s seen read h = enter (λ why u. u ≡ unread_status why) (AfterSeen name) (seen_in files) seen s read h

  roster_path : (s : Status) (seen : Seen) (p : Problem) (roster : List (List ℕ)) (member : Option ℕ) → seen_in files ≡ Ok seen → Names seen.inputs p
      → IsTextOf p seen.roster roster → member_named p name ≡ member → AfterName p roster member s → CalendarPath files name s
  roster_path s seen p roster member there names read named h =
      seen_path s seen there
      (inr (record {
        problem = p;
        names = names;
        then' = inr (record { roster = roster; read = read; then' = subst (λ (o : Option ℕ). AfterName p roster o s) (sym named) h });
      }))

  pub calendar_path : (m : MemberCalendar) → IsCalendarFile files name m → CalendarPath files name status.Done
  calendar_path m h =
      roster_path status.Done h.seen h.problem h.found.roster (Some h.found.member) h.read h.names h.found.read h.found.named
      (inl (subst (λ (n : ℕ). 1 ≤ n) h.found.found.counted h.found.found.some, refl))

  pub undated_path : (why : Undated) → IsUndated files name why → CalendarPath files name status.No
  undated_path (undated.Roster fault) h =
      seen_path status.No h.seen h.read (inr (record { problem = h.problem; names = h.names; then' = inl (record { fault = fault; has = h.found; is = refl }) }))
  undated_path undated.Member h = roster_path status.No h.seen h.problem h.found.roster None h.read h.names h.found.read h.found.nobody refl
  undated_path undated.NoEvents h =
      roster_path status.No h.seen h.problem h.found.roster (Some h.found.member) h.read h.names h.found.read h.found.named (inr (h.found.found, refl))

  pub bad_seen_path : (fault : InputFault) → HasBadSight files fault → CalendarPath files name status.BadInput
  bad_seen_path fault h = seen_path status.BadInput h.seen h.read (inl (record { fault = fault; has = h.bad; is = refl }))

  pub unread_seen_path : (why : Unread) → seen_in files ≡ Err why → CalendarPath files name (unread_status why)
  unread_seen_path why h = leave (λ w u. u ≡ unread_status w) (AfterSeen name) (seen_in files) why (unread_status why) h refl
