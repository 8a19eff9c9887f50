-- What stands against a history: of both folders' texts the first reason in this order.
use Rattle.std.specs.Prelude.{◌≡◌, ◌≢◌, ◌⊎◌, ℕ, pos, Bool, true, false, nat_lt, List, [], ◌∷◌, length, find, Option, Some, None, is_some, unwrap_or, Ok, Err}
use Rattle.std.specs.Option.{option_map}
use Rattle.crew_files.specs.Files.{members_of}
use Rattle.crew_files.specs.Texts.{crew_text}
use Rattle.duty_calendar.specs.declared.member.Member.{Member}
use Rattle.duty_calendar.specs.declared.member.Rules.{Rules as MonthRules}
use Rattle.field_text.specs.declared.file_fault.FileFault.{FileFault}
use Rattle.line_legality.specs.Shortfalls.{IsFirstShortfall}
use Rattle.line_legality.specs.declared.shortfall.RosterFault.{RosterFault}
use Rattle.line_legality.specs.declared.shortfall.RosterFault.TheVariants as shortfall
use Rattle.month_files.specs.FileNames.{limit_of}
use Rattle.month_files.specs.Months.{HasFault, Names}
use Rattle.month_files.specs.declared.fault.BadInput.{BadInput}
use Rattle.month_files.specs.declared.fault.BadInput.TheVariants as bad
use Rattle.month_files.specs.declared.file.File.{File}
use Rattle.month_files.specs.declared.file.File.TheVariants.{Crew, History, Fixed}
use Rattle.month_files.specs.declared.writing.Draft.{Draft}
use Rattle.next_month.specs.Causes.{HasFault as HasHeirFault}
use Rattle.next_month.specs.Lags.{Follows, ForLag}
use Rattle.next_month.specs.declared.fault.HeirFault.{HeirFault}
use Rattle.roster_model.specs.declared.problem.Problem.{Problem}
use Rattle.roster_model.specs.Rosters.{IsComplete}
use Rattle.roster_text.specs.RosterFaults.{HasFault as HasRosterFault}
use Rattle.roster_text.specs.RosterText.{IsTextOf}
use Rattle.roster_text.specs.declared.fault.RosterTextFault.{RosterTextFault}
use Rattle.rules_file.specs.Rules.{rules_file, values}
use Rattle.rules_file.specs.declared.fault.RuleFault.{RuleFault}
use Rattle.next_folder.specs.declared.barrier.Barrier.{Barrier}
use Rattle.next_folder.specs.declared.barrier.Barrier.TheVariants as bar
use Rattle.next_folder.specs.Rolled.{HasHeirs, IsNextCrew, IsNextRules, coming_text, no_events, past_text}
use Rattle.next_folder.specs.Texts.{Ours, Theirs}

-- ---- this month

abbrev pub HasBadInput : Ours → BadInput → Type 0
HasBadInput ours (bad.Fault fault) = HasFault ours.inputs fault
HasBadInput ours bad.NoMemory = Unit {0}

pub record HasBadRoster (ours : Ours) (fault : RosterTextFault) : Type 0 where
  pub problem : Problem
  pub names : Names ours.inputs problem
  pub fails : HasRosterFault problem ours.roster fault

pub record IsIncomplete (ours : Ours) (why : RosterFault) : Type 0 where
  pub problem : Problem
  pub names : Names ours.inputs problem
  pub roster : List (List ℕ)
  pub read : IsTextOf problem ours.roster roster
  pub known : why ≢ shortfall.NoMemory
  pub first : IsFirstShortfall problem roster why
  pub refused : ¬ (IsComplete problem roster)

-- the texts name this problem, and a complete roster of it
pub record IsMonth (ours : Ours) (problem : Problem) (roster : List (List ℕ)) : Type 0 where
  pub names : Names ours.inputs problem
  pub read : IsTextOf problem ours.roster roster
  pub complete : IsComplete problem roster

-- ---- the rules of the next month

-- none are there, and the month is the last one
pub record IsLastMonth (ours : Ours) (theirs : Theirs) : Type 0 where
  pub problem : Problem
  pub roster : List (List ℕ)
  pub month : IsMonth ours problem roster
  pub none : theirs.rules ≡ None
  pub year : problem.base.rules.horizon.year ≡ pos 2099
  pub december : problem.base.rules.horizon.month ≡ 12

pub record HasBadRules (ours : Ours) (theirs : Theirs) (fault : RuleFault) : Type 0 where
  pub problem : Problem
  pub roster : List (List ℕ)
  pub month : IsMonth ours problem roster
  pub text : List ℕ
  pub there : theirs.rules ≡ Some text
  pub fails : rules_file text ≡ Err fault

pub record IsOtherMonth (ours : Ours) (theirs : Theirs) : Type 0 where
  pub problem : Problem
  pub roster : List (List ℕ)
  pub month : IsMonth ours problem roster
  pub text : List ℕ
  pub there : theirs.rules ≡ Some text
  pub rules : MonthRules
  pub reads : rules_file text ≡ Ok (values rules)
  pub other : ¬ (Follows problem.base.rules.horizon rules.horizon)

-- the rules that are due, of the month that follows
pub record AreNext (ours : Ours) (theirs : Theirs) (problem : Problem) (roster : List (List ℕ)) (rules : MonthRules) : Type 0 where
  pub month : IsMonth ours problem roster
  pub due : IsNextRules problem.base.rules theirs.rules rules
  pub follows : Follows problem.base.rules.horizon rules.horizon

-- ---- its members

pub record IsUnspared (ours : Ours) (theirs : Theirs) (force : Bool) : Type 0 where
  pub problem : Problem
  pub roster : List (List ℕ)
  pub rules : MonthRules
  pub next : AreNext ours theirs problem roster rules
  pub there : is_some theirs.history ≡ true
  pub unforced : force ≡ false

-- no history is there, or it may be written over
pub record IsSpared (ours : Ours) (theirs : Theirs) (force : Bool) (problem : Problem) (roster : List (List ℕ)) (rules : MonthRules) : Type 0 where
  pub next : AreNext ours theirs problem roster rules
  pub spared : is_some theirs.history ≡ true → force ≡ true

-- the crew that is there does not read
pub record HasBadCrew (ours : Ours) (theirs : Theirs) (force : Bool) (fault : FileFault) : Type 0 where
  pub problem : Problem
  pub roster : List (List ℕ)
  pub rules : MonthRules
  pub before : IsSpared ours theirs force problem roster rules
  pub text : List ℕ
  pub there : theirs.crew ≡ Some text
  pub fails : members_of rules.horizon text no_events no_events ≡ Err fault

-- its crew cannot be written with what this month leaves it
pub record HasNoHeirs (ours : Ours) (theirs : Theirs) (force : Bool) (why : HeirFault) : Type 0 where
  pub problem : Problem
  pub roster : List (List ℕ)
  pub rules : MonthRules
  pub before : IsSpared ours theirs force problem roster rules
  pub crew : List Member
  pub due : IsNextCrew problem.base.members rules.horizon theirs.crew crew
  pub fails : ForLag problem.base.rules.horizon rules.horizon (λ d. HasHeirFault problem roster d crew why)

-- these are its members with what this month leaves them, as the reader takes them
pub record AreDue (ours : Ours) (theirs : Theirs) (force : Bool) (problem : Problem) (roster : List (List ℕ)) (rules : MonthRules) (members : List Member) : Type 0 where
  pub before : IsSpared ours theirs force problem roster rules
  pub heirs : HasHeirs problem roster rules.horizon theirs.crew members
  pub again :
      members_of rules.horizon (crew_text members) (past_text rules members) (coming_text rules members) ≡ Ok members

-- ---- their files, as they would stand: each there, or written

abbrev pub member_files : Theirs → MonthRules → List Member → List Draft
member_files theirs rules members =
    record { file = Crew; bytes = unwrap_or theirs.crew (crew_text members) }
    ∷ record { file = History; bytes = past_text rules members }
    ∷ record { file = Fixed; bytes = unwrap_or theirs.fixed (coming_text rules members) } ∷ []

-- the first that is longer than its limit
unfoldable pub first_long : List Draft → Option File
first_long drafts = option_map (λ d. d.file) (find (λ d. nat_lt (limit_of d.file) (length d.bytes)) drafts)

pub record IsTooLong (ours : Ours) (theirs : Theirs) (force : Bool) (f : File) : Type 0 where
  pub problem : Problem
  pub roster : List (List ℕ)
  pub rules : MonthRules
  pub members : List Member
  pub due : AreDue ours theirs force problem roster rules members
  pub long : first_long (member_files theirs rules members) ≡ Some f

pub record HasBadMembers (ours : Ours) (theirs : Theirs) (force : Bool) (fault : FileFault) : Type 0 where
  pub problem : Problem
  pub roster : List (List ℕ)
  pub rules : MonthRules
  pub members : List Member
  pub due : AreDue ours theirs force problem roster rules members
  pub short : first_long (member_files theirs rules members) ≡ None
  pub fails :
      members_of rules.horizon (unwrap_or theirs.crew (crew_text members)) (past_text rules members)
      (unwrap_or theirs.fixed (coming_text rules members))
      ≡ Err fault

-- ---- the first reason

abbrev pub Bars : Ours → Theirs → Bool → Barrier → Type 0
Bars ours theirs force (bar.Unread why) = ⊥
Bars ours theirs force (bar.BadInput why) = HasBadInput ours why
Bars ours theirs force (bar.Roster fault) = HasBadRoster ours fault
Bars ours theirs force (bar.Incomplete why) = IsIncomplete ours why
Bars ours theirs force bar.LastMonth = IsLastMonth ours theirs
Bars ours theirs force (bar.NextUnread why) = ⊥
Bars ours theirs force (bar.NextRules fault) = HasBadRules ours theirs fault
Bars ours theirs force bar.OtherMonth = IsOtherMonth ours theirs
Bars ours theirs force (bar.NextMembers fault) = HasBadCrew ours theirs force fault ⊎ HasBadMembers ours theirs force fault
Bars ours theirs force bar.IsThere = IsUnspared ours theirs force
Bars ours theirs force (bar.Heir why) = HasNoHeirs ours theirs force why
Bars ours theirs force (bar.TooLong f) = IsTooLong ours theirs force f
Bars ours theirs force bar.NoMemory = Unit {0}
