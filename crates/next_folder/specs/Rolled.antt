-- What `history` finds: the next month, and the files that say it.
use Rattle.std.specs.Prelude.{◌≡◌, ◌≤◌, ℕ, Bool, true, false, not, List, [], ◌∷◌, ◌++◌, length, map, filter, Option, Some, None, is_none, is_some, unwrap_or, Ok}
use Rattle.std.specs.List.{list_any}
use Rattle.std.specs.Str.{bytes_eq}
use Rattle.crew_files.specs.Crew.{new_member}
use Rattle.crew_files.specs.Events.{event_header}
use Rattle.crew_files.specs.Files.{members_of}
use Rattle.crew_files.specs.Texts.{crew_text, events_text}
use Rattle.crew_files.specs.declared.part.Part.TheVariants.{History as Past, Fixed as Given}
use Rattle.duty_calendar.specs.declared.horizon.Horizon.{Horizon}
use Rattle.duty_calendar.specs.declared.member.Member.{Member}
use Rattle.duty_calendar.specs.declared.member.Rules.{Rules as MonthRules}
use Rattle.field_text.specs.Rows.{line}
use Rattle.month_files.specs.FileNames.{limit_of}
use Rattle.month_files.specs.Months.{Names}
use Rattle.month_files.specs.declared.file.File.{File}
use Rattle.month_files.specs.declared.file.File.TheVariants.{Rules, Crew, History, Fixed}
use Rattle.month_files.specs.declared.writing.Draft.{Draft}
use Rattle.next_month.specs.Heirs.{AreHeirs, place_named}
use Rattle.next_month.specs.Lags.{Follows, ForLag}
use Rattle.roster_model.specs.declared.problem.Problem.{Problem}
use Rattle.roster_model.specs.Rosters.{IsComplete}
use Rattle.roster_text.specs.RosterText.{IsTextOf}
use Rattle.rules_file.specs.Rules.{rules_file, values}
use Rattle.rules_file.specs.Spelling.{rules_text}
use Rattle.next_folder.specs.declared.rolled.RolledOver.{RolledOver}
use Rattle.next_folder.specs.Texts.{Ours, Theirs}

-- the rules of the next month: those that are there, or this month's but for year and month
pub record IsDrafted (this next : MonthRules) : Type 0 where
  pub base : next.base ≡ this.base
  pub seat : next.seat ≡ this.seat
  pub days_off : next.days_off ≡ this.days_off
  pub offset : next.horizon.offset ≡ this.horizon.offset

abbrev pub IsNextRules : MonthRules → Option (List ℕ) → MonthRules → Type 0
IsNextRules this None next = IsDrafted this next
IsNextRules this (Some text) next = rules_file text ≡ Ok (values next)

-- the text of a file of events that has none
unfoldable pub no_events : List ℕ
no_events = line event_header

-- the crew of the next month: the one that is there, or this month's
abbrev pub bare : Member → Member
bare m = new_member m.name m.low m.high

-- a member without what is fixed
abbrev pub past_of : Member → Member
past_of m = record m { fixed = [] }

abbrev pub IsNextCrew : List Member → Horizon → Option (List ℕ) → List Member → Type 0
IsNextCrew members h None crew = crew ≡ map bare members
IsNextCrew members h (Some text) crew = members_of h text no_events no_events ≡ Ok crew

-- the names of the crew that this month does not have, and those of this month that the crew does not have
abbrev pub newcomers : Problem → List Member → List (List ℕ)
newcomers problem crew = map (λ m. m.name) (filter (λ m. is_none (place_named problem m.name)) crew)

unfoldable pub is_gone : List Member → Member → Bool
is_gone crew m = not (list_any (λ n. bytes_eq n.name m.name) crew)

abbrev pub leavers : Problem → List Member → List (List ℕ)
leavers problem crew = map (λ m. m.name) (filter (λ m. is_gone crew m) problem.base.members)

-- the three texts of members
abbrev pub past_text : MonthRules → List Member → List ℕ
past_text rules members = events_text rules.horizon Past members

abbrev pub coming_text : MonthRules → List Member → List ℕ
coming_text rules members = events_text rules.horizon Given members

-- the files that are written: the history, and what is not there
abbrev pub unless_there : Bool → File → List ℕ → List Draft
unless_there true f bytes = []
unless_there false f bytes = record { file = f; bytes = bytes } ∷ []

unfoldable pub next_drafts : Theirs → MonthRules → List Member → List Draft
next_drafts theirs rules members =
    unless_there (is_some theirs.rules) Rules (rules_text (values rules))
    ++ unless_there (is_some theirs.crew) Crew (crew_text members)
    ++ record { file = History; bytes = past_text rules members }
    ∷ unless_there (is_some theirs.fixed) Fixed (coming_text rules members)

-- members with what this month and its roster leave those of the crew that is there, or of this month's
pub record HasHeirs (problem : Problem) (roster : List (List ℕ)) (next : Horizon) (given : Option (List ℕ)) (members : List Member) : Type 0 where
  pub crew : List Member
  pub next_crew : IsNextCrew problem.base.members next given crew
  pub heirs : ForLag problem.base.rules.horizon next (λ d. AreHeirs problem roster d crew members)

-- The files of members as they stand then, each there before or written now: none is longer than its limit, and these are
-- the members that the reader takes from them.
pub record AreTaken (theirs : Theirs) (h : Horizon) (crew history fixed : List ℕ) (taken : List Member) : Type 0 where
  pub short_crew : length (unwrap_or theirs.crew crew) ≤ limit_of Crew
  pub short_history : length history ≤ limit_of History
  pub short_fixed : length (unwrap_or theirs.fixed fixed) ≤ limit_of Fixed
  pub reads : members_of h (unwrap_or theirs.crew crew) history (unwrap_or theirs.fixed fixed) ≡ Ok taken

-- what is said of members, and the files
pub record Says (problem : Problem) (theirs : Theirs) (made : RolledOver) : Type 0 where
  pub new : made.newcomers ≡ newcomers problem made.members
  pub left : made.leavers ≡ leavers problem made.members
  pub files : made.drafts ≡ next_drafts theirs made.rules made.members
  pub rules_again : rules_file (rules_text (values made.rules)) ≡ Ok (values made.rules)
  pub again :
      members_of made.rules.horizon (crew_text made.members) (past_text made.rules made.members) (coming_text made.rules made.members)
      ≡ Ok made.members
  pub taken :
      AreTaken theirs made.rules.horizon (crew_text made.members) (past_text made.rules made.members)
      (coming_text made.rules made.members) made.taken

-- What this month's texts leave the next month, of which so much is there. History that is there is written over by force
-- alone. What the reader takes are the members with what this month left them; fixed events that are there stay.
pub record HasRolled (ours : Ours) (theirs : Theirs) (force : Bool) (made : RolledOver) : Type 0 where
  pub problem : Problem
  pub names : Names ours.inputs problem
  pub roster : List (List ℕ)
  pub read : IsTextOf problem ours.roster roster
  pub complete : IsComplete problem roster
  pub next_rules : IsNextRules problem.base.rules theirs.rules made.rules
  pub follows : Follows problem.base.rules.horizon made.rules.horizon
  pub spared : is_some theirs.history ≡ true → force ≡ true
  pub members : HasHeirs problem roster made.rules.horizon theirs.crew made.members
  pub said : Says problem theirs made
  pub past : map past_of made.taken ≡ map past_of made.members
  pub whole : theirs.fixed ≡ None → made.taken ≡ made.members
