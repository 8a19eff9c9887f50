-- What stands against a history, from what its stages answer.
use Rattle.std.proofs.Common.{◌≡◌, ◌≢◌, ◌⊎◌, inl, ℕ, Bool, List, Some, None, Result, Ok, Err, sym, ap, ◌∙◌}
use Rattle.std.specs.Prelude.{MatchOption, pos}
use Rattle.crew_files.specs.Files.{members_of}
use Rattle.duty_calendar.specs.declared.member.Member.{Member}
use Rattle.duty_calendar.specs.declared.member.Rules.{Rules as MonthRules}
use Rattle.field_text.specs.Rows.{told_by}
use Rattle.field_text.specs.declared.file_fault.FileCode.{FileCode}
use Rattle.field_text.specs.declared.file_fault.FileCode.TheVariants as code
use Rattle.field_text.specs.declared.file_fault.FileFault.{FileFault}
use Rattle.line_legality.specs.Shortfalls.{IsFirstShortfall}
use Rattle.line_legality.specs.declared.shortfall.RosterFault.{RosterFault}
use Rattle.line_legality.specs.declared.shortfall.RosterFault.TheVariants as shortfall
use Rattle.month_files.specs.Months.{Ends, Names}
use Rattle.month_files.specs.declared.fault.BadInput.{BadInput}
use Rattle.month_files.specs.declared.fault.BadInput.TheVariants as bad
use Rattle.next_month.specs.Causes.{HasFault as HasHeirFault}
use Rattle.next_month.specs.Lags.{Follows, ForLag}
use Rattle.next_month.specs.declared.fault.HeirFault.{HeirFault}
use Rattle.next_month.specs.declared.fault.HeirFault.TheVariants as heir
use Rattle.roster_model.specs.declared.problem.Problem.{Problem}
use Rattle.roster_model.specs.Rosters.{IsComplete}
use Rattle.roster_text.specs.RosterFaults.{HasFault as HasRosterFault}
use Rattle.roster_text.specs.RosterText.{IsTextOf}
use Rattle.roster_text.specs.RowReading.{no_memory}
use Rattle.roster_text.specs.declared.fault.RosterTextCode.{RosterTextCode}
use Rattle.roster_text.specs.declared.fault.RosterTextCode.TheVariants as text
use Rattle.roster_text.specs.declared.fault.RosterTextFault.{RosterTextFault}
use Rattle.rules_file.specs.Rules.{rules_file, told, values}
use Rattle.rules_file.specs.declared.fault.RuleFault.{RuleFault}
use Rattle.rules_file.specs.declared.fault.RuleFault.TheVariants as rule
use Rattle.next_folder.specs.declared.barrier.Barrier.TheVariants as bar
use Rattle.next_folder.specs.Barred.{Bars, HasBadCrew, HasBadMembers, IsMonth, IsSpared}
use Rattle.next_folder.specs.Ends.{heir_bar, incomplete_roster, member_bar, rule_bar, unread_roster}
use Rattle.next_folder.specs.Rolled.{IsNextCrew, no_events}
use Rattle.next_folder.specs.Texts.{Ours, Theirs}

module _ (ours : Ours) (theirs : Theirs) (force : Bool) where
  pub bars_input : (why : BadInput) → Ends {X = Problem} (Names ours.inputs) ours.inputs (Err why) → Bars ours theirs force (bar.BadInput why)
  bars_input (bad.Fault fault) h = h
  bars_input bad.NoMemory h = tt

  -- ---- this month's roster

  module _ (problem : Problem) (names : Names ours.inputs problem) where
    faulty : (why : RosterTextFault) (c : RosterTextCode) → why.code ≡ c → (c ≡ text.NoMemory → ⊥) → (why ≢ no_memory → HasRosterFault problem ours.roster why) → Bars ours theirs force (bar.Roster why)
    faulty why c is other h = record { problem = problem; names = names; fails = h (λ e. other (sym is ∙ ap (λ (f : RosterTextFault). f.code) e)) }

    pub bars_roster : (why : RosterTextFault) (c : RosterTextCode) → why.code ≡ c → (why ≢ no_memory → HasRosterFault problem ours.roster why) → Bars ours theirs force (unread_roster c why)
    bars_roster why text.NoMemory is h = tt
    bars_roster why text.Header is h = faulty why text.Header is (λ e. absurd cc) h
    bars_roster why text.Shape is h = faulty why text.Shape is (λ e. absurd cc) h
    bars_roster why text.Member is h = faulty why text.Member is (λ e. absurd cc) h
    bars_roster why text.Pairing is h = faulty why text.Pairing is (λ e. absurd cc) h
    bars_roster why text.Sums is h = faulty why text.Sums is (λ e. absurd cc) h
    bars_roster why text.Rows is h = faulty why text.Rows is (λ e. absurd cc) h

    module _ (roster : List (List ℕ)) (read : IsTextOf problem ours.roster roster) where
      known_shortfall : (why : RosterFault) → (why ≢ shortfall.NoMemory) → IsFirstShortfall problem roster why → (why ≢ shortfall.NoMemory → ¬ (IsComplete problem roster)) → Bars ours theirs force (bar.Incomplete why)
      known_shortfall why known first wrong = record { problem = problem; names = names; roster = roster; read = read; known = known; first = first; refused = wrong known }

      pub bars_shortfall : (why : RosterFault) → IsFirstShortfall problem roster why → (why ≢ shortfall.NoMemory → ¬ (IsComplete problem roster)) → Bars ours theirs force (incomplete_roster why)
      bars_shortfall shortfall.NoMemory first wrong = tt
      bars_shortfall (shortfall.Line m why) first wrong = known_shortfall (shortfall.Line m why) (λ (e : shortfall.Line m why ≡ shortfall.NoMemory). absurd cc) first wrong
      bars_shortfall (shortfall.Cover p count) first wrong = known_shortfall (shortfall.Cover p count) (λ (e : shortfall.Cover p count ≡ shortfall.NoMemory). absurd cc) first wrong

  -- ---- the next month's rules

  module _ (problem : Problem) (roster : List (List ℕ)) (month : IsMonth ours problem roster) where
    module _ (given : List ℕ) (there : theirs.rules ≡ Some given) where
      bad_rules : (why : RuleFault) → rules_file given ≡ Err why → Bars ours theirs force (bar.NextRules why)
      bad_rules why h = record { problem = problem; roster = roster; month = month; text = given; there = there; fails = h }

      pub bars_rules : (why : RuleFault) → MatchOption (told why) (Unit {0}) (λ fault. rules_file given ≡ Err fault) → Bars ours theirs force (rule_bar why)
      bars_rules rule.NoMemory h = tt
      bars_rules rule.NotToml h = bad_rules rule.NotToml h
      bars_rules (rule.MissingKey key) h = bad_rules (rule.MissingKey key) h
      bars_rules (rule.UnknownKey key) h = bad_rules (rule.UnknownKey key) h
      bars_rules (rule.Range key) h = bad_rules (rule.Range key) h

      pub bars_other : (rules : MonthRules) → rules_file given ≡ Ok (values rules) → ¬ (Follows problem.base.rules.horizon rules.horizon) → Bars ours theirs force bar.OtherMonth
      bars_other rules h other = record { problem = problem; roster = roster; month = month; text = given; there = there; rules = rules; reads = h; other = other }

    pub bars_last : theirs.rules ≡ None → problem.base.rules.horizon.year ≡ pos 2099 → problem.base.rules.horizon.month ≡ 12 → Bars ours theirs force bar.LastMonth
    bars_last none year december = record { problem = problem; roster = roster; month = month; none = none; year = year; december = december }

  -- ---- its members

  pub bars_members : (why : FileFault) (read : Result (List Member) FileFault) (c : FileCode) → MatchOption (told_by c why) (Unit {0}) (λ fault. read ≡ Err fault)
      → (read ≡ Err why → HasBadCrew ours theirs force why ⊎ HasBadMembers ours theirs force why) → Bars ours theirs force (member_bar why c)
  bars_members why read code.NoMemory h has = tt
  bars_members why read code.Header h has = has h
  bars_members why read code.Utf8 h has = has h
  bars_members why read code.Width h has = has h
  bars_members why read (code.Field column fault) h has = has h
  bars_members why read code.Duplicate h has = has h
  bars_members why read code.Unknown h has = has h
  bars_members why read code.Order h has = has h
  bars_members why read code.OutsideMonth h has = has h
  bars_members why read code.InnerRest h has = has h
  bars_members why read (code.Limit number) h has = has h
  bars_members why read code.Empty h has = has h

  module _ (problem : Problem) (roster : List (List ℕ)) (rules : MonthRules) (before : IsSpared ours theirs force problem roster rules) where
    pub bars_crew : (given : List ℕ) → theirs.crew ≡ Some given → (why : FileFault) → MatchOption (told_by why.code why) (Unit {0}) (λ fault. members_of rules.horizon given no_events no_events ≡ Err fault)
        → Bars ours theirs force (member_bar why why.code)
    bars_crew given there why h =
        bars_members why (members_of rules.horizon given no_events no_events) why.code h
        (λ (e : members_of rules.horizon given no_events no_events ≡ Err why). inl (record { problem = problem; roster = roster; rules = rules; before = before; text = given; there = there; fails = e }))

    module _ (crew : List Member) (due : IsNextCrew problem.base.members rules.horizon theirs.crew crew) where
      no_heirs : (why : HeirFault) → ForLag problem.base.rules.horizon rules.horizon (λ d. HasHeirFault problem roster d crew why) → Bars ours theirs force (bar.Heir why)
      no_heirs why h = record { problem = problem; roster = roster; rules = rules; before = before; crew = crew; due = due; fails = h }

      pub bars_heir : (why : HeirFault) → ForLag problem.base.rules.horizon rules.horizon (λ d. HasHeirFault problem roster d crew why) → Bars ours theirs force (heir_bar why)
      bars_heir heir.NoMemory h = tt
      bars_heir (heir.Overlap m) h = no_heirs (heir.Overlap m) h
      bars_heir (heir.LongHistory m) h = no_heirs (heir.LongHistory m) h
      bars_heir (heir.LongFixed m) h = no_heirs (heir.LongFixed m) h
