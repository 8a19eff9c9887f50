-- What is found of the texts of both folders, put together.
use Rattle.std.proofs.Common.{◌≡◌, ℕ, Bool, true, List, ◌++◌, Result, Ok, Err, sym, subst}
use Rattle.std.specs.Prelude.{IfErr, IfOk, is_some}
use Rattle.duty_calendar.specs.declared.member.Member.{Member}
use Rattle.duty_calendar.specs.declared.member.Rules.{Rules}
use Rattle.month_files.specs.Months.{Names}
use Rattle.month_files.specs.Reading.{UnreadIs}
use Rattle.month_files.specs.declared.unread.Unread.{Unread}
use Rattle.shelf.specs.declared.tally.Tally.{Tally}
use Rattle.next_month.specs.Lags.{Follows}
use Rattle.roster_model.specs.declared.problem.Problem.{Problem}
use Rattle.roster_model.specs.Rosters.{IsComplete}
use Rattle.roster_text.specs.RosterText.{IsTextOf}
use Rattle.shelf.specs.Files.{Files}
use Rattle.shelf.specs.Logs.{Entries}
use Rattle.next_folder.specs.declared.rolled.RolledOver.{RolledOver}
use Rattle.next_folder.specs.declared.barrier.Barrier.{Barrier}
use Rattle.next_folder.specs.declared.stop.HistoryStop.{HistoryStop}
use Rattle.next_folder.specs.declared.stop.HistoryStop.TheVariants as stop
use Rattle.next_folder.specs.declared.barrier.Barrier.TheVariants as bar
use Rattle.next_folder.specs.Barred.{Bars}
use Rattle.next_folder.specs.Counts.{IsWritten}
use Rattle.next_folder.specs.Ends.{IsBarred, IsEnd, IsNextUnread, IsPlan, IsPlanHanded, IsPlanOver, IsRolling, IsRollingHanded, OverFolders, OverReads}
use Rattle.next_folder.specs.Rolled.{IsNextRules, HasHeirs, HasRolled, Says, coming_text, past_text}
use Rattle.next_folder.proofs.Taken.{heirs-bare, taken-past, taken-whole}
use Rattle.crew_files.specs.Texts.{crew_text}
use Rattle.next_folder.specs.Texts.{Ours, Theirs, ours_in, ours_texts, theirs_in, theirs_texts}

pub has_rolled : (ours : Ours) (theirs : Theirs) (force : Bool) (problem : Problem) (roster : List (List ℕ)) (rules : Rules) (members : List Member) (made : RolledOver)
    → Names ours.inputs problem → IsTextOf problem ours.roster roster → IsComplete problem roster
    → IsNextRules problem.base.rules theirs.rules rules → Follows problem.base.rules.horizon rules.horizon → (is_some theirs.history ≡ true → force ≡ true)
    → HasHeirs problem roster rules.horizon theirs.crew members → (made.rules ≡ rules) × (made.members ≡ members) → Says problem theirs made
    → HasRolled ours theirs force made
has_rolled ours theirs force problem roster rules members made names read complete next follows spared heirs given said =
    let left : HasHeirs problem roster made.rules.horizon theirs.crew made.members =
    subst (λ (r : Rules). HasHeirs problem roster r.horizon theirs.crew made.members) (sym given.0)
    (subst (λ (ms : List Member). HasHeirs problem roster rules.horizon theirs.crew ms) (sym given.1) heirs) in
    let alike = heirs-bare problem roster left.heirs.lag left.crew made.members left.heirs.holds in
    record {
      problem = problem;
      names = names;
      roster = roster;
      read = read;
      complete = complete;
      next_rules = subst (λ (r : Rules). IsNextRules problem.base.rules theirs.rules r) (sym given.0) next;
      follows = subst (λ (r : Rules). Follows problem.base.rules.horizon r.horizon) (sym given.0) follows;
      spared = spared;
      members = left;
      said = said;
      past = taken-past made.rules.horizon problem.base.members left.crew made.members made.taken theirs.crew theirs.fixed (past_text made.rules made.members) (coming_text made.rules made.members) (crew_text made.members)
          left.next_crew alike said.again said.taken.reads;
      whole = taken-whole made.rules.horizon problem.base.members left.crew made.members made.taken theirs.crew theirs.fixed (past_text made.rules made.members) (coming_text made.rules made.members) (crew_text made.members)
          left.next_crew alike said.again said.taken.reads;
    }

pub all_rolled : (ours : Ours) (theirs : Theirs) (force : Bool) (problem : Problem) (roster : List (List ℕ)) (rules : Rules) (members : List Member) (r : Result RolledOver Barrier)
    → Names ours.inputs problem → IsTextOf problem ours.roster roster → IsComplete problem roster
    → IsNextRules problem.base.rules theirs.rules rules → Follows problem.base.rules.horizon rules.horizon → (is_some theirs.history ≡ true → force ≡ true)
    → HasHeirs problem roster rules.horizon theirs.crew members → IfOk r (λ made. (made.rules ≡ rules) × (made.members ≡ members)) → IfOk r (Says problem theirs)
    → IfOk r (HasRolled ours theirs force)
all_rolled ours theirs force problem roster rules members (Ok made) names read complete next follows spared heirs given said =
    has_rolled ours theirs force problem roster rules members made names read complete next follows spared heirs given said
all_rolled ours theirs force problem roster rules members (Err e) names read complete next follows spared heirs given said = tt

-- over the texts of both folders: a plan, and what stands against one
module _ (over : (Ours → Theirs → Type 0) → Type 0) (own others : Unread → Type 0) (force : Bool) where
  module _ (ours : Ours) (theirs : Theirs) (gives : (P : Ours → Theirs → Type 0) → P ours theirs → over P) where
    barred_by : (why : Barrier) → Bars ours theirs force why → IsBarred over own others force why
    barred_by (bar.Unread why) h = absurd h
    barred_by (bar.BadInput why) h = gives (λ o t. Bars o t force (bar.BadInput why)) h
    barred_by (bar.Roster fault) h = gives (λ o t. Bars o t force (bar.Roster fault)) h
    barred_by (bar.Incomplete why) h = gives (λ o t. Bars o t force (bar.Incomplete why)) h
    barred_by bar.LastMonth h = gives (λ o t. Bars o t force bar.LastMonth) h
    barred_by (bar.NextUnread why) h = absurd h
    barred_by (bar.NextRules fault) h = gives (λ o t. Bars o t force (bar.NextRules fault)) h
    barred_by bar.OtherMonth h = gives (λ o t. Bars o t force bar.OtherMonth) h
    barred_by (bar.NextMembers fault) h = gives (λ o t. Bars o t force (bar.NextMembers fault)) h
    barred_by bar.IsThere h = gives (λ o t. Bars o t force bar.IsThere) h
    barred_by (bar.Heir why) h = gives (λ o t. Bars o t force (bar.Heir why)) h
    barred_by (bar.TooLong f) h = gives (λ o t. Bars o t force (bar.TooLong f)) h
    barred_by bar.NoMemory h = tt

    planned_by : (r : Result RolledOver Barrier) → IfOk r (HasRolled ours theirs force) → IfErr r (Bars ours theirs force) → IsPlan over own others force r
    planned_by (Ok made) h k = gives (λ o t. HasRolled o t force made) h
    planned_by (Err why) h k = barred_by why k

  -- what is written is what was planned
  pub ended_by : (rolled : RolledOver) (old new : Tally) (r : Result RolledOver HistoryStop) → IsPlan over own others force (Ok rolled) → IsWritten rolled old new r → IsEnd over own others force r
  ended_by rolled old new (Ok made) h w = subst (λ (m : RolledOver). over (λ o t. HasRolled o t force m)) (sym w.0) h
  ended_by rolled old new (Err (stop.Unwritten made u)) h w = (subst (λ (m : RolledOver). over (λ o t. HasRolled o t force m)) (sym w.0) h, w.1)
  ended_by rolled old new (Err (stop.Barred why)) h w = absurd w

pub told_by : (files others : Files) (force : Bool) (ours : Ours) (theirs : Theirs) (r : Result RolledOver Barrier) → ours_in files ≡ Ok ours → theirs_in others ≡ Ok theirs
    → IfOk r (HasRolled ours theirs force) → IfErr r (Bars ours theirs force) → IsPlanOver files others force r
told_by files others force ours theirs r read next h k =
    planned_by (OverFolders files others) (λ why. UnreadIs why (ours_in files)) (IsNextUnread files others) force ours theirs
    (λ P p. record { ours = ours; theirs = theirs; read = read; next_read = next; holds = p }) r h k

pub handed_by : (old new others_old others_new : Entries) (force : Bool) (ours : Ours) (theirs : Theirs) (r : Result RolledOver Barrier) → new ≡ old ++ ours_texts ours → others_new ≡ others_old ++ theirs_texts theirs
    → IfOk r (HasRolled ours theirs force) → IfErr r (Bars ours theirs force) → IsPlanHanded old new others_old others_new force r
handed_by old new others_old others_new force ours theirs r read next h k =
    planned_by (OverReads old new others_old others_new) (λ why. Unit {0}) (λ why. Unit {0}) force ours theirs
    (λ P p. record { ours = ours; theirs = theirs; logged = read; next_logged = next; holds = p }) r h k

-- what is written reads nothing
pub handed_still : (old new others_old others_new last : Entries) (force : Bool) (rolled : RolledOver) (r : Result RolledOver HistoryStop) (before after : Tally) → IsPlanHanded old new others_old others_new force (Ok rolled)
    → last ≡ others_new → IsWritten rolled before after r → IsRollingHanded old new others_old last force r
handed_still old new others_old others_new last force rolled r before after h unlogged w =
    ended_by (OverReads old new others_old last) (λ why. Unit {0}) (λ why. Unit {0}) force rolled before after r
    (subst (λ (es : Entries). IsPlanHanded old new others_old es force (Ok rolled)) (sym unlogged) h) w

pub told_still : (files others : Files) (force : Bool) (rolled : RolledOver) (r : Result RolledOver HistoryStop) (before after : Tally) → IsPlanOver files others force (Ok rolled) → IsWritten rolled before after r → IsRolling files others force r
told_still files others force rolled r before after h w =
    ended_by (OverFolders files others) (λ why. UnreadIs why (ours_in files)) (IsNextUnread files others) force rolled before after r h w
