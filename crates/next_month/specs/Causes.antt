-- Why members of the next month cannot be written.
use Rattle.std.specs.Prelude.{◌≡◌, ℕ, ◌<◌, ◌≤◌, nat_le, nat_lt, List, Some, count_by, slice_get}
use Rattle.crew_files.specs.declared.part.Part.TheVariants.{History, Fixed}
use Rattle.crew_files.specs.Limits.{most_events}
use Rattle.duty_calendar.specs.declared.event.Event.{Event}
use Rattle.duty_calendar.specs.declared.member.Member.{Member}
use Rattle.duty_calendar.specs.Minutes.{is_between}
use Rattle.roster_model.specs.declared.problem.Problem.{Problem}
use Rattle.next_month.specs.declared.fault.HeirFault.{HeirFault}
use Rattle.next_month.specs.declared.fault.HeirFault.TheVariants as fault
use Rattle.next_month.specs.Carrying.{all_carried}
use Rattle.next_month.specs.Heirs.{events_by}

-- two of the events share a minute
pub record Overlaps (events : List Event) : Type 0 where
  pub minute : ℕ
  pub twice : 2 ≤ count_by (λ e. is_between e.report e.release minute) events

-- more events report before the month, or from its first minute on, than the reader takes of a member
abbrev pub AreManyPast : List Event → Type 0
AreManyPast events = most_events History < count_by (λ e. nat_lt e.report 525600) events

abbrev pub AreManyComing : List Event → Type 0
AreManyComing events = most_events Fixed < count_by (λ e. nat_le 525600 e.report) events

-- what is carried for the member at a place has this fault
abbrev pub Spoils : ℕ → List Event → HeirFault → Type 0
Spoils place events fault.NoMemory = Unit {0}
Spoils place events (fault.Overlap m) = (m ≡ place) × Overlaps events
Spoils place events (fault.LongHistory m) = (m ≡ place) × AreManyPast events
Spoils place events (fault.LongFixed m) = (m ≡ place) × AreManyComing events

-- some member of the crew has it
pub record HasFault (problem : Problem) (roster : List (List ℕ)) (d : ℕ) (crew : List Member) (why : HeirFault) : Type 0 where
  pub place : ℕ
  pub member : Member
  pub there : slice_get crew place ≡ Some member
  pub spoilt : Spoils place (all_carried d (events_by problem roster member.name)) why
