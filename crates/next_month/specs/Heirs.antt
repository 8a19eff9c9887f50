-- The members of the next month: what this month left them.
use Rattle.std.specs.Prelude.{◌≡◌, ℕ, List, [], ◌++◌, Option}
use Rattle.std.specs.List.{AllZip, position}
use Rattle.std.specs.List.Sorted.{IsPermutation}
use Rattle.std.specs.Option.{option_map_or}
use Rattle.std.specs.Str.{bytes_eq}
use Rattle.duty_calendar.specs.declared.event.Event.{Event}
use Rattle.duty_calendar.specs.declared.member.Member.{Member}
use Rattle.roster_model.specs.declared.problem.Problem.{Problem}
use Rattle.roster_model.specs.Rosters.{line_at}
use Rattle.roster_model.specs.Timelines.{events_of}
use Rattle.next_month.specs.Carrying.{all_carried}

-- the place of this month's member of a name
unfoldable pub place_named : Problem → List ℕ → Option ℕ
place_named problem name = position (λ m. bytes_eq m.name name) problem.base.members

-- all events of the member of a name with the line of the roster; one who is new has none
abbrev pub events_by : Problem → List (List ℕ) → List ℕ → List Event
events_by problem roster name =
    option_map_or (λ m. events_of problem m (line_at roster m)) (place_named problem name) []

-- by a count that lags `d` minutes behind, a member of the next month's crew with what is carried of these events, each
-- once: those before the month are the history, the others are fixed
pub record IsHeir (problem : Problem) (roster : List (List ℕ)) (d : ℕ) (crew next : Member) : Type 0 where
  pub name : next.name ≡ crew.name
  pub low : next.low ≡ crew.low
  pub high : next.high ≡ crew.high
  pub events : IsPermutation (all_carried d (events_by problem roster crew.name)) (next.history ++ next.fixed)

abbrev pub AreHeirs : Problem → List (List ℕ) → ℕ → List Member → List Member → Type 0
AreHeirs problem roster d crew next = AllZip (IsHeir problem roster d) crew next
