-- Minutes in the windows of a lens.
use Rattle.std.specs.Prelude.{ℕ, zero, suc, ◌+◌, ◌-◌, ◌*◌, List, [], ◌∷◌}
use Rattle.duty_calendar.specs.Minutes.{count_between, is_flying_minute, is_period_minute}
use Rattle.duty_calendar.specs.declared.event.Event.{Event}
use Rattle.roster_model.specs.declared.problem.Problem.{Problem}
use Rattle.roster_model.specs.declared.proof.Lens.{Lens}
use Rattle.roster_model.specs.declared.proof.Window.{Window}
use Rattle.roster_model.specs.declared.proof.WindowKind.TheVariants.{Flight672, Duty672, Duty168, Flight365}
use Rattle.roster_model.specs.declared.proof.WindowKind.{WindowKind}
use Rattle.line_items.specs.Clear.{base_of}

-- how many minutes of the events count for the limit, in the window
abbrev pub minutes_from : List Event → ℕ → WindowKind → ℕ
minutes_from events start Flight672 = count_between (is_flying_minute events) start (start + 40320)
minutes_from events start Duty672 = count_between (is_period_minute events) start (start + 40320)
minutes_from events start Duty168 = count_between (is_period_minute events) start (start + 10080)
minutes_from events last Flight365 = count_between (is_flying_minute events) (1440 * (last - 364)) (1440 * (last + 1))

abbrev pub window_minutes : List Event → Window → ℕ
window_minutes events w = minutes_from events w.start w.kind

abbrev pub kind_limit : WindowKind → ℕ
kind_limit Flight672 = 6000
kind_limit Duty672 = 11400
kind_limit Duty168 = 3600
kind_limit Flight365 = 60000

-- a number for each window, and 0 for the places that no window takes
abbrev pub spread : ℕ → (Window → ℕ) → List Window → List ℕ
spread zero of ws = []
spread (suc n) of [] = 0 ∷ spread n of []
spread (suc n) of (w ∷ ws) = of w ∷ spread n of ws

-- what history and fixed events take of each window
abbrev pub base_usage : ℕ → Problem → ℕ → Lens → List ℕ
base_usage width problem member lens = spread width (window_minutes (base_of problem member)) lens.windows
