-- Free blocks of 1,800 minutes: the last one of a stretch, and from when on an item wants one.
use Rattle.std.specs.List.{list_any, range_with_len}
use Rattle.std.specs.Option.{option_map_or}
use Rattle.std.specs.Prelude.{ℕ, zero, suc, ◌+◌, ◌-◌, max, Bool, false, not, nat_le, List, [], ◌∷◌, Option, Some, None, ◌++◌, unwrap_or, if◌then◌else◌}
use Rattle.duty_calendar.specs.Minutes.{is_duty_minute}
use Rattle.duty_calendar.specs.declared.event.Event.{Event}
use Rattle.roster_model.specs.Spans.{first_report}
use Rattle.roster_model.specs.declared.problem.Problem.{Problem}
use Rattle.roster_model.specs.declared.proof.Lens.{Lens}
use Rattle.line_items.specs.Clear.{base_of, duties_of}
use Rattle.line_items.specs.Items.{by_item, item_begins, item_events, item_span}

-- whether the 1,800 minutes from `start` on have no duty
unfoldable pub is_free_block : List Event → ℕ → Bool
is_free_block events start = not (list_any (is_duty_minute events) (range_with_len start 1800))

-- the greatest number from `low` to `low + count - 1` that passes
unfoldable pub last_passing : (ℕ → Bool) → ℕ → ℕ → Option ℕ
last_passing test low zero = None
last_passing test low (suc count) = if test (low + count) then Some (low + count) else last_passing test low count

-- the latest start of a free block that lies from `from` to `to`
abbrev pub last_block : List Event → ℕ → ℕ → Option ℕ
last_block events from to = last_passing (is_free_block events) from ((to + 1) - (from + 1800))

-- whether a free block between the first of the reports and this one lies within the 10,080 minutes before it
abbrev pub is_served : List Event → ℕ → ℕ → Bool
is_served own first report = option_map_or (λ start. nat_le report (start + 10080)) (last_block own first report) false

-- from when on a free block must begin that ends before the first of the reports, so that each of them has one
abbrev pub least_start : List Event → ℕ → List Event → ℕ
least_start own first [] = 0
least_start own first (e ∷ es) =
    max (if is_served own first e.report then 0 else e.report - 10080) (least_start own first es)

abbrev pub item_least : Problem → ℕ → Lens → ℕ → ℕ
item_least problem member lens =
    by_item problem member lens
    (λ p. least_start (duties_of p) (first_report p.duties) (duties_of p))
    (λ e. e.report - 10080)
    0

-- the start of the last free block of the member's own events that ends before the item begins, or 0
abbrev pub base_block : Problem → ℕ → Lens → ℕ → ℕ
base_block problem member lens item = unwrap_or (last_block (base_of problem member) 0 (item_begins problem member lens item)) 0

-- the start of the last free block within the item, or 0
abbrev pub own_block : Problem → ℕ → Lens → ℕ → ℕ
own_block problem member lens item =
    unwrap_or
    (last_block (base_of problem member ++ item_events problem member lens item) (item_begins problem member lens item)
    (item_span problem member lens item).stop)
    0
