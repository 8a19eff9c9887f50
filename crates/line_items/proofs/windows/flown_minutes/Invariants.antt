use Rattle.std.proofs.Common.{◌≡◌, take}
use Rattle.std.specs.List.{list_any}
use Rattle.duty_calendar.specs.Minutes.{is_between, count_between}
use Rattle.line_items.proofs.windows.flown_minutes.Given as goal

abbrev pub invariant-loop-flown : goal.invariant-loop-flown
invariant-loop-flown l =
    l.total ≡ count_between (λ m. list_any (λ f. is_between f.out_at f.in_at m) (take l.flown-index l.flights)) l.counted.from l.counted.to
