use Rattle.std.proofs.Common.{◌≡◌, take}
use Rattle.std.specs.List.{list_any}
use Rattle.duty_calendar.specs.Minutes.{is_between, count_between}
use Rattle.line_items.proofs.windows.leg_minutes.Given as goal

abbrev pub invariant-loop-leg : goal.invariant-loop-leg
invariant-loop-leg l =
    l.total ≡ count_between (λ m. list_any (λ x. is_between x.flown.out_at x.flown.in_at m) (take l.leg-index l.legs)) l.counted.from l.counted.to
