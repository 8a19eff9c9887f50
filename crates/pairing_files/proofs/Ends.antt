-- Pairings that keep the checks end within the horizon.
use Rattle.std.proofs.Common.{ℕ, ◌<◌, ◌≤◌, List, get_or, arith}
use Rattle.duty_calendar.specs.Calendar.{horizon_end}
use Rattle.duty_calendar.specs.Checks.{IsDuty, ArePairings}
use Rattle.duty_calendar.specs.declared.horizon.Horizon.{Horizon}
use Rattle.duty_calendar.specs.declared.pairing.Duty.{Duty}
use Rattle.duty_calendar.specs.declared.pairing.Leg.{Leg}
use Rattle.duty_calendar.specs.declared.pairing.Pairing.{Pairing}
use Rattle.pairing_files.specs.Texts.{DutyEndsWithin, EndWithin}

duty_ends : (h : Horizon) (d : Duty) → IsDuty d → d.release ≤ horizon_end h → DutyEndsWithin h d
duty_ends h d v e =
    let a : d.report ≤ d.parked = v.reported in
    let b : d.parked ≤ d.release = v.parked in (
      omega arith,
      omega arith,
      e,
      λ (n : ℕ) (y : Leg). λ w.
          let l = v.legs n y w in
          let c : (get_or d.legs n y).flown.out_at < (get_or d.legs n y).flown.in_at = l.1 in
          let f : (get_or d.legs n y).flown.in_at ≤ d.parked = l.2 in
          (omega arith, omega arith),
    )

pub valid_ends : (h : Horizon) (list : List Pairing) → ArePairings h list → EndWithin h list
valid_ends h list v k p w m d z =
    let q = v.each k p w in
    duty_ends h (get_or (get_or list k p).duties m d) (q.each_duty m d z) (q.ends m d z)
