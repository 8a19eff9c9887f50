-- Members that keep the checks end within the horizon.
use Rattle.std.proofs.Common.{ℕ, ◌<◌, ◌≤◌, List, get_or, arith}
use Rattle.crew_files.specs.Texts.{EndsWithin, LiesWithin}
use Rattle.duty_calendar.specs.Calendar.{horizon_end}
use Rattle.duty_calendar.specs.Checks.{IsFiled, AreMembers}
use Rattle.duty_calendar.specs.declared.event.Event.{Event}
use Rattle.duty_calendar.specs.declared.event.Flown.{Flown}
use Rattle.duty_calendar.specs.declared.horizon.Horizon.{Horizon}
use Rattle.duty_calendar.specs.declared.member.Member.{Member}
use Rattle.std.specs.Prelude.{All}

event_ends : (h : Horizon) (e : Event) → IsFiled h e → EndsWithin h e
event_ends h e v =
    let a : e.report ≤ e.parked = v.form.reported in
    let b : e.parked ≤ e.release = v.form.parked in
    let c : e.release ≤ horizon_end h = v.ends in record {
      report = omega arith;
      parked = omega arith;
      release = c;
      flights = λ (n : ℕ) (y : Flown). λ w.
          let l = v.form.flights n y w in
          let f : (get_or e.flights n y).out_at < (get_or e.flights n y).in_at = l.1 in
          let g : (get_or e.flights n y).in_at ≤ e.parked = l.2 in
          (omega arith, omega arith);
    }

all_end : (h : Horizon) (events : List Event) → All (IsFiled h) events → All (EndsWithin h) events
all_end h events v k e w = event_ends h (get_or events k e) (v k e w)

pub valid_lies : (h : Horizon) (list : List Member) → AreMembers h list → All (LiesWithin h) list
valid_lies h list v k m w =
    let q = v.each k m w in
    record { history = all_end h (get_or list k m).history q.past; fixed = all_end h (get_or list k m).fixed q.coming }
