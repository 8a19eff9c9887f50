-- Base-local minutes as moments in UTC.
use Rattle.std.proofs.Common.{◌≡◌, ℕ, ◌+◌, ◌*◌, ◌/◌, ◌%◌, ◌<◌, ◌≤◌, ◌++◌, length, Bool, true, false, Some, None, refl, arith, ap, cond, ℤ, pos, negsuc, ◌+ℤ◌, ◌-ℤ◌, ◌*ℤ◌, ◌≤ℤ◌}
use Rattle.std.specs.Prelude.{nat_le, unsigned_abs, slice_range}
use Rattle.jiff_core.specs.Calendar.{days_from_civil}
use Rattle.jiff_core.specs.Date.{epoch_day}
use Rattle.jiff_core.specs.declared.civil.date.Date.{Date}
use Rattle.jiff_core.proofs.SignedLemmas.{signed_arith}
use Rattle.jiff_core.proofs.CalendarLemmas.{days_in_month_bounds}
use Rattle.duty_calendar.specs.Calendar.{up_to, day_zero, horizon_end, local_minute, minute_at}
use Rattle.duty_calendar.specs.declared.horizon.Horizon.{Horizon}
use Rattle.field_text.specs.Dates.{civil}
use Rattle.field_text.specs.Spelling.{day_text, date_text, clock_text, moment_end, moment_text, utc_minute}
use Rattle.field_text.proofs.Days.{pos-abs}
use Rattle.field_text.proofs.Walk.{civil_of, civil-year, month_bounds}

up_to-some : (limit k : ℕ) (z : ℤ) → up_to limit z ≡ Some k → z ≡ pos k
up_to-some limit k (pos n) h = go (nat_le n limit) h
  where
    go : (b : Bool) → cond b (Some n) None ≡ Some k → pos n ≡ pos k
    go true e = cc
    go false e = cc
up_to-some limit k (negsuc n) h = cc

-- a day and a minute of it in UTC, as a number of minutes
pub record AtUtc (h : Horizon) (minute : ℕ) (date : Date) (m : ℕ) : Type 0 where
  pub days : ℕ
  pub number : epoch_day date ≡ pos days
  pub early : days ≤ 60000
  pub same : utc_minute h minute ≡ days * 1440 + m

pub utc-of : (h : Horizon) (minute : ℕ) (date : Date) (m : ℕ) → m < 1440 → minute ≤ horizon_end h → minute_at h date m ≡ Some minute → AtUtc h minute date m
unfolding utc_minute
utc-of h minute date m l w e =
    let y = pos-abs h.year (omega (arith, signed_arith, h.year_in.0)) in
    let b = month_bounds (unsigned_abs h.year) h.month (omega (arith, signed_arith, y, h.year_in.0), omega (arith, signed_arith, y, h.year_in.1)) h.month_in in
    let first : days_from_civil h.year h.month 1 ≡ days_from_civil (pos (unsigned_abs h.year)) h.month 1 = ap (λ (z : ℤ). days_from_civil z h.month 1) y in
    let local = up_to-some (horizon_end h) minute (local_minute h date m) e in
    let n = pos-abs (epoch_day date) (omega (arith, signed_arith, local, first, b.0, h.offset_in.0, h.offset_in.1)) in
    let total : day_zero h *ℤ pos 1440 +ℤ pos minute -ℤ h.offset ≡ pos (unsigned_abs (epoch_day date) * 1440 + m) = omega (arith, signed_arith, local, n) in
    record {
      days = unsigned_abs (epoch_day date);
      number = n;
      early = omega (arith, signed_arith, local, n, first, b.1, h.offset_in.0, h.offset_in.1, (days_in_month_bounds h.year h.month).0);
      same = ap unsigned_abs total;
    }

pub utc-year : (h : Horizon) (minute : ℕ) (date : Date) (m : ℕ) → AtUtc h minute date m → (pos 0 ≤ℤ date.year) × (date.year ≤ℤ pos 9999)
utc-year h minute date m u =
    let c = civil_of date u.days u.number u.early in
    let y = civil-year u.days u.early in
    (omega (arith, signed_arith, c.0), omega (arith, signed_arith, c.0, y))

-- a moment is spelt as the date and the clock
pub moment-spelt : (h : Horizon) (minute : ℕ) (date : Date) (m : ℕ) → m < 1440 → AtUtc h minute date m → moment_text h minute ≡ date_text date ++ moment_end m
unfolding moment_text
moment-spelt h minute date m l u =
    let c = civil_of date u.days u.number u.early in
    let d : utc_minute h minute / 1440 ≡ u.days = omega (arith, u.same) in
    let r : utc_minute h minute % 1440 ≡ m = omega (arith, u.same) in
    let year : unsigned_abs date.year ≡ (civil u.days).year = ap unsigned_abs c.0 in
    rw (d, r, year, c.1, c.2) refl

pub day_part-of : (y n d m : ℕ) → slice_range (day_text y n d ++ moment_end m) 0 10 ≡ day_text y n d
unfolding day_text clock_text
day_part-of y n d m = refl

pub clock_part-of : (y n d m : ℕ) → slice_range (day_text y n d ++ moment_end m) 11 16 ≡ clock_text m
unfolding day_text clock_text
clock_part-of y n d m = refl

pub long-of : (y n d m : ℕ) → length (day_text y n d ++ moment_end m) ≡ 17
unfolding day_text clock_text
long-of y n d m = refl
