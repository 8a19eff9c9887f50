-- Rows that are written are read as what they spell.
use Rattle.std.proofs.Common.{◌≡◌, ℕ, ◌-◌, ◌^◌, ◌<◌, ◌≤◌, List, [], ◌∷◌, length, true, Option, Some, None, Result, Ok, refl, ap}
use Rattle.std.specs.Option.{ForSome}
use Rattle.std.specs.Prelude.{IsTrue}
use Rattle.std.specs.Str.Parse.{digits_value}
use Rattle.duty_calendar.specs.Calendar.{horizon_end}
use Rattle.duty_calendar.specs.Forms.{is_name, is_station_code}
use Rattle.duty_calendar.specs.declared.horizon.Horizon.{Horizon}
use Rattle.duty_calendar.specs.declared.pairing.Duty.{Duty}
use Rattle.duty_calendar.specs.declared.pairing.Leg.{Leg}
use Rattle.duty_calendar.specs.declared.pairing.Pairing.{Pairing}
use Rattle.field_text.specs.Fields.{number, minutes, moment, name, station, below, minutes_value, moment_value, name_field, number_field, minutes_field, moment_field, station_field}
use Rattle.field_text.specs.Form.{row}
use Rattle.field_text.specs.Spelling.{number_text, minutes_text, moment_text}
use Rattle.field_text.specs.Steps.{◌>>=◌, or_fault}
use Rattle.field_text.specs.declared.field_fault.FieldFault.{FieldFault}
use Rattle.field_text.specs.declared.field_fault.FieldFault.TheVariants.{Range}
use Rattle.field_text.proofs.Again.{number-again, minutes-again}
use Rattle.field_text.proofs.CleanLines.{are_clean, AreClean, clean-field}
use Rattle.field_text.proofs.FieldsAgain.{name-again, station-again}
use Rattle.field_text.proofs.MomentAgain.{moment-read}
use Rattle.pairing_files.specs.declared.row.DutyRow.{DutyRow}
use Rattle.pairing_files.specs.declared.row.LegRow.{LegRow}
use Rattle.pairing_files.specs.Columns.{layover_field, pairing_columns, duty_columns, leg_columns}
use Rattle.pairing_files.specs.Texts.{layover_text, pairing_fields, duty_fields, leg_fields}
use Rattle.pairing_files.proofs.Begun.{Stays, Joins}
use Rattle.pairing_files.proofs.RowsLead.{three-columns, six-columns}

-- a pairing with these duties, and a duty with these legs
abbrev pub dutied : Pairing → List Duty → Pairing
dutied p ds = record p { duties = ds }

abbrev pub legged : Duty → List Leg → Duty
legged d ls = record d { legs = ls }

-- fields

name-clean : (text : List ℕ) → IsTrue (is_name text) → are_clean text ≡ true
name-clean text h = clean-field name (λ t. Ok t) text text refl (name-again text h)

station-clean : (text : List ℕ) → IsTrue (is_station_code text) → are_clean text ≡ true
station-clean text h = clean-field (row station) (λ t. Ok t) text text refl (station-again text h)

number-clean : (n : ℕ) → n < 2 ^ 32 → are_clean (number_text n) ≡ true
number-clean n h = clean-field number (λ t. or_fault Range (below (2 ^ 32) (digits_value 10 t))) (number_text n) n refl (number-again n h)

minutes-clean : (n : ℕ) → n < 60000 → are_clean (minutes_text n) ≡ true
minutes-clean n h = clean-field minutes (λ t. or_fault Range (minutes_value t (length t - 3))) (minutes_text n) n refl (minutes-again n h)

moment-clean : (h : Horizon) (n : ℕ) → n ≤ horizon_end h → are_clean (moment_text h n) ≡ true
moment-clean h n w = clean-field (row moment) (moment_value h) (moment_text h n) n refl (moment-read h n w)

layover-again : (o : Option (List ℕ)) → ForSome o (λ s. IsTrue (is_station_code s)) → layover_field (layover_text o) ≡ Ok o
layover-again None h = refl
layover-again (Some []) h = absurd (cc (h [] refl))
layover-again (Some (b ∷ bs)) h = ap (λ (r : Result (List ℕ) FieldFault). r >>= (λ s. Ok (Some s))) (station-again (b ∷ bs) (h (b ∷ bs) refl))

layover-clean : (o : Option (List ℕ)) → ForSome o (λ s. IsTrue (is_station_code s)) → are_clean (layover_text o) ≡ true
layover-clean None h = refl
layover-clean (Some s) h = station-clean s (h s refl)

-- a row of each file

pub record IsPairingRow (p : Pairing) : Type 0 where
  pub named : IsTrue (is_name p.name)
  pub need : p.need < 2 ^ 32
  pub credit : p.credit < 60000

pub pairing-read : (p : Pairing) → IsPairingRow p → pairing_columns (pairing_fields p) ≡ Ok (dutied p [])
pairing-read p g = three-columns (name_field p.name) (number_field (number_text p.need)) (minutes_field (minutes_text p.credit))
    (λ (name : List ℕ) (need credit : ℕ). let made : Pairing = record { name = name; need = need; credit = credit; duties = [] } in made) p.name p.need p.credit
    (name-again p.name g.named) (number-again p.need g.need) (minutes-again p.credit g.credit)

pub pairing-clean : (p : Pairing) → IsPairingRow p → AreClean (pairing_fields p)
pairing-clean p g = (name-clean p.name g.named, (number-clean p.need g.need, (minutes-clean p.credit g.credit, tt)))

pub record IsDutyRow (h : Horizon) (name : List ℕ) (number : ℕ) (d : Duty) : Type 0 where
  pub named : IsTrue (is_name name)
  pub numbered : number < 2 ^ 32
  pub report : d.report ≤ horizon_end h
  pub parked : d.parked ≤ horizon_end h
  pub release : d.release ≤ horizon_end h
  pub stays : Stays d

abbrev pub a_duty_row : List ℕ → ℕ → Duty → DutyRow
a_duty_row name number d = record { name = name; number = number; duty = legged d [] }

pub duty-read : (h : Horizon) (name : List ℕ) (number : ℕ) (d : Duty) → IsDutyRow h name number d → duty_columns h (duty_fields h name number d) ≡ Ok (a_duty_row name number d)
duty-read h name number d g = six-columns (name_field name) (number_field (number_text number)) (moment_field h (moment_text h d.report)) (moment_field h (moment_text h d.parked)) (moment_field h (moment_text h d.release)) (layover_field (layover_text d.layover))
    (λ (name : List ℕ) (number report parked release : ℕ) (layover : Option (List ℕ)).
    let made : DutyRow = record { name = name; number = number; duty = record { report = report; parked = parked; release = release; layover = layover; legs = [] } } in made)
    name number d.report d.parked d.release d.layover
    (name-again name g.named) (number-again number g.numbered) (moment-read h d.report g.report) (moment-read h d.parked g.parked) (moment-read h d.release g.release) (layover-again d.layover g.stays)

pub duty-clean : (h : Horizon) (name : List ℕ) (number : ℕ) (d : Duty) → IsDutyRow h name number d → AreClean (duty_fields h name number d)
duty-clean h name number d g =
    (name-clean name g.named, (number-clean number g.numbered, (moment-clean h d.report g.report, (moment-clean h d.parked g.parked, (moment-clean h d.release g.release, (layover-clean d.layover g.stays, tt))))))

pub record IsLegRow (h : Horizon) (name : List ℕ) (number : ℕ) (l : Leg) : Type 0 where
  pub named : IsTrue (is_name name)
  pub numbered : number < 2 ^ 32
  pub out_at : l.flown.out_at ≤ horizon_end h
  pub in_at : l.flown.in_at ≤ horizon_end h
  pub joins : Joins l

abbrev pub a_leg_row : List ℕ → ℕ → Leg → LegRow
a_leg_row name number l = record { name = name; number = number; leg = l }

pub leg-read : (h : Horizon) (name : List ℕ) (number : ℕ) (l : Leg) → IsLegRow h name number l → leg_columns h (leg_fields h name number l) ≡ Ok (a_leg_row name number l)
leg-read h name number l g = six-columns (name_field name) (number_field (number_text number)) (station_field l.from) (station_field l.to) (moment_field h (moment_text h l.flown.out_at)) (moment_field h (moment_text h l.flown.in_at))
    (λ (name : List ℕ) (number : ℕ) (from to : List ℕ) (out_at in_at : ℕ).
    let made : LegRow = record { name = name; number = number; leg = record { from = from; to = to; flown = record { out_at = out_at; in_at = in_at } } } in made)
    name number l.from l.to l.flown.out_at l.flown.in_at
    (name-again name g.named) (number-again number g.numbered) (station-again l.from g.joins.0) (station-again l.to g.joins.1) (moment-read h l.flown.out_at g.out_at) (moment-read h l.flown.in_at g.in_at)

pub leg-clean : (h : Horizon) (name : List ℕ) (number : ℕ) (l : Leg) → IsLegRow h name number l → AreClean (leg_fields h name number l)
leg-clean h name number l g =
    (name-clean name g.named, (number-clean number g.numbered, (station-clean l.from g.joins.0, (station-clean l.to g.joins.1, (moment-clean h l.flown.out_at g.out_at, (moment-clean h l.flown.in_at g.in_at, tt))))))
