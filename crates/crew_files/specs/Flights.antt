-- How a field of flights reads: `out/in` moments, joined by one blank.
use Rattle.std.specs.Prelude.{◌≡◌, All, flat_map, ℕ, zero, suc, ◌+◌, ◌/◌, ◌%◌, List, [], ◌∷◌, ◌++◌, length, drop, slice_range, slice_index_or, nat_le, ◌==◌, Option, Some, None, Result, Ok, Err, if◌then◌else◌}
use Rattle.duty_calendar.specs.declared.event.Flown.{Flown}
use Rattle.duty_calendar.specs.declared.event.Kind.{Kind}
use Rattle.duty_calendar.specs.declared.horizon.Horizon.{Horizon}
use Rattle.duty_calendar.specs.Minutes.{is_flight}
use Rattle.field_text.specs.declared.form.Class.{Class}
use Rattle.field_text.specs.declared.form.Class.TheVariants.{Digit, Byte}
use Rattle.field_text.specs.declared.field_fault.FieldFault.{FieldFault}
use Rattle.field_text.specs.declared.field_fault.FieldFault.TheVariants.{Empty}
use Rattle.field_text.specs.Codes.{field_code}
use Rattle.field_text.specs.Form.{is_in, IsRow}
use Rattle.field_text.specs.Fields.{moment, moment_field, shaped}

-- the 35 bytes of a flight
abbrev pub flight : List Class
flight = moment ++ Byte 47 ∷ moment

-- bytes of these classes in a row, and then any number of flights, each behind one blank
pub record AndFlights (classes : List Class) (text : List ℕ) : Type 0 where
  pub first : List ℕ
  pub more : List (List ℕ)
  pub row : IsRow classes first
  pub rows : All (IsRow flight) more
  pub text_is : text ≡ first ++ flat_map (λ f. 32 ∷ f) more

-- flights, joined by one blank
abbrev pub AreFlights : List ℕ → Type 0
AreFlights text = AndFlights flight text

-- a flight and the blank behind it
abbrev pub flight_row : List Class
flight_row = flight ++ Byte 32 ∷ []

-- the column of the first byte at which no list of flights goes on, where the text begins at
-- place n; a list ends behind a flight
unfoldable pub flights_fault : ℕ → List ℕ → Option ℕ
flights_fault n [] = if n % 36 == 35 then None else Some (n + 1)
flights_fault n (b ∷ bs) =
    if is_in (slice_index_or flight_row (n % 36) Digit) b then flights_fault (n + 1) bs else
    Some (n + 1)

-- of two faults the one with the lower code
abbrev pub earlier : FieldFault → FieldFault → FieldFault
earlier a b = if nat_le (field_code a) (field_code b) then a else b

-- what two readings make together, or the fault with the lower code
abbrev pub joined : {A B C : Type 0} → (A → B → C) → Result A FieldFault → Result B FieldFault
    → Result C FieldFault
joined f (Ok x) (Ok y) = Ok (f x y)
joined f (Ok x) (Err e) = Err e
joined f (Err e) (Ok y) = Err e
joined f (Err d) (Err e) = Err (earlier d e)

abbrev pub flown : ℕ → ℕ → Flown
flown out in_at = record { out_at = out; in_at = in_at }

-- the flights that were read, or the fault of those that were not
abbrev pub gathered : Option FieldFault → List Flown → Result (List Flown) FieldFault
gathered None flights = Ok flights
gathered (Some fault) flights = Err fault

abbrev pub followed : List Flown → Flown → List Flown
followed flights f = flights ++ f ∷ []

-- the flight of 35 bytes
abbrev pub flight_value : Horizon → List ℕ → Result Flown FieldFault
flight_value h text =
    joined flown (moment_field h (slice_range text 0 17)) (moment_field h (slice_range text 18 35))

-- so many flights, each with the blank behind it
unfoldable pub flights_value : Horizon → ℕ → List ℕ → Result (List Flown) FieldFault
flights_value h zero text = Ok []
flights_value h (suc k) text =
    joined (λ f fs. f ∷ fs) (flight_value h (slice_range text 0 35))
    (flights_value h k (drop 36 text))

-- the flights of a field; one of no flight event may be empty
abbrev pub flights_field : Horizon → Kind → List ℕ → Result (List Flown) FieldFault
flights_field h kind [] = if is_flight kind then Err Empty else Ok []
flights_field h kind (b ∷ bs) =
    shaped (flights_fault 0 (b ∷ bs)) (flights_value h ((length (b ∷ bs) + 1) / 36) (b ∷ bs))
