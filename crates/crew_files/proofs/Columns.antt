-- The columns of a row, one after another.
use Rattle.std.proofs.Common.{◌≡◌, ℕ, List, [], Ok, Err, refl, slice_index_or}
use Rattle.duty_calendar.specs.declared.event.Flown.{Flown}
use Rattle.duty_calendar.specs.declared.event.Kind.{Kind}
use Rattle.duty_calendar.specs.declared.horizon.Horizon.{Horizon}
use Rattle.duty_calendar.specs.declared.member.Member.{Member}
use Rattle.field_text.specs.declared.file_fault.FileCode.{FileCode}
use Rattle.field_text.specs.Fields.{name_field, minutes_field, moment_field, kind_field}
use Rattle.field_text.specs.Rows.{in_column}
use Rattle.crew_files.specs.Crew.{crew_columns, member_checked}
use Rattle.crew_files.specs.Events.{event_columns}
use Rattle.crew_files.specs.Flights.{flights_field}

module _ (before : List Member) (n l u : List ℕ) where
  pub crew-1 : (e : FileCode) → in_column 1 (name_field n) ≡ Err e → crew_columns before n l u ≡ Err e
  crew-1 e a = rw a refl

  pub crew-2 : (x : List ℕ) (e : FileCode) → in_column 1 (name_field n) ≡ Ok x → in_column 2 (minutes_field l) ≡ Err e → crew_columns before n l u ≡ Err e
  crew-2 x e a b = rw (a, b) refl

  pub crew-3 : (x : List ℕ) (y : ℕ) (e : FileCode) → in_column 1 (name_field n) ≡ Ok x → in_column 2 (minutes_field l) ≡ Ok y → in_column 3 (minutes_field u) ≡ Err e → crew_columns before n l u ≡ Err e
  crew-3 x y e a b c = rw (a, b, c) refl

  pub crew-all : (x : List ℕ) (y z : ℕ) → in_column 1 (name_field n) ≡ Ok x → in_column 2 (minutes_field l) ≡ Ok y → in_column 3 (minutes_field u) ≡ Ok z → crew_columns before n l u ≡ member_checked before x y z
  crew-all x y z a b c = rw (a, b, c) refl

module _ (h : Horizon) (fields : List (List ℕ)) where
  pub event-1 : (e : FileCode) → in_column 1 (name_field (slice_index_or fields 0 [])) ≡ Err e → event_columns h fields ≡ Err e
  event-1 e a = rw a refl

  module _ (name : List ℕ) (a : in_column 1 (name_field (slice_index_or fields 0 [])) ≡ Ok name) where
    pub event-2 : (e : FileCode) → in_column 2 (kind_field (slice_index_or fields 1 [])) ≡ Err e → event_columns h fields ≡ Err e
    event-2 e b = rw (a, b) refl

    module _ (kind : Kind) (b : in_column 2 (kind_field (slice_index_or fields 1 [])) ≡ Ok kind) where
      pub event-3 : (e : FileCode) → in_column 3 (moment_field h (slice_index_or fields 2 [])) ≡ Err e → event_columns h fields ≡ Err e
      event-3 e r = rw (a, b, r) refl

      module _ (report : ℕ) (r : in_column 3 (moment_field h (slice_index_or fields 2 [])) ≡ Ok report) where
        pub event-4 : (e : FileCode) → in_column 4 (moment_field h (slice_index_or fields 3 [])) ≡ Err e → event_columns h fields ≡ Err e
        event-4 e p = rw (a, b, r, p) refl

        module _ (parked : ℕ) (p : in_column 4 (moment_field h (slice_index_or fields 3 [])) ≡ Ok parked) where
          pub event-5 : (e : FileCode) → in_column 5 (moment_field h (slice_index_or fields 4 [])) ≡ Err e → event_columns h fields ≡ Err e
          event-5 e q = rw (a, b, r, p, q) refl

          module _ (release : ℕ) (q : in_column 5 (moment_field h (slice_index_or fields 4 [])) ≡ Ok release) where
            pub event-6 : (e : FileCode) → in_column 6 (flights_field h kind (slice_index_or fields 5 [])) ≡ Err e → event_columns h fields ≡ Err e
            event-6 e f = rw (a, b, r, p, q, f) refl

            module _ (flights : List Flown) (f : flights_field h kind (slice_index_or fields 5 []) ≡ Ok flights) where
              pub event-7 : (e : FileCode) → in_column 7 (minutes_field (slice_index_or fields 6 [])) ≡ Err e → event_columns h fields ≡ Err e
              event-7 e d = rw (a, b, r, p, q, f, d) refl

              pub event-all : (credit : ℕ) → in_column 7 (minutes_field (slice_index_or fields 6 [])) ≡ Ok credit → event_columns h fields ≡ Ok (name, record { kind = kind; report = report; parked = parked; release = release; flights = flights; credit = credit })
              event-all credit d = rw (a, b, r, p, q, f, d) refl
