-- A list of flights reads as it was written.
use Rattle.std.proofs.Common.{◌≡◌, ℕ, suc, ◌+◌, ◌*◌, ◌/◌, ◌%◌, ◌≤◌, List, [], ◌∷◌, ◌++◌, length, get_or, take, drop, flat_map, Bool, true, false, cond, None, Result, Ok, Err, refl, sym, ap, ◌∙◌, arith, slice_range, All, length-append}
use Rattle.std.proofs.lemmas.List.Elements.{All-head, All-tail}
use Rattle.std.proofs.Math.Seq.{drop-cons, take-append_seam, take-length, drop-append-add}
use Rattle.duty_calendar.specs.Calendar.{horizon_end}
use Rattle.duty_calendar.specs.Minutes.{is_flight}
use Rattle.duty_calendar.specs.declared.event.Flown.{Flown}
use Rattle.duty_calendar.specs.declared.event.Kind.{Kind}
use Rattle.duty_calendar.specs.declared.horizon.Horizon.{Horizon}
use Rattle.field_text.specs.declared.form.Class.{Class}
use Rattle.field_text.specs.declared.form.Class.TheVariants.{Digit, Byte}
use Rattle.field_text.specs.declared.field_fault.FieldFault.{FieldFault}
use Rattle.field_text.specs.declared.field_fault.FieldFault.TheVariants.{Empty}
use Rattle.field_text.specs.Form.{row, is_in, IsRow}
use Rattle.field_text.specs.Fields.{moment, moment_field, moment_value}
use Rattle.field_text.specs.Spelling.{moment_text}
use Rattle.field_text.proofs.CleanLines.{are_clean, clean-append, clean-field}
use Rattle.field_text.proofs.FieldsAgain.{field-ok}
use Rattle.field_text.proofs.MomentAgain.{moment-read}
use Rattle.field_text.proofs.RowForms.{row_from_none, row-join, length-row}
use Rattle.crew_files.specs.Flights.{flight_row, flights_fault, flights_field, flights_value, flight_value, joined, flown}
use Rattle.crew_files.specs.Texts.{flight_text, flights_text}
use Rattle.crew_files.proofs.FlightSteps.{flights-whole, value-more, value-none, led}

-- the 35 bytes of a flight
abbrev one_flight : List Class
one_flight = moment ++ Byte 47 ∷ moment

-- no fault comes before bytes that are in their places
run : (i k : ℕ) (cs ds : List Class) (a rest : List ℕ) → drop k flight_row ≡ cs ++ ds → IsRow cs a → k + length cs ≤ 35 → flights_fault (36 * i + k) (a ++ rest) ≡ flights_fault (36 * i + (k + length cs)) rest
unfolding flights_fault
run i k [] ds [] rest d h w = ap (λ (n : ℕ). flights_fault (36 * i + n) rest) (omega arith)
run i k [] ds (b ∷ bs) rest d h w = absurd h
run i k (c ∷ cs) ds [] rest d h w = absurd h
run i k (c ∷ cs) ds (b ∷ bs) rest d h w =
    let place : (36 * i + k) % 36 ≡ k = omega arith in
    let cut : drop k flight_row ≡ get_or flight_row k Digit ∷ drop (suc k) flight_row = drop-cons flight_row k Digit (omega arith) in
    let parts : get_or flight_row k Digit ∷ drop (suc k) flight_row ≡ c ∷ (cs ++ ds) = sym cut ∙ d in
    let first : get_or flight_row k Digit ≡ c = cc parts in
    let more : drop (suc k) flight_row ≡ cs ++ ds = cc parts in
    let right : is_in (get_or flight_row ((36 * i + k) % 36) Digit) b ≡ true = ap (λ (j : ℕ). is_in (get_or flight_row j Digit) b) place ∙ ap (λ (x : Class). is_in x b) first ∙ h.0 in
    let next : 36 * i + k + 1 ≡ 36 * i + suc k = omega arith in
    let last : 36 * i + (suc k + length cs) ≡ 36 * i + (k + suc (length cs)) = omega arith in
    rw right (ap (λ (n : ℕ). flights_fault n (bs ++ rest)) next ∙ run i (suc k) cs ds bs rest more h.1 (omega arith) ∙ ap (λ (n : ℕ). flights_fault n rest) last)

module _ (h : Horizon) where
  -- a flight within the horizon
  abbrev pub IsWithin : Flown → Type 0
  IsWithin f = (f.out_at ≤ horizon_end h) × (f.in_at ≤ horizon_end h)

  moment-row : (m : ℕ) → m ≤ horizon_end h → IsRow moment (moment_text h m)
  moment-row m w = row_from_none 1 moment (moment_text h m) (field-ok (row moment) (moment_value h) (moment_text h m) m (moment-read h m w)).formed

  moment-long : (m : ℕ) → m ≤ horizon_end h → length (moment_text h m) ≡ 17
  moment-long m w = length-row moment (moment_text h m) (moment-row m w)

  flight-row : (f : Flown) → IsWithin f → IsRow one_flight (flight_text h f)
  flight-row f w = row-join moment (Byte 47 ∷ moment) (moment_text h f.out_at) (47 ∷ moment_text h f.in_at) (moment-row f.out_at w.0) (refl, moment-row f.in_at w.1)

  flight-long : (f : Flown) → IsWithin f → length (flight_text h f) ≡ 35
  flight-long f w = length-row one_flight (flight_text h f) (flight-row f w)

  -- the flights behind the first one
  abbrev later : List Flown → List ℕ
  later fs = flat_map (λ (g : Flown). 32 ∷ flight_text h g) fs

  later-shaped : (i : ℕ) (fs : List Flown) → All IsWithin fs → flights_fault (36 * i + 35) (later fs) ≡ None
  unfolding flights_fault
  later-shaped i [] w = flights-whole (36 * i + 35) (omega arith)
  later-shaped i (g ∷ gs) w =
      let place : (36 * i + 35) % 36 ≡ 35 = omega arith in
      let right : is_in (get_or flight_row ((36 * i + 35) % 36) Digit) 32 ≡ true = ap (λ (j : ℕ). is_in (get_or flight_row j Digit) 32) place in
      let next : 36 * i + 35 + 1 ≡ 36 * (i + 1) + 0 = omega arith in
      rw right (ap (λ (n : ℕ). flights_fault n (flight_text h g ++ later gs)) next
      ∙ run (i + 1) 0 one_flight (Byte 32 ∷ []) (flight_text h g) (later gs) refl (flight-row g (All-head IsWithin g gs w)) (omega arith)
      ∙ later-shaped (i + 1) gs (All-tail IsWithin g gs w))

  flights-shaped : (f : Flown) (fs : List Flown) → All IsWithin (f ∷ fs) → flights_fault 0 (flights_text h (f ∷ fs)) ≡ None
  flights-shaped f fs w =
      run 0 0 one_flight (Byte 32 ∷ []) (flight_text h f) (later fs) refl (flight-row f (All-head IsWithin f fs w)) (omega arith)
      ∙ later-shaped 0 fs (All-tail IsWithin f fs w)

  -- the front of two texts, and what stands behind it
  front : (n : ℕ) (a b : List ℕ) → length a ≡ n → take n (a ++ b) ≡ a
  front n a b e = ap (λ (k : ℕ). take k (a ++ b)) (sym e) ∙ take-append_seam a b

  behind : (n k : ℕ) (a b : List ℕ) → length a + k ≡ n → drop n (a ++ b) ≡ drop k b
  behind n k a b e = ap (λ (j : ℕ). drop j (a ++ b)) (sym e) ∙ drop-append-add a b k

  flight-again : (f : Flown) → IsWithin f → flight_value h (flight_text h f) ≡ Ok f
  flight-again f w =
      let a : List ℕ = moment_text h f.out_at in
      let b : List ℕ = moment_text h f.in_at in
      let x = moment-long f.out_at w.0 in
      let y = moment-long f.in_at w.1 in
      let out : slice_range (a ++ 47 ∷ b) 0 17 ≡ a = front 17 a (47 ∷ b) x in
      let at : slice_range (a ++ 47 ∷ b) 18 35 ≡ b = ap (λ (t : List ℕ). take 17 t) (behind 18 1 a (47 ∷ b) (omega (arith, x))) ∙ ap (λ (k : ℕ). take k b) (sym y) ∙ take-length b in
      ap (λ (t : List ℕ). joined flown (moment_field h t) (moment_field h (slice_range (a ++ 47 ∷ b) 18 35))) out
      ∙ ap (λ (t : List ℕ). joined flown (moment_field h a) (moment_field h t)) at
      ∙ ap (λ (r : Result ℕ FieldFault). joined flown r (moment_field h b)) (moment-read h f.out_at w.0)
      ∙ ap (λ (r : Result ℕ FieldFault). joined flown (Ok f.out_at) r) (moment-read h f.in_at w.1)

  rest-of : (fs : List Flown) → drop 1 (later fs) ≡ flights_text h fs
  rest-of [] = refl
  rest-of (g ∷ gs) = refl

  values-again : (fs : List Flown) → All IsWithin fs → flights_value h (length fs) (flights_text h fs) ≡ Ok fs
  values-again [] w = value-none h []
  values-again (f ∷ fs) w =
      let within = All-head IsWithin f fs w in
      let long = flight-long f within in
      let text : List ℕ = flight_text h f ++ later fs in
      let here : slice_range text 0 35 ≡ flight_text h f = front 35 (flight_text h f) (later fs) long in
      let next : drop 36 text ≡ flights_text h fs = behind 36 1 (flight_text h f) (later fs) (omega (arith, long)) ∙ rest-of fs in
      value-more h (length fs) text
      ∙ ap (λ (t : List ℕ). joined led (flight_value h t) (flights_value h (length fs) (drop 36 text))) here
      ∙ ap (λ (t : List ℕ). joined led (flight_value h (flight_text h f)) (flights_value h (length fs) t)) next
      ∙ ap (λ (r : Result Flown FieldFault). joined led r (flights_value h (length fs) (flights_text h fs))) (flight-again f within)
      ∙ ap (λ (r : Result (List Flown) FieldFault). joined led (Ok f) r) (values-again fs (All-tail IsWithin f fs w))

  later-long : (fs : List Flown) → All IsWithin fs → length (later fs) ≡ 36 * length fs
  later-long [] w = refl
  later-long (g ∷ gs) w = omega (arith, length-append (flight_text h g) (later gs), flight-long g (All-head IsWithin g gs w), later-long gs (All-tail IsWithin g gs w))

  field-some : (kind : Kind) (text : List ℕ) (fs : List Flown) → 1 ≤ length text → flights_fault 0 text ≡ None → flights_value h ((length text + 1) / 36) text ≡ Ok fs → flights_field h kind text ≡ Ok fs
  field-some kind [] fs l s v = absurd (omega arith)
  field-some kind (b ∷ bs) fs l s v = rw s v

  pub flights-again : (kind : Kind) (fs : List Flown) → All IsWithin fs → (is_flight kind ≡ true → 1 ≤ length fs) → (is_flight kind ≡ false → fs ≡ []) → flights_field h kind (flights_text h fs) ≡ Ok fs
  flights-again kind [] w some none = go (is_flight kind) some
    where
      go : (t : Bool) → (t ≡ true → 1 ≤ 0) → ◌≡◌ {A = Result (List Flown) FieldFault} (cond t (Err Empty) (Ok [])) (Ok [])
      go true s = absurd (let l = s refl in omega (arith, l))
      go false s = refl
  flights-again kind (f ∷ fs) w some none =
      let long : length (flights_text h (f ∷ fs)) ≡ 36 * length fs + 35 = omega (arith, length-append (flight_text h f) (later fs), flight-long f (All-head IsWithin f fs w), later-long fs (All-tail IsWithin f fs w)) in
      let count : (length (flights_text h (f ∷ fs)) + 1) / 36 ≡ length (f ∷ fs) = counted (length (flights_text h (f ∷ fs))) (length fs) long in
      field-some kind (flights_text h (f ∷ fs)) (f ∷ fs) (omega (arith, long)) (flights-shaped f fs w)
      (ap (λ (n : ℕ). flights_value h n (flights_text h (f ∷ fs))) count ∙ values-again (f ∷ fs) w)
    where
      counted : (n k : ℕ) → n ≡ 36 * k + 35 → (n + 1) / 36 ≡ suc k
      counted n k e = omega arith

  pub moment-clean : (m : ℕ) → m ≤ horizon_end h → are_clean (moment_text h m) ≡ true
  moment-clean m w = clean-field (row moment) (moment_value h) (moment_text h m) m refl (moment-read h m w)

  flight-clean : (f : Flown) → IsWithin f → are_clean (flight_text h f) ≡ true
  flight-clean f w = clean-append (moment_text h f.out_at) (47 ∷ moment_text h f.in_at) (moment-clean f.out_at w.0) (moment-clean f.in_at w.1)

  later-clean : (fs : List Flown) → All IsWithin fs → are_clean (later fs) ≡ true
  later-clean [] w = refl
  later-clean (g ∷ gs) w = clean-append (flight_text h g) (later gs) (flight-clean g (All-head IsWithin g gs w)) (later-clean gs (All-tail IsWithin g gs w))

  pub flights-clean : (fs : List Flown) → All IsWithin fs → are_clean (flights_text h fs) ≡ true
  flights-clean [] w = refl
  flights-clean (f ∷ fs) w = clean-append (flight_text h f) (later fs) (flight-clean f (All-head IsWithin f fs w)) (later-clean fs (All-tail IsWithin f fs w))
