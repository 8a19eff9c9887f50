-- The texts of a made month are short.
use Rattle.std.proofs.Common.{◌≡◌, ℕ, ◌+◌, ◌*◌, ◌/◌, ◌%◌, ◌<◌, ◌≤◌, ◌^◌, List, [], ◌∷◌, ◌++◌, length, length-append, map, decimal, codes, Option, Some, None, refl, sym, ap, subst, arith}
use Rattle.std.specs.Prelude.{All, IsTrue, true, ◌==◌, pos}
use Rattle.std.specs.List.{flat_map, range_with_len}
use Rattle.std.specs.Option.{ForSome}
use Rattle.std.proofs.lemmas.Bool.{and_parts, eqb-true}
use Rattle.std.proofs.lemmas.List.Concat.{flat_map-cons}
use Rattle.std.proofs.lemmas.List.Elements.{All-head, All-tail}
use Rattle.bid_language.specs.Spelling.{bid_text, bid_lines, member_text, member_lines, all_lines, bids_text}
use Rattle.crew_files.specs.Crew.{crew_header}
use Rattle.crew_files.specs.Events.{event_header}
use Rattle.crew_files.specs.Texts.{crew_fields, crew_text, events_of_member, events_text}
use Rattle.crew_files.specs.declared.part.Part.{Part}
use Rattle.crew_files.specs.declared.part.Part.TheVariants.{History as Past, Fixed as Given}
use Rattle.duty_calendar.specs.Checks.{IsDuty, IsPairing, ArePairings, IsMember, AreMembers}
use Rattle.duty_calendar.specs.Forms.{is_station_code, are_capitals}
use Rattle.duty_calendar.specs.declared.horizon.Horizon.{Horizon}
use Rattle.duty_calendar.specs.declared.member.Member.{Member}
use Rattle.duty_calendar.specs.declared.pairing.Duty.{Duty}
use Rattle.duty_calendar.specs.declared.pairing.Leg.{Leg}
use Rattle.duty_calendar.specs.declared.pairing.Pairing.{Pairing}
use Rattle.field_text.specs.Rows.{line, line_end}
use Rattle.field_text.specs.Spelling.{two, number_text, minutes_text, moment_text, day_text, clock_text}
use Rattle.instance_maker.specs.Months.{IsMade, home, member}
use Rattle.month_files.specs.Drafts.{inputs_of}
use Rattle.month_files.specs.Reading.{AreShort}
use Rattle.pairing_files.specs.Columns.{pairings_header, duties_header, legs_header}
use Rattle.pairing_files.specs.Texts.{lines, layover_text, pairing_fields, duty_fields, leg_fields, pairing_rows, duty_rows, all_duty_rows, leg_rows, duties_leg_rows, all_leg_rows, pairings_text, duties_text, legs_text}
use Rattle.roster_model.specs.Valid.{IsBid}
use Rattle.roster_model.specs.declared.bid.Bid.{Bid}
use Rattle.roster_model.specs.declared.problem.Problem.{Problem}
use Rattle.roster_text.proofs.ReasonSizes.{bid_short}
use Rattle.roster_text.proofs.Sizes.{short, number_short}
use Rattle.rules_file.specs.Rules.{Values, values}
use Rattle.rules_file.specs.Spelling.{rules_text, text_line, number_line}

-- ---- a line of fields

-- the fields behind the first, each with a comma, and the line feed
abbrev width : List (List ℕ) → ℕ
width [] = 1
width (f ∷ fs) = 1 + length f + width fs

end_width : (fs : List (List ℕ)) → length (line_end fs) ≡ width fs
end_width [] = refl
end_width (f ∷ fs) = omega (arith, length-append f (line_end fs), end_width fs)

line_width : (f : List ℕ) (fs : List (List ℕ)) → length (line (f ∷ fs)) ≡ length f + width fs
line_width f fs = omega (arith, length-append f (line_end fs), end_width fs)

minutes_width : (m : ℕ) → m < 10 ^ 10 → length (minutes_text m) ≤ 13
minutes_width m small = omega (arith, number_short (m / 60) (omega (arith, small)), length-append (decimal (m / 60)) (58 ∷ two (m % 60)))

moment_width : (h : Horizon) (m : ℕ) → length (moment_text h m) ≡ 17
unfolding moment_text day_text clock_text
moment_width h m = refl

station_width : (s : List ℕ) → is_station_code s ≡ true → length s ≡ 3
station_width s h = eqb-true (length s) 3 (and_parts (length s == 3) (are_capitals s) h).0

layover_width : (s : Option (List ℕ)) → ForSome s (λ x. IsTrue (is_station_code x)) → length (layover_text s) ≤ 3
layover_width None h = omega arith
layover_width (Some s) h = omega (arith, station_width s (h s refl))

lines_append : (xs ys : List (List (List ℕ))) → length (lines (xs ++ ys)) ≡ length (lines xs) + length (lines ys)
unfolding lines
lines_append [] ys = let none : length (lines []) ≡ 0 = refl in omega (arith, none)
lines_append (x ∷ xs) ys = omega (arith, length-append (line x) (lines (xs ++ ys)), length-append (line x) (lines xs), lines_append xs ys)

-- ---- pairings, duties and legs

no_lines : length (lines []) ≤ 0
unfolding lines
no_lines = omega arith

pairing_row : (h : Horizon) (p : Pairing) → IsPairing h p → length (line (pairing_fields p)) ≤ 50
pairing_row h p v =
    omega (
      arith,
      line_width p.name (number_text p.need ∷ minutes_text p.credit ∷ []),
      short p.name v.named,
      number_short p.need (omega (arith, v.few_need)),
      minutes_width p.credit (omega (arith, v.few_credit)),
    )

pairing_lines : (h : Horizon) (ps : List Pairing) → All (IsPairing h) ps → length (lines (pairing_rows ps)) ≤ 50 * length ps
unfolding lines pairing_rows
pairing_lines h [] each = omega arith
pairing_lines h (p ∷ ps) each =
    omega (
      arith,
      length-append (line (pairing_fields p)) (lines (pairing_rows ps)),
      pairing_row h p (All-head (IsPairing h) p ps each),
      pairing_lines h ps (All-tail (IsPairing h) p ps each),
    )

module _ (h : Horizon) (name : List ℕ) (named : length name ≤ 16) where
  duty_row : (number : ℕ) (d : Duty) → number < 10 ^ 10 → IsDuty d → length (line (duty_fields h name number d)) ≤ 100
  duty_row number d few v =
      omega (
        arith,
        line_width name (number_text number ∷ moment_text h d.report ∷ moment_text h d.parked ∷ moment_text h d.release ∷ layover_text d.layover ∷ []),
        named,
        number_short number few,
        moment_width h d.report,
        moment_width h d.parked,
        moment_width h d.release,
        layover_width d.layover v.stays,
      )

  duty_lines : (number : ℕ) (ds : List Duty) → number + length ds < 10 ^ 10 → All IsDuty ds → length (lines (duty_rows h name number ds)) ≤ 100 * length ds
  unfolding lines duty_rows
  duty_lines number [] few each = omega arith
  duty_lines number (d ∷ ds) few each =
      omega (
        arith,
        length-append (line (duty_fields h name number d)) (lines (duty_rows h name (number + 1) ds)),
        duty_row number d (omega (arith, few)) (All-head IsDuty d ds each),
        duty_lines (number + 1) ds (omega (arith, few)) (All-tail IsDuty d ds each),
      )

  leg_row : (number : ℕ) (l : Leg) → number < 10 ^ 10 → IsTrue (is_station_code l.from) × IsTrue (is_station_code l.to) → length (line (leg_fields h name number l)) ≤ 80
  leg_row number l few v =
      omega (
        arith,
        line_width name (number_text number ∷ l.from ∷ l.to ∷ moment_text h l.flown.out_at ∷ moment_text h l.flown.in_at ∷ []),
        named,
        number_short number few,
        station_width l.from v.0,
        station_width l.to v.1,
        moment_width h l.flown.out_at,
        moment_width h l.flown.in_at,
      )

  leg_lines : (number : ℕ) (ls : List Leg) → number < 10 ^ 10 → All (λ (l : Leg). IsTrue (is_station_code l.from) × IsTrue (is_station_code l.to)) ls
      → length (lines (leg_rows h name number ls)) ≤ 80 * length ls
  unfolding lines leg_rows
  leg_lines number [] few each = omega arith
  leg_lines number (l ∷ ls) few each =
      let P : Leg → Type 0 = λ (l : Leg). IsTrue (is_station_code l.from) × IsTrue (is_station_code l.to) in
      omega (
        arith,
        length-append (line (leg_fields h name number l)) (lines (leg_rows h name number ls)),
        leg_row number l few (All-head P l ls each),
        leg_lines number ls few (All-tail P l ls each),
      )

  duties_leg_lines : (number : ℕ) (ds : List Duty) → number + length ds < 10 ^ 10 → All IsDuty ds → length (lines (duties_leg_rows h name number ds)) ≤ 640 * length ds
  unfolding duties_leg_rows
  duties_leg_lines number [] few each = no_lines
  duties_leg_lines number (d ∷ ds) few each =
      let v = All-head IsDuty d ds each in
      omega (
        arith,
        lines_append (leg_rows h name number d.legs) (duties_leg_rows h name (number + 1) ds),
        leg_lines number d.legs (omega (arith, few)) v.stations,
        v.few_legs,
        duties_leg_lines (number + 1) ds (omega (arith, few)) (All-tail IsDuty d ds each),
      )

all_duty_lines : (h : Horizon) (ps : List Pairing) → All (IsPairing h) ps → length (lines (all_duty_rows h ps)) ≤ 1200 * length ps
unfolding all_duty_rows
all_duty_lines h [] each = no_lines
all_duty_lines h (p ∷ ps) each =
    let v = All-head (IsPairing h) p ps each in
    omega (
      arith,
      lines_append (duty_rows h p.name 1 p.duties) (all_duty_rows h ps),
      duty_lines h p.name (short p.name v.named) 1 p.duties (omega (arith, v.few_duties)) v.each_duty,
      v.few_duties,
      all_duty_lines h ps (All-tail (IsPairing h) p ps each),
    )

all_leg_lines : (h : Horizon) (ps : List Pairing) → All (IsPairing h) ps → length (lines (all_leg_rows h ps)) ≤ 7680 * length ps
unfolding all_leg_rows
all_leg_lines h [] each = no_lines
all_leg_lines h (p ∷ ps) each =
    let v = All-head (IsPairing h) p ps each in
    omega (
      arith,
      lines_append (duties_leg_rows h p.name 1 p.duties) (all_leg_rows h ps),
      duties_leg_lines h p.name (short p.name v.named) 1 p.duties (omega (arith, v.few_duties)) v.each_duty,
      v.few_duties,
      all_leg_lines h ps (All-tail (IsPairing h) p ps each),
    )

module _ (h : Horizon) (ps : List Pairing) (v : ArePairings h ps) where
  pairings_short : length (pairings_text ps) ≤ 67108864
  pairings_short =
      let header : length (line pairings_header) ≡ 20 = refl in
      omega (arith, length-append (line pairings_header) (lines (pairing_rows ps)), header, pairing_lines h ps v.each, v.few)

  duties_short : length (duties_text h ps) ≤ 67108864
  duties_short =
      let header : length (line duties_header) ≡ 41 = refl in
      omega (arith, length-append (line duties_header) (lines (all_duty_rows h ps)), header, all_duty_lines h ps v.each, v.few)

  legs_short : length (legs_text h ps) ≤ 67108864
  legs_short =
      let header : length (line legs_header) ≡ 26 = refl in
      omega (arith, length-append (line legs_header) (lines (all_leg_rows h ps)), header, all_leg_lines h ps v.each, v.few)

-- ---- members

crew_row : (h : Horizon) (m : Member) → IsMember h m → length (line (crew_fields m)) ≤ 50
crew_row h m v =
    let high : m.high ≤ 12000 = v.few_credit in
    let low : m.low ≤ 12000 = omega (arith, high, v.window) in
    omega (
      arith,
      line_width m.name (minutes_text m.low ∷ minutes_text m.high ∷ []),
      short m.name v.named,
      minutes_width m.low (omega (arith, low)),
      minutes_width m.high (omega (arith, high)),
    )

crew_lines : (h : Horizon) (ms : List Member) → All (IsMember h) ms → length (flat_map (λ m. line (crew_fields m)) ms) ≤ 50 * length ms
crew_lines h [] each = omega arith
crew_lines h (m ∷ ms) each =
    omega (
      arith,
      ap (λ (s : List ℕ). length s) (flat_map-cons (λ (m : Member). line (crew_fields m)) m ms),
      length-append (line (crew_fields m)) (flat_map (λ m. line (crew_fields m)) ms),
      crew_row h m (All-head (IsMember h) m ms each),
      crew_lines h ms (All-tail (IsMember h) m ms each),
    )

crew_short : (h : Horizon) (ms : List Member) → AreMembers h ms → length (crew_text ms) ≤ 67108864
crew_short h ms v =
    let header : length (line crew_header) ≡ 16 = refl in
    omega (arith, length-append (line crew_header) (flat_map (λ m. line (crew_fields m)) ms), header, crew_lines h ms v.each, v.few)

-- no member of a made month has an event
no_events : (h : Horizon) (part : Part) (m : ℕ) → events_of_member h part (member m) ≡ []
no_events h Past m = refl
no_events h Given m = refl

none_of_all : (h : Horizon) (part : Part) (ns : List ℕ) → length (flat_map (events_of_member h part) (map member ns)) ≡ 0
none_of_all h part [] = refl
none_of_all h part (n ∷ ns) =
    omega (
      arith,
      ap (λ (s : List ℕ). length s) (flat_map-cons (events_of_member h part) (member n) (map member ns)),
      length-append (events_of_member h part (member n)) (flat_map (events_of_member h part) (map member ns)),
      ap (λ (s : List ℕ). length s) (no_events h part n),
      none_of_all h part ns,
    )

events_short : (h : Horizon) (part : Part) (ns : List ℕ) → length (events_text h part (map member ns)) ≤ 67108864
events_short h part ns =
    let header : length (line event_header) ≡ 46 = refl in
    omega (arith, length-append (line event_header) (flat_map (events_of_member h part) (map member ns)), header, none_of_all h part ns)

-- ---- bids

module _ (problem : Problem) where
  abbrev base_bid : Bid → Type 0
  base_bid = IsBid problem.base.rules.horizon (length problem.base.pairings)

  bid_lines_short : (bs : List Bid) → All base_bid bs → length (bid_lines problem.base bs) ≤ 432 * length bs
  bid_lines_short [] each = omega arith
  bid_lines_short (b ∷ bs) each =
      let one : Bid → List ℕ = λ b. bid_text problem.base b ++ 10 ∷ [] in
      omega (
        arith,
        ap (λ (s : List ℕ). length s) (flat_map-cons one b bs),
        length-append (one b) (flat_map one bs),
        length-append (bid_text problem.base b) (10 ∷ []),
        bid_short problem b (All-head base_bid b bs each),
        bid_lines_short bs (All-tail base_bid b bs each),
      )

  member_lines_short : (m : Member) (bs : List Bid) → length m.name ≤ 16 → length bs ≤ 64 → All base_bid bs → length (member_lines problem.base m bs) ≤ 27700
  member_lines_short m [] named few each = omega arith
  member_lines_short m (b ∷ bs) named few each =
      omega (
        arith,
        length-append (member_text m ++ 10 ∷ []) (bid_lines problem.base (b ∷ bs)),
        length-append (member_text m) (10 ∷ []),
        length-append (codes "member ") m.name,
        bid_lines_short (b ∷ bs) each,
        few,
        named,
      )

  all_lines_short : (h : Horizon) (ms : List Member) (lists : List (List Bid)) → All (IsMember h) ms → All (λ (list : List Bid). length list ≤ 64) lists → All (All base_bid) lists
      → length (all_lines problem.base ms lists) ≤ 27700 * length ms
  all_lines_short h [] lists members few each = omega arith
  all_lines_short h (m ∷ ms) [] members few each = omega arith
  all_lines_short h (m ∷ ms) (bs ∷ lists) members few each =
      let v = All-head (IsMember h) m ms members in
      omega (
        arith,
        length-append (member_lines problem.base m bs) (all_lines problem.base ms lists),
        member_lines_short m bs (short m.name v.named) (All-head (λ (list : List Bid). length list ≤ 64) bs lists few) (All-head (All base_bid) bs lists each),
        all_lines_short h ms lists (All-tail (IsMember h) m ms members) (All-tail (λ (list : List Bid). length list ≤ 64) bs lists few) (All-tail (All base_bid) bs lists each),
      )

  bids_short : length (bids_text problem) ≤ 67108864
  bids_short =
      let v = problem.valid in
      omega (arith, all_lines_short problem.base.rules.horizon problem.base.members problem.bids v.month.members_form.each v.few_bids v.each_bid, v.month.members_form.few)

-- ---- rules

abbrev june : Values
june = record { base = home; seat = codes "FO"; year = pos 2026; month = 6; offset = pos 0; days_off = 10 }

text_width : (key text : List ℕ) → length (text_line key text) ≡ length key + length text + 6
text_width key text =
    omega (arith, length-append key (codes " = \"" ++ (text ++ codes "\"\n")), length-append (codes " = \"") (text ++ codes "\"\n"), length-append text (codes "\"\n"))

number_width : (key : List ℕ) (n : ℕ) → n < 10 ^ 10 → length (number_line key (pos n)) ≤ length key + 14
number_width key n few =
    omega (
      arith,
      length-append key (codes " = " ++ (decimal n ++ codes "\n")),
      length-append (codes " = ") (decimal n ++ codes "\n"),
      length-append (decimal n) (codes "\n"),
      number_short n few,
    )

six : (a b c d e f : List ℕ) → length (a ++ (b ++ (c ++ (d ++ (e ++ f))))) ≡ length a + length b + length c + length d + length e + length f
six a b c d e f =
    omega (
      arith,
      length-append a (b ++ (c ++ (d ++ (e ++ f)))),
      length-append b (c ++ (d ++ (e ++ f))),
      length-append c (d ++ (e ++ f)),
      length-append d (e ++ f),
      length-append e f,
    )

june_short : length (rules_text june) ≤ 67108864
unfolding rules_text home
june_short =
    omega (
      arith,
      six (text_line (codes "base") home) (text_line (codes "seat") (codes "FO")) (number_line (codes "year") (pos 2026)) (number_line (codes "month") (pos 6))
          (number_line (codes "offset") (pos 0)) (number_line (codes "days_off") (pos 10)),
      text_width (codes "base") home,
      text_width (codes "seat") (codes "FO"),
      number_width (codes "year") 2026 (omega arith),
      number_width (codes "month") 6 (omega arith),
      number_width (codes "offset") 0 (omega arith),
      number_width (codes "days_off") 10 (omega arith),
    )

-- ---- the made month

pub made_short : (number members pairings : ℕ) (problem : Problem) → IsMade number members pairings problem → AreShort (inputs_of problem)
unfolding inputs_of
made_short number members pairings problem made =
    let h = problem.base.rules.horizon in
    let month = problem.valid.month in
    let rules : values problem.base.rules ≡ june = λ i. record {
      base = made.rules.base i;
      seat = made.rules.seat i;
      year = made.rules.year i;
      month = made.rules.month i;
      offset = made.rules.offset i;
      days_off = made.rules.days_off i;
    } in record {
      rules = subst (λ (v : Values). length (rules_text v) ≤ 67108864) (sym rules) june_short;
      pairings = pairings_short h problem.base.pairings month.pairings_form;
      duties = duties_short h problem.base.pairings month.pairings_form;
      legs = legs_short h problem.base.pairings month.pairings_form;
      crew = crew_short h problem.base.members month.members_form;
      history = subst (λ (ms : List Member). length (events_text h Past ms) ≤ 67108864) (sym made.all_members) (events_short h Past (range_with_len 0 members));
      fixed = subst (λ (ms : List Member). length (events_text h Given ms) ≤ 67108864) (sym made.all_members) (events_short h Given (range_with_len 0 members));
      bids = bids_short problem;
    }
