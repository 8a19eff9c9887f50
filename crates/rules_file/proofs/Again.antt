-- Reading the rules that were written.
use Rattle.std.proofs.Common.{◌≡◌, ℕ, suc, ◌<◌, ◌≤◌, List, [], ◌∷◌, ◌++◌, length, Bool, true, false, Some, None, Ok, codes, ℤ, pos, negsuc, neg_ℤ, refl, ap, sym, ◌∙◌, arith, append_assoc, append-nil}
use Rattle.std.specs.Prelude.{◌&&◌, ◌==◌, nat_le, nat_lt, decimal, FitsSigned, unsigned_abs}
use Rattle.std.specs.List.{list_all}
use Rattle.std.specs.Fmt.{signed_decimal}
use Rattle.std.specs.Int.{IsInRange, w64}
use Rattle.std.specs.Str.{IsAscii}
use Rattle.std.proofs.lemmas.Bool.{and_parts}
use Rattle.std.proofs.lemmas.Bool.Decides.{nat_tests}
use Rattle.std.proofs.lemmas.Fmt.{IsAscii-decimal}
use Rattle.std.proofs.lemmas.Str.{IsAscii-append, IsUtf8-from_ascii}
use Rattle.std.proofs.lemmas.Str.Ascii.{IsAscii-cons, IsAscii-nil}
use Rattle.jiff_core.specs.Calendar.{IsBetween}
use Rattle.jiff_core.proofs.SignedLemmas.{signed_arith}
use Rattle.duty_calendar.specs.Calendar.{IsOffset}
use Rattle.duty_calendar.specs.Forms.{are_capitals, is_capital, is_station_code}
use Rattle.field_text.proofs.Days.{pos-abs}
use Rattle.toml_parser.specs.Lexical.{first}
use Rattle.toml_writer.specs.Text.{key_text}
use Rattle.toml.specs.Data.{Data, string, integer, Members}
use Rattle.toml.specs.Tables.{Expression, Nodes, no_nodes, node, value, close, key_value, define, along_header, along_dots, at_key}
use Rattle.toml.specs.Parse.{skip_bom, parse_document}
use Rattle.toml.specs.Text.{IsLinesText}
use Rattle.toml.proofs.Turns.{document_some}
use Rattle.toml.proofs.ReadLines.{run, AllPrinted, read_lines}
use Rattle.rules_file.specs.Keys.{missing, unknown}
use Rattle.rules_file.specs.Rules.{Values, rules_file, rules_in, base_in, seat_in, year_in, month_in, offset_in, days_off_in, between, sized, passed}
use Rattle.duty_calendar.specs.Forms.{is_seat, is_seat_byte}
use Rattle.rules_file.specs.Spelling.{text_line, number_line, rules_text}
use Rattle.rules_file.proofs.Tables.{table_of-some}
use Rattle.rules_file.proofs.Texts.{text_line-is, number_line-is}
use Rattle.rules_file.proofs.Values.{all_in, rules-known}

-- values in their ranges
pub record IsValues (v : Values) : Type 0 where
  pub base : is_station_code v.base ≡ true
  pub seat : is_seat v.seat ≡ true
  pub year : IsBetween (pos 2000) (pos 2099) v.year
  pub month : IsInRange 1 12 v.month
  pub offset : IsOffset v.offset
  pub days_off : v.days_off ≤ 31

-- the parts of a station and a seat
capital-byte : (b : ℕ) → is_capital b ≡ true → is_seat_byte b ≡ true
capital-byte b h = rw h refl

capitals-bytes : (text : List ℕ) → are_capitals text ≡ true → list_all is_seat_byte text ≡ true
capitals-bytes [] h = refl
capitals-bytes (b ∷ bs) h = let p = and_parts (is_capital b) (are_capitals bs) h in rw (capital-byte b p.0, capitals-bytes bs p.1) refl

base-bytes : (v : Values) → IsValues v → list_all is_seat_byte v.base ≡ true
base-bytes v h = capitals-bytes v.base (and_parts (length v.base == 3) (are_capitals v.base) h.base).1

seat-bytes : (v : Values) → IsValues v → list_all is_seat_byte v.seat ≡ true
seat-bytes v h = (and_parts (nat_le 1 (length v.seat) && nat_le (length v.seat) 8) (list_all is_seat_byte v.seat) h.seat).1

-- the lines as TOML has them
abbrev entry : List ℕ → Data → Expression
entry key d = (([], key), key_value d)

abbrev entries : Values → List Expression
entries v =
    entry (codes "base") (string v.base) ∷ entry (codes "seat") (string v.seat) ∷ entry (codes "year") (integer v.year)
    ∷ entry (codes "month") (integer (pos v.month)) ∷ entry (codes "offset") (integer v.offset) ∷ entry (codes "days_off") (integer (pos v.days_off)) ∷ []

key-base : key_text (codes "base") ≡ codes "base"
unfolding key_text
key-base = refl

key-seat : key_text (codes "seat") ≡ codes "seat"
unfolding key_text
key-seat = refl

key-year : key_text (codes "year") ≡ codes "year"
unfolding key_text
key-year = refl

key-month : key_text (codes "month") ≡ codes "month"
unfolding key_text
key-month = refl

key-offset : key_text (codes "offset") ≡ codes "offset"
unfolding key_text
key-offset = refl

key-days_off : key_text (codes "days_off") ≡ codes "days_off"
unfolding key_text
key-days_off = refl

entries-text : (v : Values) → IsValues v → IsLinesText false false (entries v) (rules_text v)
unfolding rules_text
entries-text v h =
    let year : FitsSigned w64 v.year = omega (arith, signed_arith, h.year.0, h.year.1) in
    let month : FitsSigned w64 (pos v.month) = omega (arith, signed_arith, h.month.1) in
    let offset : FitsSigned w64 v.offset = omega (arith, signed_arith, h.offset.0, h.offset.1) in
    let days_off : FitsSigned w64 (pos v.days_off) = omega (arith, signed_arith, h.days_off) in (
      text_line (codes "base") v.base,
      _,
      refl,
      text_line-is false (codes "base") v.base key-base (base-bytes v h),
      (
        text_line (codes "seat") v.seat,
        _,
        refl,
        text_line-is true (codes "seat") v.seat key-seat (seat-bytes v h),
        (
          number_line (codes "year") v.year,
          _,
          refl,
          number_line-is true (codes "year") v.year key-year year,
          (
            number_line (codes "month") (pos v.month),
            _,
            refl,
            number_line-is true (codes "month") (pos v.month) key-month month,
            (
              number_line (codes "offset") v.offset,
              _,
              refl,
              number_line-is true (codes "offset") v.offset key-offset offset,
              (
                number_line (codes "days_off") (pos v.days_off),
                [],
                sym (append-nil (number_line (codes "days_off") (pos v.days_off))),
                number_line-is true (codes "days_off") (pos v.days_off) key-days_off days_off,
                refl,
              ),
            ),
          ),
        ),
      ),
    )

entries-printed : (v : Values) → AllPrinted (entries v)
entries-printed v = ((refl, omega arith, refl), ((refl, omega arith, refl), ((refl, omega arith, refl), ((refl, omega arith, refl), ((refl, omega arith, refl), ((refl, omega arith, refl), tt))))))

-- the table that they give
abbrev nodes : Values → Nodes
nodes v =
    node (codes "base") (value (string v.base)) (node (codes "days_off") (value (integer (pos v.days_off))) (node (codes "month") (value (integer (pos v.month)))
    (node (codes "offset") (value (integer v.offset)) (node (codes "seat") (value (string v.seat)) (node (codes "year") (value (integer v.year)) no_nodes)))))

entries-run : (v : Values) → run (no_nodes, []) (entries v) ≡ Some (nodes v, [])
unfolding define along_header along_dots at_key
entries-run v = refl

no_mark : (v : Values) → (first (rules_text v) == 239) ≡ false
unfolding rules_text
no_mark v = refl

no_skip : (text : List ℕ) → (first text == 239) ≡ false → skip_bom text ≡ text
unfolding skip_bom
no_skip text h = rw h

abbrev table : Values → Members
table v = close (nodes v)

parsed : (v : Values) → IsValues v → parse_document (rules_text v) ≡ Some (table v)
parsed v h =
    let text = rules_text v in
    let read = read_lines false false (entries v) text text (no_nodes, []) (suc (length text)) (entries-text v h) (entries-printed v) refl (omega arith) in
    document_some text (nodes v, []) (rw (no_skip text (no_mark v)) (read ∙ entries-run v))

-- the table has each key and no other
none-missing : (v : Values) → missing (table v) ≡ None
unfolding missing
none-missing v = refl

none-unknown : (v : Values) → unknown (table v) ≡ None
unfolding unknown
none-unknown v = refl

-- and the values in it
passed-true : (test : List ℕ → Bool) (text : List ℕ) → test text ≡ true → passed test text ≡ Some text
passed-true test text h = rw h refl

between-in : (low high n : ℕ) (z : ℤ) → z ≡ pos n → low ≤ n → n ≤ high → between low high z ≡ Some n
between-in low high n z e l h =
    let a : nat_le low n ≡ true = grind (arith, nat_tests) in
    let b : nat_le n high ≡ true = grind (arith, nat_tests) in
    rw (e, a, b) refl

sized-in : (z : ℤ) → IsOffset z → sized 840 z ≡ Some z
sized-in (pos n) h =
    let a : n ≤ 840 = omega (arith, signed_arith, h.1) in
    let b : nat_le n 840 ≡ true = grind (arith, nat_tests) in
    rw b refl
sized-in (negsuc n) h =
    let a : n < 840 = omega (arith, signed_arith, h.0) in
    let b : nat_lt n 840 ≡ true = grind (arith, nat_tests) in
    rw b refl

base-there : (v : Values) → IsValues v → base_in (table v) ≡ Some v.base
unfolding base_in
base-there v h = passed-true is_station_code v.base h.base

seat-there : (v : Values) → IsValues v → seat_in (table v) ≡ Some v.seat
unfolding seat_in
seat-there v h = passed-true is_seat v.seat h.seat

year-there : (v : Values) (n : ℕ) → v.year ≡ pos n → 2000 ≤ n → n ≤ 2099 → year_in (table v) ≡ Some n
unfolding year_in
year-there v n e l h = between-in 2000 2099 n v.year e l h

month-there : (v : Values) → IsValues v → month_in (table v) ≡ Some v.month
unfolding month_in
month-there v h = between-in 1 12 v.month (pos v.month) refl h.month.0 h.month.1

offset-there : (v : Values) → IsValues v → offset_in (table v) ≡ Some v.offset
unfolding offset_in
offset-there v h = sized-in v.offset h.offset

days_off-there : (v : Values) → IsValues v → days_off_in (table v) ≡ Some v.days_off
unfolding days_off_in
days_off-there v h = between-in 0 31 v.days_off (pos v.days_off) refl (omega arith) h.days_off

table-rules : (v : Values) → IsValues v → rules_in (table v) ≡ Ok v
table-rules v h =
    let y = pos-abs v.year (omega (arith, signed_arith, h.year.0)) in
    let low : 2000 ≤ unsigned_abs v.year = omega (arith, signed_arith, y, h.year.0) in
    let high : unsigned_abs v.year ≤ 2099 = omega (arith, signed_arith, y, h.year.1) in
    let all = all_in (table v) v.base v.seat (unsigned_abs v.year) v.month v.days_off v.offset (base-there v h) (seat-there v h) (year-there v (unsigned_abs v.year) y low high) (month-there v h) (offset-there v h) (days_off-there v h) in
    rules-known (table v) (none-missing v) (none-unknown v) ∙ all
    ∙ ap (λ (z : ℤ). Ok (record { base = v.base; seat = v.seat; year = z; month = v.month; offset = v.offset; days_off = v.days_off })) (sym y)

-- the text is ASCII
literal-ascii : (bytes : List ℕ) → list_all (λ b. nat_lt b 128) bytes ≡ true → IsAscii bytes
literal-ascii [] h = IsAscii-nil
literal-ascii (b ∷ bs) h =
    let p = and_parts (nat_lt b 128) (list_all (λ b. nat_lt b 128) bs) h in
    let small : nat_lt b 128 ≡ true = p.0 in
    IsAscii-cons b bs (grind (arith, nat_tests)) (literal-ascii bs p.1)

seat-ascii : (bytes : List ℕ) → list_all is_seat_byte bytes ≡ true → IsAscii bytes
seat-ascii [] h = IsAscii-nil
seat-ascii (b ∷ bs) h =
    let p = and_parts (is_seat_byte b) (list_all is_seat_byte bs) h in
    let small : is_seat_byte b ≡ true = p.0 in
    IsAscii-cons b bs (grind (arith, nat_tests)) (seat-ascii bs p.1)

number-ascii : (z : ℤ) → IsBetween (neg_ℤ (pos 10000)) (pos 10000) z → IsAscii (signed_decimal z)
number-ascii (pos n) h = IsAscii-decimal n (omega (arith, signed_arith, h.1))
number-ascii (negsuc n) h = IsAscii-cons 45 (decimal (suc n)) (omega arith) (IsAscii-decimal (suc n) (omega (arith, signed_arith, h.0)))

text_line-ascii : (key text : List ℕ) → list_all (λ b. nat_lt b 128) key ≡ true → IsAscii text → IsAscii (text_line key text)
text_line-ascii key text k h =
    IsAscii-append key _ (literal-ascii key k) (IsAscii-append (codes " = \"") _ (literal-ascii (codes " = \"") refl) (IsAscii-append text _ h (literal-ascii (codes "\"\n") refl)))

number_line-ascii : (key : List ℕ) (z : ℤ) → list_all (λ b. nat_lt b 128) key ≡ true → IsBetween (neg_ℤ (pos 10000)) (pos 10000) z → IsAscii (number_line key z)
number_line-ascii key z k h =
    IsAscii-append key _ (literal-ascii key k) (IsAscii-append (codes " = ") _ (literal-ascii (codes " = ") refl) (IsAscii-append (signed_decimal z) _ (number-ascii z h) (literal-ascii (codes "\n") refl)))

rules_text-ascii : (v : Values) → IsValues v → IsAscii (rules_text v)
unfolding rules_text
rules_text-ascii v h =
    let month : IsBetween (neg_ℤ (pos 10000)) (pos 10000) (pos v.month) = (omega (arith, signed_arith), omega (arith, signed_arith, h.month.1)) in
    let days_off : IsBetween (neg_ℤ (pos 10000)) (pos 10000) (pos v.days_off) = (omega (arith, signed_arith), omega (arith, signed_arith, h.days_off)) in
    let year : IsBetween (neg_ℤ (pos 10000)) (pos 10000) v.year = (omega (arith, signed_arith, h.year.0), omega (arith, signed_arith, h.year.1)) in
    let offset : IsBetween (neg_ℤ (pos 10000)) (pos 10000) v.offset = (omega (arith, signed_arith, h.offset.0), omega (arith, signed_arith, h.offset.1)) in
    IsAscii-append (text_line (codes "base") v.base) _ (text_line-ascii (codes "base") v.base refl (seat-ascii v.base (base-bytes v h)))
    (IsAscii-append (text_line (codes "seat") v.seat) _ (text_line-ascii (codes "seat") v.seat refl (seat-ascii v.seat (seat-bytes v h)))
    (IsAscii-append (number_line (codes "year") v.year) _ (number_line-ascii (codes "year") v.year refl year)
    (IsAscii-append (number_line (codes "month") (pos v.month)) _ (number_line-ascii (codes "month") (pos v.month) refl month)
    (IsAscii-append (number_line (codes "offset") v.offset) _ (number_line-ascii (codes "offset") v.offset refl offset)
    (number_line-ascii (codes "days_off") (pos v.days_off) refl days_off)))))

-- what is written is read as the same values
pub rules-again : (v : Values) → IsValues v → rules_file (rules_text v) ≡ Ok v
unfolding rules_file
rules-again v h =
    rw (table_of-some (rules_text v) (table v) (IsUtf8-from_ascii (rules_text v) (rules_text-ascii v h)) (parsed v h)) (table-rules v h)

-- the pieces in which it is written
pub pieces-text : (b s : List ℕ) (y o : ℤ) (m d : ℕ)
    → codes "base = \"" ++ (b ++ (codes "\"\nseat = \"" ++ (s ++ (codes "\"\nyear = " ++ (signed_decimal y ++ (codes "\nmonth = " ++ (decimal m
    ++ (codes "\noffset = " ++ (signed_decimal o ++ (codes "\ndays_off = " ++ (decimal d ++ codes "\n")))))))))))
    ≡ rules_text (record { base = b; seat = s; year = y; month = m; offset = o; days_off = d })
unfolding rules_text
pieces-text b s y o m d = simp append_assoc

pub pieces-are : (p1 p2 p3 p4 p5 p6 p7 p8 p9 p10 p11 p12 p13 b s : List ℕ) (y o : ℤ) (m d : ℕ)
    → p1 ≡ codes "base = \"" → p2 ≡ b → p3 ≡ codes "\"\nseat = \"" → p4 ≡ s → p5 ≡ codes "\"\nyear = " → p6 ≡ signed_decimal y → p7 ≡ codes "\nmonth = " → p8 ≡ decimal m
    → p9 ≡ codes "\noffset = " → p10 ≡ signed_decimal o → p11 ≡ codes "\ndays_off = " → p12 ≡ decimal d → p13 ≡ codes "\n"
    → p1 ++ (p2 ++ (p3 ++ (p4 ++ (p5 ++ (p6 ++ (p7 ++ (p8 ++ (p9 ++ (p10 ++ (p11 ++ (p12 ++ (p13 ++ []))))))))))))
    ≡ rules_text (record { base = b; seat = s; year = y; month = m; offset = o; days_off = d })
pieces-are p1 p2 p3 p4 p5 p6 p7 p8 p9 p10 p11 p12 p13 b s y o m d e1 e2 e3 e4 e5 e6 e7 e8 e9 e10 e11 e12 e13 =
    rw (e1, e2, e3, e4, e5, e6, e7, e8, e9, e10, e11, e12, e13) (pieces-text b s y o m d)

pub station-of : (text : List ℕ) → length text ≡ 3 → are_capitals text ≡ true → is_station_code text ≡ true
station-of text l h =
    let long : (length text == 3) ≡ true = grind (arith, nat_tests) in
    rw (long, h) refl
