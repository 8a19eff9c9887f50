-- The values of a table, one key after another.
use Rattle.std.proofs.Common.{◌≡◌, ℕ, List, [], ◌∷◌, Some, None, Ok, Err, codes, ℤ, pos, ◌&&◌, true, refl, arith}
use Rattle.std.specs.Prelude.{nat_le, length}
use Rattle.std.specs.List.{list_all}
use Rattle.std.proofs.lemmas.Bool.{and_parts}
use Rattle.std.proofs.lemmas.Bool.Decides.{nat_tests}
use Rattle.duty_calendar.specs.Forms.{is_name, is_name_byte}
use Rattle.toml.specs.Data.{Members}
use Rattle.rules_file.specs.declared.fault.RuleFault.TheVariants as fault
use Rattle.rules_file.specs.Keys.{missing, unknown}
use Rattle.rules_file.specs.Rules.{values_in, rules_in, base_in, seat_in, year_in, month_in, offset_in, days_off_in}
use Rattle.duty_calendar.specs.Forms.{is_seat, is_seat_byte}

pub no_base : (t : Members) → base_in t ≡ None → values_in t ≡ Err (fault.Range (codes "base"))
unfolding values_in
no_base t a = rw a refl

pub no_seat : (t : Members) (b : List ℕ) → base_in t ≡ Some b → seat_in t ≡ None → values_in t ≡ Err (fault.Range (codes "seat"))
unfolding values_in
no_seat t b a c = rw (a, c) refl

pub no_year : (t : Members) (b s : List ℕ) → base_in t ≡ Some b → seat_in t ≡ Some s → year_in t ≡ None → values_in t ≡ Err (fault.Range (codes "year"))
unfolding values_in
no_year t b s a c d = rw (a, c, d) refl

pub no_month : (t : Members) (b s : List ℕ) (y : ℕ) → base_in t ≡ Some b → seat_in t ≡ Some s → year_in t ≡ Some y → month_in t ≡ None → values_in t ≡ Err (fault.Range (codes "month"))
unfolding values_in
no_month t b s y a c d e = rw (a, c, d, e) refl

pub no_offset : (t : Members) (b s : List ℕ) (y m : ℕ) → base_in t ≡ Some b → seat_in t ≡ Some s → year_in t ≡ Some y → month_in t ≡ Some m → offset_in t ≡ None
    → values_in t ≡ Err (fault.Range (codes "offset"))
unfolding values_in
no_offset t b s y m a c d e f = rw (a, c, d, e, f) refl

pub no_days_off : (t : Members) (b s : List ℕ) (y m : ℕ) (o : ℤ) → base_in t ≡ Some b → seat_in t ≡ Some s → year_in t ≡ Some y → month_in t ≡ Some m → offset_in t ≡ Some o
    → days_off_in t ≡ None → values_in t ≡ Err (fault.Range (codes "days_off"))
unfolding values_in
no_days_off t b s y m o a c d e f g = rw (a, c, d, e, f, g) refl

pub all_in : (t : Members) (b s : List ℕ) (y m n : ℕ) (o : ℤ) → base_in t ≡ Some b → seat_in t ≡ Some s → year_in t ≡ Some y → month_in t ≡ Some m → offset_in t ≡ Some o
    → days_off_in t ≡ Some n → values_in t ≡ Ok (record { base = b; seat = s; year = pos y; month = m; offset = o; days_off = n })
unfolding values_in
all_in t b s y m n o a c d e f g = rw (a, c, d, e, f, g) refl

-- the outcomes of a table
pub rules-missing : (t : Members) (k : List ℕ) → missing t ≡ Some k → rules_in t ≡ Err (fault.MissingKey k)
unfolding rules_in
rules-missing t k m = rw m refl

pub rules-unknown : (t : Members) (k : List ℕ) → missing t ≡ None → unknown t ≡ Some k → rules_in t ≡ Err (fault.UnknownKey k)
unfolding rules_in
rules-unknown t k m u = rw (m, u) refl

pub rules-known : (t : Members) → missing t ≡ None → unknown t ≡ None → rules_in t ≡ values_in t
unfolding rules_in
rules-known t m u = rw (m, u) refl

-- a seat is a name
seat_byte-name : (b : ℕ) → is_seat_byte b ≡ true → is_name_byte b ≡ true
seat_byte-name b h = grind (arith, nat_tests)

seat_bytes-name : (bytes : List ℕ) → list_all is_seat_byte bytes ≡ true → list_all is_name_byte bytes ≡ true
seat_bytes-name [] h = refl
seat_bytes-name (b ∷ bs) h = let p = and_parts (is_seat_byte b) (list_all is_seat_byte bs) h in rw (seat_byte-name b p.0, seat_bytes-name bs p.1) refl

pub seat-name : (bytes : List ℕ) → is_seat bytes ≡ true → is_name bytes ≡ true
seat-name bytes h =
    let p = and_parts (nat_le 1 (length bytes) && nat_le (length bytes) 8) (list_all is_seat_byte bytes) h in
    let q = and_parts (nat_le 1 (length bytes)) (nat_le (length bytes) 8) p.0 in
    let low : nat_le 1 (length bytes) ≡ true = q.0 in
    let few : nat_le (length bytes) 8 ≡ true = q.1 in
    let high : nat_le (length bytes) 16 ≡ true = grind (arith, nat_tests) in
    rw (low, high, seat_bytes-name bytes p.1) refl
