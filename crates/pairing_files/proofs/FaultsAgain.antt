-- Rows that have no fault beside the rows before them.
use Rattle.std.proofs.Common.{◌≡◌, ℕ, ◌+◌, ◌<◌, ◌≤◌, List, length, Bool, true, false, not, ◌&&◌, ◌||◌, ◌==◌, nat_lt, nat_le, if◌then◌else◌, Option, Some, None, All, refl, arith, ap, ◌∙◌}
use Rattle.std.specs.List.{list_any}
use Rattle.std.specs.Option.{option_map_or}
use Rattle.std.proofs.lemmas.Bool.Decides.{nat_tests}
use Rattle.duty_calendar.specs.Calendar.{month_end}
use Rattle.duty_calendar.specs.declared.horizon.Horizon.{Horizon}
use Rattle.duty_calendar.specs.declared.pairing.Duty.{Duty}
use Rattle.duty_calendar.specs.declared.pairing.Leg.{Leg}
use Rattle.duty_calendar.specs.declared.pairing.Pairing.{Pairing}
use Rattle.field_text.specs.declared.file_fault.FileCode.TheVariants.{Duplicate, Order, OutsideMonth, InnerRest, Limit}
use Rattle.pairing_files.specs.Drafts.{is_called}
use Rattle.pairing_files.specs.Faults.{last_of, pairing_fault, is_duty_in_order, month_fault, rest_fault, report_fault, too_many, first_fault, duty_fault, is_leg_within, is_before_last, leg_fault}
use Rattle.pairing_files.proofs.ListFacts.{last-none}
use Rattle.pairing_files.proofs.Seams.{none-any, all-last}

-- tests that let through
le-yes : (a b : ℕ) → a ≤ b → nat_le a b ≡ true
le-yes a b h = grind (arith, nat_tests)

le-no : (a b : ℕ) → b < a → nat_le a b ≡ false
le-no a b h = grind (arith, nat_tests)

lt-yes : (a b : ℕ) → a < b → nat_lt a b ≡ true
lt-yes a b h = grind (arith, nat_tests)

lt-no : (a b : ℕ) → b ≤ a → nat_lt a b ≡ false
lt-no a b h = grind (arith, nat_tests)

same-yes : (a b : ℕ) → a ≡ b → (a == b) ≡ true
same-yes a b h = grind (arith, nat_tests)

four-none : {E : Type 0} (a b c d : Bool) (u v w x : E) → a ≡ false → b ≡ false → c ≡ false → d ≡ false → (if a then Some u else (if b then Some v else (if c then Some w else (if d then Some x else None)))) ≡ None
four-none a b c d u v w x e f g h = rw (e, f, g, h) refl

two-none : {E : Type 0} (a b : Bool) (u v : E) (o : Option E) → a ≡ true → b ≡ true → o ≡ None → (if not a then Some u else (if not b then Some v else o)) ≡ None
two-none a b u v o e f g = rw (e, f, g) refl

then-none : {E : Type 0} (a b : Bool) (u v : E) (o : Option E) → a ≡ true → b ≡ false → o ≡ None → (if not a then Some u else (if b then Some v else o)) ≡ None
then-none a b u v o e f g = rw (e, f, g) refl

pub both-fit : {E : Type 0} (a b : Option E) → a ≡ None → b ≡ None → first_fault a b ≡ None
both-fit a b e f = rw (e, f) refl

or-no : (a b : Bool) → a ≡ false → b ≡ false → (a || b) ≡ false
or-no a b e f = rw (e, f) refl

and-yes : (a b : Bool) → a ≡ true → b ≡ true → (a && b) ≡ true
and-yes a b e f = rw (e, f) refl

room-left : {A : Type 0} (most number : ℕ) (xs : List A) → length xs < most → too_many most number xs ≡ None
room-left most number xs h = ap (λ (b : Bool). if b then Some (Limit number) else None) (le-no most (length xs) h)

pub pairing-fits : (before : List Pairing) (p : Pairing) → All (λ a. is_called p.name a ≡ false) before → length before < 600 → 1 ≤ p.need → p.need ≤ 9 → p.credit ≤ 12000 → pairing_fault before p ≡ None
pairing-fits before p apart room some few credit =
    four-none (list_any (is_called p.name) before) (nat_le 600 (length before)) (nat_lt p.need 1 || nat_lt 9 p.need) (nat_lt 12000 p.credit) Duplicate (Limit 2) (Limit 5) (Limit 6)
    (none-any (is_called p.name) before apart) (le-no 600 (length before) room) (or-no (nat_lt p.need 1) (nat_lt 9 p.need) (lt-no p.need 1 some) (lt-no 9 p.need few)) (lt-no 12000 p.credit credit)

-- the duty lasts, stands behind the others, and finds room
pub record FitsBehind (h : Horizon) (had : List Duty) (d : Duty) : Type 0 where
  pub reported : d.report ≤ d.parked
  pub parked : d.parked ≤ d.release
  pub lasts : d.report < d.release
  pub begins : length had ≡ 0 → (525600 ≤ d.report) × (d.report < month_end h)
  pub rested : All (λ x. x.release + 600 ≤ d.report) had
  pub room : length had < 12

month-fits : (h : Horizon) (report : ℕ) → 525600 ≤ report → report < month_end h → month_fault h report ≡ None
month-fits h report a b =
    ap (λ (t : Bool). if t then None else Some OutsideMonth) (and-yes (nat_le 525600 report) (nat_lt report (month_end h)) (le-yes 525600 report a) (lt-yes report (month_end h) b))

rest-fits : (e : Duty) (report : ℕ) → e.release + 600 ≤ report → rest_fault e report ≡ None
rest-fits e report a =
    let late : nat_lt report e.release ≡ false = lt-no report e.release (omega arith) in
    let rested : nat_lt report (e.release + 600) ≡ false = lt-no report (e.release + 600) a in
    ap (λ (t : Bool). if t then Some Order else (if nat_lt report (e.release + 600) then Some InnerRest else None)) late
    ∙ ap (λ (t : Bool). if t then Some InnerRest else None) rested

report-fits : (h : Horizon) (had : List Duty) (d : Duty) → FitsBehind h had d → report_fault h (last_of had) d.report ≡ None
report-fits h had d g = go (last_of had) refl
  where
    go : (o : Option Duty) → last_of had ≡ o → report_fault h o d.report ≡ None
    go None e = let b = g.begins (last-none had e) in month-fits h d.report b.0 b.1
    go (Some x) e = rest-fits x d.report (all-last (λ (y : Duty). y.release + 600 ≤ d.report) had x g.rested e)

pub duty-fits : (h : Horizon) (p : Pairing) (number : ℕ) (d : Duty) → number ≡ length p.duties + 1 → FitsBehind h p.duties d → duty_fault h p number d ≡ None
duty-fits h p number d n g =
    two-none (number == length p.duties + 1) (is_duty_in_order d) Order Order (first_fault (report_fault h (last_of p.duties) d.report) (too_many 12 3 p.duties))
    (same-yes number (length p.duties + 1) n)
    (and-yes (nat_le d.report d.parked && nat_le d.parked d.release) (nat_lt d.report d.release)
    (and-yes (nat_le d.report d.parked) (nat_le d.parked d.release) (le-yes d.report d.parked g.reported) (le-yes d.parked d.release g.parked)) (lt-yes d.report d.release g.lasts))
    (both-fit (report_fault h (last_of p.duties) d.report) (too_many 12 3 p.duties) (report-fits h p.duties d g) (room-left 12 3 p.duties g.room))

-- the leg flies within the duty, stands behind the others, and finds room
pub record FliesBehind (d : Duty) (l : Leg) : Type 0 where
  pub reported : d.report ≤ l.flown.out_at
  pub lasts : l.flown.out_at < l.flown.in_at
  pub parked : l.flown.in_at ≤ d.parked
  pub behind : All (λ k. k.flown.in_at ≤ l.flown.out_at) d.legs
  pub room : length d.legs < 8

last-before : (d : Duty) (l : Leg) → FliesBehind d l → is_before_last d.legs l ≡ false
last-before d l g = go (last_of d.legs) refl
  where
    go : (o : Option Leg) → last_of d.legs ≡ o → option_map_or (λ k. nat_lt l.flown.out_at k.flown.in_at) o false ≡ false
    go None e = refl
    go (Some k) e = lt-no l.flown.out_at k.flown.in_at (all-last (λ (m : Leg). m.flown.in_at ≤ l.flown.out_at) d.legs k g.behind e)

pub leg-fits : (d : Duty) (l : Leg) → FliesBehind d l → leg_fault d l ≡ None
leg-fits d l g =
    then-none (is_leg_within d l) (is_before_last d.legs l) Order Order (too_many 8 4 d.legs)
    (and-yes (nat_le d.report l.flown.out_at && nat_lt l.flown.out_at l.flown.in_at) (nat_le l.flown.in_at d.parked)
    (and-yes (nat_le d.report l.flown.out_at) (nat_lt l.flown.out_at l.flown.in_at) (le-yes d.report l.flown.out_at g.reported) (lt-yes l.flown.out_at l.flown.in_at g.lasts)) (le-yes l.flown.in_at d.parked g.parked))
    (last-before d l g) (room-left 8 4 d.legs g.room)
