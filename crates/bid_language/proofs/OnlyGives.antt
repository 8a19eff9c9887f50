-- What the readers of a line give: values as a bid can have them.
use Rattle.std.proofs.Common.{◌≡◌, ℕ, zero, suc, ◌+◌, ◌<◌, ◌≤◌, List, [], ◌∷◌, length, Bool, true, false, Option, Some, None, Result, Ok, Err, refl, ap, subst, arith, pos, negsuc, ℤ, ◌-ℤ◌}
use Rattle.std.specs.Prelude.{◌&&◌, nat_le, nat_lt, if◌then◌else◌}
use Rattle.std.specs.List.{list_all}
use Rattle.std.proofs.lemmas.Bool.{and_from}
use Rattle.std.proofs.lemmas.Bool.Decides.{nat_tests}
use Rattle.std.proofs.lemmas.List.Quantifiers.{position-Some}
use Rattle.duty_calendar.specs.declared.horizon.Horizon.{Horizon}
use Rattle.duty_calendar.specs.declared.member.Base.{Base}
use Rattle.duty_calendar.specs.declared.pairing.Pairing.{Pairing}
use Rattle.duty_calendar.specs.Calendar.{day_zero, month_days}
use Rattle.duty_calendar.specs.Forms.{is_station_code}
use Rattle.field_text.specs.declared.field_fault.FieldFault.{FieldFault}
use Rattle.field_text.specs.Fields.{number_field, clock_field, minutes_field, day_field, station_of}
use Rattle.roster_model.specs.declared.bid.Test.{Test}
use Rattle.roster_model.specs.declared.bid.Atom.{Atom}
use Rattle.roster_model.specs.declared.bid.Wish.{Wish}
use Rattle.roster_model.specs.declared.bid.Bid.{Bid}
use Rattle.roster_model.specs.Valid.{is_test, is_filter, is_wish, IsBid}
use Rattle.bid_language.specs.declared.fault.BidCode.{BidCode}
use Rattle.bid_language.specs.declared.fault.BidCode.TheVariants as code
use Rattle.bid_language.specs.declared.fault.Word.{Word}
use Rattle.bid_language.specs.declared.fault.Word.TheVariants as word
use Rattle.bid_language.specs.declared.fault.LineFault.{LineFault}
use Rattle.bid_language.specs.declared.keywords.Bound.{Bound}
use Rattle.bid_language.specs.declared.keywords.Bound.TheVariants.{Below, Above}
use Rattle.bid_language.specs.declared.keywords.Kind.{Kind}
use Rattle.bid_language.specs.declared.keywords.Kind.TheVariants as kind
use Rattle.bid_language.specs.declared.keywords.Side.{Side}
use Rattle.bid_language.specs.declared.keywords.Side.TheVariants.{Before, After}
use Rattle.bid_language.specs.declared.keywords.TestKind.{TestKind}
use Rattle.bid_language.specs.declared.keywords.TestKind.TheVariants as test
use Rattle.bid_language.proofs.FieldBounds.{clock_field-bound, minutes_field-bound}
use Rattle.bid_language.specs.Keywords.{is_text, test_kind_of, kind_of}
use Rattle.bid_language.specs.Words.{Spot, Rest, Reader, ◌>>=◌, and_then, done, wrong, or_wrong, next, optional, finished}
use Rattle.bid_language.specs.Values.{value_of, value_in, number, clock, minutes, pairing, pairing_named, station, weekday, side, bound}
use Rattle.bid_language.specs.Days.{one_of, day_in, day, not_before, later_day, last_day_of, last_day}
use Rattle.bid_language.specs.Grammar.{report_test, release_test, test_of, test_from, atom_from, atom, begins_atom, too_many, follows, joined, atoms, filter, credit_wish, wish_of, wish, weight_of, weight, room, bid}

-- each value that a reader gives has a property
abbrev pub Only : {A : Type 0} → Reader A → (A → Type 0) → Type 0
Only {A} read P = (before after : Rest) (x : A) → read before ≡ Ok (x, after) → P x

-- what is said of any value
abbrev pub Known : {A : Type 0} → A → Type 0
Known x = Unit {0}

pub only-known : {A : Type 0} (read : Reader A) → Only read Known
only-known read before after x e = tt

then-gives : {A B : Type 0} (f : A → Reader B) (P : A → Type 0) (Q : B → Type 0) (r : Result (A × Rest) LineFault)
    → ((x : A) (rest : Rest) → r ≡ Ok (x, rest) → P x) → ((x : A) → P x → Only (f x) Q)
    → (after : Rest) (y : B) → and_then r f ≡ Ok (y, after) → Q y
then-gives f P Q (Ok x) g h after y e = h x.0 (g x.0 x.1 refl) x.1 after y e
then-gives f P Q (Err fault) g h after y e = cc

pub only-then : {A B : Type 0} (read : Reader A) (f : A → Reader B) (P : A → Type 0) (Q : B → Type 0)
    → Only read P → ((x : A) → P x → Only (f x) Q) → Only (read >>= f) Q
only-then read f P Q g h before after y e = then-gives f P Q (read before) (λ x rest s. g before rest x s) h after y e

pub only-next : {B : Type 0} (w : Word) (f : Spot → Reader B) (Q : B → Type 0) → ((s : Spot) → Only (f s) Q) → Only (next w >>= f) Q
only-next w f Q h = only-then (next w) f Known Q (only-known (next w)) (λ s k. h s)

same_value : {A : Type 0} (x y : A) (a b : Rest) → ◌≡◌ {A = Result (A × Rest) LineFault} (Ok (x, a)) (Ok (y, b)) → x ≡ y
same_value {A} x y a b e = let pair : ◌≡◌ {A = A × Rest} (x, a) (y, b) = cc in ap (λ (q : A × Rest). q.0) pair

pub only-done : {A : Type 0} (x : A) (Q : A → Type 0) → Q x → Only (done x) Q
only-done x Q q before after y e = subst Q (same_value x y before after e) q

pub only-wrong : {A : Type 0} (s : Spot) (c : BidCode) (Q : A → Type 0) → Only (wrong {A = A} s c) Q
only-wrong s c Q before after y e = cc

only-or_wrong : {A : Type 0} (s : Spot) (c : BidCode) (o : Option A) (Q : A → Type 0) → ((x : A) → o ≡ Some x → Q x) → Only (or_wrong s c o) Q
only-or_wrong s c (Some x) Q h = only-done x Q (h x refl)
only-or_wrong s c None Q h = only-wrong s c Q

pub only-if : {A : Type 0} (b : Bool) (yes' no' : Reader A) (Q : A → Type 0) → (b ≡ true → Only yes' Q) → (b ≡ false → Only no' Q) → Only (if b then yes' else no') Q
only-if true yes' no' Q g h = g refl
only-if false yes' no' Q g h = h refl

-- values
value_in-bounds : (low high n : ℕ) (r : Result ℕ FieldFault) → value_in low high r ≡ Some n → (low ≤ n) × (n ≤ high)
value_in-bounds low high n (Ok m) e = by_test (nat_le low m && nat_le m high) refl e
  where
    by_test : (b : Bool) → (nat_le low m && nat_le m high) ≡ b → (if b then Some m else None) ≡ Some n → (low ≤ n) × (n ≤ high)
    by_test true h s = let same : m ≡ n = cc in let t : (low ≤ m) × (m ≤ high) = (grind (arith, nat_tests), grind (arith, nat_tests)) in subst (λ (k : ℕ). (low ≤ k) × (k ≤ high)) same t
    by_test false h s = cc
value_in-bounds low high n (Err fault) e = cc

only-number : (low high : ℕ) → Only (number low high) (λ n. (low ≤ n) × (n ≤ high))
unfolding number
only-number low high =
    only-next word.Value _ _ (λ s. only-or_wrong s code.Number (value_in low high (number_field s.text)) _ (λ n e. value_in-bounds low high n (number_field s.text) e))

value_of-some : (r : Result ℕ FieldFault) (n : ℕ) → value_of r ≡ Some n → r ≡ Ok n
value_of-some (Ok m) n e = let same : m ≡ n = cc in ap Ok same
value_of-some (Err fault) n e = cc

named-within : (pairings : List Pairing) (text : List ℕ) (p : ℕ) → pairing_named pairings text ≡ Some p → nat_lt p (length pairings) ≡ true
named-within [] text p e = cc
named-within (x ∷ xs) text p e =
    let found = position-Some (λ q. is_text q.name text) (x ∷ xs) p x e in
    let inside : p < length (x ∷ xs) = found.0 in
    grind (arith, nat_tests)

only-clock : Only clock (λ n. n < 1440)
unfolding clock
only-clock = only-next word.Value _ _ (λ s. only-or_wrong s code.Number (value_of (clock_field s.text)) _ (λ n e. clock_field-bound s.text n (value_of-some (clock_field s.text) n e)))

only-minutes : Only minutes (λ n. n ≤ 59999)
unfolding minutes
only-minutes = only-next word.Value _ _ (λ s. only-or_wrong s code.Number (value_of (minutes_field s.text)) _ (λ n e. minutes_field-bound s.text n (value_of-some (minutes_field s.text) n e)))

only-pairing : (pairings : List Pairing) → Only (pairing pairings) (λ p. nat_lt p (length pairings) ≡ true)
unfolding pairing
only-pairing pairings = only-next word.Name _ _ (λ s. only-if _ _ _ _
    (λ form. only-or_wrong s code.UnknownPairing (pairing_named pairings s.text) _ (λ p e. named-within pairings s.text p e))
    (λ form. only-wrong s (code.Expected word.Name) _))

-- a station that is read has three capital letters
abbrev pub Coded : List ℕ → Type 0
Coded s = is_station_code s ≡ true

station_of-coded : (text s : List ℕ) → station_of text ≡ Some s → Coded s
station_of-coded text s e = by_test (is_station_code text) refl e
  where
    by_test : (b : Bool) → is_station_code text ≡ b → (if b then Some text else None) ≡ Some s → Coded s
    by_test true h f = let same : text ≡ s = cc in subst Coded same h
    by_test false h f = cc

only-station : Only station Coded
unfolding station
only-station = only-next word.Station _ _ (λ s. only-or_wrong s (code.Expected word.Station) (station_of s.text) Coded (λ x e. station_of-coded s.text x e))

-- days
one_of-bounds : (days n : ℕ) (z : ℤ) → one_of days z ≡ Some n → (365 ≤ n) × (n < 365 + days)
one_of-bounds days n (pos m) e = by_test (nat_le 365 m && nat_lt m (365 + days)) refl e
  where
    by_test : (b : Bool) → (nat_le 365 m && nat_lt m (365 + days)) ≡ b → (if b then Some m else None) ≡ Some n → (365 ≤ n) × (n < 365 + days)
    by_test true h s = let same : m ≡ n = cc in let t : (365 ≤ m) × (m < 365 + days) = (grind (arith, nat_tests), grind (arith, nat_tests)) in subst (λ (k : ℕ). (365 ≤ k) × (k < 365 + days)) same t
    by_test false h s = cc
one_of-bounds days n (negsuc m) e = cc

day_in-bounds : (h : Horizon) (n : ℕ) (r : Result ℤ FieldFault) → day_in h r ≡ Some n → (365 ≤ n) × (n < 365 + month_days h)
day_in-bounds h n (Ok z) e = one_of-bounds (month_days h) n (z -ℤ day_zero h) e
day_in-bounds h n (Err fault) e = cc

only-day : (h : Horizon) → Only (day h) (λ d. (365 ≤ d) × (d < 365 + month_days h))
unfolding day
only-day h = only-next word.Value _ _ (λ s. only-or_wrong s code.Date (day_in h (day_field s.text)) _ (λ d e. day_in-bounds h d (day_field s.text) e))

not_before-bounds : (days first n : ℕ) (o : Option ℕ) → ((d : ℕ) → o ≡ Some d → (365 ≤ d) × (d < 365 + days)) → not_before first o ≡ Some n → (first ≤ n) × (n < 365 + days)
not_before-bounds days first n (Some d) h e = by_test (nat_le first d) refl e
  where
    by_test : (b : Bool) → nat_le first d ≡ b → (if b then Some d else None) ≡ Some n → (first ≤ n) × (n < 365 + days)
    by_test true g s = let same : d ≡ n = cc in let bounds = h d refl in let t : (first ≤ d) × (d < 365 + days) = (grind (arith, nat_tests), bounds.1) in subst (λ (k : ℕ). (first ≤ k) × (k < 365 + days)) same t
    by_test false g s = cc
not_before-bounds days first n None h e = cc

only-later_day : (h : Horizon) (first : ℕ) → Only (later_day h first) (λ d. (first ≤ d) × (d < 365 + month_days h))
unfolding later_day
only-later_day h first = only-next word.Value _ _ (λ s. only-or_wrong s code.Date (not_before first (day_in h (day_field s.text))) _
    (λ d e. not_before-bounds (month_days h) first d (day_in h (day_field s.text)) (λ x f. day_in-bounds h x (day_field s.text) f) e))

only-last_day : (h : Horizon) (first : ℕ) → first < 365 + month_days h → Only (last_day h first) (λ d. (first ≤ d) × (d < 365 + month_days h))
unfolding last_day
only-last_day h first fits = only-then optional (last_day_of h first) Known _ (only-known optional) (λ o k. by_spot o)
  where
    by_spot : (o : Option Spot) → Only (last_day_of h first o) (λ d. (first ≤ d) × (d < 365 + month_days h))
    by_spot None = only-done first _ (omega arith, fits)
    by_spot (Some s) = only-if _ _ _ _ (λ t. only-later_day h first) (λ t. only-wrong s (code.Expected word.To) _)

-- tests
report-test : (n c : ℕ) (w : Side) → c < 1440 → is_test n (report_test w c) ≡ true
report-test n c Before h = grind (arith, nat_tests)
report-test n c After h = grind (arith, nat_tests)

release-test : (n c : ℕ) (w : Side) → c < 1440 → is_test n (release_test w c) ≡ true
release-test n c Before h = grind (arith, nat_tests)
release-test n c After h = grind (arith, nat_tests)

abbrev Tests : List Pairing → Test → Type 0
Tests ps t = is_test (length ps) t ≡ true

only-test_of : (ps : List Pairing) (k : TestKind) → Only (test_of ps k) (Tests ps)
unfolding test_of
only-test_of ps test.Layover = only-then station _ Coded _ only-station (λ s k. only-done _ (Tests ps) k)
only-test_of ps test.Departs = only-then station _ Coded _ only-station (λ s k. only-done _ (Tests ps) k)
only-test_of ps test.Arrives = only-then station _ Coded _ only-station (λ s k. only-done _ (Tests ps) k)
only-test_of ps test.Report = only-then side _ Known _ (only-known side) (λ w k. only-then clock _ _ _ only-clock (λ c h. only-done _ (Tests ps) (report-test (length ps) c w h)))
only-test_of ps test.Release = only-then side _ Known _ (only-known side) (λ w k. only-then clock _ _ _ only-clock (λ c h. only-done _ (Tests ps) (release-test (length ps) c w h)))
only-test_of ps test.Days = only-then (number 1 40) _ _ _ (only-number 1 40) (λ n h. only-done _ (Tests ps) (days_fit n h.0 h.1))
  where
    days_fit : (n : ℕ) → 1 ≤ n → n ≤ 40 → (nat_le 1 n && nat_le n 40) ≡ true
    days_fit n a b = grind (arith, nat_tests)
only-test_of ps test.Weekday = only-then weekday _ Known _ (only-known weekday) (λ w k. only-done _ (Tests ps) refl)
only-test_of ps test.Pairing = only-then (pairing ps) _ _ _ (only-pairing ps) (λ p h. only-done _ (Tests ps) h)

only-test_from : (ps : List Pairing) (s : Spot) → Only (test_from ps s) (Tests ps)
unfolding test_from
only-test_from ps s = only-then (or_wrong s (code.Expected word.Filter) (test_kind_of s.text)) _ Known _ (only-known (or_wrong s (code.Expected word.Filter) (test_kind_of s.text))) (λ k g. only-test_of ps k)

-- filters
abbrev Atoms : List Pairing → Atom → Type 0
Atoms ps a = is_test (length ps) a.test ≡ true

only-atom : (ps : List Pairing) → Only (atom ps) (Atoms ps)
unfolding atom
only-atom ps = only-next word.Filter _ _ (λ s. by_word s (is_text s.text _))
  where
    by_word : (s : Spot) (b : Bool) → Only (atom_from ps s b) (Atoms ps)
    by_word s true = only-next word.Filter _ _ (λ t. only-then (test_from ps t) _ _ _ (only-test_from ps t) (λ x h. only-done _ (Atoms ps) h))
    by_word s false = only-then (test_from ps s) _ _ _ (only-test_from ps s) (λ x h. only-done _ (Atoms ps) h)

only-joined : (ps : List Pairing) → Only (joined ps) (λ a. Atoms ps a.0)
unfolding joined
only-joined ps = only-then (atom ps) _ _ _ (only-atom ps) (λ a h. only-then follows _ Known _ (only-known follows) (λ more k. only-done (a, more) _ h))

-- so many atoms at most
pub record AreAtoms (ps : List Pairing) (most : ℕ) (list : List Atom) : Type 0 where
  pub some : 1 ≤ length list
  pub few : length list ≤ most
  pub each : list_all (λ a. is_test (length ps) a.test) list ≡ true

only-too_many : (ps : List Pairing) (n : ℕ) → Only too_many (AreAtoms ps n)
unfolding too_many
only-too_many ps n = only-next word.Filter _ _ (λ s. only-wrong s (if begins_atom s.text then code.TooMany else code.Expected word.Filter) _)

only-atoms : (ps : List Pairing) (n : ℕ) → Only (atoms ps n) (AreAtoms ps n)
unfolding atoms
only-atoms ps zero = only-too_many ps 0
only-atoms ps (suc n) = only-then (joined ps) _ _ _ (only-joined ps) (λ a h. only-if a.1 _ _ _
    (λ more. only-then (atoms ps n) _ _ _ (only-atoms ps n) (λ others g. only-done (a.0 ∷ others) _ (record { some = omega arith; few = omega (arith, g.few); each = and_from _ _ h g.each })))
    (λ last. only-done (a.0 ∷ []) _ (record { some = omega arith; few = omega arith; each = and_from _ _ h refl })))

filter-form : (ps : List Pairing) (f : List Atom) → AreAtoms ps 8 f → is_filter (length ps) f ≡ true
filter-form ps f h =
    let some : nat_le 1 (length f) ≡ true = let g : 1 ≤ length f = h.some in grind (arith, nat_tests) in
    let few : nat_le (length f) 8 ≡ true = let g : length f ≤ 8 = h.few in grind (arith, nat_tests) in
    rw (some, few) h.each

only-filter : (ps : List Pairing) → Only (filter ps) (λ f. is_filter (length ps) f ≡ true)
only-filter ps before after f e = filter-form ps f (only-atoms ps 8 before after f e)

-- wishes
abbrev Wishes : Base → Wish → Type 0
Wishes base w = is_wish base.rules.horizon (length base.pairings) w ≡ true

prefer_fits : (n m : ℕ) (f : List Atom) → 1 ≤ n → n ≤ 600 → is_filter m f ≡ true → (nat_le 1 n && nat_le n 600 && is_filter m f) ≡ true
prefer_fits n m f a b h =
    let some : nat_le 1 n ≡ true = grind (arith, nat_tests) in
    let few : nat_le n 600 ≡ true = grind (arith, nat_tests) in
    rw (some, few) h

off_fits : (days first last : ℕ) → 365 ≤ first → first ≤ last → last < 365 + days → (nat_le 365 first && nat_le first last && nat_lt last (365 + days)) ≡ true
off_fits days first last a b c = grind (arith, nat_tests)

credit_fits : (base : Base) (b : Bound) (m : ℕ) → m ≤ 59999 → Wishes base (credit_wish b m)
credit_fits base Below m h = grind (arith, nat_tests)
credit_fits base Above m h = grind (arith, nat_tests)

only-wish_of : (base : Base) (k : Kind) → Only (wish_of base k) (Wishes base)
unfolding wish_of
only-wish_of base kind.Fly = only-then (pairing base.pairings) _ _ _ (only-pairing base.pairings) (λ p h. only-done _ (Wishes base) h)
only-wish_of base kind.Avoid = only-then (filter base.pairings) _ _ _ (only-filter base.pairings) (λ f h. only-done _ (Wishes base) h)
only-wish_of base kind.Prefer = only-then (number 1 600) _ _ _ (only-number 1 600) (λ n g. only-then (filter base.pairings) _ _ _ (only-filter base.pairings) (λ f h. only-done _ (Wishes base) (prefer_fits n (length base.pairings) f g.0 g.1 h)))
only-wish_of base kind.Off = only-then (day base.rules.horizon) _ _ _ (only-day base.rules.horizon) (λ first g. only-then (last_day base.rules.horizon first) _ _ _ (only-last_day base.rules.horizon first g.1) (λ last h. only-done _ (Wishes base) (off_fits (month_days base.rules.horizon) first last g.0 h.0 h.1)))
only-wish_of base kind.Credit = only-then bound _ Known _ (only-known bound) (λ b k. only-then minutes _ _ _ only-minutes (λ m h. only-done _ (Wishes base) (credit_fits base b m h)))
only-wish_of base kind.DaysOff = only-then (number 0 31) _ _ _ (only-number 0 31) (λ n h. only-done _ (Wishes base) (few n h.1))
  where
    few : (n : ℕ) → n ≤ 31 → nat_le n 31 ≡ true
    few n h = grind (arith, nat_tests)

only-wish : (base : Base) → Only (wish base) (Wishes base)
unfolding wish
only-wish base = only-next word.Kind _ _ (λ s. only-then (or_wrong s (code.Expected word.Kind) (kind_of s.text)) _ Known _ (only-known (or_wrong s (code.Expected word.Kind) (kind_of s.text))) (λ k g. only-wish_of base k))

-- bids
only-weight : (s : Spot) → Only (weight s) (λ w. (1 ≤ w) × (w ≤ 1000))
unfolding weight
only-weight s = by_value (number_field s.text)
  where
    by_value : (r : Result ℕ FieldFault) → Only (weight_of s r) (λ w. (1 ≤ w) × (w ≤ 1000))
    by_value (Ok n) = only-if (nat_le 1 n && nat_le n 1000) _ _ _ (λ t. only-done n _ (grind (arith, nat_tests), grind (arith, nat_tests))) (λ t. only-wrong s code.Weight _)
    by_value (Err fault) = only-wrong s code.Number _

only-room : (count : ℕ) → Only (room count) (λ u. count < 64)
only-room count before after x e = by_test (nat_lt count 64) refl e
  where
    by_test : (b : Bool) → nat_lt count 64 ≡ b → if◌then◌else◌ {A = Result (Unit {0} × Rest) LineFault} b (Ok (tt, before)) (Err (record { column = 1; code = code.TooMany })) ≡ Ok (x, after) → count < 64
    by_test true h f = grind (arith, nat_tests)
    by_test false h f = cc

-- a bid of the base, of a member who had so many
pub record IsNext (base : Base) (count : ℕ) (b : Bid) : Type 0 where
  pub form : IsBid base.rules.horizon (length base.pairings) b
  pub room : count < 64

pub only-bid : (base : Base) (count : ℕ) (s : Spot) → Only (bid base count s) (IsNext base count)
unfolding bid
only-bid base count s = only-then (weight s) _ _ _ (only-weight s) (λ w g. only-then (room count) _ _ _ (only-room count) (λ u few. only-then (wish base) _ _ _ (only-wish base) (λ x h.
    only-then finished _ Known _ (only-known finished) (λ v k. only-done _ (IsNext base count) (record { form = record { some_weight = g.0; few_weight = g.1; wish_form = h }; room = few })))))
