-- The faults of a line are never want of memory.
use Rattle.std.proofs.Common.{◌≡◌, ◌≢◌, ℕ, zero, suc, List, [], ◌∷◌, Bool, true, false, Option, Some, None, Result, Ok, Err, ap, subst}
use Rattle.std.specs.Prelude.{◌&&◌, nat_le, nat_lt, if◌then◌else◌}
use Rattle.duty_calendar.specs.declared.horizon.Horizon.{Horizon}
use Rattle.duty_calendar.specs.declared.member.Base.{Base}
use Rattle.duty_calendar.specs.declared.pairing.Pairing.{Pairing}
use Rattle.duty_calendar.specs.Forms.{is_name}
use Rattle.field_text.specs.declared.field_fault.FieldFault.{FieldFault}
use Rattle.field_text.specs.Fields.{number_field, clock_field, minutes_field, day_field, station_of}
use Rattle.bid_language.specs.declared.fault.BidCode.{BidCode}
use Rattle.bid_language.specs.declared.fault.BidCode.TheVariants as code
use Rattle.bid_language.specs.declared.fault.Word.{Word}
use Rattle.bid_language.specs.declared.fault.Word.TheVariants as word
use Rattle.bid_language.specs.declared.fault.LineFault.{LineFault}
use Rattle.bid_language.specs.declared.keywords.Kind.{Kind}
use Rattle.bid_language.specs.declared.keywords.Kind.TheVariants as kind
use Rattle.bid_language.specs.declared.keywords.TestKind.{TestKind}
use Rattle.bid_language.specs.declared.keywords.TestKind.TheVariants as test
use Rattle.bid_language.specs.Keywords.{is_text, test_kind_of, kind_of, weekday_of, side_of, bound_of}
use Rattle.bid_language.specs.Words.{Spot, Rest, Reader, ◌>>=◌, and_then, done, wrong, or_wrong, next, optional, finished}
use Rattle.bid_language.specs.Values.{value_of, value_in, number, clock, minutes, pairing, pairing_named, station, weekday, side, bound}
use Rattle.bid_language.specs.Days.{day_in, day, not_before, later_day, last_day_of, last_day}
use Rattle.bid_language.specs.Grammar.{test_of, test_from, atom_from, atom, begins_atom, too_many, follows_of, follows, joined, atoms, wish_of, wish, weight_of, weight, room, bid}
use Rattle.bid_language.specs.Lines.{Read, known, member_named, member_line, bid_line, entry_from, entry_of}

abbrev IsReal : BidCode → Type 0
IsReal c = c ≢ code.NoMemory

-- each fault of a reader is real
abbrev pub Faults : {A : Type 0} → Reader A → Type 0
Faults read = (before : Rest) (f : LineFault) → read before ≡ Err f → IsReal f.code

then_faults : {A B : Type 0} (g : A → Reader B) (r : Result (A × Rest) LineFault) → ((f : LineFault) → r ≡ Err f → IsReal f.code) → ((x : A) → Faults (g x))
    → (f : LineFault) → and_then r g ≡ Err f → IsReal f.code
then_faults g (Ok x) h k f e = k x.0 x.1 f e
then_faults g (Err fault) h k f e = h f (let same : fault ≡ f = cc in ap Err same)

faults-then : {A B : Type 0} (read : Reader A) (g : A → Reader B) → Faults read → ((x : A) → Faults (g x)) → Faults (read >>= g)
faults-then read g h k before f e = then_faults g (read before) (λ fault s. h before fault s) k f e

faults-done : {A : Type 0} (x : A) → Faults (done x)
faults-done x before f e = cc

faults-wrong : {A : Type 0} (s : Spot) (c : BidCode) → IsReal c → Faults (wrong {A = A} s c)
faults-wrong s c real before f e = let same : c ≡ f.code = cc in subst IsReal same real

faults-or_wrong : {A : Type 0} (s : Spot) (c : BidCode) (o : Option A) → IsReal c → Faults (or_wrong s c o)
faults-or_wrong s c (Some x) real = faults-done x
faults-or_wrong s c None real = faults-wrong s c real

faults-if : {A : Type 0} (b : Bool) (first other : Reader A) → Faults first → Faults other → Faults (if b then first else other)
faults-if true first other g h = g
faults-if false first other g h = h

faults-next : (w : Word) → Faults (next w)
unfolding next
faults-next w before f e = by_spots before.spots e
  where
    by_spots : (spots : List Spot) → next w (record { spots = spots; stop = before.stop }) ≡ Err f → IsReal f.code
    by_spots [] h = let same : code.Expected w ≡ f.code = cc in subst IsReal same (λ g. cc)
    by_spots (s ∷ ss) h = cc

faults-optional : Faults optional
unfolding optional
faults-optional before f e = by_spots before.spots e
  where
    by_spots : (spots : List Spot) → optional (record { spots = spots; stop = before.stop }) ≡ Err f → IsReal f.code
    by_spots [] h = cc
    by_spots (s ∷ ss) h = cc

faults-finished : Faults finished
unfolding finished
faults-finished before f e = by_spots before.spots e
  where
    by_spots : (spots : List Spot) → finished (record { spots = spots; stop = before.stop }) ≡ Err f → IsReal f.code
    by_spots [] h = cc
    by_spots (s ∷ ss) h = let same : code.Expected word.EndOfLine ≡ f.code = cc in subst IsReal same (λ g. cc)

-- codes that are real
real-number : IsReal code.Number
real-number e = cc

real-date : IsReal code.Date
real-date e = cc

real-expected : (w : Word) → IsReal (code.Expected w)
real-expected w e = cc

real-named : IsReal code.UnknownPairing
real-named e = cc

real-member : IsReal code.UnknownMember
real-member e = cc

real-twice : IsReal code.MemberTwice
real-twice e = cc

real-weight : IsReal code.Weight
real-weight e = cc

real-many : IsReal code.TooMany
real-many e = cc

-- one token as a value
faults-one : {A : Type 0} (w : Word) (c : BidCode) (o : Spot → Option A) → IsReal c → Faults (next w >>= (λ s. or_wrong s c (o s)))
faults-one w c o real = faults-then (next w) _ (faults-next w) (λ s. faults-or_wrong s c (o s) real)

faults-number : (low high : ℕ) → Faults (number low high)
unfolding number
faults-number low high = faults-one word.Value code.Number (λ s. value_in low high (number_field s.text)) real-number

faults-clock : Faults clock
unfolding clock
faults-clock = faults-one word.Value code.Number (λ s. value_of (clock_field s.text)) real-number

faults-minutes : Faults minutes
unfolding minutes
faults-minutes = faults-one word.Value code.Number (λ s. value_of (minutes_field s.text)) real-number

faults-pairing : (ps : List Pairing) → Faults (pairing ps)
unfolding pairing
faults-pairing ps = faults-then (next word.Name) _ (faults-next word.Name) (λ s.
    faults-if (is_name s.text) _ _ (faults-or_wrong s code.UnknownPairing (pairing_named ps s.text) real-named) (faults-wrong s (code.Expected word.Name) (real-expected word.Name)))

faults-station : Faults station
unfolding station
faults-station = faults-one word.Station (code.Expected word.Station) (λ s. station_of s.text) (real-expected word.Station)

faults-weekday : Faults weekday
unfolding weekday
faults-weekday = faults-one word.Weekday (code.Expected word.Weekday) (λ s. weekday_of s.text) (real-expected word.Weekday)

faults-side : Faults side
unfolding side
faults-side = faults-one word.Side (code.Expected word.Side) (λ s. side_of s.text) (real-expected word.Side)

faults-bound : Faults bound
unfolding bound
faults-bound = faults-one word.Credit (code.Expected word.Credit) (λ s. bound_of s.text) (real-expected word.Credit)

faults-day : (h : Horizon) → Faults (day h)
unfolding day
faults-day h = faults-one word.Value code.Date (λ s. day_in h (day_field s.text)) real-date

faults-later_day : (h : Horizon) (first : ℕ) → Faults (later_day h first)
unfolding later_day
faults-later_day h first = faults-one word.Value code.Date (λ s. not_before first (day_in h (day_field s.text))) real-date

faults-last_day : (h : Horizon) (first : ℕ) → Faults (last_day h first)
unfolding last_day
faults-last_day h first = faults-then optional (last_day_of h first) faults-optional (λ o. by_spot o)
  where
    by_spot : (o : Option Spot) → Faults (last_day_of h first o)
    by_spot None = faults-done first
    by_spot (Some s) = faults-if (is_text s.text _) _ _ (faults-later_day h first) (faults-wrong s (code.Expected word.To) (real-expected word.To))

-- a value, and what is made of it
faults-made : {A B : Type 0} (read : Reader A) (g : A → B) → Faults read → Faults (read >>= (λ x. done (g x)))
faults-made read g h = faults-then read _ h (λ x. faults-done (g x))

faults-test_of : (ps : List Pairing) (k : TestKind) → Faults (test_of ps k)
unfolding test_of
faults-test_of ps test.Layover = faults-made station _ faults-station
faults-test_of ps test.Departs = faults-made station _ faults-station
faults-test_of ps test.Arrives = faults-made station _ faults-station
faults-test_of ps test.Report = faults-then side _ faults-side (λ w. faults-made clock _ faults-clock)
faults-test_of ps test.Release = faults-then side _ faults-side (λ w. faults-made clock _ faults-clock)
faults-test_of ps test.Days = faults-made (number 1 40) _ (faults-number 1 40)
faults-test_of ps test.Weekday = faults-made weekday _ faults-weekday
faults-test_of ps test.Pairing = faults-made (pairing ps) _ (faults-pairing ps)

faults-test_from : (ps : List Pairing) (s : Spot) → Faults (test_from ps s)
unfolding test_from
faults-test_from ps s = faults-then (or_wrong s (code.Expected word.Filter) (test_kind_of s.text)) _ (faults-or_wrong s (code.Expected word.Filter) (test_kind_of s.text) (real-expected word.Filter)) (λ k. faults-test_of ps k)

faults-atom : (ps : List Pairing) → Faults (atom ps)
unfolding atom
faults-atom ps = faults-then (next word.Filter) _ (faults-next word.Filter) (λ s. by_word s (is_text s.text _))
  where
    by_word : (s : Spot) (b : Bool) → Faults (atom_from ps s b)
    by_word s true = faults-then (next word.Filter) _ (faults-next word.Filter) (λ t. faults-made (test_from ps t) _ (faults-test_from ps t))
    by_word s false = faults-made (test_from ps s) _ (faults-test_from ps s)

faults-follows : Faults follows
unfolding follows
faults-follows = faults-then optional follows_of faults-optional (λ o. by_spot o)
  where
    by_spot : (o : Option Spot) → Faults (follows_of o)
    by_spot None = faults-done false
    by_spot (Some s) = faults-if (is_text s.text _) _ _ (faults-done true) (faults-wrong s (code.Expected word.EndOfLine) (real-expected word.EndOfLine))

faults-joined : (ps : List Pairing) → Faults (joined ps)
unfolding joined
faults-joined ps = faults-then (atom ps) _ (faults-atom ps) (λ a. faults-made follows _ faults-follows)

real-either : (b : Bool) → IsReal (if b then code.TooMany else code.Expected word.Filter)
real-either true = real-many
real-either false = real-expected word.Filter

faults-too_many : Faults too_many
unfolding too_many
faults-too_many = faults-then (next word.Filter) _ (faults-next word.Filter) (λ s. faults-wrong s (if begins_atom s.text then code.TooMany else code.Expected word.Filter) (real-either (begins_atom s.text)))

faults-atoms : (ps : List Pairing) (n : ℕ) → Faults (atoms ps n)
unfolding atoms
faults-atoms ps zero = faults-too_many
faults-atoms ps (suc n) = faults-then (joined ps) _ (faults-joined ps) (λ a. faults-if a.1 _ _ (faults-made (atoms ps n) _ (faults-atoms ps n)) (faults-done (a.0 ∷ [])))

faults-wish_of : (base : Base) (k : Kind) → Faults (wish_of base k)
unfolding wish_of
faults-wish_of base kind.Fly = faults-made (pairing base.pairings) _ (faults-pairing base.pairings)
faults-wish_of base kind.Avoid = faults-made (atoms base.pairings 8) _ (faults-atoms base.pairings 8)
faults-wish_of base kind.Prefer = faults-then (number 1 600) _ (faults-number 1 600) (λ n. faults-made (atoms base.pairings 8) _ (faults-atoms base.pairings 8))
faults-wish_of base kind.Off = faults-then (day base.rules.horizon) _ (faults-day base.rules.horizon) (λ first. faults-made (last_day base.rules.horizon first) _ (faults-last_day base.rules.horizon first))
faults-wish_of base kind.Credit = faults-then bound _ faults-bound (λ b. faults-made minutes _ faults-minutes)
faults-wish_of base kind.DaysOff = faults-made (number 0 31) _ (faults-number 0 31)

faults-wish : (base : Base) → Faults (wish base)
unfolding wish
faults-wish base = faults-then (next word.Kind) _ (faults-next word.Kind) (λ s.
    faults-then (or_wrong s (code.Expected word.Kind) (kind_of s.text)) _ (faults-or_wrong s (code.Expected word.Kind) (kind_of s.text) (real-expected word.Kind)) (λ k. faults-wish_of base k))

faults-weight : (s : Spot) → Faults (weight s)
unfolding weight
faults-weight s = by_value (number_field s.text)
  where
    by_value : (r : Result ℕ FieldFault) → Faults (weight_of s r)
    by_value (Ok n) = faults-if (nat_le 1 n && nat_le n 1000) _ _ (faults-done n) (faults-wrong s code.Weight real-weight)
    by_value (Err fault) = faults-wrong s code.Number real-number

faults-room : (count : ℕ) → Faults (room count)
faults-room count before f e = by_test (nat_lt count 64) e
  where
    by_test : (b : Bool) → if◌then◌else◌ {A = Result (Unit {0} × Rest) LineFault} b (Ok (tt, before)) (Err (record { column = 1; code = code.TooMany })) ≡ Err f → IsReal f.code
    by_test true h = cc
    by_test false h = let same : code.TooMany ≡ f.code = cc in subst IsReal same real-many

faults-bid : (base : Base) (count : ℕ) (s : Spot) → Faults (bid base count s)
unfolding bid
faults-bid base count s = faults-then (weight s) _ (faults-weight s) (λ w. faults-then (room count) _ (faults-room count) (λ u. faults-then (wish base) _ (faults-wish base) (λ x.
    faults-then finished _ faults-finished (λ v. faults-done (record { weight = w; wish = x })))))

faults-known : (s : Spot) (found : Option ℕ) → Faults (known s found)
faults-known s found = faults-if (is_name s.text) _ _ (faults-or_wrong s code.UnknownMember found real-member) (faults-wrong s (code.Expected word.Name) (real-expected word.Name))

faults-member_line : (base : Base) (read : Read) → Faults (member_line base read)
unfolding member_line
faults-member_line base read = faults-then (next word.Name) _ (faults-next word.Name) (λ s. faults-then (known s (member_named base.members s.text)) _ (faults-known s (member_named base.members s.text)) (λ m.
    faults-if _ _ _ (faults-wrong s code.MemberTwice real-twice) (faults-then finished _ faults-finished (λ u. faults-done _))))

faults-bid_line : (base : Base) (read : Read) (s : Spot) (o : Option ℕ) → Faults (bid_line base read s o)
faults-bid_line base read s None = faults-wrong s (code.Expected word.MemberLine) (real-expected word.MemberLine)
faults-bid_line base read s (Some m) = faults-made (bid base _ s) _ (faults-bid base _ s)

pub faults-entry_of : (base : Base) (read : Read) → Faults (entry_of base read)
unfolding entry_of
faults-entry_of base read = faults-then optional _ faults-optional (λ o. by_spot o)
  where
    by_spot : (o : Option Spot) → Faults (entry_from base read o)
    by_spot None = faults-done _
    by_spot (Some s) = faults-if (is_text s.text _) _ _ (faults-member_line base read) (faults-bid_line base read s read.current)
