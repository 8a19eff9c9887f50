-- What a line of bids says, or its first fault.
use Rattle.std.specs.Prelude.{ℕ, zero, suc, ◌&&◌, ◌||◌, Bool, true, false, nat_lt, nat_le, is_some, codes, List, [], ◌∷◌, Option, Some, None, Result, Ok, Err, if◌then◌else◌}
use Rattle.duty_calendar.specs.declared.member.Base.{Base}
use Rattle.duty_calendar.specs.declared.pairing.Pairing.{Pairing}
use Rattle.field_text.specs.Fields.{number_field}
use Rattle.field_text.specs.declared.field_fault.FieldFault.{FieldFault}
use Rattle.roster_model.specs.declared.bid.Test.{Test}
use Rattle.roster_model.specs.declared.bid.Test.TheVariants.{Layover, Departs, Arrives, ReportBefore, ReportAfter, ReleaseBefore, ReleaseAfter, Days, OnWeekday, Is}
use Rattle.roster_model.specs.declared.bid.Atom.{Atom}
use Rattle.roster_model.specs.declared.bid.Wish.{Wish}
use Rattle.roster_model.specs.declared.bid.Wish.TheVariants.{Fly, Avoid, Prefer, Off, CreditBelow, CreditAbove, DaysOff}
use Rattle.roster_model.specs.declared.bid.Bid.{Bid}
use Rattle.bid_language.specs.declared.fault.Word.TheVariants as word
use Rattle.bid_language.specs.declared.fault.BidCode.TheVariants as code
use Rattle.bid_language.specs.declared.keywords.Kind.{Kind}
use Rattle.bid_language.specs.declared.keywords.Kind.TheVariants as kind
use Rattle.bid_language.specs.declared.keywords.TestKind.{TestKind}
use Rattle.bid_language.specs.declared.keywords.TestKind.TheVariants as test
use Rattle.bid_language.specs.declared.keywords.Side.{Side}
use Rattle.bid_language.specs.declared.keywords.Side.TheVariants.{Before, After}
use Rattle.bid_language.specs.declared.keywords.Bound.{Bound}
use Rattle.bid_language.specs.declared.keywords.Bound.TheVariants.{Below, Above}
use Rattle.bid_language.specs.Keywords.{is_text, kind_of, test_kind_of}
use Rattle.bid_language.specs.Words.{Spot, Reader, ◌>>=◌, done, wrong, or_wrong, next, optional, finished}
use Rattle.bid_language.specs.Values.{number, clock, minutes, pairing, station, weekday, side, bound}
use Rattle.bid_language.specs.Days.{day, last_day}

abbrev pub report_test : Side → ℕ → Test
report_test Before c = ReportBefore c
report_test After c = ReportAfter c

abbrev pub release_test : Side → ℕ → Test
release_test Before c = ReleaseBefore c
release_test After c = ReleaseAfter c

-- what follows the first word of a test
unfoldable pub test_of : List Pairing → TestKind → Reader Test
test_of ps test.Layover = do
  s ← station
  done (Layover s)
test_of ps test.Departs = do
  s ← station
  done (Departs s)
test_of ps test.Arrives = do
  s ← station
  done (Arrives s)
test_of ps test.Report = do
  w ← side
  c ← clock
  done (report_test w c)
test_of ps test.Release = do
  w ← side
  c ← clock
  done (release_test w c)
test_of ps test.Days = do
  n ← number 1 40
  done (Days n)
test_of ps test.Weekday = do
  w ← weekday
  done (OnWeekday w)
test_of ps test.Pairing = do
  p ← pairing ps
  done (Is p)

-- a test whose first word is this token
unfoldable pub test_from : List Pairing → Spot → Reader Test
test_from ps s = do
  k ← or_wrong s (code.Expected word.Filter) (test_kind_of s.text)
  test_of ps k

abbrev pub atom_from : List Pairing → Spot → Bool → Reader Atom
atom_from ps s true = do
  t ← next word.Filter
  test ← test_from ps t
  done (record { negated = true; test = test })
atom_from ps s false = do
  test ← test_from ps s
  done (record { negated = false; test = test })

unfoldable pub atom : List Pairing → Reader Atom
atom ps = do
  s ← next word.Filter
  atom_from ps s (is_text s.text (codes "not"))

-- whether an atom may begin so
abbrev pub begins_atom : List ℕ → Bool
begins_atom text = is_text text (codes "not") || is_some (test_kind_of text)

-- where no atom may stand any more
unfoldable pub too_many : Reader (List Atom)
too_many = do
  s ← next word.Filter
  wrong s (if begins_atom s.text then code.TooMany else code.Expected word.Filter)

-- whether another atom follows
abbrev pub follows_of : Option Spot → Reader Bool
follows_of None = done false
follows_of (Some s) =
    if is_text s.text (codes "and") then done true else wrong s (code.Expected word.EndOfLine)

unfoldable pub follows : Reader Bool
follows = do
  s ← optional
  follows_of s

-- an atom, and whether another one follows
unfoldable pub joined : List Pairing → Reader (Atom × Bool)
joined ps = do
  a ← atom ps
  more ← follows
  done (a, more)

-- atoms joined by `and`, so many at most
unfoldable pub atoms : List Pairing → ℕ → Reader (List Atom)
atoms ps zero = too_many
atoms ps (suc n) = do
  a ← joined ps
  if a.1 then (do
    others ← atoms ps n
    done (a.0 ∷ others)) else done (a.0 ∷ [])

abbrev pub filter : List Pairing → Reader (List Atom)
filter ps = atoms ps 8

abbrev pub credit_wish : Bound → ℕ → Wish
credit_wish Below m = CreditBelow m
credit_wish Above m = CreditAbove m

-- what follows the first word of a wish
unfoldable pub wish_of : Base → Kind → Reader Wish
wish_of base kind.Fly = do
  p ← pairing base.pairings
  done (Fly p)
wish_of base kind.Avoid = do
  f ← filter base.pairings
  done (Avoid f)
wish_of base kind.Prefer = do
  n ← number 1 600
  f ← filter base.pairings
  done (Prefer n f)
wish_of base kind.Off = do
  first ← day base.rules.horizon
  last ← last_day base.rules.horizon first
  done (Off first last)
wish_of base kind.Credit = do
  b ← bound
  m ← minutes
  done (credit_wish b m)
wish_of base kind.DaysOff = do
  n ← number 0 31
  done (DaysOff n)

unfoldable pub wish : Base → Reader Wish
wish base = do
  s ← next word.Kind
  k ← or_wrong s (code.Expected word.Kind) (kind_of s.text)
  wish_of base k

-- the weight that a token says
abbrev pub weight_of : Spot → Result ℕ FieldFault → Reader ℕ
weight_of s (Ok n) = if nat_le 1 n && nat_le n 1000 then done n else wrong s code.Weight
weight_of s (Err e) = wrong s code.Number

unfoldable pub weight : Spot → Reader ℕ
weight s = weight_of s (number_field s.text)

-- a member may have no more bids
abbrev pub room : ℕ → Reader (Unit {0})
room count rest =
    if nat_lt count 64 then Ok (tt, rest) else Err (record { column = 1; code = code.TooMany })

-- the bid whose weight is this token, of a member who has so many already
unfoldable pub bid : Base → ℕ → Spot → Reader Bid
bid base count s = do
  w ← weight s
  _ ← room count
  x ← wish base
  _ ← finished
  done (record { weight = w; wish = x })
