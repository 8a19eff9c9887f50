-- The one spelling of bids: words with one space between, and lines that end with a line feed.
use Rattle.std.specs.Prelude.{ℕ, ◌-◌, ◌==◌, List, [], ◌∷◌, ◌++◌, codes, slice_get, unsigned_abs, if◌then◌else◌}
use Rattle.std.specs.List.{flat_map}
use Rattle.std.specs.Option.{option_map_or}
use Rattle.duty_calendar.specs.declared.horizon.Horizon.{Horizon}
use Rattle.duty_calendar.specs.declared.member.Base.{Base}
use Rattle.duty_calendar.specs.declared.member.Member.{Member}
use Rattle.duty_calendar.specs.declared.pairing.Pairing.{Pairing}
use Rattle.duty_calendar.specs.declared.weekday.Weekday.{Weekday}
use Rattle.duty_calendar.specs.declared.weekday.Weekday.TheVariants.{Mon, Tue, Wed, Thu, Fri, Sat, Sun}
use Rattle.field_text.specs.Spelling.{number_text, minutes_text, clock_text, day_text}
use Rattle.roster_model.specs.declared.bid.Test.{Test}
use Rattle.roster_model.specs.declared.bid.Test.TheVariants.{Layover, Departs, Arrives, ReportBefore, ReportAfter, ReleaseBefore, ReleaseAfter, Days, OnWeekday, Is}
use Rattle.roster_model.specs.declared.bid.Atom.{Atom}
use Rattle.roster_model.specs.declared.bid.Wish.{Wish}
use Rattle.roster_model.specs.declared.bid.Wish.TheVariants.{Fly, Avoid, Prefer, Off, CreditBelow, CreditAbove, DaysOff}
use Rattle.roster_model.specs.declared.bid.Bid.{Bid}
use Rattle.roster_model.specs.declared.goal.BidRef.{BidRef}
use Rattle.roster_model.specs.declared.problem.Problem.{Problem}
use Rattle.roster_model.specs.Scores.{bids_of}

abbrev pub weekday_word : Weekday → List ℕ
weekday_word Mon = codes "MON"
weekday_word Tue = codes "TUE"
weekday_word Wed = codes "WED"
weekday_word Thu = codes "THU"
weekday_word Fri = codes "FRI"
weekday_word Sat = codes "SAT"
weekday_word Sun = codes "SUN"

-- the name of a pairing
abbrev pub name_of : List Pairing → ℕ → List ℕ
name_of pairings p = option_map_or (λ p. p.name) (slice_get pairings p) []

-- a day of the month, whose first is day 365
abbrev pub day_word : Horizon → ℕ → List ℕ
day_word h day = day_text (unsigned_abs h.year) h.month (day - 364)

abbrev pub test_text : List Pairing → Test → List ℕ
test_text pairings (Layover s) = codes "layover " ++ s
test_text pairings (Departs s) = codes "departs " ++ s
test_text pairings (Arrives s) = codes "arrives " ++ s
test_text pairings (ReportBefore c) = codes "report before " ++ clock_text c
test_text pairings (ReportAfter c) = codes "report after " ++ clock_text c
test_text pairings (ReleaseBefore c) = codes "release before " ++ clock_text c
test_text pairings (ReleaseAfter c) = codes "release after " ++ clock_text c
test_text pairings (Days n) = codes "days " ++ number_text n
test_text pairings (OnWeekday w) = codes "weekday " ++ weekday_word w
test_text pairings (Is p) = codes "pairing " ++ name_of pairings p

abbrev pub atom_text : List Pairing → Atom → List ℕ
atom_text pairings a =
    if a.negated then codes "not " ++ test_text pairings a.test else test_text pairings a.test

-- atoms behind another
abbrev pub more_text : List Pairing → List Atom → List ℕ
more_text pairings others = flat_map (λ a. codes " and " ++ atom_text pairings a) others

abbrev pub filter_text : List Pairing → List Atom → List ℕ
filter_text pairings [] = []
filter_text pairings (a ∷ others) = atom_text pairings a ++ more_text pairings others

-- the end of a stretch of days, where it is not its first day
abbrev pub to_text : Horizon → ℕ → ℕ → List ℕ
to_text h first last = if first == last then [] else codes " to " ++ day_word h last

abbrev pub wish_text : Base → Wish → List ℕ
wish_text base (Fly p) = codes "fly " ++ name_of base.pairings p
wish_text base (Avoid f) = codes "avoid " ++ filter_text base.pairings f
wish_text base (Prefer n f) = (codes "prefer " ++ number_text n) ++ 32 ∷ filter_text base.pairings f
wish_text base (Off first last) =
    (codes "off " ++ day_word base.rules.horizon first) ++ to_text base.rules.horizon first last
wish_text base (CreditBelow m) = codes "credit below " ++ minutes_text m
wish_text base (CreditAbove m) = codes "credit above " ++ minutes_text m
wish_text base (DaysOff n) = codes "daysoff " ++ number_text n

-- a bid: its weight and its wish
unfoldable pub bid_text : Base → Bid → List ℕ
bid_text base b = number_text b.weight ++ 32 ∷ wish_text base b.wish

-- the text of a problem's bid
abbrev pub text_of : Problem → BidRef → List ℕ
text_of problem b =
    option_map_or (bid_text problem.base) (slice_get (bids_of problem b.member) b.bid) []

-- the lines of bids, each ended by a line feed
abbrev pub bid_lines : Base → List Bid → List ℕ
bid_lines base bids = flat_map (λ b. bid_text base b ++ 10 ∷ []) bids

-- the line of a member, and those of the member's bids; none where there are no bids
abbrev pub member_text : Member → List ℕ
member_text m = codes "member " ++ m.name

abbrev pub member_lines : Base → Member → List Bid → List ℕ
member_lines base m [] = []
member_lines base m (b ∷ bs) = (member_text m ++ 10 ∷ []) ++ bid_lines base (b ∷ bs)

-- the lines of the members, each with its bids
abbrev pub all_lines : Base → List Member → List (List Bid) → List ℕ
all_lines base [] lists = []
all_lines base (m ∷ ms) [] = []
all_lines base (m ∷ ms) (bs ∷ lists) = member_lines base m bs ++ all_lines base ms lists

abbrev pub bids_text : Problem → List ℕ
bids_text problem = all_lines problem.base problem.base.members problem.bids
