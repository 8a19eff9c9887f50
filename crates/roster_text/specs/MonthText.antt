-- The view of a member's month: a line of sums, a line for each day, and a line for each bid.
use Rattle.std.specs.Prelude.{ℕ, ◌+◌, List, [], ◌∷◌, ◌++◌, length, codes, slice_get, pos, ◌+ℤ◌, if◌then◌else◌}
use Rattle.std.specs.List.{flat_map, range_with_len}
use Rattle.std.specs.Option.{option_map_or}
use Rattle.jiff_core.specs.Calendar.{weekday_number}
use Rattle.duty_calendar.specs.declared.horizon.Horizon.{Horizon}
use Rattle.duty_calendar.specs.declared.weekday.Weekday.{Weekday}
use Rattle.duty_calendar.specs.declared.weekday.Weekday.TheVariants.{Mon, Tue, Wed, Thu, Fri, Sat, Sun}
use Rattle.duty_calendar.specs.Calendar.{day_zero, month_days}
use Rattle.field_text.specs.Spelling.{number_text, minutes_text, kind_text}
use Rattle.roster_model.specs.declared.problem.Problem.{Problem}
use Rattle.roster_model.specs.Legality.{low_of, high_of}
use Rattle.roster_model.specs.Rosters.{line_at}
use Rattle.roster_model.specs.Timelines.{credit_of}
use Rattle.roster_model.specs.Scores.{score_of, days_off, bids_of, is_granted}
use Rattle.bid_language.specs.Spelling.{weekday_word, day_word, text_of}
use Rattle.roster_text.specs.declared.month_entries.Entry.{Entry}
use Rattle.roster_text.specs.declared.month_entries.Mark.{Mark}
use Rattle.roster_text.specs.declared.month_entries.Mark.TheVariants.{Flown, Fixed}
use Rattle.roster_text.specs.RosterText.{pairing_name, member_name}
use Rattle.roster_text.specs.MonthEntries.{entries_on}

-- the least and the greatest credit of the member
abbrev pub window_text : Problem → ℕ → List ℕ
window_text problem member =
    codes " of " ++ minutes_text (low_of problem member) ++ codes " to " ++ minutes_text (high_of problem member)

-- the score and the days off of a line
unfoldable pub worth_text : Problem → ℕ → List ℕ → List ℕ
worth_text problem member line =
    codes " score " ++ number_text (score_of problem member line)
    ++ codes " daysoff " ++ number_text (days_off problem member line)

-- the first line: the member, the credit with its window, the score and the days off
unfoldable pub sums_line : Problem → ℕ → List ℕ → List ℕ
sums_line problem member line =
    codes "member " ++ member_name problem member ++ codes " credit " ++ minutes_text (credit_of problem member line)
    ++ window_text problem member ++ worth_text problem member line ++ 10 ∷ []

-- the days of a week from Monday on, and the three letters of a day of the calendar
abbrev pub week : List Weekday
week = Mon ∷ Tue ∷ Wed ∷ Thu ∷ Fri ∷ Sat ∷ Sun ∷ []

unfoldable pub weekday_text : Horizon → ℕ → List ℕ
weekday_text h day = option_map_or weekday_word (slice_get week (weekday_number (day_zero h +ℤ pos day))) []

-- the name of a pairing, or the kind of a fixed event
abbrev pub mark_word : Problem → Mark → List ℕ
mark_word problem (Flown p) = pairing_name problem p
mark_word problem (Fixed kind) = kind_text kind

-- the words of entries, with one space between, or a dash where there are none
abbrev pub entries_text : Problem → List Entry → List ℕ
entries_text problem [] = 45 ∷ []
entries_text problem (e ∷ es) = mark_word problem e.mark ++ flat_map (λ f. 32 ∷ mark_word problem f.mark) es

-- a day of the month: its date, its day of the week, and what touches it
abbrev pub day_line : Problem → ℕ → List ℕ → ℕ → List ℕ
day_line problem member line day =
    day_word problem.base.rules.horizon day ++ 32 ∷ weekday_text problem.base.rules.horizon day
    ++ 32 ∷ entries_text problem (entries_on problem member line day) ++ 10 ∷ []

-- the days of the month, whose first is day 365
abbrev pub days_text : Problem → ℕ → List ℕ → List ℕ
days_text problem member line =
    flat_map (day_line problem member line) (range_with_len 365 (month_days problem.base.rules.horizon))

-- a bid by its number from 0: that number and one, whether the line grants it, and its text
abbrev pub bid_line : Problem → ℕ → List ℕ → ℕ → List ℕ
bid_line problem member line bid =
    codes "bid " ++ number_text (bid + 1)
    ++ (if is_granted problem member bid line then codes " granted " else codes " denied ")
    ++ text_of problem (record { member = member; bid = bid }) ++ 10 ∷ []

abbrev pub bids_text : Problem → ℕ → List ℕ → List ℕ
bids_text problem member line =
    flat_map (bid_line problem member line) (range_with_len 0 (length (bids_of problem member)))

-- the view of the member's month with a line
abbrev pub line_month : Problem → ℕ → List ℕ → List ℕ
line_month problem member line =
    sums_line problem member line ++ days_text problem member line ++ bids_text problem member line

abbrev pub month_text : Problem → List (List ℕ) → ℕ → List ℕ
month_text problem roster member = line_month problem member (line_at roster member)
