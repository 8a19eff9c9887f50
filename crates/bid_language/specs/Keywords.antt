-- The words of the language.
use Rattle.std.specs.Prelude.{ℕ, Bool, nat_eq, List, Option, Some, None, codes, if◌then◌else◌}
use Rattle.std.specs.Cmp.Lexicographic.{pointwise}
use Rattle.duty_calendar.specs.declared.weekday.Weekday.{Weekday}
use Rattle.duty_calendar.specs.declared.weekday.Weekday.TheVariants.{Mon, Tue, Wed, Thu, Fri, Sat, Sun}
use Rattle.bid_language.specs.declared.keywords.Kind.{Kind}
use Rattle.bid_language.specs.declared.keywords.Kind.TheVariants as kind
use Rattle.bid_language.specs.declared.keywords.TestKind.{TestKind}
use Rattle.bid_language.specs.declared.keywords.TestKind.TheVariants as test
use Rattle.bid_language.specs.declared.keywords.Side.{Side}
use Rattle.bid_language.specs.declared.keywords.Side.TheVariants.{Before, After}
use Rattle.bid_language.specs.declared.keywords.Bound.{Bound}
use Rattle.bid_language.specs.declared.keywords.Bound.TheVariants.{Below, Above}

-- whether two texts have the same bytes
unfoldable pub is_text : List ℕ → List ℕ → Bool
is_text text word = pointwise nat_eq text word

abbrev pub kind_of : List ℕ → Option Kind
kind_of text =
    if is_text text (codes "fly") then Some kind.Fly else
    (if is_text text (codes "avoid") then Some kind.Avoid else
    (if is_text text (codes "prefer") then Some kind.Prefer else
    (if is_text text (codes "off") then Some kind.Off else
    (if is_text text (codes "credit") then Some kind.Credit else
    (if is_text text (codes "daysoff") then Some kind.DaysOff else None)))))

abbrev pub test_kind_of : List ℕ → Option TestKind
test_kind_of text =
    if is_text text (codes "layover") then Some test.Layover else
    (if is_text text (codes "departs") then Some test.Departs else
    (if is_text text (codes "arrives") then Some test.Arrives else
    (if is_text text (codes "report") then Some test.Report else
    (if is_text text (codes "release") then Some test.Release else
    (if is_text text (codes "days") then Some test.Days else
    (if is_text text (codes "weekday") then Some test.Weekday else
    (if is_text text (codes "pairing") then Some test.Pairing else None)))))))

abbrev pub side_of : List ℕ → Option Side
side_of text = if is_text text (codes "before") then Some Before
    else (if is_text text (codes "after") then Some After else None)

abbrev pub bound_of : List ℕ → Option Bound
bound_of text = if is_text text (codes "below") then Some Below
    else (if is_text text (codes "above") then Some Above else None)

abbrev pub weekday_of : List ℕ → Option Weekday
weekday_of text =
    if is_text text (codes "MON") then Some Mon else
    (if is_text text (codes "TUE") then Some Tue else
    (if is_text text (codes "WED") then Some Wed else
    (if is_text text (codes "THU") then Some Thu else
    (if is_text text (codes "FRI") then Some Fri else
    (if is_text text (codes "SAT") then Some Sat else
    (if is_text text (codes "SUN") then Some Sun else None))))))
