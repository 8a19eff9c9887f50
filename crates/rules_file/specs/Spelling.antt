-- How rules are spelt: a line for each key, in order.
use Rattle.std.specs.Prelude.{ℕ, ℤ, pos, List, ◌++◌, codes}
use Rattle.std.specs.Fmt.{signed_decimal}
use Rattle.rules_file.specs.Rules.{Values}

abbrev pub text_line : List ℕ → List ℕ → List ℕ
text_line key text = key ++ (codes " = \"" ++ (text ++ codes "\"\n"))

abbrev pub number_line : List ℕ → ℤ → List ℕ
number_line key number = key ++ (codes " = " ++ (signed_decimal number ++ codes "\n"))

unfoldable pub rules_text : Values → List ℕ
rules_text v =
    text_line (codes "base") v.base ++ (text_line (codes "seat") v.seat
    ++ (number_line (codes "year") v.year
    ++ (number_line (codes "month") (pos v.month)
    ++ (number_line (codes "offset") v.offset
    ++ number_line (codes "days_off") (pos v.days_off)))))
