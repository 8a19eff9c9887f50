-- What breaks a line's legality as numbers: the code of the rule, then its place.
use Rattle.std.specs.Prelude.{ℕ, List, [], ◌∷◌}
use Rattle.line_legality.specs.declared.illegal.Illegal.{Illegal}
use Rattle.line_legality.specs.declared.illegal.Illegal.TheVariants as illegal

abbrev pub illegal_numbers : Illegal → List ℕ
illegal_numbers illegal.NoMemory = 0 ∷ 0 ∷ []
illegal_numbers (illegal.Overlap minute) = 1 ∷ minute ∷ []
illegal_numbers (illegal.Rest report) = 2 ∷ report ∷ []
illegal_numbers (illegal.Free30 report) = 3 ∷ report ∷ []
illegal_numbers (illegal.Flight672 start) = 4 ∷ start ∷ []
illegal_numbers (illegal.Duty168 start) = 5 ∷ start ∷ []
illegal_numbers (illegal.Duty672 start) = 6 ∷ start ∷ []
illegal_numbers (illegal.Flight365 day) = 7 ∷ day ∷ []
illegal_numbers (illegal.Credit total) = 8 ∷ total ∷ []
illegal_numbers (illegal.DaysOff count) = 9 ∷ count ∷ []
illegal_numbers (illegal.Night report) = 10 ∷ report ∷ []
