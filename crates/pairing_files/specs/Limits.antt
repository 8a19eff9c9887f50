-- How many of each there may be, and the numbers by which a passed limit is named.
use Rattle.std.specs.Prelude.{ℕ}

abbrev pub most_pairings : ℕ
most_pairings = 600

abbrev pub most_duties : ℕ
most_duties = 12

abbrev pub most_legs : ℕ
most_legs = 8

abbrev pub most_need : ℕ
most_need = 9

abbrev pub most_credit : ℕ
most_credit = 12000

abbrev pub pairings_limit : ℕ
pairings_limit = 2

abbrev pub duties_limit : ℕ
duties_limit = 3

abbrev pub legs_limit : ℕ
legs_limit = 4

abbrev pub need_limit : ℕ
need_limit = 5

abbrev pub credit_limit : ℕ
credit_limit = 6
