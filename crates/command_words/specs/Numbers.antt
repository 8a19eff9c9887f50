-- The numbers among the words, with their limits.
use Rattle.std.specs.Prelude.{◌≤◌, ◌^◌, ℕ, List, Option, Some, None, Result, Ok, Err, nat_le, ◌&&◌, if◌then◌else◌}
use Rattle.std.specs.Option.{option_map}
use Rattle.std.specs.Prelude.{option_and_then}
use Rattle.std.specs.Str.Parse.{digits_value}
use Rattle.field_text.specs.Fields.{field, number, number_field, below}
use Rattle.field_text.specs.Steps.{or_fault}
use Rattle.field_text.specs.declared.field_fault.FieldFault.{FieldFault}
use Rattle.field_text.specs.declared.field_fault.FieldFault.TheVariants.{Range}
use Rattle.command_words.specs.declared.command.Sizes.{Sizes}

abbrev pub within : ℕ → ℕ → Result ℕ FieldFault → Option ℕ
within least most (Ok n) = if nat_le least n && nat_le n most then Some n else None
within least most (Err fault) = None

-- the number between two limits that a word writes, spelt as a field is
abbrev pub number_in : ℕ → ℕ → List ℕ → Option ℕ
number_in least most word = within least most (number_field word)

-- a number of 64 bits, spelt as a field is
abbrev pub long_field : List ℕ → Result ℕ FieldFault
long_field = field number (λ text. or_fault Range (below (2 ^ 64) (digits_value 10 text)))

abbrev pub if_read : Result ℕ FieldFault → Option ℕ
if_read (Ok n) = Some n
if_read (Err fault) = None

abbrev pub long_in : List ℕ → Option ℕ
long_in word = if_read (long_field word)

-- the number of nodes that an option allows: 1 to 20,000, and 20,000 where no option stands
abbrev pub nodes_in : Option (List ℕ) → Option ℕ
nodes_in None = Some 20000
nodes_in (Some word) = number_in 1 20000 word

-- the sizes that three words write: a number of 64 bits, 1 to 200 members, 0 to 600 pairings
abbrev pub sizes_in : List ℕ → List ℕ → List ℕ → Option Sizes
sizes_in number members pairings =
    option_and_then (λ n. option_and_then (λ m. option_map (λ p. record { number = n; members = m; pairings = p })
    (number_in 0 600 pairings)) (number_in 1 200 members)) (long_in number)

-- the number of vacant lines that a word writes: 0 to 50
abbrev pub lines_in : List ℕ → Option ℕ
lines_in word = number_in 0 50 word

pub record AreNodes (nodes : ℕ) : Type 0 where
  pub some : 1 ≤ nodes
  pub few : nodes ≤ 20000

pub record AreSizes (sizes : Sizes) : Type 0 where
  pub some : 1 ≤ sizes.members
  pub few : sizes.members ≤ 200
  pub short : sizes.pairings ≤ 600
