-- Reading the words of a reason's line from left to right.
use Rattle.std.specs.Prelude.{ℕ, zero, suc, ◌+◌, List, [], ◌∷◌, codes, position, Option, Some, None, Bool, false, not, ◌&&◌, ◌||◌, ◌==◌, if◌then◌else◌}
use Rattle.std.specs.List.{list_any}
use Rattle.std.specs.Option.{is_some}
use Rattle.std.specs.Str.{bytes_eq}
use Rattle.duty_calendar.specs.Forms.{is_name}
use Rattle.field_text.specs.Spelling.{number_text}
use Rattle.roster_model.specs.declared.problem.Problem.{Problem}
use Rattle.roster_model.specs.declared.award.Cause.{Cause}
use Rattle.roster_model.specs.declared.award.Cause.TheVariants.{Tie, Place}
use Rattle.roster_text.specs.declared.reason_words.Words.{Words as Lent}
use Rattle.roster_text.specs.NameReading.{◌>>=◌, word_at}
use Rattle.roster_text.specs.ReasonFaults.{is_numeral}

abbrev pub with_front : ℕ → Option (List ℕ × List ℕ) → Option (List ℕ × List ℕ)
with_front b None = None
with_front b (Some x) = Some (b ∷ x.0, x.1)

-- what stands before the first such byte, and behind it
unfoldable pub cut : ℕ → List ℕ → Option (List ℕ × List ℕ)
cut b [] = None
cut b (c ∷ cs) = if c == b then Some ([], cs) else with_front c (cut b cs)

abbrev pub kept : (List ℕ → Bool) → List ℕ × List ℕ → Option (List ℕ × List ℕ)
kept test x = if test x.0 then Some x else None

-- a name and a space
unfoldable pub name_in : List ℕ → Option (List ℕ × List ℕ)
name_in bytes = cut 32 bytes >>= kept is_name

-- a number and a space
unfoldable pub numeral_in : List ℕ → Option (List ℕ × List ℕ)
numeral_in bytes = cut 32 bytes >>= kept is_numeral

-- the place and the name of a cause that names both
abbrev pub is_place : List ℕ × List ℕ → Bool
is_place x = not (bytes_eq x.0 (codes "0")) && is_name x.1

unfoldable pub place_in : List ℕ → Option (List ℕ × List ℕ)
place_in cause =
    word_at (codes "place ") cause >>= λ rest. numeral_in rest >>= λ x.
    if is_place x then Some x else None

unfoldable pub is_cause : List ℕ → Bool
is_cause cause =
    bytes_eq cause (codes "tie")
    || (bytes_eq cause (codes "place 0") || is_some (place_in cause))

-- a cause and a colon
unfoldable pub cause_in : List ℕ → Option (List ℕ × List ℕ)
cause_in bytes = cut 58 bytes >>= kept is_cause

-- whether a space stands here, and a line feed somewhere behind it
abbrev pub is_ended : List ℕ → Bool
is_ended [] = false
is_ended (c ∷ cs) = (c == 32) && list_any (λ b. b == 10) cs

-- the words of a line, and what stands behind the colon
pub record Words : Type 0 where
  pub member : List ℕ
  pub number : List ℕ
  pub cause : List ℕ
  pub rest : List ℕ

-- the words that the reader is lent
abbrev pub words_seen : Lent → Words
words_seen w = record {
  member = w.member.now;
  number = w.number.now;
  cause = w.cause.now;
  rest = w.rest.now;
}

unfoldable pub words_in : List ℕ → Option Words
words_in bytes =
    name_in bytes >>= λ m. numeral_in m.1 >>= λ k. cause_in k.1 >>= λ c.
    if is_ended c.1
    then Some (record { member = m.0; number = k.0; cause = c.0; rest = c.1 }) else None

-- the first of so many numbers from k on that passes the test
abbrev pub first_from : (ℕ → Bool) → ℕ → ℕ → Option ℕ
first_from test k zero = None
first_from test k (suc n) = if test k then Some k else first_from test (k + 1) n

-- the member of a name, the bid of a number, and what a cause names
unfoldable pub member_named : Problem → List ℕ → Option ℕ
member_named problem word = position (λ m. bytes_eq m.name word) problem.base.members

abbrev pub is_number : List ℕ → ℕ → Bool
is_number word k = bytes_eq (number_text (k + 1)) word

unfoldable pub numbered : ℕ → List ℕ → Option ℕ
numbered count word = first_from (is_number word) 0 count

abbrev pub place_of_member : List ℕ → ℕ → Option Cause
place_of_member word m = if is_number word m then Some (Place (m + 1)) else None

unfoldable pub place_named : Problem → List ℕ → Option Cause
place_named problem cause =
    place_in cause >>= λ x. member_named problem x.1 >>= place_of_member x.0

unfoldable pub cause_named : Problem → List ℕ → Option Cause
cause_named problem cause =
    if bytes_eq cause (codes "tie") then Some Tie
    else if bytes_eq cause (codes "place 0") then Some (Place 0) else place_named problem cause
