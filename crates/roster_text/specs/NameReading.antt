-- Reading the member and the pairings of a row from left to right.
use Rattle.std.specs.Prelude.{ℕ, zero, suc, ◌+◌, List, [], ◌∷◌, length, take, drop, Option, Some, None, Bool, true, false, ◌==◌, if◌then◌else◌}
use Rattle.std.specs.Str.{bytes_eq}
use Rattle.roster_model.specs.declared.problem.Problem.{Problem}
use Rattle.roster_model.specs.Ascending.{is_ascending}
use Rattle.roster_text.specs.RosterText.{pairing_name, member_name}

infixl 10 ◌>>=◌
abbrev pub ◌>>=◌ : {A B : Type 0} → Option A → (A → Option B) → Option B
(Some x) >>= f = f x
None >>= f = None

-- what stands behind a word
abbrev pub word_at : List ℕ → List ℕ → Option (List ℕ)
word_at word bytes =
    if bytes_eq (take (length word) bytes) word then Some (drop (length word) bytes) else None

-- what stands behind a member's name and a comma
unfoldable pub member_at : Problem → ℕ → List ℕ → Option (List ℕ)
member_at problem m bytes = word_at (member_name problem m) bytes >>= word_at (44 ∷ [])

-- what stands behind a space, or behind the comma after the last name
abbrev pub after_separator : List ℕ → Option (List ℕ × Bool)
after_separator [] = None
after_separator (c ∷ cs) = if c == 32 then Some (cs, false) else if c == 44 then Some (cs, true) else None

-- the name of a pairing and what separates it
unfoldable pub name_at : Problem → ℕ → List ℕ → Option (List ℕ × Bool)
name_at problem p bytes = word_at (pairing_name problem p) bytes >>= after_separator

-- a pairing that stood there or not, and the pairings behind it
abbrev pub named : ℕ → List ℕ → Option (List ℕ × Bool) → (List ℕ → Option (List ℕ × List ℕ))
    → Option (List ℕ × List ℕ)
named p bytes None others = others bytes
named p bytes (Some (rest, true)) others = Some (p ∷ [], rest)
named p bytes (Some (rest, false)) others = others rest >>= λ x. Some (p ∷ x.0, x.1)

-- the pairings named in order, from p on
unfoldable pub names_at : Problem → ℕ → ℕ → List ℕ → Option (List ℕ × List ℕ)
names_at problem p zero bytes = None
names_at problem p (suc n) bytes =
    named p bytes (name_at problem p bytes) (λ rest. names_at problem (p + 1) n rest)

-- no pairing, or some
abbrev pub line_at : Problem → List ℕ → Option (List ℕ × List ℕ)
line_at problem [] = None
line_at problem (c ∷ cs) =
    if c == 44 then Some ([], cs) else names_at problem 0 (length problem.base.pairings) (c ∷ cs)

-- the same, ascending
abbrev pub ordered : List ℕ × List ℕ → Option (List ℕ × List ℕ)
ordered x = if is_ascending x.0 then Some (x.0, x.1) else None

unfoldable pub pairings_at : Problem → List ℕ → Option (List ℕ × List ℕ)
pairings_at problem bytes = line_at problem bytes >>= ordered

-- a name behind a space
abbrev pub spaced_name : Problem → ℕ → List ℕ
spaced_name problem p = 32 ∷ pairing_name problem p
