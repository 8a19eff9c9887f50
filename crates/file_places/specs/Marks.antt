-- A line of a file as it is shown, and the mark below it.
use Rattle.std.specs.Prelude.{ℕ, ◌&&◌, ◌||◌, ◌==◌, nat_lt, nat_le, not, List, [], ◌∷◌, ◌++◌, codes, map, drop, min, length, if◌then◌else◌}
use Rattle.std.specs.List.{flat_map}

-- what a terminal would take for an order, as the byte of a key or a carriage return, stands as a question mark
abbrev pub shown_byte : ℕ → ℕ
shown_byte b = if (nat_lt b 32 && not (b == 9)) || (b == 127) then 63 else b

-- what stands below a byte in front of the mark: a tab below a tab, nothing below what goes on with a letter of several
-- bytes, else a blank
abbrev pub pad_byte : ℕ → List ℕ
pad_byte b = if b == 9 then 9 ∷ [] else if nat_le 128 b && nat_lt b 192 then [] else 32 ∷ []

-- what stands below a further byte of what is marked
abbrev pub caret_byte : ℕ → List ℕ
caret_byte b = if nat_le 128 b && nat_lt b 192 then [] else 94 ∷ []

-- the mark below a word, of one character at least
abbrev pub carets : List ℕ → List ℕ
carets word = 94 ∷ flat_map caret_byte (drop (min 1 (length word)) word)

-- a line of three parts, and the mark below the second of them
unfoldable pub marked : List ℕ → List ℕ → List ℕ → List ℕ
marked before word after =
    codes "    " ++ map shown_byte before ++ map shown_byte word ++ map shown_byte after ++ 10 ∷ codes "    "
    ++ flat_map pad_byte before ++ carets word ++ 10 ∷ []
