-- What the column of a fault says of the texts of a form.
use Rattle.std.specs.Prelude.{◌≡◌, ℕ, ◌+◌, ◌≤◌, List, [], ◌∷◌, ◌++◌, length, take, Bool, true, false, not, ◌&&◌, IsTrue}
use Rattle.field_text.specs.declared.form.Class.{Class}
use Rattle.field_text.specs.declared.form.Class.TheVariants.{Digit, NonZero, Capital, NameByte, Byte}
use Rattle.field_text.specs.Form.{Form, nothing, finished, one, many, up_to, either, is_in, is_of}

-- a text is of the form
abbrev pub Fits : Form → List ℕ → Type 0
Fits f text = IsTrue (is_of f text)

-- some text of a kind begins so
abbrev pub Begins : (List ℕ → Type 0) → List ℕ → Type 0
Begins Is start = (rest : List ℕ) × Is (start ++ rest)

-- The column, counted from 1, is that of the first byte at which no text of a kind goes on:
-- some text of the kind begins with the bytes before it, and none with that byte too,
-- or the text is none of the kind where the column is one past its end.
pub record StopsAt (Is : List ℕ → Type 0) (text : List ℕ) (column : ℕ) : Type 0 where
  pub counted : 1 ≤ column
  pub within : column ≤ length text + 1
  pub before : (k : ℕ) → k + 1 ≡ column → Begins Is (take k text)
  pub here : column ≤ length text → ¬ Begins Is (take column text)
  pub ends : ¬ Is text

-- a byte of the class
abbrev pub a_byte : Class → ℕ
a_byte Digit = 48
a_byte NonZero = 49
a_byte Capital = 65
a_byte NameByte = 65
a_byte (Byte b) = b

-- a text of the form, where it has one
abbrev pub a_text : Form → List ℕ
a_text nothing = []
a_text finished = []
a_text (one c f) = a_byte c ∷ a_text f
a_text (many c f) = a_text f
a_text (up_to n c f) = a_text f
a_text (either c f g) = a_byte c ∷ a_text f

abbrev pub begins_in : Class → List ℕ → Bool
begins_in c [] = false
begins_in c (b ∷ bs) = is_in c b

-- whether each part of the form can be gone on to its end
abbrev pub is_live : Form → Bool
is_live nothing = false
is_live finished = true
is_live (one c f) = is_live f
is_live (many c f) = not (begins_in c (a_text f)) && is_live f
is_live (up_to n c f) = not (begins_in c (a_text f)) && is_live f
is_live (either c f g) = is_live f && is_live g
