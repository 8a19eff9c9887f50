-- The forms of fields: which bytes may stand at a place, and what may stand after them.
use Rattle.std.specs.Prelude.{◌≡◌, ℕ, zero, suc, ◌+◌, List, [], ◌∷◌, Bool, true, false, Option, Some, None, nat_le, ◌==◌, ◌&&◌, if◌then◌else◌}
use Rattle.std.specs.Char.{is_ascii_digit}
use Rattle.duty_calendar.specs.Forms.{is_capital, is_name_byte}
use Rattle.field_text.specs.declared.form.Class.{Class}
use Rattle.field_text.specs.declared.form.Class.TheVariants.{Digit, NonZero, Capital, NameByte, Byte}

-- the bytes of a class
abbrev pub is_in : Class → ℕ → Bool
is_in Digit b = is_ascii_digit b
is_in NonZero b = nat_le 49 b && nat_le b 57
is_in Capital b = is_capital b
is_in NameByte b = is_name_byte b
is_in (Byte a) b = b == a

pub data Form : Type 0 where
  nothing : Form  -- no text
  finished : Form  -- the empty text alone
  one : Class → Form → Form  -- a byte of the class, and then the rest
  many : Class → Form → Form  -- any number of such bytes, and then the rest
  up_to : ℕ → Class → Form → Form  -- at most so many such bytes, and then the rest
  either : Class → Form → Form → Form  -- the first form behind a byte of the class, else the second

-- what may stand behind a byte
abbrev pub after : Form → ℕ → Form
after nothing b = nothing
after finished b = nothing
after (one c f) b = if is_in c b then f else nothing
after (many c f) b = if is_in c b then many c f else after f b
after (up_to zero c f) b = after f b
after (up_to (suc n) c f) b = if is_in c b then up_to n c f else after f b
after (either c f g) b = if is_in c b then f else after g b

-- whether a text may end there
abbrev pub may_end : Form → Bool
may_end nothing = false
may_end finished = true
may_end (one c f) = false
may_end (many c f) = may_end f
may_end (up_to n c f) = may_end f
may_end (either c f g) = may_end g

abbrev pub is_nothing : Form → Bool
is_nothing nothing = true
is_nothing finished = false
is_nothing (one c f) = false
is_nothing (many c f) = false
is_nothing (up_to n c f) = false
is_nothing (either c f g) = false

-- whether a text is of the form
unfoldable pub is_of : Form → List ℕ → Bool
is_of f [] = may_end f
is_of f (b ∷ bs) = is_of (after f b) bs

-- the column of the first byte at which no text of the form goes on, for a text from column n on
unfoldable pub fault_from : ℕ → Form → List ℕ → Option ℕ
fault_from n f [] = if may_end f then None else Some n
fault_from n f (b ∷ bs) =
    if is_nothing (after f b) then Some n else fault_from (n + 1) (after f b) bs

-- a form of bytes in a row
abbrev pub row : List Class → Form
row [] = finished
row (c ∷ cs) = one c (row cs)

-- each byte is of the class at its place
abbrev pub IsRow : List Class → List ℕ → Type 0
IsRow [] [] = Unit {0}
IsRow [] (b ∷ bs) = ⊥
IsRow (c ∷ cs) [] = ⊥
IsRow (c ∷ cs) (b ∷ bs) = (is_in c b ≡ true) × IsRow cs bs
