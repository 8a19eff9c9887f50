-- How texts stand in a page: what is put for them makes no markup, and reads as the text.
use Rattle.std.specs.Prelude.{◌≡◌, ◌++◌, ℕ, Bool, false, ◌||◌, ◌==◌, List, [], ◌∷◌, codes, if◌then◌else◌}
use Rattle.std.specs.List.{flat_map}

-- a byte that begins or ends a tag, or ends the value of an attribute: `<`, `>`, `"` or `'`
abbrev pub is_bound : ℕ → Bool
is_bound b = (b == 60) || (b == 62) || (b == 34) || (b == 39)

-- one of these, or `&`, which begins a reference
abbrev pub is_special : ℕ → Bool
is_special b = is_bound b || (b == 38)

-- the five bytes that stand in a text as references, and these
pub data IsReference : List ℕ → ℕ → Type 0 where
  ampersand : IsReference (codes "&amp;") 38
  less : IsReference (codes "&lt;") 60
  greater : IsReference (codes "&gt;") 62
  quote : IsReference (codes "&quot;") 34
  apostrophe : IsReference (codes "&#39;") 39

-- HTML that reads as a text: each byte of the text stands there as a reference, or as itself where none is for it
pub data Reads : List ℕ → List ℕ → Type 0 where
  nothing : Reads [] []
  itself : (b : ℕ) (html text : List ℕ) → is_special b ≡ false → Reads html text → Reads (b ∷ html) (b ∷ text)
  referred : (b : ℕ) (name html text : List ℕ) → IsReference name b → Reads html text → Reads (name ++ html) (b ∷ text)

-- what is put for a byte, and for a text
abbrev pub escaped_byte : ℕ → List ℕ
escaped_byte b =
    if b == 38 then codes "&amp;"
    else if b == 60 then codes "&lt;"
    else if b == 62 then codes "&gt;"
    else if b == 34 then codes "&quot;"
    else if b == 39 then codes "&#39;"
    else b ∷ []

unfoldable pub escaped : List ℕ → List ℕ
escaped text = flat_map escaped_byte text
