-- Which bytes say a calendar, once they are unfolded: its content lines in order, each with its end.
use Rattle.std.specs.Prelude.{◌≡◌, ◌⊎◌, ℕ, List, [], ◌∷◌, ◌++◌, map}
use Rattle.std.specs.List.{flat_map}
use Rattle.crew_calendar.specs.declared.types.Calendar.{Calendar}
use Rattle.crew_calendar.specs.Folding.{ended}
use Rattle.crew_calendar.specs.Texts.{escaped_byte}
use Rattle.crew_calendar.specs.Moments.{moment_text}
use Rattle.crew_calendar.specs.Seen.{Entry, entry_seen, IsCalendar}
use Rattle.crew_calendar.specs.Printing.{open_line, uid_head, stamp_head, start_head, stop_head, summary_head, text_head, close_line, last_line, head_lines}

-- how a byte of a text stands in a value: as it is printed, and a line feed also as `\N`
abbrev pub SpellsByte : ℕ → List ℕ → Type 0
SpellsByte b piece = (piece ≡ escaped_byte b) ⊎ ((b ≡ 10) × (piece ≡ 92 ∷ (78 ∷ [])))

-- a first byte, and a text behind it
pub record SpellsBoth (b : ℕ) (Behind : List ℕ → Type 0) (value : List ℕ) : Type 0 where
  pub piece : List ℕ
  pub rest : List ℕ
  pub parts : value ≡ piece ++ rest
  pub first : SpellsByte b piece
  pub behind : Behind rest

-- how a text stands in a value: its bytes in order
unfoldable pub Spells : List ℕ → List ℕ → Type 0
Spells [] value = value ≡ []
Spells (b ∷ bs) value = SpellsBoth b (Spells bs) value

-- the content lines of an entry
pub record IsEntryLines (stamp : List ℕ) (e : Entry) (lines : List (List ℕ)) : Type 0 where
  pub uid : List ℕ
  pub summary : List ℕ
  pub text : List ℕ
  pub uid_spelt : Spells e.uid uid
  pub summary_spelt : Spells e.summary summary
  pub text_spelt : Spells e.text text
  pub lines_are :
      lines
      ≡ open_line ∷ ((uid_head ++ uid) ∷ ((stamp_head ++ stamp) ∷ ((start_head ++ e.start) ∷ ((stop_head ++ e.stop)
      ∷ ((summary_head ++ summary) ∷ ((text_head ++ text) ∷ (close_line ∷ [])))))))

-- those of an entry, and of the entries behind it
pub record AreBoth (stamp : List ℕ) (e : Entry) (Behind : List (List ℕ) → Type 0) (lines : List (List ℕ)) : Type 0 where
  pub front : List (List ℕ)
  pub rest : List (List ℕ)
  pub parts : lines ≡ front ++ rest
  pub first : IsEntryLines stamp e front
  pub behind : Behind rest

unfoldable pub AreEntryLines : List ℕ → List Entry → List (List ℕ) → Type 0
AreEntryLines stamp [] lines = lines ≡ []
AreEntryLines stamp (e ∷ es) lines = AreBoth stamp e (AreEntryLines stamp es) lines

-- the unfolded bytes say this calendar, which has an entry, moments of the years 0 to 9999 and texts of printable bytes
pub record Says (bytes : List ℕ) (c : Calendar) : Type 0 where
  pub form : IsCalendar c
  pub lines : List (List ℕ)
  pub entries_are : AreEntryLines (moment_text c.stamp) (map entry_seen c.entries) lines
  pub bytes_are : bytes ≡ flat_map ended (head_lines ++ lines ++ last_line ∷ [])
