-- What the reads of a month's files add to the log of a shelf.
use Rattle.std.specs.Prelude.{◌≡◌, ℕ, List, [], ◌∷◌, ◌++◌, map, take, Result, Ok, Err, Vec}
use Rattle.std.specs.declared.alloc.Global.{Global}
use Rattle.shelf.specs.Files.{Files}
use Rattle.shelf.specs.Logs.{Entries, holding}
use Rattle.month_files.specs.declared.file.File.{File}
use Rattle.month_files.specs.declared.file.File.TheVariants.{Rules, Pairings, Duties, Legs, Crew, History, Fixed, Bids}
use Rattle.month_files.specs.declared.unread.Unread.{Unread}
use Rattle.month_files.specs.FileNames.{name_of}
use Rattle.month_files.specs.Reading.{Inputs}

-- after a read of this file: its text is the last where it was read
abbrev pub with_text : Entries → File → Result (Vec ℕ Global) Unread → Entries
with_text log f (Ok text) = log ++ (name_of f, text.items) ∷ []
with_text log f (Err why) = log

-- the eight inputs, each once, in the order in which they are read
abbrev pub input_texts : Inputs → Entries
input_texts t =
    (name_of Rules, t.rules) ∷ (name_of Pairings, t.pairings) ∷ (name_of Duties, t.duties) ∷ (name_of Legs, t.legs)
    ∷ (name_of Crew, t.crew) ∷ (name_of History, t.history) ∷ (name_of Fixed, t.fixed) ∷ (name_of Bids, t.bids) ∷ []

-- the reads handed in these texts, of the first so many files of this order, each once and in order; and P holds of files
-- with them
pub record FromReads (order : List File) (old new : Entries) (P : Files → Type 0) : Type 0 where
  pub texts : Entries
  pub logged : new ≡ old ++ texts
  pub count : ℕ
  pub names : map (λ x. x.0) texts ≡ take count (map name_of order)
  pub found : P (holding texts)
