-- What the reads of a shelf have handed in: names and bytes in order.
use Rattle.std.specs.Prelude.{ℕ, List, [], ◌∷◌, ◌++◌, Result, Ok, Err}
use Rattle.std.specs.FinMap as map
use Rattle.std.specs.declared.vec.Vec.{Vec}
use Rattle.std.specs.declared.alloc.Global.{Global}
use Rattle.shelf.specs.declared.fault.ShelfFault.{ShelfFault}
use Rattle.shelf.specs.Files.{Files}

abbrev pub Entries : Type 0
Entries = List (List ℕ × List ℕ)

-- after a read of this name: its bytes are the last where it answered Ok, and nothing is new where it did not
abbrev pub with_read : Entries → List ℕ → Result (Vec ℕ Global) ShelfFault → Entries
with_read log name (Ok bytes) = log ++ (name, bytes.items) ∷ []
with_read log name (Err why) = log

-- the files that hold these texts and nothing else; the first text of a name counts
abbrev pub holding : Entries → Files
holding texts = map.from_entries texts
