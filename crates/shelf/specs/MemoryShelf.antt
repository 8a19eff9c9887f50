-- What a shelf in memory shows.
use Rattle.std.specs.Prelude.{ℕ, ◌+◌, ◌-◌, ◌^◌, min, List, map, Vec, String, string_bytes}
use Rattle.std.specs.declared.alloc.Global.{Global}
use Rattle.std.specs.BTreeMap.{BTreeMap}
use Rattle.std.specs.FinMap as map_of
use Rattle.shelf.specs.Files.{Files}
use Rattle.shelf.specs.Logs.{Entries}
use Rattle.shelf.specs.declared.memory_shelf.MemoryShelf.{MemoryShelf}
use Rattle.shelf.specs.declared.tally.Tally.{Tally}

-- a name and its bytes
abbrev pub entry_of : (String Global × Vec ℕ Global) → (List ℕ × List ℕ)
entry_of e = (string_bytes e.0, e.1.items)

-- the finite map that a map in memory stands for
abbrev pub files_in : BTreeMap (String Global) (Vec ℕ Global) → Files
files_in m = map_of.from_entries (map entry_of m.entries)

abbrev pub files_of : MemoryShelf → Files
files_of s = files_in s.files

abbrev pub tally_of : MemoryShelf → Tally
tally_of s = s.tally

-- what reads have handed in
abbrev pub log_of : MemoryShelf → Entries
log_of s = s.log.entries

-- the numbers of the reads and writes that are to fail
abbrev pub failing_of : MemoryShelf → List ℕ
failing_of s = s.failing

-- how many reads and writes there were, up to the greatest u64
abbrev pub calls_of : MemoryShelf → ℕ
calls_of s = s.calls

-- the number of the next read or write
abbrev pub next_call : MemoryShelf → ℕ
next_call s = min (calls_of s + 1) (2 ^ 64 - 1)
