-- What a shelf over a folder shows.
use Rattle.shelf.specs.declared.folder_shelf.FolderShelf.{FolderShelf}
use Rattle.shelf.specs.Logs.{Entries}
use Rattle.shelf.specs.declared.tally.Tally.{Tally}

abbrev pub tally_of : {R : Type 0} → FolderShelf R → Tally
tally_of s = s.tally

-- what reads have handed in
abbrev pub log_of : {R : Type 0} → FolderShelf R → Entries
log_of s = s.log.entries
