-- What a part of the reader takes off the records of a file, and what it adds to the tables.
use Rattle.std.specs.Prelude.{◌≡◌, ℕ, List, [], ◌∷◌, true, false, Result}
use Rattle.field_text.specs.Gives.{Gives}
use Rattle.field_text.specs.Rows.{same_record, told}
use Rattle.field_text.specs.declared.file_fault.FileCode.TheVariants.{Header}
use Rattle.field_text.specs.declared.file_fault.FileFault.{FileFault}
use Rattle.field_text.specs.declared.file_fault.FileName.{FileName}
use Rattle.pairing_files.specs.declared.tables.Tables.{Tables}
use Rattle.pairing_files.specs.Drafts.{Draft, draft_of}

-- the first record is the header, and the others follow
abbrev pub BeginsWith : List (List ℕ) → List (List (List ℕ)) → List (List (List ℕ)) → Type 0
BeginsWith header [] rest = ⊥
BeginsWith header (h ∷ rows) rest = (same_record h header ≡ true) × (rows ≡ rest)

-- there is no record, or the first one is not the header
abbrev pub LacksHeader : List (List ℕ) → List (List (List ℕ)) → Type 0
LacksHeader header [] = Unit {0}
LacksHeader header (h ∷ rows) = same_record h header ≡ false

-- the tables have what reading adds to them, unless memory ran out
abbrev pub Adds : {X : Type 0} → Tables → Tables → Result X FileFault
    → (Draft → Result Draft FileFault) → Type 0
Adds old new result read = Gives told (λ _. draft_of new) result (read (draft_of old))

-- the file lacks its header, and its first row is at fault
pub record IsHeaderFault (name : FileName) (header : List (List ℕ)) (rows : List (List (List ℕ)))
    (e : FileFault) : Type 0 where
  pub lacks : LacksHeader header rows
  pub fault : e ≡ record { file = name; row = 1; code = Header }
