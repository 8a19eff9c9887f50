-- A fault of a file behind, as what reading gives.
use Rattle.std.proofs.Common.{◌≡◌, Option, Result, Err, subst, sym}
use Rattle.std.specs.Prelude.{MatchOption}
use Rattle.field_text.specs.Rows.{told, told_by}
use Rattle.field_text.specs.declared.file_fault.FileCode.{FileCode}
use Rattle.field_text.specs.declared.file_fault.FileCode.TheVariants.{Header}
use Rattle.field_text.specs.declared.file_fault.FileFault.{FileFault}
use Rattle.field_text.specs.declared.file_fault.FileName.{FileName}
use Rattle.sheet_import.specs.Takes.{LacksHeader, GetsTo}

pub gets_to : {A : Type 0} (file : FileName) (fault : FileFault) (read : Result A FileFault) → MatchOption (told fault) (Unit {0}) (λ f. read ≡ Err f) → LacksHeader file fault → GetsTo file read
gets_to {A} file fault read given lacks = subst (λ (r : Result A FileFault). GetsTo file r) (sym gives) lacks
  where
    gives : read ≡ Err fault
    gives = subst (λ (c : FileCode). MatchOption (told_by c fault) (Unit {0}) (λ f. read ≡ Err f)) lacks.code_named given
