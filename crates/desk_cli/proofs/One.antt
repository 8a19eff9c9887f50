-- Commands that write one file of a month at most.
use Rattle.std.proofs.Common.{◌≡◌, List, ℕ, Option, None, refl, subst, sym, ◌∙◌}
use Rattle.shelf.specs.Files.{Files, SameButAt, told_file}
use Rattle.month_files.specs.declared.file.File.{File}
use Rattle.month_files.specs.declared.file.File.TheVariants as file
use Rattle.month_files.specs.FileNames.{name_of}
use Rattle.desk_cli.specs.DeskFiles.{SameButOne, StayThere}
use Rattle.desk_cli.proofs.Kept.{same_kept}

pub one_kept : (old new : Option Files) → new ≡ old → SameButOne old new
one_kept old new e = record { file = file.Rules; others = same_kept (name_of file.Rules) old new e }

pub one_file : (f : File) (old new : Option Files) → SameButAt (name_of f) old new → SameButOne old new
one_file f old new h = record { file = f; others = h }

pub there_kept : (old new : Option Files) → new ≡ old → StayThere old new
there_kept old new e name bytes f = subst (λ (o : Option Files). told_file o name ≡ told_file old name) (sym e) refl ∙ f

-- a file that was not there is written
pub there_none : (f : List ℕ) (old new : Option Files) → SameButAt f old new → told_file old f ≡ None → StayThere old new
there_none f old new h e name bytes g = h.others name (λ k. absurd cc) ∙ g
