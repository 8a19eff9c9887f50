-- Which files of the next month's folder `history` may change.
use Rattle.std.specs.Prelude.{◌≡◌, ◌⊎◌, Bool, true, ℕ, List, Option, None, is_some}
use Rattle.std.specs.List.{AllByRecursion}
use Rattle.shelf.specs.Files.{Files, told_file}
use Rattle.month_files.specs.FileNames.{name_of}
use Rattle.month_files.specs.declared.writing.Draft.{Draft}
use Rattle.month_files.specs.declared.file.File.TheVariants.{Rules, Crew, History, Fixed}

-- its history where none is there, or by force; its rules, crew and fixed events where none are there
abbrev pub MayWrite : Bool → Option Files → List ℕ → Type 0
MayWrite force old name =
    ((name ≡ name_of History) × ((told_file old name ≡ None) ⊎ (force ≡ true)))
    ⊎ (((name ≡ name_of Rules) ⊎ ((name ≡ name_of Crew) ⊎ (name ≡ name_of Fixed))) × (told_file old name ≡ None))

-- each other file has stayed
pub record Spares (force : Bool) (old new : Option Files) : Type 0 where
  pub tells : is_some new ≡ is_some old
  pub others : (name : List ℕ) → ¬ (MayWrite force old name) → told_file new name ≡ told_file old name

-- all of these files
abbrev pub MayAll : Bool → Option Files → List Draft → Type 0
MayAll force old drafts = AllByRecursion (λ d. MayWrite force old (name_of d.file)) drafts
