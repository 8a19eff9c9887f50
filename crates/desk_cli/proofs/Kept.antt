-- Files that a command leaves as they were.
use Rattle.std.proofs.Common.{◌≡◌, ℕ, List, Option, Some, None, Err, refl, subst, sym, ◌∙◌}
use Rattle.std.specs.Option.{ForSome}
use Rattle.shelf.specs.Files.{Files, SameButAt, file, told_file}
use Rattle.month_page.specs.PageEnds.{PageLeaves, page_name}
use Rattle.month_page.specs.declared.page_stop.PageStop.{PageStop}
use Rattle.month_page.specs.declared.page_stop.PageStop.TheVariants as stop
use Rattle.desk_cli.specs.DeskFiles.{SameButAtTwo, StaysIfThere}

same_refl : (name : List ℕ) (files : Option Files) → SameButAt name files files
same_refl name files = record { tells = refl; others = λ other e. refl }

-- where nothing has changed, no other file has
pub same_kept : (name : List ℕ) (old new : Option Files) → new ≡ old → SameButAt name old new
same_kept name old new e = subst (λ (o : Option Files). SameButAt name old o) (sym e) (same_refl name old)

pub two_kept : (first second : List ℕ) (old new : Option Files) → new ≡ old → SameButAtTwo first second old new
two_kept first second old new e = record { between = old; first_alone = same_refl first old; second_alone = same_kept second old new e }

pub same_first : (first second : List ℕ) (old new : Option Files) → SameButAt first old new → SameButAtTwo first second old new
same_first first second old new h = record { between = new; first_alone = h; second_alone = same_refl second new }

pub same_both : (first second : List ℕ) (old between new : Option Files) → SameButAt first old between → SameButAt second between new → SameButAtTwo first second old new
same_both first second old between new h k = record { between = between; first_alone = h; second_alone = k }

-- a file that is not there
pub told_none : (name : List ℕ) (o : Option Files) → ForSome o (λ files. file files name ≡ None) → told_file o name ≡ None
told_none name None h = refl
told_none name (Some files) h = h files refl

pub stays_none : (name : List ℕ) (old new : Option Files) → told_file old name ≡ None → StaysIfThere name old new
stays_none name old new e bytes f = absurd cc

pub stays_kept : (name : List ℕ) (old new : Option Files) → new ≡ old → StaysIfThere name old new
stays_kept name old new e bytes f = e

-- a page that is not written, and what is said of it
pub page_kept : (old between new : Option Files) (why : PageStop) → PageLeaves old between (Err why) → new ≡ between → SameButAt page_name old new
page_kept old between new (stop.Unread why) h e = same_kept page_name old new (e ∙ h)
page_kept old between new (stop.BadInput why) h e = same_kept page_name old new (e ∙ h)
page_kept old between new (stop.Roster fault) h e = same_kept page_name old new (e ∙ h)
page_kept old between new (stop.Reasons fault) h e = same_kept page_name old new (e ∙ h)
page_kept old between new (stop.Unwritten why) h e = subst (λ (o : Option Files). SameButAt page_name old o) (sym e) h
page_kept old between new stop.NoMemory h e = same_kept page_name old new (e ∙ h)
