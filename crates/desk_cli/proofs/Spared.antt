-- What stays of the next month's folder when nothing more is written.
use Rattle.std.proofs.Common.{◌≡◌, Bool, Option, subst, sym}
use Rattle.shelf.specs.Files.{Files}
use Rattle.next_folder.specs.Spared.{Spares}

pub spares_kept : (force : Bool) (old between new : Option Files) → Spares force old between → new ≡ between → Spares force old new
spares_kept force old between new h e = subst (λ (o : Option Files). Spares force old o) (sym e) h
