-- What an offer leaves as it is.
use Rattle.std.proofs.Common.{◌≡◌, ℕ, List, length, ◌∙◌, ap}
use Rattle.std.specs.Prelude.{Result, Ok, Err, OnOk, OnErr}
use Rattle.std.proofs.lemmas.List.{length-set}
use Rattle.column_pool.specs.Kept.{Kept, offered_to}

pub same_members : {T E : Type 0} (r : Result T E) (old new : Kept) (member : ℕ) (line : List ℕ) → OnOk r (new ≡ offered_to old member line) → OnErr r (new ≡ old)
    → length new.lines ≡ length old.lines
same_members (Ok x) old new member line ok err = ap (λ (k : Kept). length k.lines) ok ∙ length-set old.lines member _
same_members (Err e) old new member line ok err = ap (λ (k : Kept). length k.lines) err

pub same_pairings : {T E : Type 0} (r : Result T E) (old new : Kept) (member : ℕ) (line : List ℕ) → OnOk r (new ≡ offered_to old member line) → OnErr r (new ≡ old)
    → new.pairings ≡ old.pairings
same_pairings (Ok x) old new member line ok err = ap (λ (k : Kept). k.pairings) ok
same_pairings (Err e) old new member line ok err = ap (λ (k : Kept). k.pairings) err
