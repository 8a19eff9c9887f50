-- Reading several things one after the other, as a loop does.
use Rattle.std.proofs.Common.{◌≡◌, ℕ, List, [], ◌∷◌, ◌++◌, Option, Some, None, refl, ap, append_assoc}
use Rattle.std.specs.Prelude.{Result, Ok, Err, OnOk, false}
use Rattle.std.specs.Result.{is_err}
use Rattle.roster_text.specs.NameReading.{◌>>=◌}

-- what was read before, and what is still read
abbrev pub with_front : {X : Type 0} → List X → Option (List X × List ℕ) → Option (List X × List ℕ)
with_front front read = read >>= λ x. Some (front ++ x.0, x.1)

pub regroup : {X : Type 0} (front : List X) (n : X) (read : Option (List X × List ℕ)) → with_front front (read >>= λ x. Some (n ∷ x.0, x.1)) ≡ with_front (front ++ n ∷ []) read
regroup {X} front n (Some x) = ap (λ (ns : List X). Some (ns, x.1)) (simp append_assoc)
regroup front n None = refl

-- what a push that did not fail says
pub pushed : {T E P : Type 0} (r : Result T E) → OnOk r P → is_err r ≡ false → P
pushed (Ok x) h e = h
pushed (Err x) h e = absurd cc
