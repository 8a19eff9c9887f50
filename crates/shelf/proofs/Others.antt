-- What a write leaves of the other files.
use Rattle.std.proofs.Common.{◌≡◌, ℕ, List, Some, Result, Ok, Err, OnOk, OnErr, cond, is_eq, nat_cmp, Ordering, Less, Equal, Greater, refl, ap, ◌∙◌}
use Rattle.std.proofs.lemmas.Cmp.{nat_list_cmp_total}
use Rattle.std.specs.Cmp.Lexicographic.{slice_cmp}
use Rattle.std.specs.FinMap.{insert, get-insert, slice_cmp-IsAntisymmetric, nat_cmp-IsAntisymmetric}
use Rattle.shelf.specs.Files.{Files, file, SameButAt}

-- where two keys do not tie, the second value is taken
cond_apart : {A : Type 0} (r : Ordering) (a b : A) → (r ≡ Equal → ⊥) → cond (is_eq r) a b ≡ b
cond_apart Less a b apart = refl
cond_apart Equal a b apart = absurd (apart refl)
cond_apart Greater a b apart = refl

-- an insert changes the file of its name alone, and no change changes none
pub same_but_at : {T E : Type 0} (r : Result T E) (old before new : Files) (name bytes : List ℕ) → before ≡ old
    → OnOk r (new ≡ insert before name bytes) → OnErr r (new ≡ before) → SameButAt name (Some old) (Some new)
same_but_at (Ok x) old before new name bytes same ok err = record {
  tells = refl;
  others = λ other differs. ap (λ (files : Files). file files other) ok
      ∙ get-insert nat_list_cmp_total before name bytes other
      ∙ cond_apart (slice_cmp nat_cmp other name) _ _ (λ tie. differs (slice_cmp-IsAntisymmetric nat_cmp-IsAntisymmetric other name tie))
      ∙ ap (λ (files : Files). file files other) same;
}
same_but_at (Err e) old before new name bytes same ok err = record {
  tells = refl;
  others = λ other differs. ap (λ (files : Files). file files other) (err ∙ same);
}
