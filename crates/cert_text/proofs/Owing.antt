-- Several values, of which one may be owed that is not plain.
use Rattle.std.proofs.Common.{◌≡◌, ℕ, zero, suc, Bool, true, ◌&&◌, not, List, [], ◌∷◌, ◌++◌, length, refl, sym, ap, subst, ◌∙◌, append_assoc}
use Rattle.std.specs.Prelude.{◌||◌, Ok}
use Rattle.std.specs.List.{flat_map, list_all}
use Rattle.std.proofs.lemmas.Bool.{and_from}
use Rattle.cert_text.specs.declared.version.Version.{Version}
use Rattle.cert_text.specs.Lines.{◌>>=◌, Rest, Reader, and_then, done}
use Rattle.cert_text.specs.Reading.{owing}
use Rattle.cert_text.proofs.Numerals.{both}
use Rattle.cert_text.proofs.InVersion.{fits_in, fits_from, owes, owes_first, owes_others, owes_more, musts, may_pay, pay_next}
use Rattle.cert_text.proofs.LineLaws.{ok_is, then_ok}
use Rattle.cert_text.proofs.ReadLaws.{Takes, at, Again}

module _ {A : Type 0} (one : Bool → Reader A) (plain : A → Bool) where
  abbrev then_others : Bool → Bool → ℕ → A → Reader (List A)
  then_others owed more n x = owing one plain (owed && plain x) more n >>= λ ys. done (x ∷ ys)

  module _ (text : A → List ℕ) (fits : A → Bool) where
    abbrev AreTaken : ℕ → Rest → List A → Rest → Type 0
    AreTaken n rest xs after = (rest.bytes ≡ flat_map text xs ++ after.bytes) × (length xs ≡ n) × (list_all fits xs ≡ true)

    pub owing_takes : ((must : Bool) → Takes (one must) text fits) → (owed more : Bool) (n : ℕ) (rest : Rest) (xs : List A) (after : Rest) → owing one plain owed more n rest ≡ Ok (xs, after) → AreTaken n rest xs after
    owing_takes takes owed more zero rest xs after e =
        let g = ok_is [] xs rest after e in
        subst (λ (ys : List A). AreTaken 0 rest ys after) g.0 (ap (λ (r : Rest). r.bytes) g.1, refl, refl)
    owing_takes takes owed more (suc n) rest xs after e =
        let a = then_ok (one (musts owed more n)) (then_others owed more n) rest xs after e in
        let b = then_ok (owing one plain (owed && plain a.0) more n) (λ ys. done (a.0 ∷ ys)) a.1 xs after a.3 in
        let g = ok_is (a.0 ∷ b.0) xs b.1 after b.3 in
        let first = takes (musts owed more n) rest a.0 a.1 a.2 in
        let others = owing_takes takes (owed && plain a.0) more n a.1 b.0 b.1 b.2 in
        subst (λ (ys : List A). AreTaken (suc n) rest ys after) g.0 (
          first.0 ∙ ap (λ (t : List ℕ). text a.0 ++ t) (others.0 ∙ ap (λ (r : Rest). flat_map text b.0 ++ r.bytes) g.1) ∙ sym (append_assoc (text a.0) (flat_map text b.0) after.bytes),
          ap suc others.1,
          rw first.1 others.2,
        )

    pub owing_again : (v : Version) → ((must : Bool) → Again (one must) text (fits_in v must plain fits)) → (owed more : Bool) (n : ℕ) (xs : List A) (bytes : List ℕ) → list_all fits xs ≡ true
        → owes v owed more plain xs ≡ true → (m : ℕ) × (owing one plain owed more (length xs) (at n (flat_map text xs ++ bytes)) ≡ Ok (xs, at m bytes))
    owing_again v again owed more n [] bytes h s = (n, refl)
    owing_again v again owed more n (x ∷ xs) bytes h s =
        let t = both (fits x) (list_all fits xs) h in
        let first = again (musts owed more (length xs)) n x (flat_map text xs ++ bytes) (fits_from v (musts owed more (length xs)) plain fits x t.0 (owes_first plain v owed more x xs s)) in
        let others = owing_again v again (owed && plain x) more first.0 xs bytes t.1 (owes_others plain v owed more x xs s) in (
          others.0,
          ap (λ (b : List ℕ). and_then (one (musts owed more (length xs)) (at n b)) (then_others owed more (length xs))) (append_assoc (text x) (flat_map text xs) bytes)
              ∙ ap (λ r. and_then r (then_others owed more (length xs))) first.1
              ∙ ap (λ r. and_then r (λ ys. done (x ∷ ys))) others.1,
        )

  -- each is plain
  pub owing_all : ((must : Bool) (rest : Rest) (x : A) (after : Rest) → one must rest ≡ Ok (x, after) → plain x ≡ true) → (owed more : Bool) (n : ℕ) (rest : Rest) (xs : List A) (after : Rest)
      → owing one plain owed more n rest ≡ Ok (xs, after) → list_all plain xs ≡ true
  owing_all so owed more zero rest xs after e = let g = ok_is [] xs rest after e in subst (λ (ys : List A). list_all plain ys ≡ true) g.0 refl
  owing_all so owed more (suc n) rest xs after e =
      let a = then_ok (one (musts owed more n)) (then_others owed more n) rest xs after e in
      let b = then_ok (owing one plain (owed && plain a.0) more n) (λ ys. done (a.0 ∷ ys)) a.1 xs after a.3 in
      let g = ok_is (a.0 ∷ b.0) xs b.1 after b.3 in
      let first = so (musts owed more n) rest a.0 a.1 a.2 in
      let others = owing_all so (owed && plain a.0) more n a.1 b.0 b.1 b.2 in
      subst (λ (ys : List A). list_all plain ys ≡ true) g.0 (and_from _ _ first others)

  -- some one is not plain, where that is owed and no more follow
  pub owing_some : ((must : Bool) (rest : Rest) (x : A) (after : Rest) → one must rest ≡ Ok (x, after) → (not must || not (plain x)) ≡ true) → (owed more : Bool) (n : ℕ) (rest : Rest) (xs : List A) (after : Rest)
      → may_pay owed more n ≡ true → owing one plain owed more n rest ≡ Ok (xs, after) → (not owed || (more || not (list_all plain xs))) ≡ true
  owing_some so owed more zero rest xs after pays e =
      let g = ok_is [] xs rest after e in
      subst (λ (ys : List A). (not owed || (more || not (list_all plain ys))) ≡ true) g.0 pays
  owing_some so owed more (suc n) rest xs after pays e =
      let a = then_ok (one (musts owed more n)) (then_others owed more n) rest xs after e in
      let b = then_ok (owing one plain (owed && plain a.0) more n) (λ ys. done (a.0 ∷ ys)) a.1 xs after a.3 in
      let g = ok_is (a.0 ∷ b.0) xs b.1 after b.3 in
      let first = so (musts owed more n) rest a.0 a.1 a.2 in
      let others = owing_some so (owed && plain a.0) more n a.1 b.0 b.1 (pay_next owed more (plain a.0) n first) b.2 in
      subst (λ (ys : List A). (not owed || (more || not (list_all plain ys))) ≡ true) g.0 (owes_more owed more (plain a.0) (list_all plain b.0) others)
