-- Lines of one pairing of the month, and of none, have pairings of the month alone.
use Rattle.std.proofs.Common.{◌≡◌, ℕ, ◌<◌, List, [], ◌∷◌, ◌++◌, Option, None, Some, sym, subst, ◌∙◌, arith, slice_index_or}
use Rattle.std.specs.Prelude.{All, IfSome}

all_none : (n : ℕ) → All (λ (q : ℕ). q < n) []
all_none n k d lt =
    let low : k < 0 = lt in
    absurd (omega (arith, low))

all_alone : (n p : ℕ) → p < n → All (λ (q : ℕ). q < n) (p ∷ [])
all_alone n p h k d lt =
    let low : k < 1 = lt in
    let first : k ≡ 0 = omega (arith, low) in
    subst (λ (i : ℕ). slice_index_or (p ∷ []) i d < n) (sym first) h

pub none_known : (n : ℕ) (list : List ℕ) (made : Option (List ℕ)) → list ≡ [] → IfSome made (λ line. line ≡ list)
    → IfSome made (λ line. All (λ (q : ℕ). q < n) line)
none_known n list None e h = h
none_known n list (Some line) e h = subst (λ (xs : List ℕ). All (λ (q : ℕ). q < n) xs) (sym (h ∙ e)) (all_none n)

pub alone_known : (n p : ℕ) (list : List ℕ) (made : Option (List ℕ)) → p < n → list ≡ p ∷ [] → IfSome made (λ line. line ≡ list)
    → IfSome made (λ line. All (λ (q : ℕ). q < n) line)
alone_known n p list None lt e h = h
alone_known n p list (Some line) lt e h = subst (λ (xs : List ℕ). All (λ (q : ℕ). q < n) xs) (sym (h ∙ e)) (all_alone n p lt)
