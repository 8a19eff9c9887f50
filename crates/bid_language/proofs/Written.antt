-- Parts of a text that is written piece by piece.
use Rattle.std.proofs.Common.{◌≡◌, ℕ, zero, suc, ◌<◌, List, [], ◌∷◌, ◌++◌, length, take, drop, get_or, refl, ap, sym, ◌∙◌, arith, append_assoc}
use Rattle.std.specs.List.{flat_map}
use Rattle.field_text.specs.Spelling.{HasPartly}
use Rattle.field_text.proofs.Prefixes.{partly_front, partly_back}

-- the pieces before a place, the piece there, and those behind it
pieces : {X : Type 0} (f : X → List ℕ) (xs : List X) (i : ℕ) (d : X) → i < length xs
    → flat_map f xs ≡ flat_map f (take i xs) ++ (f (get_or xs i d) ++ flat_map f (drop (suc i) xs))
pieces f [] i d h = absurd (omega arith)
pieces f (x ∷ xs) zero d h = refl
pieces f (x ∷ xs) (suc i) d h =
    ap (λ (t : List ℕ). f x ++ t) (pieces f xs i d (omega arith))
    ∙ sym (append_assoc (f x) (flat_map f (take i xs)) (f (get_or xs i d) ++ flat_map f (drop (suc i) xs)))

-- a part of a piece is a part of all
pub partly_piece : {X : Type 0} (f : X → List ℕ) (xs : List X) (i : ℕ) (x : X) (old mid new : List ℕ) → i < length xs → x ≡ get_or xs i x
    → mid ≡ old ++ flat_map f (take i xs) → HasPartly mid (f x) new → HasPartly old (flat_map f xs) new
partly_piece f xs i x old mid new h is e part =
    let whole : flat_map f xs ≡ flat_map f (take i xs) ++ (f x ++ flat_map f (drop (suc i) xs)) =
    pieces f xs i x h ∙ ap (λ (t : List ℕ). flat_map f (take i xs) ++ (t ++ flat_map f (drop (suc i) xs))) (ap f (sym is)) in
    let rest : HasPartly mid (f x ++ flat_map f (drop (suc i) xs)) new = partly_front mid (f x) (flat_map f (drop (suc i) xs)) new part in
    let all = partly_back old (flat_map f (take i xs)) (f x ++ flat_map f (drop (suc i) xs)) (f x ++ flat_map f (drop (suc i) xs)) mid new refl e rest in
    (all.0, all.1 ∙ ap (λ (t : List ℕ). old ++ take all.0 t) (sym whole))

-- a part of a text that is the same
pub partly_same : (old a b new : List ℕ) → a ≡ b → HasPartly old a new → HasPartly old b new
partly_same old a b new e h = (h.0, h.1 ∙ ap (λ (t : List ℕ). old ++ take h.0 t) e)
