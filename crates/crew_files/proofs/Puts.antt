-- Appending a piece for each element of a list.
use Rattle.std.proofs.Common.{◌≡◌, ℕ, ◌+◌, ◌<◌, ◌≤◌, List, [], ◌∷◌, ◌++◌, length, get_or, drop, flat_map, sym, ap, ◌∙◌, append_assoc, refl}
use Rattle.std.proofs.lemmas.Grind.{flat_map-append}
use Rattle.std.proofs.lemmas.List.{append-nil, at_drop_more, at_drop_all}
use Rattle.field_text.specs.Rows.{line, line_end}

module _ {X : Type 0} (f : X → List ℕ) (xs : List X) (i : ℕ) (out all : List ℕ) (h : out ++ flat_map f (drop i xs) ≡ all) where
  pub put-more : (x : X) (new : List ℕ) → i < length xs → get_or xs i x ≡ x → new ≡ out ++ f x → new ++ flat_map f (drop (i + 1) xs) ≡ all
  put-more x new l s e =
      let step : flat_map f (drop i xs) ≡ f (get_or xs i x) ++ flat_map f (drop (i + 1) xs) = at_drop_more (flat_map f) xs i x l in
      ap (λ (t : List ℕ). t ++ flat_map f (drop (i + 1) xs)) e ∙ append_assoc out (f x) (flat_map f (drop (i + 1) xs))
      ∙ ap (λ (y : X). out ++ (f y ++ flat_map f (drop (i + 1) xs))) (sym s)
      ∙ ap (λ (t : List ℕ). out ++ t) (sym step) ∙ h

  pub put-end : length xs ≤ i → out ≡ all
  put-end l =
      let none : flat_map f (drop i xs) ≡ [] = at_drop_all (flat_map f) xs i l in
      sym (append-nil out) ∙ ap (λ (t : List ℕ). out ++ t) (sym none) ∙ h

-- the fields behind the first one, each with its comma, and the line's end
end-same : (fs : List (List ℕ)) → flat_map (λ (g : List ℕ). 44 ∷ g) fs ++ 10 ∷ [] ≡ line_end fs
end-same [] = refl
end-same (f ∷ fs) = ap (λ (t : List ℕ). 44 ∷ t) (append_assoc f (flat_map (λ (g : List ℕ). 44 ∷ g) fs) (10 ∷ []) ∙ ap (λ (t : List ℕ). f ++ t) (end-same fs))

-- the two parts of a line
pub line-split : (out n : List ℕ) (xs ys : List (List ℕ)) → (out ++ (n ++ flat_map (λ (g : List ℕ). 44 ∷ g) xs)) ++ (flat_map (λ (g : List ℕ). 44 ∷ g) ys ++ 10 ∷ []) ≡ out ++ line (n ∷ (xs ++ ys))
line-split out n xs ys =
    append_assoc out (n ++ flat_map (λ (g : List ℕ). 44 ∷ g) xs) (flat_map (λ (g : List ℕ). 44 ∷ g) ys ++ 10 ∷ [])
    ∙ ap (λ (t : List ℕ). out ++ t) (append_assoc n (flat_map (λ (g : List ℕ). 44 ∷ g) xs) (flat_map (λ (g : List ℕ). 44 ∷ g) ys ++ 10 ∷ [])
    ∙ ap (λ (t : List ℕ). n ++ t) (sym (append_assoc (flat_map (λ (g : List ℕ). 44 ∷ g) xs) (flat_map (λ (g : List ℕ). 44 ∷ g) ys) (10 ∷ []))
    ∙ ap (λ (t : List ℕ). t ++ 10 ∷ []) (sym (flat_map-append (λ (g : List ℕ). 44 ∷ g) xs ys)))
    ∙ ap (λ (t : List ℕ). n ++ t) (end-same (xs ++ ys)))
