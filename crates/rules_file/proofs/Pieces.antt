-- Pieces that are written one after another.
use Rattle.std.proofs.Common.{◌≡◌, ℕ, ◌+◌, ◌<◌, List, ◌++◌, take, drop, length, get_or, refl, ap, sym, ◌∙◌, Bor}
use Rattle.std.proofs.lemmas.List.{drop_more}
use Rattle.std.specs.List.{flat_map}
use Rattle.std.proofs.lemmas.List.{take-append-drop}
use Rattle.std.proofs.lemmas.Grind.{flat_map-append}
use Rattle.field_text.specs.Spelling.{HasPartly}
use Rattle.field_text.proofs.Prefixes.{partly_front, partly_back}

abbrev bytes_of : List (Bor (List ℕ)) → List ℕ
bytes_of ps = flat_map (λ p. p.now) ps

-- the pieces before a place, the piece there, and those after it
pieces-at : (ps : List (Bor (List ℕ))) (i : ℕ) (d : Bor (List ℕ)) → i < length ps → bytes_of ps ≡ bytes_of (take i ps) ++ ((get_or ps i d).now ++ bytes_of (drop (i + 1) ps))
pieces-at ps i d h =
    ap bytes_of (sym (take-append-drop i ps)) ∙ flat_map-append (λ p. p.now) (take i ps) (drop i ps)
    ∙ ap (λ (qs : List (Bor (List ℕ))). bytes_of (take i ps) ++ bytes_of qs) (drop_more ps i d h)

-- a part of the piece is a part of all
pub pieces-partly : (old mid new : List ℕ) (ps : List (Bor (List ℕ))) (i : ℕ) (d : Bor (List ℕ)) → i < length ps → mid ≡ old ++ bytes_of (take i ps) → HasPartly mid (get_or ps i d).now new → HasPartly old (bytes_of ps) new
pieces-partly old mid new ps i d h m part =
    let p = get_or ps i d in
    let here : HasPartly mid (p.now ++ bytes_of (drop (i + 1) ps)) new = partly_front mid p.now (bytes_of (drop (i + 1) ps)) new part in
    let all = partly_back old (bytes_of (take i ps)) (p.now ++ bytes_of (drop (i + 1) ps)) (p.now ++ bytes_of (drop (i + 1) ps)) mid new refl m here in
    rw (pieces-at ps i d h) all
