-- Names and rows, as loops write them.
use Rattle.std.proofs.Common.{◌≡◌, ℕ, suc, ◌+◌, ◌<◌, List, [], ◌∷◌, ◌++◌, length, drop, get_or, sym, ap, ◌∙◌, append_assoc, drop-cons, add-one}
use Rattle.std.specs.Prelude.{All, true}
use Rattle.std.specs.List.{flat_map, AllByRecursion}
use Rattle.std.proofs.lemmas.List.{append-nil}
use Rattle.std.proofs.lemmas.List.Concat.{flat_map-cons}
use Rattle.std.proofs.lemmas.List.Elements.{All-head, All-tail}
use Rattle.roster_model.specs.declared.problem.Problem.{Problem}
use Rattle.roster_model.specs.Ascending.{is_ascending}
use Rattle.roster_text.specs.NameReading.{spaced_name}
use Rattle.roster_text.specs.RosterText.{pairing_name, names_text, row_text, rows_text, IsLine, IsRoster}

pub names_spaced : (problem : Problem) (p : ℕ) (line : List ℕ) → names_text problem (p ∷ line) ≡ pairing_name problem p ++ flat_map (spaced_name problem) line
names_spaced problem p [] = sym (append-nil (pairing_name problem p))
names_spaced problem p (q ∷ line) =
    ap (λ (t : List ℕ). pairing_name problem p ++ (32 ∷ t)) (names_spaced problem q line)
    ∙ ap (λ (t : List ℕ). pairing_name problem p ++ t) (sym (flat_map-cons (spaced_name problem) q line))

pub names_put : (problem : Problem) (p : ℕ) (line others out : List ℕ) → line ≡ p ∷ others
    → (out ++ pairing_name problem p) ++ flat_map (spaced_name problem) others ≡ out ++ names_text problem line
names_put problem p line others out e =
    append_assoc out (pairing_name problem p) (flat_map (spaced_name problem) others)
    ∙ ap (λ (t : List ℕ). out ++ t) (sym (names_spaced problem p others))
    ∙ ap (λ (t : List ℕ). out ++ names_text problem t) (sym e)

-- the text so far and the rows to come
pub rows_more : (problem : Problem) (out row : List ℕ) (roster : List (List ℕ)) (i : ℕ) (line : List ℕ) (whole : List ℕ) → i < length roster → get_or roster i line ≡ line
    → row ≡ out ++ row_text problem i line
    → out ++ rows_text problem i (drop i roster) ≡ whole → row ++ rows_text problem (i + 1) (drop (i + 1) roster) ≡ whole
rows_more problem out row roster i line whole lt at e so_far =
    let cons : drop i roster ≡ line ∷ drop (i + 1) roster =
    drop-cons roster i line lt ∙ ap (λ (x : List ℕ). x ∷ drop (suc i) roster) at ∙ ap (λ (k : ℕ). line ∷ drop k roster) (sym (add-one i)) in
    ap (λ (t : List ℕ). t ++ rows_text problem (i + 1) (drop (i + 1) roster)) e
    ∙ append_assoc out (row_text problem i line) (rows_text problem (i + 1) (drop (i + 1) roster))
    ∙ ap (λ (ls : List (List ℕ)). out ++ rows_text problem i ls) (sym cons)
    ∙ so_far

each_line : (problem : Problem) (roster : List (List ℕ)) → All (λ line. is_ascending line ≡ true) roster → All (All (λ p. p < length problem.base.pairings)) roster
    → AllByRecursion (IsLine problem) roster
each_line problem [] up known = tt
each_line problem (line ∷ lines) up known = (
  record {
    ascending = All-head (λ (l : List ℕ). is_ascending l ≡ true) line lines up;
    in_range = All-head (All (λ p. p < length problem.base.pairings)) line lines known;
  },
  each_line problem lines (All-tail (λ (l : List ℕ). is_ascending l ≡ true) line lines up) (All-tail (All (λ p. p < length problem.base.pairings)) line lines known),
)

pub is_roster : (problem : Problem) (roster : List (List ℕ)) → length roster ≡ length problem.base.members → All (λ line. is_ascending line ≡ true) roster
    → All (All (λ p. p < length problem.base.pairings)) roster → IsRoster problem roster
is_roster problem roster lines up known = record { lines = lines; each = each_line problem roster up known }
