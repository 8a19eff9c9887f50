-- The text of content lines: unfolded, cut into its lines again, and how long its lines are.
use Rattle.std.proofs.Common.{◌≡◌, ℕ, zero, suc, ◌+◌, ◌≤◌, Bool, true, false, not, List, [], ◌∷◌, ◌++◌, map, length, refl, sym, ap, ◌∙◌, arith, append_assoc, append-nil}
use Rattle.std.specs.Prelude.{◌==◌, ◌&&◌, ◌||◌, nat_le}
use Rattle.std.specs.List.{list_all, flat_map}
use Rattle.std.proofs.lemmas.Bool.{and_parts, and_from, le-leb}
use Rattle.std.proofs.lemmas.List.{length_push}
use Rattle.crew_calendar.specs.Folding.{unfolded, rows_with, rows_of, content_of, Row, folded_from, folded, ended, text_of, is_inner, is_blank, is_short}

-- a line with its end
abbrev pub whole : List ℕ → Row
whole line = record { bytes = line; ended = true }

-- a line that can be folded: it has no carriage return and no line feed, and begins with no blank
abbrev pub is_line : List ℕ → Bool
is_line [] = false
is_line (b ∷ bs) = not (is_blank b) && list_all is_inner (b ∷ bs)

-- a text whose first byte is no blank
abbrev pub is_apart : List ℕ → Bool
is_apart [] = true
is_apart (b ∷ bs) = not (is_blank b)

from_not : (x : Bool) → not x ≡ true → x ≡ false
from_not true h = absurd cc
from_not false h = refl

neither : (x y : Bool) → not (x || y) ≡ true → x ≡ false
neither true y h = absurd cc
neither false y h = refl

no_return : (b : ℕ) → is_inner b ≡ true → (b == 13) ≡ false
no_return b h = neither (b == 13) (b == 10) h

inner_first : (b : ℕ) (bs : List ℕ) → list_all is_inner (b ∷ bs) ≡ true → (b == 13) ≡ false
inner_first b bs h = no_return b (and_parts (is_inner b) (list_all is_inner bs) h).0

inner_rest : (b : ℕ) (bs : List ℕ) → list_all is_inner (b ∷ bs) ≡ true → list_all is_inner bs ≡ true
inner_rest b bs h = (and_parts (is_inner b) (list_all is_inner bs) h).1

pub line_inner : (line : List ℕ) → is_line line ≡ true → list_all is_inner line ≡ true
line_inner [] h = refl
line_inner (b ∷ bs) h = (and_parts (not (is_blank b)) (list_all is_inner (b ∷ bs)) h).1

-- unfolding a byte, a line and a line's end
unfold_byte : (a : ℕ) (rest : List ℕ) → (a == 13) ≡ false → unfolded (a ∷ rest) ≡ a ∷ unfolded rest
unfolding unfolded
unfold_byte a [] h = refl
unfold_byte a (b ∷ []) h = refl
unfold_byte a (b ∷ (c ∷ cs)) h = rw h refl

unfold_line : (room : ℕ) (line rest : List ℕ) → list_all is_inner line ≡ true
    → unfolded (folded_from room line ++ rest) ≡ line ++ unfolded rest
unfolding folded_from unfolded
unfold_line zero [] rest h = refl
unfold_line (suc room) [] rest h = refl
unfold_line zero (b ∷ bs) rest h =
    unfold_byte b (folded_from 73 bs ++ rest) (inner_first b bs h)
    ∙ ap (λ (l : List ℕ). b ∷ l) (unfold_line 73 bs rest (inner_rest b bs h))
unfold_line (suc room) (b ∷ bs) rest h =
    unfold_byte b (folded_from room bs ++ rest) (inner_first b bs h)
    ∙ ap (λ (l : List ℕ). b ∷ l) (unfold_line room bs rest (inner_rest b bs h))

unfold_feed : (t : List ℕ) → is_apart t ≡ true → unfolded (13 ∷ (10 ∷ t)) ≡ 13 ∷ (10 ∷ unfolded t)
unfolding unfolded
unfold_feed [] h = refl
unfold_feed (c ∷ cs) h =
    rw (from_not (is_blank c) h) (ap (λ (l : List ℕ). 13 ∷ l) (unfold_byte 10 (c ∷ cs) refl))

apart : (lines : List (List ℕ)) → list_all is_line lines ≡ true → is_apart (text_of lines) ≡ true
unfolding folded_from
apart [] h = refl
apart ([] ∷ xs) h = absurd cc
apart ((b ∷ bs) ∷ xs) h =
    let p = and_parts (is_line (b ∷ bs)) (list_all is_line xs) h in
    (and_parts (not (is_blank b)) (list_all is_inner (b ∷ bs)) p.0).0

pub text_unfolded : (lines : List (List ℕ)) → list_all is_line lines ≡ true
    → unfolded (text_of lines) ≡ flat_map ended lines
unfolding unfolded
text_unfolded [] h = refl
text_unfolded (x ∷ xs) h =
    let p = and_parts (is_line x) (list_all is_line xs) h in
    ap unfolded (append_assoc (folded x) (13 ∷ (10 ∷ [])) (text_of xs))
    ∙ unfold_line 75 x (13 ∷ (10 ∷ text_of xs)) (line_inner x p.0)
    ∙ ap (λ (l : List ℕ). x ++ l)
    (unfold_feed (text_of xs) (apart xs p.1) ∙ ap (λ (l : List ℕ). 13 ∷ (10 ∷ l)) (text_unfolded xs p.1))
    ∙ sym (append_assoc x (13 ∷ (10 ∷ [])) (flat_map ended xs))

-- cutting a byte and a line
rows_byte : (front : List ℕ) (b : ℕ) (x rest : List ℕ) → (b == 13) ≡ false
    → rows_with front (b ∷ (x ++ 13 ∷ (10 ∷ rest))) ≡ rows_with (front ++ b ∷ []) (x ++ 13 ∷ (10 ∷ rest))
unfolding rows_with
rows_byte front b [] rest h = rw h refl
rows_byte front b (c ∷ cs) rest h = rw h refl

rows_line : (front line rest : List ℕ) → list_all is_inner line ≡ true
    → rows_with front (line ++ 13 ∷ (10 ∷ rest)) ≡ whole (front ++ line) ∷ rows_with [] rest
unfolding rows_with
rows_line front [] rest h =
    ap (λ (l : List ℕ). whole l ∷ rows_with [] rest) (sym (append-nil front))
rows_line front (b ∷ bs) rest h =
    rows_byte front b bs rest (inner_first b bs h)
    ∙ rows_line (front ++ b ∷ []) bs rest (inner_rest b bs h)
    ∙ ap (λ (l : List ℕ). whole l ∷ rows_with [] rest) (append_assoc front (b ∷ []) bs)

-- no line ends within these lines
abbrev pub are_inner : List (List ℕ) → Bool
are_inner lines = list_all (λ line. list_all is_inner line) lines

rows_lines : (lines : List (List ℕ)) → are_inner lines ≡ true
    → rows_with [] (flat_map ended lines) ≡ map whole lines
unfolding rows_with
rows_lines [] h = refl
rows_lines (x ∷ xs) h =
    let p = and_parts (list_all is_inner x) (are_inner xs) h in
    ap (λ (l : List ℕ). rows_with [] l) (append_assoc x (13 ∷ (10 ∷ [])) (flat_map ended xs))
    ∙ rows_line [] x (flat_map ended xs) p.0
    ∙ ap (λ (l : List Row). whole x ∷ l) (rows_lines xs p.1)

-- the content lines of ended lines are the lines
pub content_whole : (lines : List (List ℕ)) → are_inner lines ≡ true → 1 ≤ length lines
    → content_of (flat_map ended lines) ≡ map whole lines
content_whole [] h some = absurd (omega arith)
content_whole ([] ∷ xs) h some = rows_lines ([] ∷ xs) h
content_whole ((b ∷ bs) ∷ xs) h some = rows_lines ((b ∷ bs) ∷ xs) h

-- no line of a text of lines has more than 75 bytes
short_line : (front line : List ℕ) (room : ℕ) (rest : List ℕ) → length front + room ≤ 75
    → list_all is_inner line ≡ true → list_all is_short (rows_with [] rest) ≡ true
    → list_all is_short (rows_with front (folded_from room line ++ 13 ∷ (10 ∷ rest))) ≡ true
unfolding folded_from rows_with
short_line front [] zero rest w h k =
    and_from (nat_le (length front) 75) _ (le-leb (length front) 75 (omega arith)) k
short_line front [] (suc room) rest w h k =
    and_from (nat_le (length front) 75) _ (le-leb (length front) 75 (omega arith)) k
short_line front (b ∷ bs) zero rest w h k =
    and_from (nat_le (length front) 75) _ (le-leb (length front) 75 (omega arith))
    (ap (λ (l : List Row). list_all is_short l) (rows_byte (32 ∷ []) b (folded_from 73 bs) rest (inner_first b bs h))
    ∙ short_line (32 ∷ (b ∷ [])) bs 73 rest (omega arith) (inner_rest b bs h) k)
short_line front (b ∷ bs) (suc room) rest w h k =
    ap (λ (l : List Row). list_all is_short l) (rows_byte front b (folded_from room bs) rest (inner_first b bs h))
    ∙ short_line (front ++ b ∷ []) bs room rest (omega (arith, length_push front b)) (inner_rest b bs h) k

pub short_text : (lines : List (List ℕ)) → list_all is_line lines ≡ true
    → list_all is_short (rows_of (text_of lines)) ≡ true
unfolding rows_with
short_text [] h = refl
short_text (x ∷ xs) h =
    let p = and_parts (is_line x) (list_all is_line xs) h in
    ap (λ (l : List ℕ). list_all is_short (rows_with [] l)) (append_assoc (folded x) (13 ∷ (10 ∷ [])) (text_of xs))
    ∙ short_line [] x 75 (text_of xs) (omega arith) (line_inner x p.0) (short_text xs p.1)
