-- Lines and comments by the places of line feeds and of `#`.
use Rattle.std.proofs.Common.{◌≡◌, ◌≢◌, ℕ, suc, zero, ◌<◌, ◌≤◌, List, [], ◌∷◌, ◌++◌, take, drop, length, get_or, true, false, refl, ap, sym, ◌∙◌, arith, append_assoc}
use Rattle.std.proofs.lemmas.List.{append-nil, nil_from_length}
use Rattle.std.specs.Prelude.{◌==◌}
use Rattle.std.proofs.lemmas.Bool.Decides.{nat_tests}
use Rattle.bid_language.specs.Lines.{lines_with, last_line, before_comment, without_return}

ne : (a b : ℕ) → a ≢ b → (a == b) ≡ false
ne a b h = grind (arith, nat_tests)

same : (a b : ℕ) → a ≡ b → (a == b) ≡ true
same a b h = grind (arith, nat_tests)

pub comment-take : (n : ℕ) (line : List ℕ) → n ≤ length line → ((k : ℕ) → k < n → get_or line k 0 ≢ 35) → (n < length line → get_or line n 0 ≡ 35) → take n line ≡ before_comment line
unfolding before_comment
comment-take zero [] w b f = refl
comment-take (suc n) [] w b f = absurd (omega arith)
comment-take zero (x ∷ xs) w b f = rw (same x 35 (f (omega arith))) refl
comment-take (suc n) (x ∷ xs) w b f =
    rw (ne x 35 (b 0 (omega arith))) (ap (λ l. x ∷ l) (comment-take n xs (omega arith) (λ k h. b (suc k) (omega arith)) (λ h. f (omega arith))))

-- a text without a line feed is one line, or none
pub lines-last : (front text : List ℕ) → ((k : ℕ) → k < length text → get_or text k 0 ≢ 10) → lines_with front text ≡ last_line (front ++ text)
unfolding lines_with
lines-last front [] h = ap last_line (sym (append-nil front))
lines-last front (x ∷ xs) h =
    rw (ne x 10 (h 0 (omega arith))) (lines-last (front ++ x ∷ []) xs (λ k p. h (suc k) (omega arith)) ∙ ap last_line (append_assoc front (x ∷ []) xs))

-- a line up to the first line feed
pub lines-first : (n : ℕ) (front text : List ℕ) → n < length text → ((k : ℕ) → k < n → get_or text k 0 ≢ 10) → get_or text n 0 ≡ 10
    → lines_with front text ≡ without_return (front ++ take n text) ∷ lines_with [] (drop (suc n) text)
unfolding lines_with
lines-first n front [] w b f = absurd (omega arith)
lines-first zero front (x ∷ xs) w b f = rw (same x 10 f, append-nil front) refl
lines-first (suc n) front (x ∷ xs) w b f =
    rw (ne x 10 (b 0 (omega arith))) (lines-first n (front ++ x ∷ []) xs (omega arith) (λ k h. b (suc k) (omega arith)) f
    ∙ ap (λ l. without_return l ∷ lines_with [] (drop (suc n) xs)) (append_assoc front (x ∷ []) (take n xs)))

-- the carriage return at the end
pub return-more : (front : List ℕ) → without_return (front ++ 13 ∷ []) ≡ front
unfolding without_return
return-more [] = refl
return-more (b ∷ []) = refl
return-more (b ∷ (c ∷ cs)) = ap (λ l. b ∷ l) (return-more (c ∷ cs))

pub return-none : (front : List ℕ) (b : ℕ) → b ≢ 13 → without_return (front ++ b ∷ []) ≡ front ++ b ∷ []
unfolding without_return
return-none [] b h = rw (ne b 13 h) refl
return-none (a ∷ []) b h = rw (ne b 13 h) refl
return-none (a ∷ (c ∷ cs)) b h = ap (λ l. a ∷ l) (return-none (c ∷ cs) b h)

pub return-nothing : without_return [] ≡ []
unfolding without_return
return-nothing = refl

pub return-last : (line front : List ℕ) (b : ℕ) → line ≡ front ++ b ∷ [] → b ≡ 13 → front ≡ without_return line
return-last line front b e h = rw (e, h) (sym (return-more front))

pub return-other : (line front : List ℕ) (b : ℕ) → line ≡ front ++ b ∷ [] → b ≢ 13 → line ≡ without_return line
return-other line front b e h = rw e (sym (return-none front b h))

pub return-empty : (line : List ℕ) → length line ≡ 0 → line ≡ without_return line
return-empty line h = rw (nil_from_length line h) (sym return-nothing)

pub lines-whole : (text : List ℕ) (n : ℕ) → 0 < length text → n ≡ length text → ((k : ℕ) → k < n → get_or text k 0 ≢ 10) → lines_with [] text ≡ text ∷ lines_with [] []
unfolding lines_with
lines-whole [] n w e h = absurd (omega arith)
lines-whole (b ∷ bs) n w e h = lines-last [] (b ∷ bs) (λ k p. h k (omega arith))
