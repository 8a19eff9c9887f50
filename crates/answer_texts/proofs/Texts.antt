-- Numbers behind spaces, one more at a time.
use Rattle.std.proofs.Common.{◌≡◌, ℕ, ◌+◌, ◌<◌, List, [], ◌∷◌, ◌++◌, codes, length, get_or, take, drop, drop-cons, add-one, sym, ap, ◌∙◌, append_assoc, decimal}
use Rattle.std.proofs.lemmas.List.{take_more, append-nil}
use Rattle.std.proofs.lemmas.Grind.{flat_map-append}
use Rattle.command_words.specs.declared.command.Sizes.{Sizes}
use Rattle.open_commands.specs.declared.open_stop.OpenRow.{OpenRow}
use Rattle.answer_texts.specs.Lines.{numbers}
use Rattle.answer_texts.specs.MakeTexts.{made_line}
use Rattle.answer_texts.specs.OpenTexts.{row_line, spaced}
use Rattle.answer_texts.specs.TradeTexts.{verdict_line, verdict_lines}
use Rattle.trade_desk.specs.declared.refusal.TradeVerdict.{TradeVerdict}
use Rattle.trade_desk.specs.declared.refusal.TradeVerdict.TheVariants.{Accepted}

-- one number more
pub numbers_more : (out done : List ℕ) (list : List ℕ) (i n : ℕ) → i < length list → n ≡ get_or list i 0
    → out ≡ done ++ numbers (take i list) → (out ++ 32 ∷ []) ++ decimal n ≡ done ++ numbers (take (i + 1) list)
numbers_more out done list i n lt is so_far =
    let more : take (i + 1) list ≡ take i list ++ n ∷ [] = take_more list i 0 lt ∙ ap (λ (m : ℕ). take i list ++ m ∷ []) (sym is) in
    let whole : numbers (take (i + 1) list) ≡ numbers (take i list) ++ 32 ∷ decimal n =
    ap numbers more ∙ flat_map-append (λ (m : ℕ). 32 ∷ decimal m) (take i list) (n ∷ [])
    ∙ ap (λ (t : List ℕ). numbers (take i list) ++ t) (append-nil (32 ∷ decimal n)) in
    append_assoc out (32 ∷ []) (decimal n) ∙ ap (λ (t : List ℕ). t ++ 32 ∷ decimal n) so_far
    ∙ append_assoc done (numbers (take i list)) (32 ∷ decimal n) ∙ ap (λ (t : List ℕ). done ++ t) (sym whole)

-- the five pieces of the line of a month that was made
pub made_whole : (sizes : Sizes) (members pairings : ℕ) (none a b c d e : List ℕ) → members ≡ sizes.members → pairings ≡ sizes.pairings → none ≡ []
    → a ≡ none ++ codes "made " → b ≡ a ++ decimal members → c ≡ b ++ codes " members " → d ≡ c ++ decimal pairings
    → e ≡ d ++ codes " pairings\n" → e ≡ made_line sizes
made_whole sizes members pairings none a b c d e m p start is_a is_b is_c is_d is_e =
    let to_b : b ≡ codes "made " ++ decimal sizes.members =
    is_b ∙ ap (λ (t : List ℕ). t ++ decimal members) (is_a ∙ ap (λ (t : List ℕ). t ++ codes "made ") start) ∙ ap (λ (n : ℕ). codes "made " ++ decimal n) m in
    let to_d : d ≡ codes "made " ++ decimal sizes.members ++ codes " members " ++ decimal sizes.pairings =
    is_d ∙ ap (λ (t : List ℕ). t ++ decimal pairings) (is_c ∙ ap (λ (t : List ℕ). t ++ codes " members ") to_b)
    ∙ ap (λ (n : ℕ). codes "made " ++ decimal sizes.members ++ codes " members " ++ decimal n) p in
    is_e ∙ ap (λ (t : List ℕ). t ++ codes " pairings\n") to_d
    ∙ sym (append_assoc (codes "made " ++ decimal sizes.members ++ codes " members " ++ decimal sizes.pairings) (codes " pairings") (10 ∷ []))

-- the three pieces of the line of a trade that was allowed
pub accepted_whole : (k : ℕ) (none a b c : List ℕ) → none ≡ [] → a ≡ none ++ codes "trade " → b ≡ a ++ decimal k → c ≡ b ++ codes " ok\n"
    → c ≡ verdict_line k Accepted
accepted_whole k none a b c start is_a is_b is_c =
    let to_b : b ≡ codes "trade " ++ decimal k = is_b ∙ ap (λ (t : List ℕ). t ++ decimal k) (is_a ∙ ap (λ (t : List ℕ). t ++ codes "trade ") start) in
    is_c ∙ ap (λ (t : List ℕ). t ++ codes " ok\n") to_b ∙ sym (append_assoc (codes "trade " ++ decimal k) (codes " ok") (10 ∷ []))

-- the lines so far and those of the trades to come
pub verdicts_more : (out row : List ℕ) (list : List TradeVerdict) (i : ℕ) (default : TradeVerdict) (whole : List ℕ) → i < length list
    → row ≡ out ++ verdict_line (i + 1) (get_or list i default)
    → out ++ verdict_lines (i + 1) (drop i list) ≡ whole → row ++ verdict_lines ((i + 1) + 1) (drop (i + 1) list) ≡ whole
verdicts_more out row list i default whole lt e so_far =
    let v : TradeVerdict = get_or list i default in
    let cons : drop i list ≡ v ∷ drop (i + 1) list =
    drop-cons list i default lt ∙ ap (λ (k : ℕ). v ∷ drop k list) (sym (add-one i)) in
    ap (λ (t : List ℕ). t ++ verdict_lines ((i + 1) + 1) (drop (i + 1) list)) e
    ∙ append_assoc out (verdict_line (i + 1) v) (verdict_lines ((i + 1) + 1) (drop (i + 1) list))
    ∙ ap (λ (vs : List TradeVerdict). out ++ verdict_lines (i + 1) vs) (sym cons)
    ∙ so_far

-- the five pieces of the line of a pairing that vacant lines have
pub row_whole : (row : OpenRow) (count : ℕ) (pairing : List ℕ) (members : List (List ℕ)) (none a b c d e : List ℕ) → pairing ≡ row.pairing → count ≡ row.count
    → members ≡ row.members → none ≡ [] → a ≡ none ++ codes "open " → b ≡ a ++ pairing → c ≡ b ++ numbers (count ∷ [])
    → d ≡ c ++ spaced members → e ≡ d ++ codes "\n" → e ≡ row_line row
row_whole row count pairing members none a b c d e p n m start is_a is_b is_c is_d is_e =
    let to_b : b ≡ codes "open " ++ row.pairing =
    is_b ∙ ap (λ (t : List ℕ). t ++ pairing) (is_a ∙ ap (λ (t : List ℕ). t ++ codes "open ") start) ∙ ap (λ (t : List ℕ). codes "open " ++ t) p in
    let to_c : c ≡ (codes "open " ++ row.pairing) ++ numbers (row.count ∷ []) =
    is_c ∙ ap (λ (t : List ℕ). t ++ numbers (count ∷ [])) to_b ∙ ap (λ (k : ℕ). (codes "open " ++ row.pairing) ++ numbers (k ∷ [])) n in
    let to_d : d ≡ ((codes "open " ++ row.pairing) ++ numbers (row.count ∷ [])) ++ spaced row.members =
    is_d ∙ ap (λ (t : List ℕ). t ++ spaced members) to_c
    ∙ ap (λ (names : List (List ℕ)). ((codes "open " ++ row.pairing) ++ numbers (row.count ∷ [])) ++ spaced names) m in
    is_e ∙ ap (λ (t : List ℕ). t ++ codes "\n") to_d
