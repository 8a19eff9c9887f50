-- Weights whose places are read as capped numbers.
use Rattle.std.proofs.Common.{◌≡◌, ℕ, ◌<◌, ◌≤◌, ◌^◌, Bool, true, false, List, [], ◌∷◌, Option, Some, None, refl, sym, ap, ◌∙◌, arith, lit<, codes}
use Rattle.std.specs.Prelude.{◌&&◌, map, nat_lt, nat_le, ℤ, Result, Ok, Err}
use Rattle.std.specs.Option.{is_some}
use Rattle.std.proofs.lemmas.Bool.Decides.{nat_tests}
use Rattle.cert_text.specs.declared.limits.TheConstants.{MOST_ENTRIES, MOST_ITEMS, MOST_LENS_LINES}
use Rattle.cert_text.specs.declared.flaw.Flaw.{Flaw}
use Rattle.cert_text.specs.declared.flaw.Flaw.TheVariants.{Number, Limit}
use Rattle.cert_text.specs.Fields.{kept, pair, mapped, first_and, joined, first, alone, number, plain_number, up_to, is_number, size, capped, capped_entry, front_of, behind_of, some_weight, is_place, place_after, entry_at, entries}
use Rattle.cert_text.specs.Forms.{filled, sparse, is_enough, some_where, counts}
use Rattle.cert_text.proofs.Each.{gathered, gathered-join, gathered-none}
use Rattle.cert_text.proofs.Numerals.{both, number_takes}
use Rattle.cert_text.proofs.Values.{kept_ok, then_said, mapped_ok, pair_ok, ok_is}
use Rattle.cert_text.proofs.SparseLaws.{size_again}
use Rattle.cert_text.proofs.PlaceWords.{zero_number}
use Rattle.cert_text.proofs.EntrySteps.{place_number, gathered-number, first_is}

abbrev pub Entries : Type 0
Entries = Result (List (ℕ × ℤ)) Flaw

-- entries as they are read
abbrev pub cut_down : Entries → Entries
cut_down said = mapped (map capped_entry) said

abbrev pub said_ : List (ℕ × ℤ) → Entries
said_ xs = Ok xs

abbrev wrong_ : Flaw → Entries
wrong_ g = Err g

cut_pair : (one : Result (ℕ × ℤ) Flaw) (more : Entries) → cut_down (mapped first_and (pair one more)) ≡ mapped first_and (pair (mapped capped_entry one) (cut_down more))
cut_pair (Ok x) (Ok xs) = refl
cut_pair (Ok x) (Err f) = refl
cut_pair (Err f) (Ok xs) = refl
cut_pair (Err f) (Err g) = refl

cut_entry : (p : ℕ) (said : Result ℤ Flaw) → mapped capped_entry (entry_at p said) ≡ entry_at (capped p) said
cut_entry p (Ok y) = refl
cut_entry p (Err f) = refl

-- a place is the size of its word
place_size : (most last : ℕ) (w : List ℕ) (p : ℕ) → mapped capped (place_after most last w) ≡ Ok p → (place_after most last w ≡ Ok (size w)) × (capped (size w) ≡ p)
unfolding place_after
place_size most last w p e =
    let m = mapped_ok capped (kept (is_place most last (size w)) (Ok (size w))) p e in
    let k = kept_ok (is_place most last (size w)) (Ok (size w)) m.0 m.1 in
    let same = ok_is (size w) m.0 k.1 in
    (rw k.0 refl, ap capped same ∙ m.2)

abbrev wrong_place : Flaw → Result ℕ Flaw
wrong_place f = Err f

place_err : (r : Result ℕ Flaw) (f : Flaw) → mapped capped r ≡ Err f → r ≡ Err f
place_err (Ok p) f e = absurd cc
place_err (Err g) f e = ap wrong_place (flaw_is g f e)
  where
    flaw_is : (g f : Flaw) → wrong_place g ≡ wrong_place f → g ≡ f
    flaw_is g f e = cc

-- what is read so far, and what is to come
abbrev pub SoFar : Entries → ℕ → List ℕ → List (List ℕ) → Entries → Type 0
SoFar said most last words total = gathered said (cut_down (entries most (size last) words)) ≡ total

pub so_far_none : (most : ℕ) (words : List (List ℕ)) → SoFar (Ok []) most (codes "0") words (cut_down (entries most 0 words))
so_far_none most words =
    ap (λ (n : ℕ). gathered (Ok []) (cut_down (entries most n words))) zero_number.1 ∙ front_none (cut_down (entries most 0 words))
  where
    front_none : (r : Entries) → gathered (Ok []) r ≡ r
    front_none (Ok xs) = refl
    front_none (Err f) = refl

-- one word more
pub so_far_more : (most : ℕ) (last front : List ℕ) (said next total : Entries) (words : List (List ℕ)) (w : List ℕ) (ws : List (List ℕ)) (p : ℕ) (behind : List ℕ)
    → first words ≡ Ok (w, ws) → front ≡ front_of w → behind ≡ behind_of w → mapped capped (place_after most (size last) front) ≡ Ok p
    → next ≡ joined said (entry_at p (some_weight behind)) → SoFar said most last words total → SoFar next most front ws total
so_far_more most last front said next total words w ws p behind split at_front at_behind place e so_far =
    let g = place_size most (size last) front p place in
    let here : place_after most (size last) (front_of w) ≡ Ok (size front) = ap (place_after most (size last)) (sym at_front) ∙ g.0 in
    let one = entry_at (size front) (some_weight (behind_of w)) in
    let more = entries most (size front) ws in
    let read : entries most (size last) (w ∷ ws) ≡ mapped first_and (pair one more) = rw here refl in
    let shown : joined said (entry_at p (some_weight behind)) ≡ joined said (mapped capped_entry one) =
    ap (λ (k : ℕ). joined said (entry_at k (some_weight behind))) (sym g.1) ∙ ap (λ (v : List ℕ). joined said (entry_at (capped (size front)) (some_weight v))) at_behind
    ∙ ap (joined said) (sym (cut_entry (size front) (some_weight (behind_of w)))) in
    ap (λ (r : Entries). gathered r (cut_down more)) (e ∙ shown) ∙ gathered-join said (mapped capped_entry one) (cut_down more)
    ∙ ap (gathered said) (sym (cut_pair one more) ∙ sym (ap cut_down read) ∙ ap (λ (vs : List (List ℕ)). cut_down (entries most (size last) vs)) (sym (first_is words w ws split))) ∙ so_far

-- a word whose place is wrong ends the list
pub so_far_end : (most : ℕ) (last front : List ℕ) (said total : Entries) (words : List (List ℕ)) (w : List ℕ) (ws : List (List ℕ)) (f : Flaw)
    → first words ≡ Ok (w, ws) → front ≡ front_of w → mapped capped (place_after most (size last) front) ≡ Err f → SoFar said most last words total → Err f ≡ total
so_far_end most last front said total words w ws f split at_front place so_far =
    let e = place_err (place_after most (size last) front) f place in
    let here : place_after most (size last) (front_of w) ≡ Err f = ap (place_after most (size last)) (sym at_front) ∙ e in
    let number = place_number most (size last) front f e in
    let bad : entries most (size last) (w ∷ ws) ≡ Err f = rw here refl in
    ap (λ (g : Flaw). wrong_ g) number ∙ sym (gathered-number said) ∙ ap (λ (g : Flaw). gathered said (Err g)) (sym number)
    ∙ ap (λ (r : Entries). gathered said (cut_down r)) (sym bad) ∙ ap (λ (vs : List (List ℕ)). gathered said (cut_down (entries most (size last) vs))) (sym (first_is words w ws split)) ∙ so_far

-- no word more
pub so_far_last : (most : ℕ) (last : List ℕ) (said total : Entries) (words : List (List ℕ)) → words ≡ [] → SoFar said most last words total → said ≡ total
so_far_last most last said total words none so_far =
    sym (gathered-none said) ∙ ap (λ (vs : List (List ℕ)). gathered said (cut_down (entries most (size last) vs))) (sym none) ∙ so_far

-- ---- places within 32 bits are themselves

low_entries : (most last : ℕ) (ws : List (List ℕ)) (xs : List (ℕ × ℤ)) → most < 2 ^ 32 → entries most last ws ≡ Ok xs → map capped_entry xs ≡ xs
unfolding place_after
low_entries most last [] xs small e = ap (map capped_entry) (sym (ok_is [] xs e)) ∙ ok_is [] xs e
low_entries most last (w ∷ ws) xs small e =
    let a = then_said (kept (is_place most last (size (front_of w))) (Ok (size (front_of w)))) _ xs e in
    let k = kept_ok (is_place most last (size (front_of w))) (Ok (size (front_of w))) a.0 a.1 in
    let same = ok_is (size (front_of w)) a.0 k.1 in
    let within = (both (nat_lt last (size (front_of w))) (nat_le (size (front_of w)) most) k.0).1 in
    let low : a.0 < 2 ^ 32 = low_is (size (front_of w)) a.0 most same within small in
    let b = mapped_ok first_and (pair (entry_at a.0 (some_weight (behind_of w))) (entries most a.0 ws)) xs a.2 in
    let c = pair_ok (entry_at a.0 (some_weight (behind_of w))) (entries most a.0 ws) b.0 b.1 in
    let rest = low_entries most a.0 ws b.0.1 small c.1 in
    let d = mapped_ok (λ y. (a.0, y)) (some_weight (behind_of w)) b.0.0 c.0 in
    let here : capped_entry b.0.0 ≡ b.0.0 =
    ap capped_entry (sym d.2) ∙ ap (λ (n : ℕ). (n, d.0)) (capped_low a.0 low) ∙ d.2 in
    ap (map capped_entry) (sym b.2) ∙ ap (λ (x : ℕ × ℤ). x ∷ map capped_entry b.0.1) here ∙ ap (λ (ys : List (ℕ × ℤ)). b.0.0 ∷ ys) rest ∙ b.2
  where
    low_is : (s a most : ℕ) → s ≡ a → nat_le s most ≡ true → most < 2 ^ 32 → a < 2 ^ 32
    low_is s a most same within small = let le : s ≤ most = grind (arith, nat_tests) in omega (arith, le, same, small)

    capped_low : (n : ℕ) → n < 2 ^ 32 → capped n ≡ n
    capped_low n low = omega (arith, low)

-- weights beside their count, as they are read
pub counted : (w : List ℕ) (ws : List (List ℕ)) → pair (number MOST_ENTRIES w) (cut_down (entries (size w) 0 ws)) ≡ pair (number MOST_ENTRIES w) (entries (size w) 0 ws)
counted w ws = by_case (number MOST_ENTRIES w) refl (entries (size w) 0 ws) refl
  where
    by_case : (r : Result ℕ Flaw) → number MOST_ENTRIES w ≡ r → (s : Entries) → entries (size w) 0 ws ≡ s → pair r (cut_down s) ≡ pair r s
    by_case (Err f) e (Err g) h = refl
    by_case (Err f) e (Ok xs) h = refl
    by_case (Ok n) e (Err g) h = refl
    by_case (Ok n) e (Ok xs) h =
        let t = number_takes MOST_ENTRIES w n (lit< tt) e in
        let low = t.1 in
        let same : size w ≡ n = ap size t.0 ∙ size_again n (omega (arith, low)) in
        ap (λ (ys : List (ℕ × ℤ)). pair (Ok n) (said_ ys)) (low_entries (size w) 0 ws xs (omega (arith, same, low)) h)

-- ---- the line of weights

flaw_number : (o : Option ℕ) → is_some o ≡ false → up_to MOST_ENTRIES o ≡ Err Number
flaw_number None h = refl
flaw_number (Some n) h = absurd cc

not_number : (w : List ℕ) → is_number w ≡ false → number MOST_ENTRIES w ≡ Err Number
unfolding is_number number
not_number w h = flaw_number (plain_number w) h

abbrev wrong_number : Result ℕ Flaw
wrong_number = Err Number

abbrev weights_ : List ℤ → Result (List ℤ) Flaw
weights_ ys = Ok ys

pair_number : {A : Type 0} (said : Result A Flaw) → pair wrong_number said ≡ Err Number
pair_number (Ok x) = refl
pair_number (Err g) = refl

number_pair : {A : Type 0} (said : Result A Flaw) → pair said wrong_number ≡ Err Number
number_pair (Ok x) = refl
number_pair (Err Number) = refl
number_pair (Err Limit) = refl

pub sparse_bad : (words : List (List ℕ)) (w : List ℕ) (ws : List (List ℕ)) → first words ≡ Ok (w, ws) → is_number w ≡ false → Err Number ≡ sparse words
unfolding sparse
sparse_bad words w ws split h =
    let bad : pair (number MOST_ENTRIES w) (entries (size w) 0 ws) ≡ Err Number =
    ap (λ (r : Result ℕ Flaw). pair r (entries (size w) 0 ws)) (not_number w h) ∙ pair_number (entries (size w) 0 ws) in
    sym (rw (split, bad) refl)

pub sparse_good : (words : List (List ℕ)) (w : List ℕ) (ws : List (List ℕ)) (given : Entries) (r : Result ℕ Flaw) (most : ℕ) (xs : List (ℕ × ℤ)) (ys : List ℤ) → first words ≡ Ok (w, ws)
    → Ok (most, xs) ≡ pair r given → r ≡ number MOST_ENTRIES w → given ≡ cut_down (entries (size w) 0 ws) → ys ≡ filled most [] xs → Ok ys ≡ sparse words
unfolding sparse
sparse_good words w ws given r most xs ys split e f g h =
    let good : pair (number MOST_ENTRIES w) (entries (size w) 0 ws) ≡ Ok (most, xs) =
    sym (counted w ws) ∙ sym (ap (pair (number MOST_ENTRIES w)) g) ∙ sym (ap (λ (q : Result ℕ Flaw). pair q given) f) ∙ sym e in
    ap weights_ h ∙ sym (rw (split, good) refl)

-- ---- the line of a proof

kept_numbers : (must : Bool) (k l : List ℕ) (b : Bool)
    → kept (is_number k && (is_number l && b)) (pair (number MOST_ITEMS k) (some_where must (number MOST_LENS_LINES l))) ≡ kept b (pair (number MOST_ITEMS k) (some_where must (number MOST_LENS_LINES l)))
unfolding is_number number
kept_numbers must k l b = by_case (plain_number k) (plain_number l) b
  where
    by_case : (o p : Option ℕ) (b : Bool)
        → kept (is_some o && (is_some p && b)) (pair (up_to MOST_ITEMS o) (some_where must (up_to MOST_LENS_LINES p))) ≡ kept b (pair (up_to MOST_ITEMS o) (some_where must (up_to MOST_LENS_LINES p)))
    by_case (Some n) (Some m) b = refl
    by_case None p true = sym (pair_number (some_where must (up_to MOST_LENS_LINES p)))
    by_case None p false = refl
    by_case (Some n) None false = refl
    by_case (Some n) None true = sym (number_pair (up_to MOST_ITEMS (Some n)))

pub counts_is : (must : Bool) (words ws vs : List (List ℕ)) (k l : List ℕ) (r : Result (ℕ × ℕ) Flaw) → first words ≡ Ok (k, ws) → first ws ≡ Ok (l, vs)
    → r ≡ alone vs (kept (is_number k && (is_number l && is_enough (size l) 0 (size k))) (pair (number MOST_ITEMS k) (some_where must (number MOST_LENS_LINES l)))) → r ≡ counts must words
unfolding counts
counts_is must words ws vs k l r split again e = e ∙ ap (alone vs) (kept_numbers must k l (is_enough (size l) 0 (size k))) ∙ sym (rw (split, again) refl)
