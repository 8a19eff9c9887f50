-- The form of a reason's line is read where it stands.
use Rattle.std.proofs.Common.{◌≡◌, ◌≢◌, ℕ, Bool, true, false, cond, eqb, List, [], ◌∷◌, ◌++◌, Option, Some, None, refl, sym, ap, subst, ◌∙◌, inl, inr}
use Rattle.std.specs.Prelude.{not, ◌||◌, codes}
use Rattle.std.specs.List.{list_any}
use Rattle.std.specs.Option.{is_some}
use Rattle.std.specs.Char.{is_ascii_digit}
use Rattle.std.specs.Str.{bytes_eq}
use Rattle.std.proofs.lemmas.Bool.{eqb-true, false≢true, and_parts, or_cases, false_from_ne_true}
use Rattle.std.proofs.lemmas.List.Folds.{list_all-append, list_any-append}
use Rattle.std.proofs.lemmas.Slice.Eq.{bytes_eq-Decides}
use Rattle.duty_calendar.specs.Forms.{is_name, is_name_byte}
use Rattle.roster_text.specs.NameReading.{◌>>=◌, word_at}
use Rattle.roster_text.specs.ReasonFaults.{is_numeral, IsPlaceWord, IsCauseWord, HasReasonForm}
use Rattle.roster_text.specs.ReasonWords.{Words, name_in, numeral_in, is_place, place_in, is_cause, cause_in, is_ended, words_in}
use Rattle.roster_text.proofs.Words.{bind_some, some_if, word_takes, word_again}
use Rattle.roster_text.proofs.Bytes.{without, without_kind, word_taken, word_back, name_bytes, numeral_bytes}

pub or_left : (a b : Bool) → a ≡ true → (a || b) ≡ true
or_left true b h = refl
or_left false b h = absurd cc

pub or_right : (a b : Bool) → b ≡ true → (a || b) ≡ true
or_right true b h = refl
or_right false b h = h

pub is_same : (a b : List ℕ) → bytes_eq a b ≡ true → a ≡ b
is_same a b h = (bytes_eq-Decides a b).0 h

pub same_is : (a b : List ℕ) → a ≡ b → bytes_eq a b ≡ true
same_is a b e = (bytes_eq-Decides a b).1 e

pub other_is : (a b : List ℕ) → a ≢ b → bytes_eq a b ≡ false
other_is a b ne = false_from_ne_true (bytes_eq a b) (λ t. ne (is_same a b t))

no_space : (word : List ℕ) → is_name word ≡ true → without 32 word ≡ true
no_space word h = without_kind is_name_byte 32 word refl (name_bytes word h)

no_space_in : (word : List ℕ) → is_numeral word ≡ true → without 32 word ≡ true
no_space_in word h = without_kind is_ascii_digit 32 word refl (numeral_bytes word h)

-- ---- names and numbers

name_taken : (bytes : List ℕ) (x : List ℕ × List ℕ) → name_in bytes ≡ Some x → (bytes ≡ x.0 ++ 32 ∷ x.1) × (is_name x.0 ≡ true)
unfolding name_in
name_taken bytes x e = word_taken is_name 32 bytes x e

name_back : (word rest : List ℕ) → is_name word ≡ true → name_in (word ++ 32 ∷ rest) ≡ Some (word, rest)
unfolding name_in
name_back word rest h = word_back is_name 32 word rest (no_space word h) h

numeral_taken : (bytes : List ℕ) (x : List ℕ × List ℕ) → numeral_in bytes ≡ Some x → (bytes ≡ x.0 ++ 32 ∷ x.1) × (is_numeral x.0 ≡ true)
unfolding numeral_in
numeral_taken bytes x e = word_taken is_numeral 32 bytes x e

numeral_back : (word rest : List ℕ) → is_numeral word ≡ true → numeral_in (word ++ 32 ∷ rest) ≡ Some (word, rest)
unfolding numeral_in
numeral_back word rest h = word_back is_numeral 32 word rest (no_space_in word h) h

-- ---- causes

abbrev place_kept : List ℕ × List ℕ → Option (List ℕ × List ℕ)
place_kept x = cond (is_place x) (Some x) None

pub place_taken : (cause : List ℕ) (x : List ℕ × List ℕ) → place_in cause ≡ Some x
    → (w : IsPlaceWord cause) × (w.place ≡ x.0) × (w.name ≡ x.1)
unfolding place_in
place_taken cause x e =
    let a = bind_some (word_at (codes "place ") cause) (λ rest. numeral_in rest >>= place_kept) x e in
    let b = bind_some (numeral_in a.0) place_kept x a.2 in
    let k = some_if (is_place b.0) b.0 x b.2 in
    let n = numeral_taken a.0 b.0 b.1 in
    let p = and_parts (not (bytes_eq b.0.0 (codes "0"))) (is_name b.0.1) k.0 in
    let word : IsPlaceWord cause = record {
      place = b.0.0;
      name = b.0.1;
      is = word_takes (codes "place ") cause a.0 a.1 ∙ ap (λ (t : List ℕ). codes "place " ++ t) n.0;
      numeral = n.1;
      above = λ e. false≢true (sym (not_true (bytes_eq b.0.0 (codes "0")) p.0) ∙ same_is b.0.0 (codes "0") e);
      named = p.1;
    } in
    (word, ap (λ (z : List ℕ × List ℕ). z.0) k.1, ap (λ (z : List ℕ × List ℕ). z.1) k.1)
  where
    not_true : (x : Bool) → not x ≡ true → x ≡ false
    not_true true e = absurd cc
    not_true false e = refl

abbrev behind_place : Option (List ℕ) → Option (List ℕ × List ℕ)
behind_place o = o >>= λ rest. numeral_in rest >>= place_kept

pub place_spelt : (cause place name : List ℕ) → cause ≡ codes "place " ++ (place ++ (32 ∷ name)) → is_numeral place ≡ true → place ≢ codes "0"
    → is_name name ≡ true → place_in cause ≡ Some (place, name)
unfolding place_in
place_spelt cause place name is numeral above named =
    ap behind_place (ap (word_at (codes "place ")) is ∙ word_again (codes "place ") (place ++ 32 ∷ name))
    ∙ ap (λ (o : Option (List ℕ × List ℕ)). o >>= place_kept) (numeral_back place name numeral)
    ∙ rw (other_is place (codes "0") above, named) refl

place_back : (cause : List ℕ) (w : IsPlaceWord cause) → place_in cause ≡ Some (w.place, w.name)
place_back cause w = place_spelt cause w.place w.name w.is w.numeral w.above w.named

cause_is : (cause : List ℕ) → is_cause cause ≡ true → IsCauseWord cause
unfolding is_cause
cause_is cause h =
    elim (or_cases (bytes_eq cause (codes "tie")) (bytes_eq cause (codes "place 0") || is_some (place_in cause)) h) [
      | inl tie ↦ inl (is_same cause (codes "tie") tie)
      | inr other ↦ elim (or_cases (bytes_eq cause (codes "place 0")) (is_some (place_in cause)) other) [
        | inl nowhere ↦ inr (inl (is_same cause (codes "place 0") nowhere))
        | inr place ↦ inr (inr (there (place_in cause) refl place))
      ]
    ]
  where
    there : (o : Option (List ℕ × List ℕ)) → place_in cause ≡ o → is_some o ≡ true → IsPlaceWord cause
    there None o e = absurd cc
    there (Some x) o e = (place_taken cause x o).0

is_caused : (cause : List ℕ) → IsCauseWord cause → is_cause cause ≡ true
unfolding is_cause
is_caused cause (inl tie) = or_left (bytes_eq cause (codes "tie")) _ (same_is cause (codes "tie") tie)
is_caused cause (inr (inl nowhere)) =
    or_right (bytes_eq cause (codes "tie")) _ (or_left (bytes_eq cause (codes "place 0")) _ (same_is cause (codes "place 0") nowhere))
is_caused cause (inr (inr place)) =
    or_right (bytes_eq cause (codes "tie")) _ (or_right (bytes_eq cause (codes "place 0")) _ (ap is_some (place_back cause place)))

no_colon : (cause : List ℕ) → IsCauseWord cause → without 58 cause ≡ true
no_colon cause (inl tie) = ap (without 58) tie
no_colon cause (inr (inl nowhere)) = ap (without 58) nowhere
no_colon cause (inr (inr w)) =
    ap (without 58) w.is
    ∙ list_all-append (λ c. not (eqb c 58)) (codes "place ") (w.place ++ 32 ∷ w.name)
    ∙ list_all-append (λ c. not (eqb c 58)) w.place (32 ∷ w.name)
    ∙ rw (
      without_kind is_ascii_digit 58 w.place refl (numeral_bytes w.place w.numeral),
      without_kind is_name_byte 58 w.name refl (name_bytes w.name w.named),
    ) refl

cause_taken : (bytes : List ℕ) (x : List ℕ × List ℕ) → cause_in bytes ≡ Some x → (bytes ≡ x.0 ++ 58 ∷ x.1) × IsCauseWord x.0
unfolding cause_in
cause_taken bytes x e =
    let t = word_taken is_cause 58 bytes x e in
    (t.0, cause_is x.0 t.1)

cause_back : (word rest : List ℕ) → IsCauseWord word → cause_in (word ++ 58 ∷ rest) ≡ Some (word, rest)
unfolding cause_in
cause_back word rest h = word_back is_cause 58 word rest (no_colon word h) (is_caused word h)

-- ---- the end of a line

pub record IsEnded (bytes : List ℕ) : Type 0 where
  pub bid : List ℕ
  pub rest : List ℕ
  pub is : bytes ≡ 32 ∷ (bid ++ (10 ∷ rest))

line_end : (bytes : List ℕ) → list_any (λ b. eqb b 10) bytes ≡ true → (bid : List ℕ) × (rest : List ℕ) × (bytes ≡ bid ++ 10 ∷ rest)
line_end [] h = absurd cc
line_end (c ∷ cs) h =
    elim (or_cases (eqb c 10) (list_any (λ b. eqb b 10) cs) h) [
      | inl here ↦ ([], cs, ap (λ (k : ℕ). k ∷ cs) (eqb-true c 10 here))
      | inr later ↦ (let t = line_end cs later in (c ∷ t.0, t.1, ap (λ (s : List ℕ). c ∷ s) t.2))
    ]

ended_taken : (bytes : List ℕ) → is_ended bytes ≡ true → IsEnded bytes
ended_taken [] h = absurd cc
ended_taken (c ∷ cs) h =
    let t = and_parts (eqb c 32) (list_any (λ b. eqb b 10) cs) h in
    let l = line_end cs t.1 in
    record { bid = l.0; rest = l.1; is = ap (λ (k : ℕ). k ∷ cs) (eqb-true c 32 t.0) ∙ ap (λ (s : List ℕ). 32 ∷ s) l.2 }

pub ended_back : (bid rest : List ℕ) → is_ended (32 ∷ (bid ++ (10 ∷ rest))) ≡ true
ended_back bid rest =
    list_any-append (λ b. eqb b 10) bid (10 ∷ rest) ∙ or_right (list_any (λ b. eqb b 10) bid) _ refl

-- ---- the words of a line

pub record AreWords (bytes : List ℕ) (words : Words) : Type 0 where
  pub is : bytes ≡ words.member ++ 32 ∷ (words.number ++ 32 ∷ (words.cause ++ 58 ∷ words.rest))
  pub named : is_name words.member ≡ true
  pub numeral : is_numeral words.number ≡ true
  pub caused : IsCauseWord words.cause
  pub ended : is_ended words.rest ≡ true

abbrev words_kept : List ℕ → List ℕ → List ℕ × List ℕ → Option Words
words_kept member number c =
    cond (is_ended c.1) (Some (record { member = member; number = number; cause = c.0; rest = c.1 })) None

pub words_taken : (bytes : List ℕ) (words : Words) → words_in bytes ≡ Some words → AreWords bytes words
unfolding words_in
words_taken bytes words e =
    let a = bind_some (name_in bytes) (λ m. numeral_in m.1 >>= λ k. cause_in k.1 >>= words_kept m.0 k.0) words e in
    let b = bind_some (numeral_in a.0.1) (λ k. cause_in k.1 >>= words_kept a.0.0 k.0) words a.2 in
    let d = bind_some (cause_in b.0.1) (words_kept a.0.0 b.0.0) words b.2 in
    let k = some_if (is_ended d.0.1) (record { member = a.0.0; number = b.0.0; cause = d.0.0; rest = d.0.1 }) words d.2 in
    let name = name_taken bytes a.0 a.1 in
    let number = numeral_taken a.0.1 b.0 b.1 in
    let cause = cause_taken b.0.1 d.0 d.1 in
    subst (AreWords bytes) k.1
    (record {
      is = name.0 ∙ ap (λ (t : List ℕ). a.0.0 ++ 32 ∷ t) (number.0 ∙ ap (λ (t : List ℕ). b.0.0 ++ 32 ∷ t) cause.0);
      named = name.1;
      numeral = number.1;
      caused = cause.1;
      ended = k.0;
    })

pub words_back : (member number cause rest : List ℕ) → is_name member ≡ true → is_numeral number ≡ true → IsCauseWord cause → is_ended rest ≡ true
    → words_in (member ++ 32 ∷ (number ++ 32 ∷ (cause ++ 58 ∷ rest))) ≡ Some (record { member = member; number = number; cause = cause; rest = rest })
unfolding words_in
words_back member number cause rest named numeral caused ended =
    rw (
      name_back member (number ++ 32 ∷ (cause ++ 58 ∷ rest)) named,
      numeral_back number (cause ++ 58 ∷ rest) numeral,
      cause_back cause rest caused,
      ended,
    ) refl

-- the form that words have
pub form_of_words : (bytes : List ℕ) (words : Words) → AreWords bytes words
    → (form : HasReasonForm bytes) × (form.member ≡ words.member) × (form.number ≡ words.number) × (form.cause ≡ words.cause)
form_of_words bytes words are =
    let end = ended_taken words.rest are.ended in
    let form : HasReasonForm bytes = record {
      member = words.member;
      number = words.number;
      cause = words.cause;
      bid = end.bid;
      rest = end.rest;
      is = are.is ∙ ap (λ (t : List ℕ). words.member ++ 32 ∷ (words.number ++ 32 ∷ (words.cause ++ 58 ∷ t))) end.is;
      named = are.named;
      numeral = are.numeral;
      caused = are.caused;
    } in
    (form, refl, refl, refl)

-- and the words of a form
pub words_of_form : (bytes : List ℕ) (form : HasReasonForm bytes)
    → words_in bytes ≡ Some (record { member = form.member; number = form.number; cause = form.cause; rest = 32 ∷ (form.bid ++ (10 ∷ form.rest)) })
words_of_form bytes form =
    ap words_in form.is
    ∙ words_back form.member form.number form.cause (32 ∷ (form.bid ++ (10 ∷ form.rest))) form.named form.numeral form.caused (ended_back form.bid form.rest)
