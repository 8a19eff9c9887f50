-- Members, bids and causes are found by their words.
use Rattle.std.proofs.Common.{◌≡◌, ◌≢◌, ℕ, zero, suc, ◌+◌, ◌^◌, ◌<◌, ◌≤◌, Bool, true, false, cond, List, [], ◌∷◌, ◌++◌, length, get_or, Option, Some, refl, sym, ap, subst, ◌∙◌, arith, inl, inr, length-append, add-one}
use Rattle.std.specs.Prelude.{AllPairs, codes, nat_lt, position, slice_get}
use Rattle.std.specs.List.{position_or_len}
use Rattle.std.specs.Option.{option_map_or}
use Rattle.std.specs.Str.{bytes_eq}
use Rattle.std.proofs.lemmas.Bool.{cases_eq, false≢true}
use Rattle.std.proofs.lemmas.Bool.Decides.{nat_tests}
use Rattle.std.proofs.lemmas.List.Quantifiers.{position-Some}
use Rattle.std.proofs.lemmas.List.Sums.{position_or_len_is}
use Rattle.std.proofs.lemmas.Option.{slice_get-get_or}
use Rattle.duty_calendar.specs.Forms.{is_name}
use Rattle.duty_calendar.specs.declared.member.Member.{Member}
use Rattle.field_text.specs.Spelling.{number_text}
use Rattle.roster_model.specs.declared.problem.Problem.{Problem}
use Rattle.roster_model.specs.declared.award.Cause.{Cause}
use Rattle.roster_model.specs.declared.award.Cause.TheVariants.{Tie, Place}
use Rattle.roster_model.specs.Denials.{place_of}
use Rattle.roster_text.specs.NameReading.{◌>>=◌}
use Rattle.roster_text.specs.RosterText.{member_name}
use Rattle.roster_text.specs.ReasonText.{cause_text}
use Rattle.roster_text.specs.ReasonFaults.{IsPlaceWord, IsCauseWord}
use Rattle.roster_text.specs.ReasonWords.{first_from, is_number, member_named, numbered, place_in, place_named, place_of_member, cause_named}
use Rattle.roster_text.proofs.Words.{bind_some, some_if, some_is}
use Rattle.roster_text.proofs.Bytes.{numeral_some, numeral_text, number_same, zero_text}
use Rattle.roster_text.proofs.ReasonForms.{is_same, same_is, other_is, place_taken, place_spelt}

-- ---- names among names that differ

place_found : {X : Type 0} (name : X → List ℕ) (xs : List X) (word : List ℕ) (m : ℕ) → position (λ x. bytes_eq (name x) word) xs ≡ Some m
    → (m < length xs) × (option_map_or name (slice_get xs m) [] ≡ word)
place_found name [] word m e = absurd cc
place_found name (x ∷ xs) word m e =
    let found = position-Some (λ q. bytes_eq (name q) word) (x ∷ xs) m x e in
    let there : slice_get (x ∷ xs) m ≡ Some (get_or (x ∷ xs) m x) = slice_get-get_or (x ∷ xs) m x found.0 in
    (found.0, ap (λ o. option_map_or name o []) there ∙ is_same (name (get_or (x ∷ xs) m x)) word found.1)

place_back_at : {X : Type 0} (name : X → List ℕ) (xs : List X) (m : ℕ) (d : X) → m < length xs → AllPairs (λ a b. name a ≢ name b) xs
    → position (λ x. bytes_eq (name x) (name (get_or xs m d))) xs ≡ Some m
place_back_at name xs m d lt apart =
    let w : List ℕ = name (get_or xs m d) in
    let place : position_or_len (λ x. bytes_eq (name x) w) xs ≡ m =
    position_or_len_is (λ x. bytes_eq (name x) w) xs m d (omega arith)
    (λ k below. other_is (name (get_or xs k d)) w (apart k m d below lt))
    (λ within. same_is w w refl) in
    let inside : nat_lt m (length xs) ≡ true = grind (arith, nat_tests) in
    rw (place, inside) refl

name_there : {X : Type 0} (name : X → List ℕ) (xs : List X) (m : ℕ) (d : X) → m < length xs → name (get_or xs m d) ≡ option_map_or name (slice_get xs m) []
name_there name xs m d lt = sym (ap (λ o. option_map_or name o []) (slice_get-get_or xs m d lt))

some_of : {X : Type 0} (xs : List X) (m : ℕ) → m < length xs → X
some_of [] m lt = absurd (omega arith)
some_of (x ∷ xs) m lt = x

pub member_found : (problem : Problem) (word : List ℕ) (m : ℕ) → member_named problem word ≡ Some m
    → (m < length problem.base.members) × (member_name problem m ≡ word)
unfolding member_named
member_found problem word m e = place_found (λ (q : Member). q.name) problem.base.members word m e

pub member_back : (problem : Problem) (m : ℕ) → m < length problem.base.members → member_named problem (member_name problem m) ≡ Some m
unfolding member_named
member_back problem m lt =
    let members = problem.base.members in
    let d = some_of members m lt in
    ap (λ (w : List ℕ). position (λ q. bytes_eq q.name w) members) (sym (name_there (λ (q : Member). q.name) members m d lt))
    ∙ place_back_at (λ (q : Member). q.name) members m d lt problem.valid.month.members_form.names

pub member_named_form : (problem : Problem) (m : ℕ) → m < length problem.base.members → is_name (member_name problem m) ≡ true
member_named_form problem m lt =
    let members = problem.base.members in
    let d = some_of members m lt in
    subst (λ (w : List ℕ). is_name w ≡ true) (name_there (λ (q : Member). q.name) members m d lt)
    (problem.valid.month.members_form.each m d lt).named

-- ---- numbers

first_found : (test : ℕ → Bool) (n k i : ℕ) → first_from test k n ≡ Some i → (k ≤ i) × (i < k + n) × (test i ≡ true)
first_found test zero k i e = absurd cc
first_found test (suc n) k i e = by (test k) refl e (first_found test n (k + 1) i)
  where
    by : (b : Bool) → test k ≡ b → cond b (Some k) (first_from test (k + 1) n) ≡ Some i
        → (first_from test (k + 1) n ≡ Some i → (k + 1 ≤ i) × (i < k + 1 + n) × (test i ≡ true))
        → (k ≤ i) × (i < k + suc n) × (test i ≡ true)
    by true t e later = (let same : k ≡ i = some_is k i e in (omega (arith, same), omega (arith, same), ap test (sym same) ∙ t))
    by false t e later = (let h = later e in (omega (arith, h.0), omega (arith, h.1), h.2))

first_back : (test : ℕ → Bool) (n k i : ℕ) → k ≤ i → i < k + n → test i ≡ true → ((j : ℕ) → k ≤ j → j < i → test j ≡ false)
    → first_from test k n ≡ Some i
first_back test zero k i low high t none = absurd (omega (arith, low, high))
first_back test (suc n) k i low high t none = by (test k) refl (first_back test n (k + 1) i)
  where
    by : (b : Bool) → test k ≡ b
        → (k + 1 ≤ i → i < k + 1 + n → test i ≡ true → ((j : ℕ) → k + 1 ≤ j → j < i → test j ≡ false) → first_from test (k + 1) n ≡ Some i)
        → cond b (Some k) (first_from test (k + 1) n) ≡ Some i
    by true e later =
        elim (cases_eq k i) [
          | inl same ↦ ap Some same
          | inr other ↦ absurd (false≢true (sym (none k (omega arith) (omega (arith, low, other))) ∙ e))
        ]
    by false e later =
        elim (cases_eq k i) [
          | inl same ↦ absurd (false≢true (sym e ∙ ap test same ∙ t))
          | inr other ↦ later (omega (arith, low, other)) (omega (arith, high)) t (λ j above below. none j (omega (arith, above)) below)
        ]

pub bid_found : (count : ℕ) (word : List ℕ) (k : ℕ) → numbered count word ≡ Some k → (k < count) × (number_text (k + 1) ≡ word)
unfolding numbered
bid_found count word k e =
    let h = first_found (is_number word) count 0 k e in
    (omega (arith, h.1), is_same (number_text (k + 1)) word h.2)

pub bid_back : (count k : ℕ) → count < 2 ^ 32 → k < count → numbered count (number_text (k + 1)) ≡ Some k
unfolding numbered
bid_back count k small lt =
    first_back (is_number (number_text (k + 1))) count 0 k (omega arith) (omega (arith, lt)) (same_is (number_text (k + 1)) (number_text (k + 1)) refl)
    (λ j above below.
    other_is (number_text (j + 1)) (number_text (k + 1))
    (λ e. (let same : j + 1 ≡ k + 1 = number_same (j + 1) (k + 1) (omega (arith, below, lt, small)) (omega (arith, lt, small)) e in absurd (omega (arith, same, below)))))

-- ---- causes

abbrev caused : Cause → Option Cause
caused c = Some c

pub record IsCaused (problem : Problem) (word : List ℕ) (c : Cause) : Type 0 where
  pub text : cause_text problem c ≡ word
  pub within : place_of c ≤ length problem.base.members

place_text : (problem : Problem) (m : ℕ) → cause_text problem (Place (m + 1)) ≡ codes "place " ++ (number_text (m + 1) ++ (32 ∷ member_name problem m))
unfolding cause_text
place_text problem m =
    ap (λ (k : ℕ). cause_text problem (Place k)) (add-one m)
    ∙ ap (λ (k : ℕ). codes "place " ++ (number_text k ++ (32 ∷ member_name problem m))) (sym (add-one m))

place_found_in : (problem : Problem) (word : List ℕ) (c : Cause) → place_named problem word ≡ Some c → IsCaused problem word c
unfolding place_named
place_found_in problem word c e =
    let a = bind_some (place_in word) (λ x. member_named problem x.1 >>= place_of_member x.0) c e in
    let b = bind_some (member_named problem a.0.1) (place_of_member a.0.0) c a.2 in
    let k = some_if (is_number a.0.0 b.0) (Place (b.0 + 1)) c b.2 in
    let p = place_taken word a.0 a.1 in
    let m = member_found problem a.0.1 b.0 b.1 in
    let number : number_text (b.0 + 1) ≡ p.0.place = is_same (number_text (b.0 + 1)) a.0.0 k.0 ∙ sym p.1 in
    let name : member_name problem b.0 ≡ p.0.name = m.1 ∙ sym p.2 in
    subst (IsCaused problem word) k.1
    (record {
      text =
          place_text problem b.0
          ∙ ap (λ (t : List ℕ). codes "place " ++ (t ++ (32 ∷ member_name problem b.0))) number
          ∙ ap (λ (t : List ℕ). codes "place " ++ (p.0.place ++ (32 ∷ t))) name
          ∙ sym p.0.is;
      within = omega (arith, m.0);
    })

pub cause_found : (problem : Problem) (word : List ℕ) (c : Cause) → cause_named problem word ≡ Some c → IsCaused problem word c
unfolding cause_named cause_text
cause_found problem word c e = tie (bytes_eq word (codes "tie")) refl e
  where
    nowhere : (b : Bool) → bytes_eq word (codes "place 0") ≡ b → cond b (caused (Place 0)) (place_named problem word) ≡ Some c → IsCaused problem word c
    nowhere true t e =
        subst (IsCaused problem word) (some_is (Place 0) c e)
        (record { text = sym (is_same word (codes "place 0") t); within = omega arith })
    nowhere false t e = place_found_in problem word c e

    tie : (b : Bool) → bytes_eq word (codes "tie") ≡ b
        → cond b (caused Tie) (cond (bytes_eq word (codes "place 0")) (caused (Place 0)) (place_named problem word)) ≡ Some c → IsCaused problem word c
    tie true t e = subst (IsCaused problem word) (some_is Tie c e) (record { text = sym (is_same word (codes "tie") t); within = omega arith })
    tie false t e = nowhere (bytes_eq word (codes "place 0")) refl e

no_zero : (problem : Problem) (m : ℕ) → m < length problem.base.members → number_text (m + 1) ≢ codes "0"
no_zero problem m lt e =
    let few : length problem.base.members ≤ 200 = problem.valid.month.members_form.few in
    let zero_is : m + 1 ≡ 0 = number_same (m + 1) 0 (omega (arith, few, lt)) (omega arith) (e ∙ zero_text) in
    absurd (omega (arith, zero_is))

-- the word of a place of the month
place_word : (problem : Problem) (m : ℕ) → m < length problem.base.members → IsPlaceWord (cause_text problem (Place (m + 1)))
place_word problem m lt =
    let few : length problem.base.members ≤ 200 = problem.valid.month.members_form.few in
    record {
      place = number_text (m + 1);
      name = member_name problem m;
      is = place_text problem m;
      numeral = numeral_text (m + 1) (omega (arith, few, lt));
      above = no_zero problem m lt;
      named = member_named_form problem m lt;
    }

heads : (a b : ℕ) (s t : List ℕ) → a ∷ s ≡ b ∷ t → a ≡ b
heads a b s t e = cc

no_tie : (cause : List ℕ) → IsPlaceWord cause → cause ≢ codes "tie"
no_tie cause w e =
    let same : codes "place " ++ (w.place ++ (32 ∷ w.name)) ≡ codes "tie" = sym w.is ∙ e in
    absurd (omega (arith, heads 112 116 _ _ same))

no_nowhere : (cause : List ℕ) → IsPlaceWord cause → cause ≢ codes "place 0"
no_nowhere cause w e =
    let same : codes "place " ++ (w.place ++ (32 ∷ w.name)) ≡ codes "place 0" = sym w.is ∙ e in
    let count : length (codes "place " ++ (w.place ++ (32 ∷ w.name))) ≡ 7 = ap (λ (t : List ℕ). length t) same in
    absurd (omega (arith, count, length-append w.place (32 ∷ w.name), numeral_some w.place w.numeral))

place_named_back : (problem : Problem) (m : ℕ) → m < length problem.base.members → place_named problem (cause_text problem (Place (m + 1))) ≡ Some (Place (m + 1))
unfolding place_named
place_named_back problem m lt =
    let few : length problem.base.members ≤ 200 = problem.valid.month.members_form.few in
    let spelt : place_in (cause_text problem (Place (m + 1))) ≡ Some (number_text (m + 1), member_name problem m) =
    place_spelt (cause_text problem (Place (m + 1))) (number_text (m + 1)) (member_name problem m) (place_text problem m)
    (numeral_text (m + 1) (omega (arith, few, lt))) (no_zero problem m lt) (member_named_form problem m lt) in
    ap (λ (o : Option (List ℕ × List ℕ)). o >>= λ x. member_named problem x.1 >>= place_of_member x.0) spelt
    ∙ ap (λ (o : Option ℕ). o >>= place_of_member (number_text (m + 1))) (member_back problem m lt)
    ∙ rw (same_is (number_text (m + 1)) (number_text (m + 1)) refl) refl

at_place : (problem : Problem) (m : ℕ) → m < length problem.base.members → cause_named problem (cause_text problem (Place (m + 1))) ≡ Some (Place (m + 1))
unfolding cause_named
at_place problem m lt =
    let text = cause_text problem (Place (m + 1)) in
    let w = place_word problem m lt in
    rw (other_is text (codes "tie") (no_tie text w), other_is text (codes "place 0") (no_nowhere text w)) (place_named_back problem m lt)

at_tie : (problem : Problem) → cause_named problem (cause_text problem Tie) ≡ Some Tie
unfolding cause_named cause_text
at_tie problem = refl

at_nowhere : (problem : Problem) → cause_named problem (cause_text problem (Place 0)) ≡ Some (Place 0)
unfolding cause_named cause_text
at_nowhere problem = refl

pub cause_back : (problem : Problem) (c : Cause) → place_of c ≤ length problem.base.members → cause_named problem (cause_text problem c) ≡ Some c
cause_back problem Tie within = at_tie problem
cause_back problem (Place zero) within = at_nowhere problem
cause_back problem (Place (suc m)) within =
    subst (λ (k : ℕ). cause_named problem (cause_text problem (Place k)) ≡ Some (Place k)) (add-one m) (at_place problem m (omega (arith, within)))

tie_word : (problem : Problem) → IsCauseWord (cause_text problem Tie)
unfolding cause_text
tie_word problem = inl refl

nowhere_word : (problem : Problem) → IsCauseWord (cause_text problem (Place 0))
unfolding cause_text
nowhere_word problem = inr (inl refl)

pub cause_word : (problem : Problem) (c : Cause) → place_of c ≤ length problem.base.members → IsCauseWord (cause_text problem c)
cause_word problem Tie within = tie_word problem
cause_word problem (Place zero) within = nowhere_word problem
cause_word problem (Place (suc m)) within =
    subst (λ (k : ℕ). IsCauseWord (cause_text problem (Place k))) (add-one m) (inr (inr (place_word problem m (omega (arith, within)))))
