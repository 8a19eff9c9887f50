-- A row has four fields: what stands in fields, and how they are counted.
use Rattle.std.proofs.Common.{◌≡◌, ℕ, zero, suc, ◌+◌, ◌/◌, ◌%◌, ◌<◌, ◌≤◌, ◌^◌, Bool, true, false, cond, eqb, List, [], ◌∷◌, ◌++◌, length, map, decimal, drop, drop-cons, eq-eqb, get_or, Option, refl, sym, ap, subst, ◌∙◌, append_assoc, arith, inl, inr}
use Rattle.std.specs.Prelude.{All, IsTrue}
use Rattle.std.specs.List.{list_all}
use Rattle.std.specs.Int.Digits.{digits_of}
use Rattle.std.specs.Option.{option_map_or}
use Rattle.std.proofs.lemmas.Bool.{eqb-true, ne_eqb, false≢true, and_parts}
use Rattle.std.proofs.lemmas.Fmt.{decimal-digits_of, decimal_digit}
use Rattle.std.proofs.lemmas.List.{drop_all}
use Rattle.std.proofs.lemmas.List.Folds.{list_all-append}
use Rattle.std.proofs.lemmas.Option.{slice_get_cases}
use Rattle.duty_calendar.specs.Forms.{is_name, is_name_byte}
use Rattle.duty_calendar.specs.Checks.{IsMember}
use Rattle.duty_calendar.specs.declared.member.Member.{Member}
use Rattle.field_text.specs.Spelling.{number_text, minutes_text, two}
use Rattle.roster_model.specs.declared.problem.Problem.{Problem}
use Rattle.roster_model.specs.Timelines.{credit_of}
use Rattle.roster_model.specs.Scores.{score_of}
use Rattle.roster_model.proofs.Bounds.{credit_bound, score_bound}
use Rattle.roster_text.specs.RosterText.{pairing_name, member_name, names_text, sums_text, row_text, IsLine}
use Rattle.roster_text.specs.RosterFaults.{is_plain, is_field, HasRow}
use Rattle.roster_text.specs.RowReading.{fields_from, has_fields}
use Rattle.roster_text.proofs.NameLaws.{names_of, All_weaker}
use Rattle.roster_text.proofs.Words.{same_front}

-- ---- bytes of fields

plain_above : (d : ℕ) → is_plain (45 + d) ≡ true
plain_above d = rw (ne_eqb (45 + d) 44 (λ e. absurd (omega (arith, e))), ne_eqb (45 + d) 10 (λ e. absurd (omega (arith, e)))) refl

plain_digit : (d : ℕ) → is_plain (48 + d) ≡ true
plain_digit d = rw (ne_eqb (48 + d) 44 (λ e. absurd (omega (arith, e))), ne_eqb (48 + d) 10 (λ e. absurd (omega (arith, e)))) refl

plain_name_byte : (b : ℕ) → is_name_byte b ≡ true → is_plain b ≡ true
plain_name_byte b h =
    rw (ne_eqb b 44 (λ e. false≢true (ap is_name_byte (sym e) ∙ h)), ne_eqb b 10 (λ e. false≢true (ap is_name_byte (sym e) ∙ h))) refl

name_field : (name : List ℕ) → list_all is_name_byte name ≡ true → is_field name ≡ true
name_field [] h = refl
name_field (b ∷ bs) h =
    let t = and_parts (is_name_byte b) (list_all is_name_byte bs) h in
    rw (plain_name_byte b t.0) (name_field bs t.1)

joined_field : (a b : List ℕ) → is_field a ≡ true → is_field b ≡ true → is_field (a ++ b) ≡ true
joined_field a b ha hb = list_all-append is_plain a b ∙ rw (ha, hb) refl

digits_field : (ds : List ℕ) → is_field (map (λ d. 48 + d) ds) ≡ true
digits_field [] = refl
digits_field (d ∷ ds) = rw (plain_digit d) (digits_field ds)

number_field : (n : ℕ) → n < 2 ^ 64 → is_field (decimal n) ≡ true
number_field zero wide = rw (decimal_digit 0 (omega arith)) refl
number_field (suc n) wide = rw (decimal-digits_of (suc n) (omega arith) wide) (digits_field (digits_of 10 (suc n)))

two_field : (n : ℕ) → is_field (two n) ≡ true
two_field n = rw (plain_digit (n / 10), plain_digit (n % 10)) refl

minutes_field : (n : ℕ) → n < 2 ^ 64 → is_field (minutes_text n) ≡ true
minutes_field n wide = joined_field (decimal (n / 60)) (58 ∷ two (n % 60)) (number_field (n / 60) (omega (arith, wide))) (two_field (n % 60))

-- ---- the fields of a month

pub member_field : (problem : Problem) (m : ℕ) → m < length problem.base.members → is_field (member_name problem m) ≡ true
member_field problem m lt =
    elim (slice_get_cases problem.base.members m).1 [
      | inl there ↦
          let good : is_name there.0.name ≡ true = subst (λ (r : Member). IsTrue (is_name r.name)) there.3 (forms m there.0 lt) in
          let name : member_name problem m ≡ there.0.name = ap (λ (o : Option Member). option_map_or (λ (r : Member). r.name) o []) there.2 in
          rw name (name_field there.0.name (and_parts _ (list_all is_name_byte there.0.name) good).1)
      | inr past ↦ absurd (omega (arith, past.0, lt))
    ]
  where
    forms : All (λ (p : Member). IsTrue (is_name p.name)) problem.base.members
    forms = All_weaker (IsMember problem.base.rules.horizon) (λ (p : Member). IsTrue (is_name p.name)) problem.base.members (λ p good. good.named) problem.valid.month.members_form.each

pub names_field : (problem : Problem) (line : List ℕ) → All (λ q. q < length problem.base.pairings) line → is_field (names_text problem line) ≡ true
names_field problem [] known = refl
names_field problem (p ∷ []) known = name_field (pairing_name problem p) ((names_of problem).form p (known 0 p (omega arith)))
names_field problem (p ∷ (q ∷ line)) known =
    joined_field (pairing_name problem p) (32 ∷ names_text problem (q ∷ line))
    (name_field (pairing_name problem p) ((names_of problem).form p (known 0 p (omega arith))))
    (names_field problem (q ∷ line) (λ k d lt. known (suc k) d (omega arith)))

pub credit_field : (problem : Problem) (m : ℕ) (line : List ℕ) → IsLine problem line → is_field (minutes_text (credit_of problem m line)) ≡ true
credit_field problem m line good =
    minutes_field (credit_of problem m line) (omega (arith, credit_bound problem m line good.ascending good.in_range))

pub score_field : (problem : Problem) (m : ℕ) (line : List ℕ) → is_field (number_text (score_of problem m line)) ≡ true
score_field problem m line = number_field (score_of problem m line) (omega (arith, score_bound problem m line))

pub sums_is : (problem : Problem) (m : ℕ) (line : List ℕ)
    → sums_text problem m line ≡ minutes_text (credit_of problem m line) ++ (44 ∷ (number_text (score_of problem m line) ++ (10 ∷ [])))
unfolding sums_text
sums_is problem m line = simp append_assoc

pub sums_with : (problem : Problem) (m : ℕ) (line rest : List ℕ)
    → sums_text problem m line ++ rest ≡ minutes_text (credit_of problem m line) ++ (44 ∷ (number_text (score_of problem m line) ++ (10 ∷ rest)))
sums_with problem m line rest = ap (λ (t : List ℕ). t ++ rest) (sums_is problem m line) ∙ cut (minutes_text (credit_of problem m line)) (number_text (score_of problem m line)) rest
  where
    cut : (a b rest : List ℕ) → (a ++ (44 ∷ (b ++ (10 ∷ [])))) ++ rest ≡ a ++ (44 ∷ (b ++ (10 ∷ rest)))
    cut a b rest = simp append_assoc

pub row_is : (problem : Problem) (m : ℕ) (line rest : List ℕ)
    → row_text problem m line ++ rest ≡ member_name problem m ++ (44 ∷ (names_text problem line ++ (44 ∷ (sums_text problem m line ++ rest))))
row_is problem m line rest = simp append_assoc

pub row_has : (problem : Problem) (m : ℕ) (line rest : List ℕ) → m < length problem.base.members → IsLine problem line → HasRow (row_text problem m line ++ rest)
row_has problem m line rest lt good = record {
  member = member_name problem m;
  pairings = names_text problem line;
  credit = minutes_text (credit_of problem m line);
  score = number_text (score_of problem m line);
  rest = rest;
  is =
      row_is problem m line rest
      ∙ ap (λ (t : List ℕ). member_name problem m ++ (44 ∷ (names_text problem line ++ (44 ∷ t)))) (sums_with problem m line rest);
  member_field = member_field problem m lt;
  pairings_field = names_field problem line good.in_range;
  credit_field = credit_field problem m line good;
  score_field = score_field problem m line;
}

-- credit and score that stand where a line's stand are the line's
pub sums_same : (problem : Problem) (m : ℕ) (line credit score rest after : List ℕ) → IsLine problem line → is_field credit ≡ true → is_field score ≡ true
    → credit ++ (44 ∷ (score ++ (10 ∷ rest))) ≡ sums_text problem m line ++ after
    → credit ++ (44 ∷ (score ++ (10 ∷ []))) ≡ sums_text problem m line
sums_same problem m line credit score rest after good hc hs e =
    let c = minutes_text (credit_of problem m line) in
    let s = number_text (score_of problem m line) in
    let a = same_front is_plain credit c 44 44 (score ++ (10 ∷ rest)) (s ++ (10 ∷ after)) hc (credit_field problem m line good) refl refl (e ∙ sums_with problem m line after) in
    let b = same_front is_plain score s 10 10 rest after hs (score_field problem m line) refl refl a.1 in
    ap (λ (t : List ℕ). t ++ (44 ∷ (score ++ (10 ∷ [])))) a.0 ∙ ap (λ (t : List ℕ). c ++ (44 ∷ (t ++ (10 ∷ [])))) b.0 ∙ sym (sums_is problem m line)

-- ---- counting fields

comma_after : (n : ℕ) (field rest : List ℕ) → is_field field ≡ true → fields_from n (field ++ (44 ∷ rest)) ≡ fields_from (n + 1) rest
comma_after n [] rest h = refl
comma_after n (b ∷ bs) rest h =
    let t = and_parts (is_plain b) (list_all is_plain bs) h in
    let p = plain_parts b t.0 in
    rw (p.1, p.0) (comma_after n bs rest t.1)
  where
    plain_parts : (b : ℕ) → is_plain b ≡ true → (eqb b 44 ≡ false) × (eqb b 10 ≡ false)
    plain_parts b h = (ne_eqb b 44 (λ e. false≢true (ap is_plain (sym e) ∙ h)), ne_eqb b 10 (λ e. false≢true (ap is_plain (sym e) ∙ h)))

feed_after : (n : ℕ) (field rest : List ℕ) → is_field field ≡ true → fields_from n (field ++ (10 ∷ rest)) ≡ eqb n 3
feed_after n [] rest h = refl
feed_after n (b ∷ bs) rest h =
    let t = and_parts (is_plain b) (list_all is_plain bs) h in
    let p = plain_parts b t.0 in
    rw (p.1, p.0) (feed_after n bs rest t.1)
  where
    plain_parts : (b : ℕ) → is_plain b ≡ true → (eqb b 44 ≡ false) × (eqb b 10 ≡ false)
    plain_parts b h = (ne_eqb b 44 (λ e. false≢true (ap is_plain (sym e) ∙ h)), ne_eqb b 10 (λ e. false≢true (ap is_plain (sym e) ∙ h)))

pub fields_counted : (bytes : List ℕ) → HasRow bytes → has_fields bytes ≡ true
unfolding has_fields
fields_counted bytes r =
    ap (fields_from 0) r.is
    ∙ comma_after 0 r.member _ r.member_field
    ∙ comma_after 1 r.pairings _ r.pairings_field
    ∙ comma_after 2 r.credit _ r.credit_field
    ∙ feed_after 3 r.score r.rest r.score_field

-- a field, what ends it, and what stands behind it
record IsCut (n stop : ℕ) (bytes : List ℕ) : Type 0 where
  field : List ℕ
  rest : List ℕ
  is : bytes ≡ field ++ (stop ∷ rest)
  plain : is_field field ≡ true
  more : stop ≡ 44 → fields_from (n + 1) rest ≡ true

one_more : (n stop b : ℕ) (bs : List ℕ) → eqb b 44 ≡ false → eqb b 10 ≡ false → IsCut n stop bs → IsCut n stop (b ∷ bs)
one_more n stop b bs no_comma no_feed cut = record {
  field = b ∷ cut.field;
  rest = cut.rest;
  is = ap (λ (t : List ℕ). b ∷ t) cut.is;
  plain = rw (no_comma, no_feed) cut.plain;
  more = cut.more;
}

too_many : (k : ℕ) (bytes : List ℕ) → fields_from (4 + k) bytes ≡ true → ⊥
too_many k [] h = false≢true h
too_many k (b ∷ bs) h = by (eqb b 10) (eqb b 44) h (λ i t. too_many i bs t)
  where
    by : (feed comma : Bool) → cond feed (eqb (4 + k) 3) (fields_from (cond comma (4 + k + 1) (4 + k)) bs) ≡ true
        → ((i : ℕ) → fields_from (4 + i) bs ≡ true → ⊥) → ⊥
    by true comma h again = false≢true (sym (ne_eqb (4 + k) 3 (λ e. absurd (omega (arith, e)))) ∙ h)
    by false true h again = again (k + 1) (ap (λ (i : ℕ). fields_from i bs) (let e : 4 + (k + 1) ≡ 4 + k + 1 = omega arith in e) ∙ h)
    by false false h again = again k h

cut_comma : (n : ℕ) (bytes : List ℕ) → n < 3 → fields_from n bytes ≡ true → IsCut n 44 bytes
cut_comma n [] lt h = absurd (false≢true h)
cut_comma n (b ∷ bs) lt h = by (eqb b 10) refl (eqb b 44) refl h (λ t. cut_comma n bs lt t)
  where
    by : (feed : Bool) → eqb b 10 ≡ feed → (comma : Bool) → eqb b 44 ≡ comma → cond feed (eqb n 3) (fields_from (cond comma (n + 1) n) bs) ≡ true
        → (fields_from n bs ≡ true → IsCut n 44 bs) → IsCut n 44 (b ∷ bs)
    by true f comma c h again = absurd (false≢true (sym (ne_eqb n 3 (λ e. absurd (omega (arith, e, lt)))) ∙ h))
    by false f true c h again = record {
      field = [];
      rest = bs;
      is = ap (λ (x : ℕ). x ∷ bs) (eqb-true b 44 c);
      plain = refl;
      more = λ _. h;
    }
    by false f false c h again = one_more n 44 b bs c f (again h)

cut_feed : (bytes : List ℕ) → fields_from 3 bytes ≡ true → IsCut 3 10 bytes
cut_feed [] h = absurd (false≢true h)
cut_feed (b ∷ bs) h = by (eqb b 10) refl (eqb b 44) refl h (λ t. cut_feed bs t)
  where
    by : (feed : Bool) → eqb b 10 ≡ feed → (comma : Bool) → eqb b 44 ≡ comma → cond feed true (fields_from (cond comma 4 3) bs) ≡ true
        → (fields_from 3 bs ≡ true → IsCut 3 10 bs) → IsCut 3 10 (b ∷ bs)
    by true f comma c h again = record {
      field = [];
      rest = bs;
      is = ap (λ (x : ℕ). x ∷ bs) (eqb-true b 10 f);
      plain = refl;
      more = λ e. absurd (omega (arith, e));
    }
    by false f true c h again = absurd (too_many 0 bs h)
    by false f false c h again = one_more 3 10 b bs c f (again h)

pub row_counted : (bytes : List ℕ) → has_fields bytes ≡ true → HasRow bytes
unfolding has_fields
row_counted bytes h =
    let a = cut_comma 0 bytes (omega arith) h in
    let b = cut_comma 1 a.rest (omega arith) (a.more refl) in
    let c = cut_comma 2 b.rest (omega arith) (b.more refl) in
    let d = cut_feed c.rest (c.more refl) in
    record {
      member = a.field;
      pairings = b.field;
      credit = c.field;
      score = d.field;
      rest = d.rest;
      is =
          a.is ∙ ap (λ (t : List ℕ). a.field ++ (44 ∷ t)) (b.is ∙ ap (λ (t : List ℕ). b.field ++ (44 ∷ t)) (c.is ∙ ap (λ (t : List ℕ). c.field ++ (44 ∷ t)) d.is));
      member_field = a.plain;
      pairings_field = b.plain;
      credit_field = c.plain;
      score_field = d.plain;
    }

pub fields_filled : (bytes : List ℕ) → has_fields bytes ≡ true → eqb (length bytes) 0 ≡ false
unfolding has_fields
fields_filled [] h = absurd (false≢true h)
fields_filled (b ∷ bs) h = ne_eqb (length (b ∷ bs)) 0 (λ e. absurd (omega (arith, e)))

-- ---- the loop over the bytes of a row

pub fields_fed : (n : ℕ) (bytes : List ℕ) (i b : ℕ) → i < length bytes → get_or bytes i 0 ≡ b → b ≡ 10
    → fields_from n (drop i bytes) ≡ fields_from 0 bytes → eqb n 3 ≡ has_fields bytes
unfolding has_fields
fields_fed n bytes i b lt at h so_far =
    let cons : drop i bytes ≡ b ∷ drop (suc i) bytes = drop-cons bytes i 0 lt ∙ ap (λ (x : ℕ). x ∷ drop (suc i) bytes) at in
    sym (ap (fields_from n) cons ∙ rw (eq-eqb b 10 h) refl) ∙ so_far

pub fields_over : (n : ℕ) (bytes : List ℕ) (i : ℕ) → length bytes ≤ i
    → fields_from n (drop i bytes) ≡ fields_from 0 bytes → false ≡ has_fields bytes
unfolding has_fields
fields_over n bytes i le so_far = sym (ap (fields_from n) (drop_all i bytes le)) ∙ so_far
