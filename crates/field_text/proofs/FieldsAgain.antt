-- Names and stations are read as they stand, and what is read is a name or a station. Kinds read as they are spelt.
use Rattle.std.proofs.Common.{◌≡◌, ℕ, zero, suc, ◌+◌, ◌≤◌, List, [], ◌∷◌, length, Bool, true, false, ◌&&◌, Option, Some, None, Result, Ok, refl, arith, ap, sym, ◌∙◌}
use Rattle.std.proofs.lemmas.Bool.{and_parts}
use Rattle.std.proofs.lemmas.Bool.Decides.{nat_tests}
use Rattle.std.specs.List.{list_all}
use Rattle.std.specs.Prelude.{IsTrue, nat_le, ◌==◌}
use Rattle.duty_calendar.specs.Forms.{is_name, is_name_byte, is_station_code, are_capitals, is_capital}
use Rattle.duty_calendar.specs.declared.event.Kind.{Kind}
use Rattle.duty_calendar.specs.declared.event.Kind.TheVariants.{Flight, Ground, Leave}
use Rattle.field_text.specs.declared.field_fault.FieldFault.{FieldFault}
use Rattle.field_text.specs.declared.form.Class.TheVariants.{NameByte}
use Rattle.field_text.specs.Form.{Form, finished, up_to, row, fault_from, is_in, IsRow}
use Rattle.field_text.specs.Fields.{shaped, field, name, name_field, station, station_field, kind_field}
use Rattle.field_text.specs.Spelling.{kind_text}
use Rattle.field_text.proofs.Again.{field-of}
use Rattle.field_text.proofs.Names.{name-right, name-wrong, name-past, name-same}
use Rattle.field_text.proofs.RowForms.{row_none, row_from_none}

-- a field that gave a value has the form of it
pub record IsFieldOf {A : Type 0} (form : Form) (value : List ℕ → Result A FieldFault) (text : List ℕ) (x : A) : Type 0 where
  pub some : 1 ≤ length text
  pub formed : fault_from 1 form text ≡ None
  pub means : value text ≡ Ok x

pub field-ok : {A : Type 0} (form : Form) (value : List ℕ → Result A FieldFault) (text : List ℕ) (x : A) → field form value text ≡ Ok x → IsFieldOf form value text x
field-ok form value [] x e = absurd (cc e)
field-ok {A} form value (b ∷ bs) x e = go (fault_from 1 form (b ∷ bs)) refl e
  where
    go : (o : Option ℕ) → fault_from 1 form (b ∷ bs) ≡ o → shaped o (value (b ∷ bs)) ≡ Ok x → IsFieldOf form value (b ∷ bs) x
    go None f g = record { some = omega arith; formed = f; means = g }
    go (Some k) f g = absurd (cc g)

-- names

bytes-none : (n k : ℕ) (text : List ℕ) → length text ≤ k → list_all is_name_byte text ≡ true → fault_from n (up_to k NameByte finished) text ≡ None
unfolding fault_from
bytes-none n k [] h e = refl
bytes-none n zero (b ∷ bs) h e = absurd (omega arith)
bytes-none n (suc k) (b ∷ bs) h e =
    let p = and_parts (is_name_byte b) (list_all is_name_byte bs) e in
    name-right n k b bs p.0 ∙ bytes-none (n + 1) k bs (omega arith) p.1

none-bytes : (n k : ℕ) (text : List ℕ) → fault_from n (up_to k NameByte finished) text ≡ None → (length text ≤ k) × (list_all is_name_byte text ≡ true)
none-bytes n k [] e = (omega arith, refl)
none-bytes n zero (b ∷ bs) e = absurd (cc (sym (name-past n b bs) ∙ e))
none-bytes n (suc k) (b ∷ bs) e = go (is_in NameByte b) refl (none-bytes (n + 1) k bs)
  where
    go : (t : Bool) → is_in NameByte b ≡ t → (fault_from (n + 1) (up_to k NameByte finished) bs ≡ None → (length bs ≤ k) × (list_all is_name_byte bs ≡ true))
        → (length (b ∷ bs) ≤ suc k) × (list_all is_name_byte (b ∷ bs) ≡ true)
    go true f more = let p = more (sym (name-right n k b bs f) ∙ e) in (omega (arith, p.0), ap (λ (t : Bool). t && list_all is_name_byte bs) f ∙ p.1)
    go false f more = absurd (cc (sym (name-wrong n (suc k) b bs f) ∙ e))

is_name-parts : (text : List ℕ) → is_name text ≡ true → (1 ≤ length text) × (length text ≤ 16) × (list_all is_name_byte text ≡ true)
is_name-parts text h =
    let p = and_parts (nat_le 1 (length text) && nat_le (length text) 16) (list_all is_name_byte text) h in
    let q = and_parts (nat_le 1 (length text)) (nat_le (length text) 16) p.0 in
    let a : nat_le 1 (length text) ≡ true = q.0 in
    let b : nat_le (length text) 16 ≡ true = q.1 in
    (grind (arith, nat_tests), grind (arith, nat_tests), p.1)

is_name-from : (text : List ℕ) → 1 ≤ length text → length text ≤ 16 → list_all is_name_byte text ≡ true → is_name text ≡ true
is_name-from text h k e =
    let a : nat_le 1 (length text) ≡ true = grind (arith, nat_tests) in
    let b : nat_le (length text) 16 ≡ true = grind (arith, nat_tests) in
    rw (a, b, e) refl

pub name-again : (text : List ℕ) → IsTrue (is_name text) → name_field text ≡ Ok text
name-again text h =
    let p = is_name-parts text h in
    field-of name (λ t. Ok t) text (omega (arith, p.0)) (name-same text p.0 ∙ bytes-none 1 16 text p.1 p.2)

pub name-read : (text name : List ℕ) → name_field text ≡ Ok name → IsTrue (is_name name)
name-read text n e =
    let f = field-ok name (λ t. Ok t) text n e in
    let p = none-bytes 1 16 text (sym (name-same text f.some) ∙ f.formed) in
    let same : text ≡ n = cc f.means in
    ap is_name (sym same) ∙ is_name-from text f.some p.0 p.1

-- stations

letters-row : (text : List ℕ) → is_station_code text ≡ true → IsRow station text
letters-row [] h = absurd (cc h)
letters-row (a ∷ []) h = absurd (cc h)
letters-row (a ∷ b ∷ []) h = absurd (cc h)
letters-row (a ∷ b ∷ c ∷ []) h =
    let p = and_parts (is_capital a) (is_capital b && (is_capital c && true)) h in
    let q = and_parts (is_capital b) (is_capital c && true) p.1 in
    let r = and_parts (is_capital c) true q.1 in
    (p.0, (q.0, (r.0, tt)))
letters-row (a ∷ b ∷ c ∷ d ∷ ds) h =
    let p = and_parts (length (a ∷ b ∷ c ∷ d ∷ ds) == 3) (are_capitals (a ∷ b ∷ c ∷ d ∷ ds)) h in
    let e : (length (a ∷ b ∷ c ∷ d ∷ ds) == 3) ≡ true = p.0 in
    let n : length (a ∷ b ∷ c ∷ d ∷ ds) ≡ 3 = grind (arith, nat_tests) in
    absurd (omega (arith, n))

row-letters : (text : List ℕ) → IsRow station text → is_station_code text ≡ true
row-letters [] h = absurd h
row-letters (a ∷ []) h = absurd h.1
row-letters (a ∷ b ∷ []) h = absurd h.1.1
row-letters (a ∷ b ∷ c ∷ []) h = rw (h.0, h.1.0, h.1.1.0) refl
row-letters (a ∷ b ∷ c ∷ d ∷ ds) h = absurd h.1.1.1

pub station-again : (text : List ℕ) → IsTrue (is_station_code text) → station_field text ≡ Ok text
station-again text h =
    let p = and_parts (length text == 3) (are_capitals text) h in
    let e : (length text == 3) ≡ true = p.0 in
    let n : length text ≡ 3 = grind (arith, nat_tests) in
    field-of (row station) (λ t. Ok t) text (omega (arith, n)) (row_none 1 station text (letters-row text h))

pub station-read : (text s : List ℕ) → station_field text ≡ Ok s → IsTrue (is_station_code s)
station-read text s e =
    let f = field-ok (row station) (λ t. Ok t) text s e in
    let same : text ≡ s = cc f.means in
    ap is_station_code (sym same) ∙ row-letters text (row_from_none 1 station text f.formed)

-- kinds

pub kind-again : (kind : Kind) → kind_field (kind_text kind) ≡ Ok kind
kind-again Flight = refl
kind-again Ground = refl
kind-again Leave = refl
