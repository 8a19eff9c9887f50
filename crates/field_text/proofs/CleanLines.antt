-- Lines of fields that need no quotes read as these fields.
use Rattle.std.proofs.Common.{◌≡◌, ℕ, zero, suc, ◌+◌, ◌≤◌, List, [], ◌∷◌, ◌++◌, length, Bool, true, false, cond, ◌&&◌, ◌||◌, nat_le, ◌==◌, Option, Some, None, Result, Ok, refl, arith, ap, sym, ◌∙◌, append_assoc}
use Rattle.std.specs.List.{list_all, list_any}
use Rattle.std.specs.Str.{is_utf8, IsAscii}
use Rattle.std.proofs.lemmas.Bool.{and_parts}
use Rattle.std.proofs.lemmas.Bool.Decides.{nat_tests}
use Rattle.std.proofs.lemmas.List.Folds.{list_all-append}
use Rattle.std.proofs.lemmas.Str.{IsUtf8-from_ascii, is_utf8-from_IsUtf8}
use Rattle.csv.specs.Machine.{next_record}
use Rattle.csv.specs.Reading.{default_config, records, strip_bom}
use Rattle.csv.specs.Writing.{default_writer, needs_byte, fields_text, is_blank, row_text}
use Rattle.csv.specs.declared.parser.State.TheVariants as st
use Rattle.csv.proofs.RoundTrip.{read-write-many}
use Rattle.field_text.specs.declared.form.Class.{Class}
use Rattle.field_text.specs.declared.form.Class.TheVariants.{Digit, NonZero, Capital, NameByte, Byte}
use Rattle.field_text.specs.declared.field_fault.FieldFault.{FieldFault}
use Rattle.field_text.specs.Form.{Form, nothing, finished, one, many, up_to, either, after, is_nothing, is_in, fault_from}
use Rattle.field_text.specs.Fields.{field, shaped}
use Rattle.field_text.specs.Records.{records_left}
use Rattle.field_text.specs.Rows.{line, line_end}
use Rattle.field_text.proofs.RecordsLeft.{records_left-next, records_left-none}

-- a blank, or a byte from the dash to the letter z: no comma, no quote and no line's end
abbrev pub is_clean : ℕ → Bool
is_clean b = (b == 32) || (nat_le 45 b && nat_le b 122)

abbrev pub are_clean : List ℕ → Bool
are_clean text = list_all is_clean text

-- each field of a record is clean
abbrev pub AreClean : List (List ℕ) → Type 0
AreClean [] = Unit {0}
AreClean (f ∷ fs) = (are_clean f ≡ true) × AreClean fs

clean-bounds : (b : ℕ) → is_clean b ≡ true → (32 ≤ b) × (b ≤ 122)
clean-bounds b h = (grind (arith, nat_tests), grind (arith, nat_tests))

clean-unmarked : (b : ℕ) → is_clean b ≡ true → needs_byte default_writer b ≡ false
clean-unmarked b h =
    let comma : (b == 44) ≡ false = grind (arith, nat_tests) in
    let quote : (b == 34) ≡ false = grind (arith, nat_tests) in
    let back : (b == 13) ≡ false = grind (arith, nat_tests) in
    let feed : (b == 10) ≡ false = grind (arith, nat_tests) in
    rw (comma, quote, back, feed) refl

clean-bare : (text : List ℕ) → are_clean text ≡ true → list_any (needs_byte default_writer) text ≡ false
clean-bare [] h = refl
clean-bare (b ∷ bs) h = let p = and_parts (is_clean b) (are_clean bs) h in rw (clean-unmarked b p.0, clean-bare bs p.1) refl

clean-ascii : (text : List ℕ) → are_clean text ≡ true → IsAscii text
clean-ascii [] h i = omega arith
clean-ascii (b ∷ bs) h zero = let p = clean-bounds b (and_parts (is_clean b) (are_clean bs) h).0 in omega (arith, p.1)
clean-ascii (b ∷ bs) h (suc i) = clean-ascii bs (and_parts (is_clean b) (are_clean bs) h).1 i

pub clean-utf8 : (text : List ℕ) → are_clean text ≡ true → is_utf8 text ≡ true
clean-utf8 text h = is_utf8-from_IsUtf8 text (IsUtf8-from_ascii text (clean-ascii text h))

pub all-utf8 : (fields : List (List ℕ)) → AreClean fields → list_all is_utf8 fields ≡ true
all-utf8 [] h = refl
all-utf8 (f ∷ fs) h = rw (clean-utf8 f h.0, all-utf8 fs h.1) refl

pub clean-append : (a b : List ℕ) → are_clean a ≡ true → are_clean b ≡ true → are_clean (a ++ b) ≡ true
clean-append a b h k = list_all-append is_clean a b ∙ rw (h, k) refl

abbrev pub clean_lines : List (List (List ℕ)) → List ℕ
clean_lines [] = []
clean_lines (r ∷ rs) = line r ++ clean_lines rs

-- records of two or more clean fields
abbrev pub AreCleanRows : List (List (List ℕ)) → Type 0
AreCleanRows [] = Unit {0}
AreCleanRows (r ∷ rs) = (2 ≤ length r) × AreClean r × AreCleanRows rs

end-written : (fs : List (List ℕ)) → AreClean fs → fields_text default_writer fs ++ 10 ∷ [] ≡ line_end fs
unfolding fields_text
end-written [] h = refl
end-written (f ∷ fs) h =
    rw (clean-bare f h.0) (ap (λ (t : List ℕ). 44 ∷ t) (append_assoc f (fields_text default_writer fs) (10 ∷ []) ∙ ap (λ (t : List ℕ). f ++ t) (end-written fs h.1)))

line-written : (f g : List ℕ) (fs : List (List ℕ)) → AreClean (f ∷ g ∷ fs) → row_text default_writer (f ∷ g ∷ fs) ≡ line (f ∷ g ∷ fs)
unfolding is_blank
line-written f g fs h =
    rw (clean-bare f h.0) (append_assoc f (fields_text default_writer (g ∷ fs)) (10 ∷ []) ∙ ap (λ (t : List ℕ). f ++ t) (end-written (g ∷ fs) h.1))

line-read : (r : List (List ℕ)) (tail : List ℕ) → 2 ≤ length r → AreClean r → next_record default_config st.StartRecord [] [] (line r ++ tail) ≡ Some (r, st.StartRecord, tail)
line-read [] tail w h = absurd (omega arith)
line-read (f ∷ []) tail w h = absurd (omega arith)
line-read (f ∷ g ∷ fs) tail w h = ap (λ (t : List ℕ). next_record default_config st.StartRecord [] [] (t ++ tail)) (sym (line-written f g fs h)) ∙ read-write-many f g fs tail

none-read : next_record default_config st.StartRecord [] [] [] ≡ None
unfolding next_record
none-read = refl

lines-left : (rows : List (List (List ℕ))) → AreCleanRows rows → records_left st.StartRecord (clean_lines rows) ≡ rows
lines-left [] h = records_left-none st.StartRecord [] none-read
lines-left (r ∷ rs) h =
    records_left-next st.StartRecord (line r ++ clean_lines rs) (r, st.StartRecord, clean_lines rs) (line-read r (clean_lines rs) h.0 h.1)
    ∙ ap (λ (more : List (List (List ℕ))). r ∷ more) (lines-left rs h.2)

-- a text that begins with no byte order mark keeps all its bytes
unmarked : (a : ℕ) (bs : List ℕ) → a ≤ 122 → strip_bom (a ∷ bs) ≡ a ∷ bs
unfolding strip_bom
unmarked a [] h = refl
unmarked a (b ∷ []) h = refl
unmarked a (b ∷ c ∷ rest) h = let n : (a == 0xEF) ≡ false = grind (arith, nat_tests) in rw n refl

-- the lines read as their fields, where the first one begins with such a byte
pub lines-read : (a : ℕ) (bs : List ℕ) (rows : List (List (List ℕ))) → a ≤ 122 → clean_lines rows ≡ a ∷ bs → AreCleanRows rows → records default_config (strip_bom (clean_lines rows)) ≡ rows
lines-read a bs rows first e h =
    let same : strip_bom (clean_lines rows) ≡ clean_lines rows = ap strip_bom e ∙ unmarked a bs first ∙ sym e in
    ap (λ (t : List ℕ). records default_config t) same ∙ lines-left rows h

-- a text of a form all of whose bytes are clean
abbrev pub is_clean_class : Class → Bool
is_clean_class Digit = true
is_clean_class NonZero = true
is_clean_class Capital = true
is_clean_class NameByte = true
is_clean_class (Byte b) = is_clean b

abbrev pub is_clean_form : Form → Bool
is_clean_form nothing = true
is_clean_form finished = true
is_clean_form (one c f) = is_clean_class c && is_clean_form f
is_clean_form (many c f) = is_clean_class c && is_clean_form f
is_clean_form (up_to n c f) = is_clean_class c && is_clean_form f
is_clean_form (either c f g) = is_clean_class c && (is_clean_form f && is_clean_form g)

clean-class : (c : Class) (b : ℕ) → is_clean_class c ≡ true → is_in c b ≡ true → is_clean b ≡ true
clean-class Digit b h k = grind (arith, nat_tests)
clean-class NonZero b h k = grind (arith, nat_tests)
clean-class Capital b h k = grind (arith, nat_tests)
clean-class NameByte b h k = grind (arith, nat_tests)
clean-class (Byte a) b h k = let same : b ≡ a = grind (arith, nat_tests) in rw same h

abbrev AfterClean : Form → ℕ → Type 0
AfterClean g b = is_nothing g ≡ false → (is_clean b ≡ true) × (is_clean_form g ≡ true)

-- a form goes on behind a clean byte alone
clean-after : (f : Form) (b : ℕ) → is_clean_form f ≡ true → AfterClean (after f b) b
clean-after nothing b h = λ s. cc
clean-after finished b h = λ s. cc
clean-after (one c f) b h = go (is_in c b) refl
  where
    go : (t : Bool) → is_in c b ≡ t → AfterClean (cond t f nothing) b
    go true e = let p = and_parts (is_clean_class c) (is_clean_form f) h in λ s. (clean-class c b p.0 e, p.1)
    go false e = λ s. cc
clean-after (many c f) b h = go (is_in c b) refl (clean-after f b (and_parts (is_clean_class c) (is_clean_form f) h).1)
  where
    go : (t : Bool) → is_in c b ≡ t → AfterClean (after f b) b → AfterClean (cond t (many c f) (after f b)) b
    go true e more = let p = and_parts (is_clean_class c) (is_clean_form f) h in λ s. (clean-class c b p.0 e, h)
    go false e more = more
clean-after (up_to zero c f) b h = clean-after f b (and_parts (is_clean_class c) (is_clean_form f) h).1
clean-after (up_to (suc n) c f) b h = go (is_in c b) refl (clean-after f b (and_parts (is_clean_class c) (is_clean_form f) h).1)
  where
    go : (t : Bool) → is_in c b ≡ t → AfterClean (after f b) b → AfterClean (cond t (up_to n c f) (after f b)) b
    go true e more = let p = and_parts (is_clean_class c) (is_clean_form f) h in λ s. (clean-class c b p.0 e, h)
    go false e more = more
clean-after (either c f g) b h =
    let p = and_parts (is_clean_class c) (is_clean_form f && is_clean_form g) h in
    go (is_in c b) refl p (clean-after g b (and_parts (is_clean_form f) (is_clean_form g) p.1).1)
  where
    go : (t : Bool) → is_in c b ≡ t → (is_clean_class c ≡ true) × ((is_clean_form f && is_clean_form g) ≡ true) → AfterClean (after g b) b → AfterClean (cond t f (after g b)) b
    go true e p more = λ s. (clean-class c b p.0 e, (and_parts (is_clean_form f) (is_clean_form g) p.1).0)
    go false e p more = more

clean-form : (n : ℕ) (f : Form) (text : List ℕ) → is_clean_form f ≡ true → fault_from n f text ≡ None → are_clean text ≡ true
unfolding fault_from
clean-form n f [] h e = refl
clean-form n f (b ∷ bs) h e = go (is_nothing (after f b)) refl e (clean-after f b h) (λ k. clean-form (n + 1) (after f b) bs k)
  where
    go : (t : Bool) → is_nothing (after f b) ≡ t → cond t (Some n) (fault_from (n + 1) (after f b) bs) ≡ None → AfterClean (after f b) b
        → (is_clean_form (after f b) ≡ true → fault_from (n + 1) (after f b) bs ≡ None → are_clean bs ≡ true) → are_clean (b ∷ bs) ≡ true
    go true s e p more = cc
    go false s e p more = let q = p s in rw (q.0, more q.1 e) refl

-- a text that reads as a field of such a form is clean
pub clean-field : {A : Type 0} (form : Form) (value : List ℕ → Result A FieldFault) (text : List ℕ) (x : A) → is_clean_form form ≡ true → field form value text ≡ Ok x → are_clean text ≡ true
clean-field form value [] x h e = refl
clean-field form value (b ∷ bs) x h e = go (fault_from 1 form (b ∷ bs)) refl e
  where
    go : (o : Option ℕ) → fault_from 1 form (b ∷ bs) ≡ o → shaped o (value (b ∷ bs)) ≡ Ok x → are_clean (b ∷ bs) ≡ true
    go None s e = clean-form 1 form (b ∷ bs) h s
    go (Some k) s e = cc
