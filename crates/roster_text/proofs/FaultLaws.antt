-- A text without a roster has one fault: what the reader says, and nothing else.
use Rattle.std.proofs.Common.{◌≡◌, ◌≢◌, ℕ, zero, suc, ◌+◌, ◌-◌, ◌<◌, Bool, true, false, cond, eqb, List, [], ◌∷◌, ◌++◌, length, Option, Some, None, Result, Ok, Err, refl, sym, ap, subst, ◌∙◌, append_assoc, arith, inl, inr}
use Rattle.std.specs.List.{AllByRecursion}
use Rattle.std.proofs.lemmas.Bool.{eqb-true, ne_eqb, false≢true}
use Rattle.std.proofs.lemmas.List.{nil_from_length}
use Rattle.field_text.specs.Steps.{◌>>=◌, or_fault}
use Rattle.roster_model.specs.declared.problem.Problem.{Problem}
use Rattle.roster_text.specs.declared.fault.RosterTextCode.{RosterTextCode}
use Rattle.roster_text.specs.declared.fault.RosterTextCode.TheVariants.{NoMemory, Header, Shape, Member, Pairing, Sums, Rows}
use Rattle.roster_text.specs.declared.fault.RosterTextFault.{RosterTextFault}
use Rattle.roster_text.specs.RosterText.{member_name, names_text, sums_text, row_text, rows_text, roster_header, IsLine, IsTextOf}
use Rattle.roster_text.specs.RosterFaults.{is_plain, HasRow, IsWrongRow, HasFault}
use Rattle.roster_text.specs.NameReading.{word_at, member_at, pairings_at}
use Rattle.roster_text.specs.RowReading.{at, fault_at, row_of, sums_at, fields_at, has_fields, row_at, rows_at, ended, roster_of}
use Rattle.roster_text.proofs.Words.{word_takes, word_again, same_front}
use Rattle.roster_text.proofs.MemberLaws.{member_take, member_again}
use Rattle.roster_text.proofs.NameLaws.{pairings_take, pairings_again}
use Rattle.roster_text.proofs.FieldLaws.{member_field, names_field, sums_same, fields_counted, row_counted, fields_filled}
use Rattle.roster_text.proofs.RowLaws.{Read, err_is, sums_take, sums_again, row_takes, rows_take, rows_behind, rows_again, roster_again}

abbrev wrong_code : RosterTextCode → Result (List ℕ × List ℕ) RosterTextCode
wrong_code e = Err e

abbrev wrong_rows : RosterTextFault → Result (List (List ℕ) × List ℕ) RosterTextFault
wrong_rows e = Err e

abbrev wrong_text : RosterTextFault → Result (List (List ℕ)) RosterTextFault
wrong_text e = Err e

-- the reader of a row, by what its parts gave
abbrev with_sums : List ℕ → Option (List ℕ) → Result (List ℕ × List ℕ) RosterTextCode
with_sums line o = or_fault Sums o >>= λ after. Ok (line, after)

abbrev with_line : Problem → ℕ → Option (List ℕ × List ℕ) → Result (List ℕ × List ℕ) RosterTextCode
with_line problem m o = or_fault Pairing o >>= λ x. with_sums x.0 (sums_at problem m x.0 x.1)

abbrev with_member : Problem → ℕ → Option (List ℕ) → Result (List ℕ × List ℕ) RosterTextCode
with_member problem m o = or_fault Member o >>= λ rest. with_line problem m (pairings_at problem rest)

-- the reader of rows, by what the first row gave
abbrev with_first : List ℕ → Read → Read
with_first line r = r >>= λ others. Ok (line ∷ others.0, others.1)

abbrev with_row : Problem → ℕ → ℕ → Result (List ℕ × List ℕ) RosterTextCode → Read
with_row problem m n r = at (m + 2) r >>= λ first. with_first first.0 (rows_at problem (m + 1) n first.1)

none_some : {A : Type 0} (o : Option A) (x : A) → o ≡ None → o ≡ Some x → ⊥
none_some o x e f = let g : None ≡ o = sym e in absurd cc

-- equations of faults, at the types of the readers
code_is : (x y : RosterTextCode) → wrong_code x ≡ wrong_code y → x ≡ y
code_is x y e = err_is (wrong_code x) x y refl e

whole_is : (x y : RosterTextFault) → wrong_rows x ≡ wrong_rows y → x ≡ y
whole_is x y e = err_is (wrong_rows x) x y refl e

all_is : (x y : RosterTextFault) → wrong_text x ≡ wrong_text y → x ≡ y
all_is x y e = err_is (wrong_text x) x y refl e

filled : (bytes : List ℕ) → eqb (length bytes) 0 ≡ false → bytes ≢ []
filled bytes h e = false≢true (sym h ∙ ap (λ (t : List ℕ). eqb (length t) 0) e)

some_length : (bytes : List ℕ) → bytes ≢ [] → eqb (length bytes) 0 ≡ false
some_length [] some = absurd (some refl)
some_length (b ∷ bs) some = ne_eqb (length (b ∷ bs)) 0 (λ e. absurd (omega (arith, e)))

-- ---- what a wrong row is, from what the reader says of it

module _ (problem : Problem) (m : ℕ) (bytes : List ℕ) (code : RosterTextCode) (lt : m < length problem.base.members) (row : HasRow bytes) where
  abbrev behind_names : List ℕ
  behind_names = row.credit ++ (44 ∷ (row.score ++ (10 ∷ row.rest)))

  abbrev behind_member : List ℕ
  behind_member = row.pairings ++ (44 ∷ behind_names)

  -- the member that was read is the row's
  its_member : (rest : List ℕ) → member_at problem m bytes ≡ Some rest → (row.member ≡ member_name problem m) × (behind_member ≡ rest)
  its_member rest o =
      same_front is_plain row.member (member_name problem m) 44 44 behind_member rest row.member_field (member_field problem m lt) refl refl
      (sym row.is ∙ member_take problem m bytes rest o)

  -- and so are the pairings
  its_pairings : (rest : List ℕ) (x : List ℕ × List ℕ) → behind_member ≡ rest → pairings_at problem rest ≡ Some x
      → IsLine problem x.0 × (row.pairings ≡ names_text problem x.0) × (behind_names ≡ x.1)
  its_pairings rest x e o =
      let t = pairings_take problem rest x o in
      let s = same_front is_plain row.pairings (names_text problem x.0) 44 44 behind_names x.1 row.pairings_field (names_field problem x.0 t.line.in_range) refl refl (e ∙ t.is) in
      (t.line, s.0, s.1)

  sums_stand : (line after : List ℕ) → IsLine problem line → sums_at problem m line behind_names ≡ Some after
      → row.credit ++ (44 ∷ (row.score ++ (10 ∷ []))) ≡ sums_text problem m line
  sums_stand line after good o =
      sums_same problem m line row.credit row.score row.rest after good row.credit_field row.score_field (sums_take problem m line behind_names after o)

  sums_found : (line : List ℕ) → row.credit ++ (44 ∷ (row.score ++ (10 ∷ []))) ≡ sums_text problem m line → sums_at problem m line behind_names ≡ Some row.rest
  sums_found line e =
      ap (sums_at problem m line) (cut row.credit row.score row.rest ∙ ap (λ (t : List ℕ). t ++ row.rest) e) ∙ sums_again problem m line row.rest
    where
      cut : (a b rest : List ℕ) → a ++ (44 ∷ (b ++ (10 ∷ rest))) ≡ (a ++ (44 ∷ (b ++ (10 ∷ [])))) ++ rest
      cut a b rest = simp append_assoc

  fields_wrong : fields_at problem m bytes ≡ Err code → IsWrongRow problem m bytes code
  unfolding fields_at
  fields_wrong e = by_member (member_at problem m bytes) refl e
    where
      by_sums : (rest : List ℕ) (x : List ℕ × List ℕ) (o : Option (List ℕ)) → row.member ≡ member_name problem m → IsLine problem x.0 → row.pairings ≡ names_text problem x.0
          → behind_names ≡ x.1 → sums_at problem m x.0 x.1 ≡ o → with_sums x.0 o ≡ Err code → IsWrongRow problem m bytes code
      by_sums rest x None member line pairings here o e =
          subst (IsWrongRow problem m bytes) (code_is Sums code e) (
            row,
            member,
            x.0,
            line,
            pairings,
            λ same. none_some (sums_at problem m x.0 x.1) row.rest o (ap (sums_at problem m x.0) (sym here) ∙ sums_found x.0 same),
          )
      by_sums rest x (Some after) member line pairings here o e = absurd cc

      by_pairings : (rest : List ℕ) (o : Option (List ℕ × List ℕ)) → row.member ≡ member_name problem m → behind_member ≡ rest → pairings_at problem rest ≡ o
          → with_line problem m o ≡ Err code → IsWrongRow problem m bytes code
      by_pairings rest None member here o e =
          subst (IsWrongRow problem m bytes) (code_is Pairing code e) (
            row,
            member,
            λ line good same. none_some (pairings_at problem rest) (line, behind_names) o
                (ap (pairings_at problem) (sym here ∙ ap (λ (t : List ℕ). t ++ (44 ∷ behind_names)) same) ∙ pairings_again problem line behind_names good),
          )
      by_pairings rest (Some x) member here o e =
          let t = its_pairings rest x here o in
          by_sums rest x (sums_at problem m x.0 x.1) member t.0 t.1 t.2 refl e

      by_member : (o : Option (List ℕ)) → member_at problem m bytes ≡ o
          → with_member problem m o ≡ Err code → IsWrongRow problem m bytes code
      by_member None o e =
          subst (IsWrongRow problem m bytes) (code_is Member code e) (
            row,
            λ same. none_some (member_at problem m bytes) behind_member o
                (ap (member_at problem m) (row.is ∙ ap (λ (t : List ℕ). t ++ (44 ∷ behind_member)) same) ∙ member_again problem m behind_member),
          )
      by_member (Some rest) o e =
          let t = its_member rest o in
          by_pairings rest (pairings_at problem rest) t.0 t.1 refl e

pub wrong_row : (problem : Problem) (m : ℕ) (bytes : List ℕ) (code : RosterTextCode) → m < length problem.base.members → row_at problem m bytes ≡ Err code → IsWrongRow problem m bytes code
unfolding row_at
wrong_row problem m bytes code lt e = by (eqb (length bytes) 0) refl (has_fields bytes) refl e
  where
    by : (none : Bool) → eqb (length bytes) 0 ≡ none → (four : Bool) → has_fields bytes ≡ four
        → cond none (Err Rows) (cond four (fields_at problem m bytes) (Err Shape)) ≡ Err code → IsWrongRow problem m bytes code
    by true n four f e = subst (IsWrongRow problem m bytes) (code_is Rows code e) (nil_from_length bytes (eqb-true (length bytes) 0 n))
    by false n true f e = fields_wrong problem m bytes code lt (row_counted bytes f) e
    by false n false f e =
        subst (IsWrongRow problem m bytes) (code_is Shape code e) (filled bytes n, λ row. false≢true (sym f ∙ fields_counted bytes row))

-- ---- what the reader says of a wrong row

row_wrong : (problem : Problem) (m : ℕ) (bytes : List ℕ) (code : RosterTextCode) → m < length problem.base.members → IsWrongRow problem m bytes code → row_at problem m bytes ≡ Err code
unfolding row_at fields_at
row_wrong problem m bytes NoMemory lt w = absurd w
row_wrong problem m bytes Header lt w = absurd w
row_wrong problem m bytes Rows lt w = rw w refl
row_wrong problem m bytes Shape lt w = rw (some_length bytes w.0) (by (has_fields bytes) refl)
  where
    by : (four : Bool) → has_fields bytes ≡ four → cond four (fields_at problem m bytes) (Err Shape) ≡ Err Shape
    by true f = absurd (w.1 (row_counted bytes f))
    by false f = refl
row_wrong problem m bytes Member lt w =
    let four = fields_counted bytes w.0 in
    rw (fields_filled bytes four, four) (by (member_at problem m bytes) refl)
  where
    by : (o : Option (List ℕ)) → member_at problem m bytes ≡ o
        → with_member problem m o ≡ Err Member
    by None o = refl
    by (Some rest) o = absurd (w.1 (its_member problem m bytes Member lt w.0 rest o).0)
row_wrong problem m bytes Pairing lt w =
    let four = fields_counted bytes w.0 in
    let named : member_at problem m bytes ≡ Some (behind_member problem m bytes Pairing lt w.0) =
    ap (member_at problem m) (w.0.is ∙ ap (λ (t : List ℕ). t ++ (44 ∷ behind_member problem m bytes Pairing lt w.0)) w.1) ∙ member_again problem m (behind_member problem m bytes Pairing lt w.0) in
    rw (fields_filled bytes four, four, named) (by (pairings_at problem (behind_member problem m bytes Pairing lt w.0)) refl)
  where
    by : (o : Option (List ℕ × List ℕ)) → pairings_at problem (behind_member problem m bytes Pairing lt w.0) ≡ o
        → with_line problem m o ≡ Err Pairing
    by None o = refl
    by (Some x) o =
        let t = its_pairings problem m bytes Pairing lt w.0 (behind_member problem m bytes Pairing lt w.0) x refl o in
        absurd (w.2 x.0 t.0 t.1)
row_wrong problem m bytes Sums lt w =
    let four = fields_counted bytes w.0 in
    let names = behind_names problem m bytes Sums lt w.0 in
    let member = behind_member problem m bytes Sums lt w.0 in
    let named : member_at problem m bytes ≡ Some member =
    ap (member_at problem m) (w.0.is ∙ ap (λ (t : List ℕ). t ++ (44 ∷ member)) w.1) ∙ member_again problem m member in
    let paired : pairings_at problem member ≡ Some (w.2, names) =
    ap (pairings_at problem) (ap (λ (t : List ℕ). t ++ (44 ∷ names)) w.4) ∙ pairings_again problem w.2 names w.3 in
    rw (fields_filled bytes four, four, named, paired) (by (sums_at problem m w.2 names) refl)
  where
    by : (o : Option (List ℕ)) → sums_at problem m w.2 (behind_names problem m bytes Sums lt w.0) ≡ o → with_sums w.2 o ≡ Err Sums
    by None o = refl
    by (Some after) o = absurd (w.5 (sums_stand problem m bytes Sums lt w.0 w.2 after w.3 o))

-- ---- the first wrong row

real : (problem : Problem) (m : ℕ) (bytes : List ℕ) (code : RosterTextCode) (row : ℕ) → IsWrongRow problem m bytes code → row_of row code ≡ row
real problem m bytes NoMemory row w = absurd w
real problem m bytes Header row w = refl
real problem m bytes Shape row w = refl
real problem m bytes Member row w = refl
real problem m bytes Pairing row w = refl
real problem m bytes Sums row w = refl
real problem m bytes Rows row w = refl

fault_is : (f : RosterTextFault) (row : ℕ) (code : RosterTextCode) → row_of row code ≡ row → f.row ≡ row → f.code ≡ code → fault_at row code ≡ f
fault_is f row code e r c = rw (e, sym r, sym c) refl

-- from the row of member m on
record IsWrongFrom (problem : Problem) (m : ℕ) (bytes : List ℕ) (fault : RosterTextFault) : Type 0 where
  lines : List (List ℕ)
  each : AllByRecursion (IsLine problem) lines
  place : ℕ
  is_place : place ≡ m + length lines
  due : place < length problem.base.members
  rest : List ℕ
  is : bytes ≡ rows_text problem m lines ++ rest
  row : fault.row ≡ place + 2
  wrong : IsWrongRow problem place rest fault.code

rows_wrong : (problem : Problem) (n m : ℕ) (bytes : List ℕ) (fault : RosterTextFault) → m + n ≡ length problem.base.members → rows_at problem m n bytes ≡ Err fault → IsWrongFrom problem m bytes fault
unfolding rows_at
rows_wrong problem zero m bytes fault whole e = absurd cc
rows_wrong problem (suc n) m bytes fault whole e =
    by (row_at problem m bytes) refl e (λ b f. rows_wrong problem n (m + 1) b fault (omega (arith, whole)) f)
  where
    tail : (x : List ℕ × List ℕ) (r : Read) → with_first x.0 r ≡ Err fault → r ≡ Err fault
    tail x (Ok y) e = absurd cc
    tail x (Err f) e = ap Err (whole_is f fault e)

    by : (r : Result (List ℕ × List ℕ) RosterTextCode) → row_at problem m bytes ≡ r
        → with_row problem m n r ≡ Err fault
        → ((b : List ℕ) → rows_at problem (m + 1) n b ≡ Err fault → IsWrongFrom problem (m + 1) b fault)
        → IsWrongFrom problem m bytes fault
    by (Err code) o e again =
        let lt : m < length problem.base.members = omega (arith, whole) in
        let w = wrong_row problem m bytes code lt o in
        let f : fault_at (m + 2) code ≡ fault = whole_is (fault_at (m + 2) code) fault e in
        record {
          lines = [];
          each = tt;
          place = m;
          is_place = omega arith;
          due = lt;
          rest = bytes;
          is = refl;
          row = ap (λ (x : RosterTextFault). x.row) (sym f) ∙ real problem m bytes code (m + 2) w;
          wrong = subst (λ (x : RosterTextFault). IsWrongRow problem m bytes x.code) f w;
        }
    by (Ok x) o e again =
        let t = again x.1 (tail x (rows_at problem (m + 1) n x.1) e) in
        let first = row_takes problem m bytes x o in
        record {
          lines = x.0 ∷ t.lines;
          each = (first.line, t.each);
          place = t.place;
          is_place = t.is_place ∙ (let k : m + 1 + length t.lines ≡ m + suc (length t.lines) = omega arith in k);
          due = t.due;
          rest = t.rest;
          is =
              first.is ∙ ap (λ (b : List ℕ). row_text problem m x.0 ++ b) t.is
              ∙ sym (append_assoc (row_text problem m x.0) (rows_text problem (m + 1) t.lines) t.rest);
          row = t.row;
          wrong = t.wrong;
        }

-- ---- the whole text

pub roster_wrong : (problem : Problem) (text : List ℕ) (fault : RosterTextFault) → roster_of problem text ≡ Err fault → HasFault problem text fault
unfolding roster_of
roster_wrong problem text fault e = by_header (word_at roster_header text) refl e
  where
    by_end : (rest : List ℕ) (rows : List (List ℕ) × List ℕ) (b : Bool) → text ≡ roster_header ++ rest → rows_at problem 0 (length problem.base.members) rest ≡ Ok rows
        → eqb (length rows.1) 0 ≡ b → cond b (Ok rows.0) (Err (fault_at (length problem.base.members + 2) Rows)) ≡ Err fault → HasFault problem text fault
    by_end rest rows true front o t e = absurd cc
    by_end rest rows false front o t e =
        let f : fault_at (length problem.base.members + 2) Rows ≡ fault = all_is (fault_at (length problem.base.members + 2) Rows) fault e in
        let taken = rows_take problem (length problem.base.members) 0 rest rows o in
        inr (inr (record {
          lines = rows.0;
          each = record { lines = taken.lines; each = taken.each };
          rest = rows.1;
          is = front ∙ ap (λ (b : List ℕ). roster_header ++ b) taken.is;
          row = ap (λ (x : RosterTextFault). x.row) (sym f);
          code = ap (λ (x : RosterTextFault). x.code) (sym f);
          some = filled rows.1 t;
        }))

    by_rows : (rest : List ℕ) (r : Result (List (List ℕ) × List ℕ) RosterTextFault) → text ≡ roster_header ++ rest → rows_at problem 0 (length problem.base.members) rest ≡ r
        → (r >>= ended (length problem.base.members + 2)) ≡ Err fault → HasFault problem text fault
    by_rows rest (Ok rows) front o e = by_end rest rows (eqb (length rows.1) 0) front o refl e
    by_rows rest (Err f) front o e =
        let same : f ≡ fault = all_is f fault e in
        let w = rows_wrong problem (length problem.base.members) 0 rest fault (omega arith) (o ∙ ap Err same) in
        let place : w.place ≡ length w.lines = w.is_place ∙ (let k : 0 + length w.lines ≡ length w.lines = omega arith in k) in
        inr (inl (record {
          lines = w.lines;
          each = w.each;
          due = subst (λ (k : ℕ). k < length problem.base.members) place w.due;
          rest = w.rest;
          is = front ∙ ap (λ (b : List ℕ). roster_header ++ b) w.is;
          row = w.row ∙ ap (λ (k : ℕ). k + 2) place;
          wrong = subst (λ (k : ℕ). IsWrongRow problem k w.rest fault.code) place w.wrong;
        }))

    by_header : (o : Option (List ℕ)) → word_at roster_header text ≡ o
        → (at 1 (or_fault Header o) >>= λ rest. rows_at problem 0 (length problem.base.members) rest >>= ended (length problem.base.members + 2)) ≡ Err fault → HasFault problem text fault
    by_header None o e =
        let f : fault_at 1 Header ≡ fault = all_is (fault_at 1 Header) fault e in
        inl (record {
          row = ap (λ (x : RosterTextFault). x.row) (sym f);
          code = ap (λ (x : RosterTextFault). x.code) (sym f);
          other = λ rest same. none_some (word_at roster_header text) rest o (ap (word_at roster_header) same ∙ word_again roster_header rest);
        })
    by_header (Some rest) o e =
        by_rows rest (rows_at problem 0 (length problem.base.members) rest) (word_takes roster_header text rest o) refl e

pub fault_found : (problem : Problem) (text : List ℕ) (fault : RosterTextFault) → HasFault problem text fault → roster_of problem text ≡ Err fault
unfolding roster_of rows_at
fault_found problem text fault (inl h) = by (word_at roster_header text) refl
  where
    by : (o : Option (List ℕ)) → word_at roster_header text ≡ o
        → (at 1 (or_fault Header o) >>= λ rest. rows_at problem 0 (length problem.base.members) rest >>= ended (length problem.base.members + 2)) ≡ Err fault
    by None o = ap Err (fault_is fault 1 Header refl h.row h.code)
    by (Some rest) o = absurd (h.other rest (word_takes roster_header text rest o))
fault_found problem text fault (inr (inl w)) =
    let k = length w.lines in
    let n = length problem.base.members in
    let bytes = rows_text problem 0 w.lines ++ w.rest in
    let count : n ≡ k + suc (n - (k + 1)) = omega (arith, w.due) in
    let here : row_at problem k w.rest ≡ Err fault.code = row_wrong problem k w.rest fault.code w.due w.wrong in
    let same : fault_at (k + 2) fault.code ≡ fault = fault_is fault (k + 2) fault.code (real problem k w.rest fault.code (k + 2) w.wrong) w.row refl in
    let next : rows_at problem (0 + k) (suc (n - (k + 1))) w.rest ≡ Err fault =
    ap (λ (i : ℕ). rows_at problem i (suc (n - (k + 1))) w.rest) (let z : 0 + k ≡ k = omega arith in z) ∙ rw here (ap Err same) in
    let rows : rows_at problem 0 n bytes ≡ Err fault =
    ap (λ (i : ℕ). rows_at problem 0 i bytes) count ∙ rows_behind problem w.lines 0 (suc (n - (k + 1))) w.rest w.each (omega (arith, w.due)) ∙ rw next refl in
    ap (λ (t : List ℕ). roster_of problem t) w.is ∙ rw rows refl
fault_found problem text fault (inr (inr w)) =
    let bytes = rows_text problem 0 w.lines ++ w.rest in
    ap (λ (t : List ℕ). roster_of problem t) w.is
    ∙ rw (rows_again problem w.lines w.rest w.each, some_length w.rest w.some)
    (ap Err (fault_is fault (length problem.base.members + 2) Rows refl w.row w.code))

pub one_fault : (problem : Problem) (text : List ℕ) (f g : RosterTextFault) → HasFault problem text f → HasFault problem text g → f ≡ g
one_fault problem text f g hf hg = err_is (roster_of problem text) f g (fault_found problem text f hf) (fault_found problem text g hg)

pub not_both : (problem : Problem) (text : List ℕ) (r : List (List ℕ)) (f : RosterTextFault) → IsTextOf problem text r → ¬ (HasFault problem text f)
not_both problem text r f good h =
    apart (roster_of problem text) r f (ap (roster_of problem) good.1 ∙ roster_again problem r good.0) (fault_found problem text f h)
  where
    apart : {A E : Type 0} (o : Result A E) (x : A) (y : E) → o ≡ Ok x → o ≡ Err y → ⊥
    apart o x y e f = let g : Ok x ≡ o = sym e in absurd cc
