-- A roster's rows are read as the lines that they spell, and as no others.
use Rattle.std.proofs.Common.{◌≡◌, ℕ, zero, suc, ◌+◌, ◌<◌, ◌≤◌, Bool, true, false, cond, eqb, List, [], ◌∷◌, ◌++◌, length, Option, Some, None, Result, Ok, Err, refl, sym, ap, subst, ◌∙◌, append_assoc, arith}
use Rattle.std.specs.List.{AllByRecursion}
use Rattle.std.proofs.lemmas.Bool.{eqb-true}
use Rattle.std.proofs.lemmas.List.{append-nil, nil_from_length}
use Rattle.field_text.specs.Steps.{◌>>=◌, or_fault}
use Rattle.roster_model.specs.declared.problem.Problem.{Problem}
use Rattle.roster_text.specs.declared.fault.RosterTextCode.{RosterTextCode}
use Rattle.roster_text.specs.declared.fault.RosterTextCode.TheVariants.{Header, Shape, Member, Pairing, Sums, Rows}
use Rattle.roster_text.specs.declared.fault.RosterTextFault.{RosterTextFault}
use Rattle.roster_text.specs.RosterText.{member_name, names_text, sums_text, row_text, rows_text, roster_header, roster_text, IsLine, IsRoster, IsTextOf}
use Rattle.roster_text.specs.NameReading.{word_at, member_at, pairings_at}
use Rattle.roster_text.specs.RowReading.{at, fault_at, sums_at, fields_at, has_fields, row_at, rows_at, ended, roster_of}
use Rattle.roster_text.proofs.Words.{word_takes, word_again}
use Rattle.roster_text.proofs.MemberLaws.{member_take, member_again}
use Rattle.roster_text.proofs.NameLaws.{pairings_take, pairings_again}
use Rattle.roster_text.proofs.FieldLaws.{row_is, row_has, fields_counted, fields_filled}

pub ok_is : {A E : Type 0} (r : Result A E) (x y : A) → r ≡ Ok x → r ≡ Ok y → x ≡ y
ok_is r x y e f = let g : Ok x ≡ r = sym e in cc

pub err_is : {A E : Type 0} (r : Result A E) (x y : E) → r ≡ Err x → r ≡ Err y → x ≡ y
err_is r x y e f = let g : Err x ≡ r = sym e in cc

pub bind_ok : {A B E : Type 0} (r : Result A E) (f : A → Result B E) (y : B) → (r >>= f) ≡ Ok y → (x : A) × (r ≡ Ok x) × (f x ≡ Ok y)
bind_ok (Ok x) f y e = (x, refl, e)
bind_ok (Err c) f y e = absurd cc

pub need_ok : {A : Type 0} (code : RosterTextCode) (o : Option A) (x : A) → or_fault code o ≡ Ok x → o ≡ Some x
need_ok code (Some y) x e = ap Some (ok_is (or_fault code (Some y)) y x refl e)
need_ok code None x e = absurd cc

at_ok : {A : Type 0} (row : ℕ) (r : Result A RosterTextCode) (x : A) → at row r ≡ Ok x → r ≡ Ok x
at_ok row (Ok y) x e = ap Ok (ok_is (at row (Ok y)) y x refl e)
at_ok row (Err c) x e = absurd cc

abbrev row_given : List ℕ × List ℕ → Result (List ℕ × List ℕ) RosterTextCode
row_given x = Ok x

abbrev rows_given : List (List ℕ) × List ℕ → Result (List (List ℕ) × List ℕ) RosterTextFault
rows_given x = Ok x

-- ---- sums

pub sums_take : (problem : Problem) (m : ℕ) (line bytes after : List ℕ) → sums_at problem m line bytes ≡ Some after → bytes ≡ sums_text problem m line ++ after
unfolding sums_at
sums_take problem m line bytes after e = word_takes (sums_text problem m line) bytes after e

pub sums_again : (problem : Problem) (m : ℕ) (line after : List ℕ) → sums_at problem m line (sums_text problem m line ++ after) ≡ Some after
unfolding sums_at
sums_again problem m line after = word_again (sums_text problem m line) after

-- ---- rows

pub record IsRowTaken (problem : Problem) (m : ℕ) (bytes : List ℕ) (x : List ℕ × List ℕ) : Type 0 where
  pub is : bytes ≡ row_text problem m x.0 ++ x.1
  pub line : IsLine problem x.0

fields_take : (problem : Problem) (m : ℕ) (bytes : List ℕ) (x : List ℕ × List ℕ) → fields_at problem m bytes ≡ Ok x → IsRowTaken problem m bytes x
unfolding fields_at
fields_take problem m bytes x e =
    let summed : List ℕ × List ℕ → Result (List ℕ × List ℕ) RosterTextCode = λ line. or_fault Sums (sums_at problem m line.0 line.1) >>= λ after. Ok (line.0, after) in
    let a = bind_ok (or_fault Member (member_at problem m bytes)) (λ rest. or_fault Pairing (pairings_at problem rest) >>= summed) x e in
    let b = bind_ok (or_fault Pairing (pairings_at problem a.0)) summed x a.2 in
    let c = bind_ok (or_fault Sums (sums_at problem m b.0.0 b.0.1)) (λ after. Ok (b.0.0, after)) x b.2 in
    let name = member_take problem m bytes a.0 (need_ok Member (member_at problem m bytes) a.0 a.1) in
    let line = pairings_take problem a.0 b.0 (need_ok Pairing (pairings_at problem a.0) b.0 b.1) in
    let sums = sums_take problem m b.0.0 b.0.1 c.0 (need_ok Sums (sums_at problem m b.0.0 b.0.1) c.0 c.1) in
    let whole : bytes ≡ row_text problem m b.0.0 ++ c.0 =
    name ∙ ap (λ (t : List ℕ). member_name problem m ++ (44 ∷ t)) (line.is ∙ ap (λ (t : List ℕ). names_text problem b.0.0 ++ (44 ∷ t)) sums)
    ∙ sym (row_is problem m b.0.0 c.0) in
    subst (IsRowTaken problem m bytes) (same (b.0.0, c.0) x c.2)
    (record { is = whole; line = line.line })
  where
    same : (y x : List ℕ × List ℕ) → row_given y ≡ Ok x → y ≡ x
    same y x e = ok_is (row_given y) y x refl e

fields_again : (problem : Problem) (m : ℕ) (line rest : List ℕ) → IsLine problem line → fields_at problem m (row_text problem m line ++ rest) ≡ Ok (line, rest)
unfolding fields_at
fields_again problem m line rest good =
    ap (fields_at problem m) (row_is problem m line rest)
    ∙ rw (
      member_again problem m (names_text problem line ++ (44 ∷ (sums_text problem m line ++ rest))),
      pairings_again problem line (sums_text problem m line ++ rest) good,
      sums_again problem m line rest,
    ) refl

pub row_takes : (problem : Problem) (m : ℕ) (bytes : List ℕ) (x : List ℕ × List ℕ) → row_at problem m bytes ≡ Ok x → IsRowTaken problem m bytes x
unfolding row_at
row_takes problem m bytes x e = by (eqb (length bytes) 0) (has_fields bytes) e
  where
    by : (none four : Bool) → cond none (Err Rows) (cond four (fields_at problem m bytes) (Err Shape)) ≡ Ok x → IsRowTaken problem m bytes x
    by true four e = absurd cc
    by false false e = absurd cc
    by false true e = fields_take problem m bytes x e

pub row_again : (problem : Problem) (m : ℕ) (line rest : List ℕ) → m < length problem.base.members → IsLine problem line
    → row_at problem m (row_text problem m line ++ rest) ≡ Ok (line, rest)
unfolding row_at
row_again problem m line rest lt good =
    let four = fields_counted (row_text problem m line ++ rest) (row_has problem m line rest lt good) in
    rw (fields_filled (row_text problem m line ++ rest) four, four) (fields_again problem m line rest good)

-- ---- all rows

pub record AreRowsTaken (problem : Problem) (m n : ℕ) (bytes : List ℕ) (x : List (List ℕ) × List ℕ) : Type 0 where
  pub is : bytes ≡ rows_text problem m x.0 ++ x.1
  pub lines : length x.0 ≡ n
  pub each : AllByRecursion (IsLine problem) x.0

pub rows_take : (problem : Problem) (n m : ℕ) (bytes : List ℕ) (x : List (List ℕ) × List ℕ) → rows_at problem m n bytes ≡ Ok x → AreRowsTaken problem m n bytes x
unfolding rows_at
rows_take problem zero m bytes x e =
    subst (AreRowsTaken problem m 0 bytes) (ok_is (rows_at problem m 0 bytes) ([], bytes) x refl e) (record { is = refl; lines = refl; each = tt })
rows_take problem (suc n) m bytes x e =
    let a = bind_ok (at (m + 2) (row_at problem m bytes)) (λ first. rows_at problem (m + 1) n first.1 >>= λ others. Ok (first.0 ∷ others.0, others.1)) x e in
    let b = bind_ok (rows_at problem (m + 1) n a.0.1) (λ others. Ok (a.0.0 ∷ others.0, others.1)) x a.2 in
    let first = row_takes problem m bytes a.0 (at_ok (m + 2) (row_at problem m bytes) a.0 a.1) in
    let second = rows_take problem n (m + 1) a.0.1 b.0 b.1 in
    let whole : bytes ≡ rows_text problem m (a.0.0 ∷ b.0.0) ++ b.0.1 =
    first.is ∙ ap (λ (t : List ℕ). row_text problem m a.0.0 ++ t) second.is ∙ sym (append_assoc (row_text problem m a.0.0) (rows_text problem (m + 1) b.0.0) b.0.1) in
    subst (AreRowsTaken problem m (suc n) bytes) (same (a.0.0 ∷ b.0.0, b.0.1) x b.2)
    (record { is = whole; lines = ap suc second.lines; each = (first.line, second.each) })
  where
    same : (y x : List (List ℕ) × List ℕ) → rows_given y ≡ Ok x → y ≡ x
    same y x e = ok_is (rows_given y) y x refl e

abbrev pub Read : Type 0
Read = Result (List (List ℕ) × List ℕ) RosterTextFault

-- what was read before, and what is still read
abbrev pub with_front : List (List ℕ) → Read → Read
with_front front read = read >>= λ x. Ok (front ++ x.0, x.1)

pub whole_front : (read : Read) → with_front [] read ≡ read
whole_front (Ok x) = refl
whole_front (Err e) = refl

one_front : (line : List ℕ) (lines : List (List ℕ)) (read : Read)
    → (with_front lines read >>= λ others. Ok (line ∷ others.0, others.1)) ≡ with_front (line ∷ lines) read
one_front line lines (Ok x) = refl
one_front line lines (Err e) = refl

-- rows of some lines, and the rest read behind them
pub rows_behind : (problem : Problem) (lines : List (List ℕ)) (m n : ℕ) (rest : List ℕ) → AllByRecursion (IsLine problem) lines → m + length lines ≤ length problem.base.members
    → rows_at problem m (length lines + n) (rows_text problem m lines ++ rest) ≡ with_front lines (rows_at problem (m + length lines) n rest)
unfolding rows_at
rows_behind problem [] m n rest each le =
    let k : m ≡ m + 0 = omega arith in
    let z : 0 + n ≡ n = omega arith in
    ap (λ (i : ℕ). rows_at problem m i rest) z ∙ ap (λ (i : ℕ). rows_at problem i n rest) k ∙ sym (whole_front (rows_at problem (m + 0) n rest))
rows_behind problem (line ∷ lines) m n rest each le =
    let k : suc (length lines) + n ≡ suc (length lines + n) = omega arith in
    let j : m + 1 + length lines ≡ m + suc (length lines) = omega arith in
    ap (λ (i : ℕ). rows_at problem m i ((row_text problem m line ++ rows_text problem (m + 1) lines) ++ rest)) k
    ∙ ap (rows_at problem m (suc (length lines + n))) (append_assoc (row_text problem m line) (rows_text problem (m + 1) lines) rest)
    ∙ rw (row_again problem m line (rows_text problem (m + 1) lines ++ rest) (omega (arith, le)) each.0, rows_behind problem lines (m + 1) n rest each.1 (omega (arith, le)))
    (one_front line lines (rows_at problem (m + 1 + length lines) n rest))
    ∙ ap (λ (i : ℕ). with_front (line ∷ lines) (rows_at problem i n rest)) j

pub rows_again : (problem : Problem) (lines : List (List ℕ)) (rest : List ℕ) → IsRoster problem lines
    → rows_at problem 0 (length problem.base.members) (rows_text problem 0 lines ++ rest) ≡ Ok (lines, rest)
unfolding rows_at
rows_again problem lines rest good =
    let k : length problem.base.members ≡ length lines + 0 = omega (arith, good.lines) in
    ap (λ (i : ℕ). rows_at problem 0 i (rows_text problem 0 lines ++ rest)) k
    ∙ rows_behind problem lines 0 0 rest good.each (omega (arith, good.lines))
    ∙ ap (λ (t : List (List ℕ)). Ok (t, rest)) (append-nil lines)

-- ---- the whole text

pub roster_takes : (problem : Problem) (bytes : List ℕ) (roster : List (List ℕ)) → roster_of problem bytes ≡ Ok roster → IsRoster problem roster × (roster_text problem roster ≡ bytes)
unfolding roster_of
roster_takes problem bytes roster e =
    let end : List (List ℕ) × List ℕ → Result (List (List ℕ)) RosterTextFault = ended (length problem.base.members + 2) in
    let a = bind_ok (at 1 (or_fault Header (word_at roster_header bytes))) (λ rest. rows_at problem 0 (length problem.base.members) rest >>= end) roster e in
    let b = bind_ok (rows_at problem 0 (length problem.base.members) a.0) end roster a.2 in
    let g = if_ok (eqb (length b.0.1) 0) (fault_at (length problem.base.members + 2) Rows) b.0.0 roster b.2 in
    let front = word_takes roster_header bytes a.0 (need_ok Header (word_at roster_header bytes) a.0 (at_ok 1 (or_fault Header (word_at roster_header bytes)) a.0 a.1)) in
    let rows = rows_take problem (length problem.base.members) 0 a.0 b.0 b.1 in
    let nothing : b.0.1 ≡ [] = nil_from_length b.0.1 (eqb-true (length b.0.1) 0 g.0) in
    let whole : bytes ≡ roster_text problem b.0.0 =
    front ∙ ap (λ (t : List ℕ). roster_header ++ t) (rows.is ∙ ap (λ (t : List ℕ). rows_text problem 0 b.0.0 ++ t) nothing ∙ append-nil (rows_text problem 0 b.0.0)) in
    subst (λ (r : List (List ℕ)). IsRoster problem r × (roster_text problem r ≡ bytes)) g.1 (record { lines = rows.lines; each = rows.each }, sym whole)
  where
    if_ok : (b : Bool) (f : RosterTextFault) (x y : List (List ℕ)) → cond b (Ok x) (Err f) ≡ Ok y → (b ≡ true) × (x ≡ y)
    if_ok true f x y e = (refl, ok_is (cond true (Ok x) (Err f)) x y refl e)
    if_ok false f x y e = absurd cc

pub roster_again : (problem : Problem) (roster : List (List ℕ)) → IsRoster problem roster → roster_of problem (roster_text problem roster) ≡ Ok roster
unfolding roster_of
roster_again problem roster good =
    let read : rows_at problem 0 (length problem.base.members) (rows_text problem 0 roster) ≡ Ok (roster, []) =
    ap (rows_at problem 0 (length problem.base.members)) (sym (append-nil (rows_text problem 0 roster)))
    ∙ rows_again problem roster [] good in
    rw read refl

pub one_roster : (problem : Problem) (text : List ℕ) (r s : List (List ℕ)) → IsTextOf problem text r → IsTextOf problem text s → r ≡ s
one_roster problem text r s hr hs =
    ok_is (roster_of problem text) r s (ap (roster_of problem) hr.1 ∙ roster_again problem r hr.0) (ap (roster_of problem) hs.1 ∙ roster_again problem s hs.0)
