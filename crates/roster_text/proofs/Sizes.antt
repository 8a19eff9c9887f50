-- A roster's text is short: 200 rows at most, of at most 600 names of at most 16 bytes.
use Rattle.std.proofs.Common.{◌≡◌, ℕ, ◌+◌, ◌*◌, ◌/◌, ◌%◌, ◌<◌, ◌≤◌, ◌^◌, List, [], ◌∷◌, ◌++◌, length, length-append, decimal, Option, refl, sym, ap, subst, append_assoc, arith, inl, inr}
use Rattle.std.specs.Prelude.{All, IsTrue, true, nat_le}
use Rattle.std.specs.List.{AllByRecursion, list_all}
use Rattle.std.specs.Option.{option_map_or}
use Rattle.std.proofs.lemmas.Bool.{and_parts, leb-true}
use Rattle.std.proofs.lemmas.Fmt.{length-decimal-le}
use Rattle.std.proofs.lemmas.Option.{slice_get_cases}
use Rattle.duty_calendar.specs.Forms.{is_name, is_name_byte}
use Rattle.duty_calendar.specs.Checks.{IsPairing, IsMember}
use Rattle.duty_calendar.specs.declared.member.Member.{Member}
use Rattle.duty_calendar.specs.declared.pairing.Pairing.{Pairing}
use Rattle.field_text.specs.Spelling.{number_text, minutes_text, two}
use Rattle.roster_model.specs.declared.problem.Problem.{Problem}
use Rattle.roster_model.specs.Timelines.{credit_of}
use Rattle.roster_model.specs.Scores.{score_of}
use Rattle.roster_model.proofs.Bounds.{ascending-length, credit_bound, score_bound}
use Rattle.roster_text.specs.RosterText.{pairing_name, member_name, names_text, sums_text, row_text, rows_text, roster_header, roster_text, longest_text, IsLine, IsRoster}
use Rattle.roster_text.proofs.FieldLaws.{sums_is}
use Rattle.roster_text.proofs.NameLaws.{All_weaker}

pub short : (name : List ℕ) → is_name name ≡ true → length name ≤ 16
short name h =
    let t = and_parts _ (list_all is_name_byte name) h in
    let s = and_parts (nat_le 1 (length name)) (nat_le (length name) 16) t.0 in
    leb-true (length name) 16 s.1

pub pairing_short : (problem : Problem) (p : ℕ) → length (pairing_name problem p) ≤ 16
pairing_short problem p =
    elim (slice_get_cases problem.base.pairings p).1 [
      | inl there ↦
          let good : is_name there.0.name ≡ true = subst (λ (r : Pairing). IsTrue (is_name r.name)) there.3 (forms p there.0 there.1) in
          let name : pairing_name problem p ≡ there.0.name = ap (λ (o : Option Pairing). option_map_or (λ (r : Pairing). r.name) o []) there.2 in
          subst (λ (n : List ℕ). length n ≤ 16) (sym name) (short there.0.name good)
      | inr past ↦
          let name : pairing_name problem p ≡ [] = ap (λ (o : Option Pairing). option_map_or (λ (r : Pairing). r.name) o []) past.1 in
          subst (λ (n : List ℕ). length n ≤ 16) (sym name) (omega arith)
    ]
  where
    forms : All (λ (p : Pairing). IsTrue (is_name p.name)) problem.base.pairings
    forms = All_weaker (IsPairing problem.base.rules.horizon) (λ (p : Pairing). IsTrue (is_name p.name)) problem.base.pairings (λ p good. good.named) problem.valid.month.pairings_form.each

pub member_short : (problem : Problem) (m : ℕ) → length (member_name problem m) ≤ 16
member_short problem m =
    elim (slice_get_cases problem.base.members m).1 [
      | inl there ↦
          let good : is_name there.0.name ≡ true = subst (λ (r : Member). IsTrue (is_name r.name)) there.3 (forms m there.0 there.1) in
          let name : member_name problem m ≡ there.0.name = ap (λ (o : Option Member). option_map_or (λ (r : Member). r.name) o []) there.2 in
          subst (λ (n : List ℕ). length n ≤ 16) (sym name) (short there.0.name good)
      | inr past ↦
          let name : member_name problem m ≡ [] = ap (λ (o : Option Member). option_map_or (λ (r : Member). r.name) o []) past.1 in
          subst (λ (n : List ℕ). length n ≤ 16) (sym name) (omega arith)
    ]
  where
    forms : All (λ (p : Member). IsTrue (is_name p.name)) problem.base.members
    forms = All_weaker (IsMember problem.base.rules.horizon) (λ (p : Member). IsTrue (is_name p.name)) problem.base.members (λ p good. good.named) problem.valid.month.members_form.each

names_short : (problem : Problem) (line : List ℕ) → length (names_text problem line) ≤ 17 * length line
names_short problem [] = omega arith
names_short problem (p ∷ []) = omega (arith, pairing_short problem p)
names_short problem (p ∷ (q ∷ line)) =
    omega (
      arith,
      length-append (pairing_name problem p) (32 ∷ names_text problem (q ∷ line)),
      pairing_short problem p,
      names_short problem (q ∷ line),
    )

pub number_short : (n : ℕ) → n < 10 ^ 10 → length (decimal n) ≤ 10
number_short n small = length-decimal-le 10 n (omega arith) small (omega (arith, small))

sums_short : (problem : Problem) (m : ℕ) (line : List ℕ) → IsLine problem line → length (sums_text problem m line) ≤ 25
sums_short problem m line good =
    let c = credit_of problem m line in
    let s = score_of problem m line in
    let low_c : c ≤ 7920000 = credit_bound problem m line good.ascending good.in_range in
    let low_s : s ≤ 64000 = score_bound problem m line in
    let hours = number_short (c / 60) (omega (arith, low_c)) in
    let points = number_short s (omega (arith, low_s)) in
    let a = length-append (minutes_text c) (44 ∷ (number_text s ++ (10 ∷ []))) in
    let b = length-append (decimal (c / 60)) (58 ∷ two (c % 60)) in
    let d = length-append (number_text s) (10 ∷ []) in
    subst (λ (t : List ℕ). length t ≤ 25) (sym (sums_is problem m line)) (omega (arith, a, b, d, hours, points))

row_short : (problem : Problem) (m : ℕ) (line : List ℕ) → IsLine problem line → length (row_text problem m line) ≤ 10243
row_short problem m line good =
    let is : row_text problem m line ≡ member_name problem m ++ (44 ∷ (names_text problem line ++ (44 ∷ sums_text problem m line))) = simp append_assoc in
    let whole : length (row_text problem m line) ≡ length (member_name problem m ++ (44 ∷ (names_text problem line ++ (44 ∷ sums_text problem m line)))) = ap (λ (t : List ℕ). length t) is in
    omega (
      arith,
      whole,
      length-append (member_name problem m) (44 ∷ (names_text problem line ++ (44 ∷ sums_text problem m line))),
      length-append (names_text problem line) (44 ∷ sums_text problem m line),
      member_short problem m,
      names_short problem line,
      ascending-length line (length problem.base.pairings) good.ascending good.in_range,
      problem.valid.month.pairings_form.few,
      sums_short problem m line good,
    )

rows_short : (problem : Problem) (m : ℕ) (lines : List (List ℕ)) → AllByRecursion (IsLine problem) lines → length (rows_text problem m lines) ≤ 10243 * length lines
rows_short problem m [] each = omega arith
rows_short problem m (line ∷ lines) each =
    omega (
      arith,
      length-append (row_text problem m line) (rows_text problem (m + 1) lines),
      row_short problem m line each.0,
      rows_short problem (m + 1) lines each.1,
    )

pub text_short : (problem : Problem) (roster : List (List ℕ)) → IsRoster problem roster → length (roster_text problem roster) ≤ longest_text
text_short problem roster good =
    let header : length roster_header ≡ 29 = refl in
    omega (
      arith,
      length-append roster_header (rows_text problem 0 roster),
      header,
      rows_short problem 0 roster good.each,
      good.lines,
      problem.valid.month.members_form.few,
    )
