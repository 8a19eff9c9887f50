-- The numbers of which something holds, one more at a time, and the rows of open pairings.
use Rattle.std.proofs.Common.{◌≡◌, ℕ, ◌+◌, ◌<◌, ◌≤◌, inl, inr, Bool, true, false, List, [], ◌∷◌, ◌++◌, map, refl, sym, ap, subst, ◌∙◌, arith}
use Rattle.std.specs.Prelude.{All, nat_le, ◌||◌, ◌==◌}
use Rattle.std.specs.List.{list_any}
use Rattle.std.proofs.lemmas.Bool.{cases_lt, and_parts, and_from}
use Rattle.std.proofs.lemmas.Bool.Decides.{nat_tests}
use Rattle.std.proofs.lemmas.List.{map-append}
use Rattle.std.proofs.lemmas.List.Elements.{All-append, All-cons, All-nil, All-head, All-tail, All-weaker}
use Rattle.std.proofs.lemmas.List.Folds.{list_any-append}
use Rattle.roster_model.specs.declared.problem.Problem.{Problem}
use Rattle.roster_model.specs.Ascending.{ascends_from}
use Rattle.open_commands.specs.declared.open_stop.OpenRow.{OpenRow}
use Rattle.open_commands.specs.OpenRows.{AreThose, AreNamed, IsOpenRow, vacant_crew}

within : (a b : ℕ) → a ≤ b → nat_le a b ≡ true
within a b le = grind (arith, nat_tests)

itself : (k : ℕ) → (k == k) ≡ true
itself k = grind (arith, nat_tests)

-- a greater number behind numbers that ascend
ascends_more : (xs : List ℕ) (low k : ℕ) → low ≤ k → All (λ x. x < k) xs → ascends_from low xs ≡ true → ascends_from low (xs ++ k ∷ []) ≡ true
ascends_more [] low k le less up = and_from (nat_le low k) true (within low k le) refl
ascends_more (x ∷ xs) low k le less up =
    let parts = and_parts (nat_le low x) (ascends_from (x + 1) xs) up in
    let here : x < k = All-head (λ (y : ℕ). y < k) x xs less in
    and_from (nat_le low x) (ascends_from (x + 1) (xs ++ k ∷ [])) parts.0
    (ascends_more xs (x + 1) k (omega (arith, here)) (All-tail (λ (y : ℕ). y < k) x xs less) parts.1)

or_left : (a b : Bool) → a ≡ true → (a || b) ≡ true
or_left true b e = refl
or_left false b e = absurd cc

or_right : (a b : Bool) → b ≡ true → (a || b) ≡ true
or_right true b e = refl
or_right false b e = e

module _ (P : ℕ → Type 0) where
  pub those_none : AreThose P 0 []
  those_none = record {
    ascending = refl;
    each = All-nil (λ (k : ℕ). (k < 0) × P k);
    all = λ k lt h. absurd (omega (arith, lt));
  }

  pub those_more : (xs : List ℕ) (k : ℕ) → AreThose P k xs → P k → AreThose P (k + 1) (xs ++ k ∷ [])
  those_more xs k those h = record {
    ascending = ascends_more xs 0 k (omega arith) (All-weaker (λ (x : ℕ). (x < k) × P x) (λ (x : ℕ). x < k) (λ x y. y.0) xs those.each) those.ascending;
    each = All-append (λ (x : ℕ). (x < k + 1) × P x) xs (k ∷ [])
        (All-weaker (λ (x : ℕ). (x < k) × P x) (λ (x : ℕ). (x < k + 1) × P x) (λ x y. (omega (arith, y.0), y.1)) xs those.each)
        (All-cons (λ (x : ℕ). (x < k + 1) × P x) k [] (omega arith, h) (All-nil (λ (x : ℕ). (x < k + 1) × P x)));
    all = λ n lt p.
        list_any-append (λ x. x == n) xs (k ∷ [])
        ∙ elim (cases_lt n k) [
          | inl old ↦ or_left (list_any (λ x. x == n) xs) (list_any (λ x. x == n) (k ∷ [])) (those.all n old p)
          | inr new ↦
              (let same : k ≡ n = omega (arith, lt, new) in
              or_right (list_any (λ x. x == n) xs) (list_any (λ x. x == n) (k ∷ []))
              (subst (λ (m : ℕ). list_any (λ x. x == m) (k ∷ []) ≡ true) same (or_left (k == k) false (itself k))))
        ];
  }

  pub those_skip : (xs : List ℕ) (k : ℕ) → AreThose P k xs → (P k → ⊥) → AreThose P (k + 1) xs
  those_skip xs k those not = record {
    ascending = those.ascending;
    each = All-weaker (λ (x : ℕ). (x < k) × P x) (λ (x : ℕ). (x < k + 1) × P x) (λ x y. (omega (arith, y.0), y.1)) xs those.each;
    all = λ n lt p. elim (cases_lt n k) [
      | inl old ↦ those.all n old p
      | inr new ↦ absurd (not (subst P (omega (arith, lt, new)) p))
    ];
  }

  -- and their names
  module _ (name : ℕ → List ℕ) where
    pub named_none : (names : List (List ℕ)) → names ≡ [] → AreNamed P name 0 names
    named_none names e = record { numbers = []; those = those_none; named = e }

    pub named_more : (names longer : List (List ℕ)) (k : ℕ) (one : List ℕ) → AreNamed P name k names → P k → one ≡ name k → longer ≡ names ++ one ∷ []
        → AreNamed P name (k + 1) longer
    named_more names longer k one h p is e = record {
      numbers = h.numbers ++ k ∷ [];
      those = those_more h.numbers k h.those p;
      named = e ∙ ap (λ (xs : List (List ℕ)). xs ++ one ∷ []) h.named ∙ ap (λ (n : List ℕ). map name h.numbers ++ n ∷ []) is
          ∙ sym (map-append name h.numbers (k ∷ []));
    }

    pub named_skip : (names : List (List ℕ)) (k : ℕ) → AreNamed P name k names → (P k → ⊥) → AreNamed P name (k + 1) names
    named_skip names k h not = record { numbers = h.numbers; those = those_skip h.numbers k h.those not; named = h.named }

-- ---- rows, one more at a time

-- a row for each pairing below this number that a vacant line has
pub record AreRowsBelow (problem made : Problem) (roster : List (List ℕ)) (limit : ℕ) (rows : List OpenRow) : Type 0 where
  pub those : AreThose (λ p. 0 < vacant_crew problem roster p) limit (map (λ row. row.number) rows)
  pub each : All (IsOpenRow problem made roster) rows

module _ (problem made : Problem) (roster : List (List ℕ)) where
  pub rows_none : (rows : List OpenRow) → rows ≡ [] → AreRowsBelow problem made roster 0 rows
  rows_none rows e =
      subst (λ (xs : List OpenRow). AreRowsBelow problem made roster 0 xs) (sym e)
      (record { those = those_none (λ p. 0 < vacant_crew problem roster p); each = All-nil (IsOpenRow problem made roster) })

  pub rows_more : (rows longer : List OpenRow) (k : ℕ) (row : OpenRow) → AreRowsBelow problem made roster k rows → 0 < vacant_crew problem roster k
      → IsOpenRow problem made roster row → row.number ≡ k → longer ≡ rows ++ row ∷ [] → AreRowsBelow problem made roster (k + 1) longer
  rows_more rows longer k row h some is number e =
      let numbers : map (λ (r : OpenRow). r.number) longer ≡ map (λ (r : OpenRow). r.number) rows ++ k ∷ [] =
      ap (λ (rs : List OpenRow). map (λ (r : OpenRow). r.number) rs) e
      ∙ map-append (λ (r : OpenRow). r.number) rows (row ∷ [])
      ∙ ap (λ (n : ℕ). map (λ (r : OpenRow). r.number) rows ++ n ∷ []) number in
      record {
        those = subst (λ (ns : List ℕ). AreThose (λ p. 0 < vacant_crew problem roster p) (k + 1) ns) (sym numbers)
            (those_more (λ p. 0 < vacant_crew problem roster p) (map (λ (r : OpenRow). r.number) rows) k h.those some);
        each = subst (λ (rs : List OpenRow). All (IsOpenRow problem made roster) rs) (sym e)
            (All-append (IsOpenRow problem made roster) rows (row ∷ []) h.each (All-cons (IsOpenRow problem made roster) row [] is (All-nil (IsOpenRow problem made roster))));
      }

  pub rows_skip : (rows : List OpenRow) (k : ℕ) → AreRowsBelow problem made roster k rows → (0 < vacant_crew problem roster k → ⊥)
      → AreRowsBelow problem made roster (k + 1) rows
  rows_skip rows k h not = record {
    those = those_skip (λ p. 0 < vacant_crew problem roster p) (map (λ (r : OpenRow). r.number) rows) k h.those not;
    each = h.each;
  }
