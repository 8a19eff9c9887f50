-- Columns that grow, and rounds of their lines.
use Rattle.std.proofs.Common.{◌≡◌, ℕ, ◌+◌, ◌<◌, List, [], ◌∷◌, ◌++◌, length, length-append, get_or, set, length-set, get_or-set_same, get_or-set_other, ap, sym, subst, ◌∙◌, arith, inl, inr}
use Rattle.std.specs.Prelude.{All}
use Rattle.std.proofs.lemmas.Bool.{cases_eq, cases_lt}
use Rattle.std.proofs.lemmas.List.{get_or_append_left, get_or_default}
use Rattle.std.proofs.lemmas.List.Elements.{All-push}
use Rattle.std.proofs.Math.Seq.{get_or-append_seam}
use Rattle.roster_model.specs.declared.problem.Problem.{Problem}
use Rattle.roster_model.specs.declared.goal.Goal.{Goal}
use Rattle.roster_model.specs.declared.node.Decision.{Decision}
use Rattle.roster_model.specs.Rosters.{line_at}
use Rattle.roster_model.specs.Rounds.{IsRound, IsStandardLine}
use Rattle.weight_certificates.specs.Columns.{AreColumns, lines_of}

-- so many lists, each of lines by the standard lens
pub record AreFirst (problem : Problem) (goal : Goal) (node : List Decision) (columns : List (List (List ℕ))) (count : ℕ) : Type 0 where
  pub lists : length columns ≡ count
  pub each : (m : ℕ) → m < count → All (IsStandardLine problem goal node m) (lines_of columns m)

-- so many lines of a round
pub record AreFirstLines (problem : Problem) (goal : Goal) (node : List Decision) (round : List (List ℕ)) (count : ℕ) : Type 0 where
  pub lines : length round ≡ count
  pub each : (m : ℕ) → m < count → IsStandardLine problem goal node m (line_at round m)

-- what is true of the elements before one, and of the one that is added, is true of all
pushed : {X : Type 0} (P : ℕ → X → Type 0) (xs : List X) (x d : X) (k : ℕ) → length xs ≡ k
    → ((m : ℕ) → m < k → P m (get_or xs m d)) → P k x → (m : ℕ) → m < k + 1 → P m (get_or (xs ++ x ∷ []) m d)
pushed P xs x d k count each here m lt =
    elim (cases_lt m k) [
      | inl less ↦ subst (P m) (sym (get_or_append_left xs (x ∷ []) d m (omega (arith, less, count)))) (each m less)
      | inr more ↦
          let same : m ≡ k = omega (arith, lt, more) in
          let last : get_or (xs ++ x ∷ []) m d ≡ x = ap (λ (n : ℕ). get_or (xs ++ x ∷ []) n d) (same ∙ sym count) ∙ get_or-append_seam xs x [] d in
          subst (P m) (sym last) (subst (λ (n : ℕ). P n x) (sym same) here)
    ]

module _ (problem : Problem) (goal : Goal) (node : List Decision) where
  pub first_more : (columns longer : List (List (List ℕ))) (lines : List (List ℕ)) (k : ℕ) → AreFirst problem goal node columns k
      → All (IsStandardLine problem goal node k) lines → longer ≡ columns ++ lines ∷ [] → AreFirst problem goal node longer (k + 1)
  first_more columns longer lines k are here is =
      subst (λ (cs : List (List (List ℕ))). AreFirst problem goal node cs (k + 1)) (sym is)
      (record {
        lists = length-append columns (lines ∷ []) ∙ ap (λ (n : ℕ). n + 1) are.lists;
        each = pushed (λ (m : ℕ) (ls : List (List ℕ)). All (IsStandardLine problem goal node m) ls) columns lines [] k are.lists are.each here;
      })

  pub first_all : (columns : List (List (List ℕ))) (k : ℕ) → AreFirst problem goal node columns k → k ≡ length problem.base.members
      → AreColumns problem goal node columns
  first_all columns k are all = record { per_member = are.lists ∙ all; standard = λ m lt. are.each m (omega (arith, lt, are.lists)) }

  pub first_lines_more : (round longer : List (List ℕ)) (line : List ℕ) (k : ℕ) → AreFirstLines problem goal node round k
      → IsStandardLine problem goal node k line → longer ≡ round ++ line ∷ [] → AreFirstLines problem goal node longer (k + 1)
  first_lines_more round longer line k are here is =
      subst (λ (r : List (List ℕ)). AreFirstLines problem goal node r (k + 1)) (sym is)
      (record {
        lines = length-append round (line ∷ []) ∙ ap (λ (n : ℕ). n + 1) are.lines;
        each = pushed (λ (m : ℕ) (l : List ℕ). IsStandardLine problem goal node m l) round line [] k are.lines are.each here;
      })

  pub first_lines_all : (columns : List (List (List ℕ))) (round : List (List ℕ)) (k : ℕ) → AreFirstLines problem goal node round k
      → AreColumns problem goal node columns → k ≡ length columns → IsRound problem goal node round
  first_lines_all columns round k are columns_are all = record {
    lines = are.lines ∙ all ∙ columns_are.per_member;
    each = λ m lt. are.each m (omega (arith, lt, all, columns_are.per_member));
  }

  -- one line of a column
  pub column_line : (columns : List (List (List ℕ))) (m place : ℕ) (lines : List (List ℕ)) (d line : List ℕ)
      → AreColumns problem goal node columns → m < length columns → lines ≡ lines_of columns m → place < length lines → line ≡ get_or lines place d
      → IsStandardLine problem goal node m line
  column_line columns m place lines d line are lt is inside here =
      subst (IsStandardLine problem goal node m) (sym here)
      (subst (λ (ls : List (List ℕ)). All (IsStandardLine problem goal node m) ls) (sym is) (are.standard m lt) place d inside)

  pub columns_more : (columns : List (List (List ℕ))) (m : ℕ) (line : List ℕ) → AreColumns problem goal node columns → m < length columns
      → IsStandardLine problem goal node m line
      → AreColumns problem goal node (set columns m (lines_of columns m ++ line ∷ []))
  columns_more columns m line are lt is = record {
    per_member = length-set columns m (lines_of columns m ++ line ∷ []) ∙ are.per_member;
    standard =
        λ k inside.
        elim (cases_eq m k) [
          | inl same ↦
              subst (λ (j : ℕ). All (IsStandardLine problem goal node j) (get_or (set columns m (lines_of columns m ++ line ∷ [])) j [])) same
              (subst (λ (ls : List (List ℕ)). All (IsStandardLine problem goal node m) ls) (sym (get_or-set_same columns m (lines_of columns m ++ line ∷ []) [] lt))
              (All-push (IsStandardLine problem goal node m) (lines_of columns m) line (are.standard m lt) is))
          | inr other ↦
              subst (λ (ls : List (List ℕ)). All (IsStandardLine problem goal node k) ls)
              (sym (get_or-set_other columns m k (lines_of columns m ++ line ∷ []) [] (λ e. other (sym e))))
              (are.standard k (omega (arith, inside, length-set columns m (lines_of columns m ++ line ∷ []))))
        ];
  }

  -- the lines of columns are in range
  pub columns_in_range : (columns : List (List (List ℕ))) (pairings : ℕ) → AreColumns problem goal node columns → length problem.base.pairings ≡ pairings
      → All (All (All (λ p. p < pairings))) columns
  columns_in_range columns pairings are same = λ m d lt.
      subst (λ (ls : List (List ℕ)). All (All (λ p. p < pairings)) ls) (sym (get_or_default columns m d [] lt))
      (λ i e inside.
      subst (λ (n : ℕ). All (λ p. p < n) (get_or (lines_of columns m) i e)) same ((are.standard m lt i e inside).passes.in_range))
