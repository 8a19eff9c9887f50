-- What a walk makes of the start of the latest free block.
use Rattle.std.proofs.Common.{◌≡◌, ◌==◌, ℕ, max, ◌<◌, ◌≤◌, true, false, List, [], ◌∷◌, Option, Some, None, refl, ap, sym, ◌∙◌, subst, arith, inl, inr, ◌⊎◌}
use Rattle.std.specs.Prelude.{nat_le, unwrap_or, if◌then◌else◌}
use Rattle.std.proofs.lemmas.Bool.Decides.{nat_tests}
use Rattle.std.proofs.lemmas.Bool.{cases_Bool, false≢true}
use Rattle.label_lattice.specs.declared.values.Latest.{Latest}
use Rattle.label_lattice.specs.declared.values.LatestStep.{LatestStep}
use Rattle.label_lattice.specs.Latest.{latest_extend}
use Rattle.line_items.proofs.Walks.{and_then, run, along}
use Rattle.line_items.proofs.Completing.{Completes}
use Rattle.line_items.proofs.Walking.{is_in_list, ascends}
use Rattle.line_items.proofs.Visits.{or_parts, or_left_true, or_right_true, eq_from, eq_to, above}

-- two stops in a row
pub record Next (all : List ℕ) (i j : ℕ) : Type 0 where
  pub later : i < j
  pub from : (i ≡ 0) ⊎ (is_in_list all i ≡ true)
  pub to : is_in_list all j ≡ true
  pub between : (k : ℕ) → is_in_list all k ≡ true → (k ≤ i) ⊎ (j ≤ k)

-- each two stops in a row from place i on
abbrev pub InARow : List ℕ → ℕ → List ℕ → Type 0
InARow all i [] = Unit {0}
InARow all i (j ∷ js) = Next all i j × InARow all j js

-- the stops of an ascending list
pub in_a_row : (js : List ℕ) → ascends 0 js → InARow js 0 js
in_a_row all up = go 0 all up (inl refl) (λ k h. inr h) (λ k h. h)
  where
    go : (i : ℕ) (js : List ℕ) → ascends i js → (i ≡ 0) ⊎ (is_in_list all i ≡ true)
        → ((k : ℕ) → is_in_list all k ≡ true → (k ≤ i) ⊎ (is_in_list js k ≡ true))
        → ((k : ℕ) → is_in_list js k ≡ true → is_in_list all k ≡ true) → InARow all i js
    go i [] up from parts within = tt
    go i (j ∷ js) up from parts within =
        let here = within j (or_left_true (j == j) (is_in_list js j) (eq_to j j refl)) in (
          record {
            later = up.0;
            from = from;
            to = here;
            between = λ k h. elim (parts k h) [
              | inl le ↦ inl le
              | inr there ↦ inr (elim (or_parts (j == k) (is_in_list js k) there) [
                | inl now ↦ let e = eq_from j k now in omega arith
                | inr later ↦ let r = above j js up.1 k later in omega arith
              ])
            ];
          },
          go j js up.1 (inr here)
              (λ k h. elim (parts k h) [
                | inl le ↦ inl (let u = up.0 in omega arith)
                | inr there ↦ elim (or_parts (j == k) (is_in_list js k) there) [
                  | inl now ↦ inl (let e = eq_from j k now in omega arith)
                  | inr later ↦ inr later
                ]
              ])
              (λ k h. within k (or_right_true (j == k) (is_in_list js k) h)),
        )

step_fits : (v : ℕ) (step : LatestStep) → step.least ≤ max v (unwrap_or step.renew 0)
    → latest_extend (record { value = v }) step ≡ Some (record { value = max v (unwrap_or step.renew 0) })
step_fits v step le = go step.least (max v (unwrap_or step.renew 0)) le
  where
    go : (least w : ℕ) → least ≤ w → ◌≡◌ {A = Option Latest} (if nat_le least w then Some (record { value = w }) else None) (Some (record { value = w }))
    go least w le = let t : nat_le least w ≡ true = grind (arith, nat_tests) in rw t refl

step_fails : (v : ℕ) (step : LatestStep) → nat_le step.least (max v (unwrap_or step.renew 0)) ≡ false
    → latest_extend (record { value = v }) step ≡ None
step_fails v step gt = rw gt refl

absurd_none : {Q : Type 0} (b : Latest) → ◌≡◌ {A = Option Latest} None (Some b) → Q
absurd_none b h = cc

module _ (step : ℕ → ℕ → LatestStep) (all : List ℕ) (State : ℕ → ℕ → Type 0) (Good : ℕ → Type 0)
    (onto : (i j v : ℕ) → Next all i j → State i v → State j (max v (unwrap_or (step i j).renew 0)))
    (enough : (i j v : ℕ) → Next all i j → State j v → Good j → (step i j).least ≤ v)
    (good : (i j v : ℕ) → Next all i j → State j v → (step i j).least ≤ v → Good j) where
  -- a walk runs where each of its stops is good
  pub latest_runs : (i v : ℕ) (js : List ℕ) → InARow all i js → State i v → ((k : ℕ) → is_in_list js k ≡ true → Good k)
      → Completes {E = Unit {0}} latest_extend (λ _ _. true) (record { value = v }) tt (along step i js)
  latest_runs i v [] row state each = record { last = record { value = v }; runs = refl; is_done = refl }
  latest_runs i v (j ∷ js) row state each =
      let next = onto i j v row.0 state in
      let le = enough i j (max v (unwrap_or (step i j).renew 0)) row.0 next (each j (or_left_true (j == j) (is_in_list js j) (eq_to j j refl))) in
      let rest = latest_runs j (max v (unwrap_or (step i j).renew 0)) js row.1 next (λ k h. each k (or_right_true (j == k) (is_in_list js k) h)) in
      record {
        last = rest.last;
        runs = ap (λ o. and_then o (λ q. run latest_extend q (along step j js))) (step_fits v (step i j) le) ∙ rest.runs;
        is_done = refl;
      }

  -- and only there
  pub latest_ran : (i v : ℕ) (js : List ℕ) (b : Latest) → InARow all i js → State i v
      → run latest_extend (record { value = v }) (along step i js) ≡ Some b → (k : ℕ) → is_in_list js k ≡ true → Good k
  latest_ran i v [] b row state runs k h = absurd (false≢true h)
  latest_ran i v (j ∷ js) b row state runs k h =
      let w = max v (unwrap_or (step i j).renew 0) in
      elim (cases_Bool (nat_le (step i j).least w)) [
        | inl fits ↦
            let le = le_from (step i j).least w fits in
            let next = onto i j v row.0 state in
            let on : run latest_extend (record { value = w }) (along step j js) ≡ Some b =
            sym (ap (λ o. and_then o (λ q. run latest_extend q (along step j js))) (step_fits v (step i j) le)) ∙ runs in
            elim (or_parts (j == k) (is_in_list js k) h) [
              | inl here ↦ subst Good (eq_from j k here) (good i j w row.0 next le)
              | inr later ↦ latest_ran j w js b row.1 next on k later
            ]
        | inr not_fits ↦
            absurd_none b (sym (ap (λ o. and_then o (λ q. run latest_extend q (along step j js))) (step_fails v (step i j) not_fits)) ∙ runs)
      ]
    where
      le_from : (a b : ℕ) → nat_le a b ≡ true → a ≤ b
      le_from a b h = grind (arith, nat_tests)
