-- Counters side by side along a walk: each runs as if it were alone.
use Rattle.std.proofs.Common.{◌≡◌, ℕ, zero, suc, ◌+◌, ◌≤◌, true, false, List, [], ◌∷◌, Option, Some, None, length, refl, ap, sym, ◌∙◌, arith, inl, inr}
use Rattle.std.specs.Prelude.{sum_by, nat_le}
use Rattle.std.specs.List.{AllByRecursion}
use Rattle.std.proofs.lemmas.Bool.Decides.{nat_tests}
use Rattle.std.proofs.lemmas.Bool.{and_parts, and_from, cases_Bool}
use Rattle.std.proofs.lemmas.List.Sums.{sum_by-cons}
use Rattle.label_lattice.specs.declared.counters.Usage.{Usage}
use Rattle.label_lattice.specs.declared.counters.UsageStep.{UsageStep}
use Rattle.label_lattice.specs.Usage.{counters_below, counters_sum, usage_extend}
use Rattle.roster_model.specs.declared.proof.Window.{Window}
use Rattle.line_items.proofs.Walks.{and_then, run, along}
use Rattle.line_items.specs.WindowMinutes.{spread}

pub sum_spread : (n : ℕ) (f g : Window → ℕ) (ws : List Window)
    → counters_sum (spread n f ws) (spread n g ws) ≡ spread n (λ w. f w + g w) ws
sum_spread zero f g ws = refl
sum_spread (suc n) f g [] = ap (λ (xs : List ℕ). 0 ∷ xs) (sum_spread n f g [])
sum_spread (suc n) f g (w ∷ ws) = ap (λ (xs : List ℕ). (f w + g w) ∷ xs) (sum_spread n f g ws)

pub le_true : (a b : ℕ) → a ≤ b → nat_le a b ≡ true
le_true a b h = grind (arith, nat_tests)

pub le_from : (a b : ℕ) → nat_le a b ≡ true → a ≤ b
le_from a b h = grind (arith, nat_tests)

below_spread : (n : ℕ) (f c : Window → ℕ) (ws : List Window) → AllByRecursion (λ w. f w ≤ c w) ws
    → counters_below (spread n f ws) (spread n c ws) ≡ true
below_spread zero f c ws all = refl
below_spread (suc n) f c [] all = below_spread n f c [] tt
below_spread (suc n) f c (w ∷ ws) all =
    and_from (nat_le (f w) (c w)) (counters_below (spread n f ws) (spread n c ws)) (le_true (f w) (c w) all.0) (below_spread n f c ws all.1)

spread_below : (n : ℕ) (f c : Window → ℕ) (ws : List Window) → length ws ≤ n
    → counters_below (spread n f ws) (spread n c ws) ≡ true → AllByRecursion (λ w. f w ≤ c w) ws
spread_below n f c [] few h = tt
spread_below zero f c (w ∷ ws) few h = absurd (omega arith)
spread_below (suc n) f c (w ∷ ws) few h =
    let parts = and_parts (nat_le (f w) (c w)) (counters_below (spread n f ws) (spread n c ws)) h in
    (le_from (f w) (c w) parts.0, spread_below n f c ws (omega arith) parts.1)

all_more : (P Q : Window → Type 0) (ws : List Window) → ((w : Window) → P w → Q w) → AllByRecursion P ws → AllByRecursion Q ws
all_more P Q [] h all = tt
all_more P Q (w ∷ ws) h all = (h w all.0, all_more P Q ws h all.1)

pub extend_some : {N : ℕ} (xs amounts caps sums : List ℕ) → counters_sum xs amounts ≡ sums → counters_below sums caps ≡ true
    → usage_extend {N = N} (record { counters = xs }) (record { amounts = amounts; caps = caps }) ≡ Some (record { counters = sums })
extend_some xs amounts caps sums e h = rw (e, h) refl

pub extend_none : {N : ℕ} (xs amounts caps sums : List ℕ) → counters_sum xs amounts ≡ sums → counters_below sums caps ≡ false
    → usage_extend {N = N} (record { counters = xs }) (record { amounts = amounts; caps = caps }) ≡ None
extend_none xs amounts caps sums e h = rw (e, h) refl

absurd_none : {N : ℕ} {Q : Type 0} (b : Usage N) → ◌≡◌ {A = Option (Usage N)} None (Some b) → Q
absurd_none b h = cc

module _ {N : ℕ} (ws : List Window) (g : ℕ → Window → ℕ) (cap : Window → ℕ) where
  -- a step that adds what the place has
  abbrev pub counter_step : ℕ → ℕ → UsageStep N
  counter_step i j = record { amounts = spread N (g j) ws; caps = spread N cap ws }

  abbrev counters_at : (Window → ℕ) → Usage N
  counters_at f = record { counters = spread N f ws }

  step_fits : (f : Window → ℕ) (i j : ℕ) → AllByRecursion (λ w. f w + g j w ≤ cap w) ws
      → usage_extend {N = N} (counters_at f) (counter_step i j) ≡ Some (counters_at (λ w. f w + g j w))
  step_fits f i j all =
      extend_some {N = N} (spread N f ws) (spread N (g j) ws) (spread N cap ws) (spread N (λ w. f w + g j w) ws) (sum_spread N f (g j) ws)
      (below_spread N (λ w. f w + g j w) cap ws all)

  -- they run where each total keeps within its cap
  pub counters_run : (f : Window → ℕ) (i : ℕ) (js : List ℕ) → AllByRecursion (λ w. f w + sum_by (λ j. g j w) js ≤ cap w) ws
      → (last : Usage N) × (run usage_extend (counters_at f) (along counter_step i js) ≡ Some last)
  counters_run f i [] all = (counters_at f, refl)
  counters_run f i (j ∷ js) all =
      let split = λ (w : Window). sum_by-cons (λ (k : ℕ). g k w) j js in
      let here = all_more (λ w. f w + sum_by (λ k. g k w) (j ∷ js) ≤ cap w) (λ w. f w + g j w ≤ cap w) ws (λ w h. omega (arith, split w, h)) all in
      let later = all_more (λ w. f w + sum_by (λ k. g k w) (j ∷ js) ≤ cap w) (λ w. (f w + g j w) + sum_by (λ k. g k w) js ≤ cap w) ws (λ w h. omega (arith, split w, h)) all in
      let rest = counters_run (λ w. f w + g j w) j js later in
      (rest.0, ap (λ o. and_then o (λ q. run usage_extend q (along counter_step j js))) (step_fits f i j here) ∙ rest.1)

  refused : {Q : Type 0} (f : Window → ℕ) (i j : ℕ) (js : List ℕ) (last : Usage N)
      → counters_below (spread N (λ w. f w + g j w) ws) (spread N cap ws) ≡ false
      → run usage_extend (counters_at f) (along counter_step i (j ∷ js)) ≡ Some last → Q
  refused f i j js last fails runs =
      let none = extend_none {N = N} (spread N f ws) (spread N (g j) ws) (spread N cap ws) (spread N (λ w. f w + g j w) ws) (sum_spread N f (g j) ws) fails in
      absurd_none last (ap (λ o. and_then o (λ q. run usage_extend q (along counter_step j js))) (sym none) ∙ runs)

  -- and only there
  pub counters_ran : length ws ≤ N → (f : Window → ℕ) (i j : ℕ) (js : List ℕ) (last : Usage N)
      → run usage_extend (counters_at f) (along counter_step i (j ∷ js)) ≡ Some last
      → AllByRecursion (λ w. f w + sum_by (λ k. g k w) (j ∷ js) ≤ cap w) ws
  counters_ran few f i j [] last runs =
      elim (cases_Bool (counters_below (spread N (λ w. f w + g j w) ws) (spread N cap ws))) [
        | inl fits ↦
            all_more (λ w. f w + g j w ≤ cap w) (λ w. f w + sum_by (λ k. g k w) (j ∷ []) ≤ cap w) ws
            (λ w h. let split = sum_by-cons (λ (k : ℕ). g k w) j [] in let nil : sum_by (λ (k : ℕ). g k w) [] ≡ 0 = refl in omega arith)
            (spread_below N (λ w. f w + g j w) cap ws few fits)
        | inr fails ↦ refused f i j [] last fails runs
      ]
  counters_ran few f i j (k ∷ ks) last runs =
      elim (cases_Bool (counters_below (spread N (λ w. f w + g j w) ws) (spread N cap ws))) [
        | inl fits ↦
            let here = spread_below N (λ w. f w + g j w) cap ws few fits in
            let on = ap (λ o. and_then o (λ q. run usage_extend q (along counter_step j (k ∷ ks)))) (sym (step_fits f i j here)) ∙ runs in
            all_more (λ w. (f w + g j w) + sum_by (λ l. g l w) (k ∷ ks) ≤ cap w) (λ w. f w + sum_by (λ l. g l w) (j ∷ (k ∷ ks)) ≤ cap w) ws
            (λ w h. let split = sum_by-cons (λ (l : ℕ). g l w) j (k ∷ ks) in omega arith)
            (counters_ran few (λ w. f w + g j w) j k ks last on)
        | inr fails ↦ refused f i j (k ∷ ks) last fails runs
      ]
