-- What the flights of an item make of a row of nights.
use Rattle.std.proofs.Common.{◌≡◌, ℕ, suc, ◌+◌, min, ◌<◌, ◌≤◌, Bool, true, false, ◌&&◌, List, [], ◌∷◌, ◌++◌, Option, Some, None, refl, ap, sym, ◌∙◌, arith, inl, inr, ◌⊎◌}
use Rattle.std.specs.Prelude.{nat_lt, nat_le, unwrap_or, if◌then◌else◌}
use Rattle.std.proofs.lemmas.Bool.{and_parts, cases_Bool, true≢false}
use Rattle.std.proofs.lemmas.Bool.Decides.{nat_tests}
use Rattle.duty_calendar.specs.declared.event.Event.{Event}
use Rattle.duty_calendar.specs.Nights.{infringes}
use Rattle.label_lattice.specs.declared.runs.Run.{Run}
use Rattle.label_lattice.specs.declared.runs.RunStep.{RunStep}
use Rattle.label_lattice.specs.Run.{run_extend}
use Rattle.line_items.specs.NightRows.{is_soon_night, night_after, nights_after, released_after, stays_short, lead_after, all_after, lead_of, reset_of, alone_of}

-- flights after a row that they may follow, and by themselves
pub row_short : (n k released : ℕ) (es : List Event) → n + k ≤ 3
    → stays_short (n + k) released es ≡ (stays_short k released es && nat_le ((n + k) + lead_after released es) 3)
row_short n k released [] few = sym (fits (n + k) few)
  where
    fits : (m : ℕ) → m ≤ 3 → nat_le (m + 0) 3 ≡ true
    fits m h = grind (arith, nat_tests)
row_short n k released (e ∷ es) few = go (infringes e) (nat_lt e.report (released + 1800)) (λ small. row_short n (k + 1) e.release es small)
  where
    fits : (m : ℕ) → m ≤ 3 → nat_le (m + 0) 3 ≡ true
    fits m h = grind (arith, nat_tests)

    under : (m p : ℕ) → nat_lt (m + 1) 4 ≡ true → p ≡ m + 1 → p ≤ 3
    under m p h e = grind (arith, nat_tests)

    less : (a b p : ℕ) → p ≤ 3 → p ≡ a + (b + 1) → nat_lt (b + 1) 4 ≡ true
    less a b p h e = grind (arith, nat_tests)

    over : (m l : ℕ) → nat_lt (m + 1) 4 ≡ false → nat_le (m + suc l) 3 ≡ false
    over m l h = grind (arith, nat_tests)

    and_false : (a : Bool) → (a && false) ≡ false
    and_false true = refl
    and_false false = refl

    and_true : (a b : Bool) → b ≡ true → (a && b) ≡ a
    and_true true b h = h
    and_true false b h = refl

    -- the same, of the tests of the first flight
    go : (a b : Bool)
        → (n + (k + 1) ≤ 3 → stays_short (n + (k + 1)) e.release es ≡ (stays_short (k + 1) e.release es && nat_le ((n + (k + 1)) + lead_after e.release es) 3))
        → (nat_lt (if a then (if b then (n + k) + 1 else 1) else 0) 4 && stays_short (if a then (if b then (n + k) + 1 else 1) else 0) e.release es)
        ≡ ((nat_lt (if a then (if b then k + 1 else 1) else 0) 4 && stays_short (if a then (if b then k + 1 else 1) else 0) e.release es)
        && nat_le ((n + k) + (if a && b then suc (lead_after e.release es) else 0)) 3)
    go true true more = elim (cases_Bool (nat_lt ((n + k) + 1) 4)) [
      | inl small ↦
          let le : n + (k + 1) ≤ 3 = under (n + k) (n + (k + 1)) small (omega arith) in
          let other : nat_lt (k + 1) 4 ≡ true = less n k (n + (k + 1)) le (omega arith) in
          let at : (n + k) + 1 ≡ n + (k + 1) = omega arith in
          let sum : (n + (k + 1)) + lead_after e.release es ≡ (n + k) + suc (lead_after e.release es) = omega arith in
          ap (λ (b : Bool). b && stays_short ((n + k) + 1) e.release es) small
          ∙ ap (λ (m : ℕ). stays_short m e.release es) at ∙ more le
          ∙ ap (λ (m : ℕ). stays_short (k + 1) e.release es && nat_le m 3) sum
          ∙ ap (λ (b : Bool). (b && stays_short (k + 1) e.release es) && nat_le ((n + k) + suc (lead_after e.release es)) 3) (sym other)
      | inr large ↦
          let past : nat_le ((n + k) + suc (lead_after e.release es)) 3 ≡ false = over (n + k) (lead_after e.release es) large in
          ap (λ (b : Bool). b && stays_short ((n + k) + 1) e.release es) large
          ∙ sym (ap (λ (b : Bool). (nat_lt (k + 1) 4 && stays_short (k + 1) e.release es) && b) past ∙ and_false (nat_lt (k + 1) 4 && stays_short (k + 1) e.release es))
    ]
    go true false more = sym (and_true (nat_lt 1 4 && stays_short 1 e.release es) (nat_le ((n + k) + 0) 3) (fits (n + k) few))
    go false b more = sym (and_true (nat_lt 0 4 && stays_short 0 e.release es) (nat_le ((n + k) + 0) 3) (fits (n + k) few))

pub row_left : (n k released : ℕ) (es : List Event)
    → nights_after (n + k) released es ≡ (if all_after released es then (n + k) + lead_after released es else nights_after k released es)
row_left n k released [] = omega arith
row_left n k released (e ∷ es) = go (infringes e) (nat_lt e.report (released + 1800)) (row_left n (k + 1) e.release es)
  where
    go : (a b : Bool)
        → nights_after (n + (k + 1)) e.release es ≡ (if all_after e.release es then (n + (k + 1)) + lead_after e.release es else nights_after (k + 1) e.release es)
        → nights_after (if a then (if b then (n + k) + 1 else 1) else 0) e.release es
        ≡ (if (a && b) && all_after e.release es then (n + k) + (if a && b then suc (lead_after e.release es) else 0)
        else nights_after (if a then (if b then k + 1 else 1) else 0) e.release es)
    go true true more =
        let at : (n + k) + 1 ≡ n + (k + 1) = omega arith in
        let sum : (n + (k + 1)) + lead_after e.release es ≡ (n + k) + suc (lead_after e.release es) = omega arith in
        ap (λ (m : ℕ). nights_after m e.release es) at ∙ more
        ∙ ap (λ (m : ℕ). if all_after e.release es then m else nights_after (k + 1) e.release es) sum
    go true false more = refl
    go false b more = refl

-- where no row was before, it is no matter when it ended
pub none_before : (released : ℕ) (es : List Event)
    → (stays_short 0 released es ≡ stays_short 0 0 es) × (nights_after 0 released es ≡ nights_after 0 0 es)
none_before released [] = (refl, refl)
none_before released (e ∷ es) =
    let same = one (infringes e) (nat_lt e.report (released + 1800)) (nat_lt e.report (0 + 1800)) in
    (ap (λ (m : ℕ). nat_lt m 4 && stays_short m e.release es) same, ap (λ (m : ℕ). nights_after m e.release es) same)
  where
    one : (a b c : Bool) → (if a then (if b then 0 + 1 else 1) else 0) ≡ (if a then (if c then 0 + 1 else 1) else 0)
    one true true true = refl
    one true true false = refl
    one true false true = refl
    one true false false = refl
    one false b c = refl

-- a row that is over by then
pub row_over : (n released : ℕ) (e : Event) (es : List Event) → nat_lt e.report (released + 1800) ≡ false
    → (stays_short n released (e ∷ es) ≡ stays_short 0 0 (e ∷ es)) × (nights_after n released (e ∷ es) ≡ nights_after 0 0 (e ∷ es))
row_over n released e es late =
    let same = one (infringes e) (nat_lt e.report (released + 1800)) (nat_lt e.report (0 + 1800)) late in
    (ap (λ (m : ℕ). nat_lt m 4 && stays_short m e.release es) same, ap (λ (m : ℕ). nights_after m e.release es) same)
  where
    one : (a b c : Bool) → b ≡ false → (if a then (if b then n + 1 else 1) else 0) ≡ (if a then (if c then 0 + 1 else 1) else 0)
    one true true c h = absurd (true≢false h)
    one true false true h = refl
    one true false false h = refl
    one false b c h = refl

-- all that is soon after the one is soon after the other
pub lead_soon : (released begins : ℕ) (e : Event) (es : List Event) → nat_lt e.report (released + 1800) ≡ true → nat_lt e.report (begins + 1800) ≡ true
    → (lead_after released (e ∷ es) ≡ lead_after begins (e ∷ es)) × (all_after released (e ∷ es) ≡ all_after begins (e ∷ es))
lead_soon released begins e es a b =
    let same : is_soon_night released e ≡ is_soon_night begins e = ap (λ (t : Bool). infringes e && t) (a ∙ sym b) in
    (ap (λ (t : Bool). if t then suc (lead_after e.release es) else 0) same, ap (λ (t : Bool). t && all_after e.release es) same)

-- a row that stays short
pub short_row : (n released : ℕ) (es : List Event) → n ≤ 3 → stays_short n released es ≡ true → nights_after n released es ≤ 3
short_row n released [] few short = few
short_row n released (e ∷ es) few short =
    let parts = and_parts (nat_lt (night_after n released e) 4) (stays_short (night_after n released e) e.release es) short in
    short_row (night_after n released e) e.release es (under (night_after n released e) parts.0) parts.1
  where
    under : (m : ℕ) → nat_lt m 4 ≡ true → m ≤ 3
    under m h = grind (arith, nat_tests)

-- one list of flights after another
pub short_more : (n released : ℕ) (es fs : List Event)
    → stays_short n released (es ++ fs) ≡ (stays_short n released es && stays_short (nights_after n released es) (released_after released es) fs)
short_more n released [] fs = refl
short_more n released (e ∷ es) fs =
    ap (λ (b : Bool). nat_lt (night_after n released e) 4 && b) (short_more (night_after n released e) e.release es fs)
    ∙ and_move (nat_lt (night_after n released e) 4) (stays_short (night_after n released e) e.release es) _
  where
    and_move : (a b c : Bool) → (a && (b && c)) ≡ ((a && b) && c)
    and_move true b c = refl
    and_move false b c = refl

-- three nights in a row are as bad as more
pub short_from_three : (n released : ℕ) (es : List Event) → stays_short n released es ≡ stays_short (min 3 n) released es
short_from_three n released [] = refl
short_from_three n released (e ∷ es) =
    go (infringes e) (nat_lt e.report (released + 1800)) (cases_Bool (nat_lt n 4))
  where
    least : (n : ℕ) → nat_lt n 4 ≡ true → n ≡ min 3 n
    least n h = let lt : n < 4 = grind (arith, nat_tests) in omega arith

    past : (n : ℕ) → nat_lt n 4 ≡ false → nat_lt (n + 1) 4 ≡ false
    past n h = grind (arith, nat_tests)

    past_three : (n : ℕ) → nat_lt n 4 ≡ false → nat_lt (min 3 n + 1) 4 ≡ false
    past_three n h = grind (arith, nat_tests)

    go : (a b : Bool) → (nat_lt n 4 ≡ true) ⊎ (nat_lt n 4 ≡ false) → (nat_lt (if a then (if b then n + 1 else 1) else 0) 4 && stays_short (if a then (if b then n + 1 else 1) else 0) e.release es)
        ≡ (nat_lt (if a then (if b then min 3 n + 1 else 1) else 0) 4 && stays_short (if a then (if b then min 3 n + 1 else 1) else 0) e.release es)
    go true true (inl small) =
        let same : n ≡ min 3 n = least n small in
        ap (λ (m : ℕ). nat_lt (m + 1) 4 && stays_short (m + 1) e.release es) same
    go true true (inr large) =
        ap (λ (b : Bool). b && stays_short (n + 1) e.release es) (past n large)
        ∙ sym (ap (λ (b : Bool). b && stays_short (min 3 n + 1) e.release es) (past_three n large))
    go true false c = refl
    go false b c = refl

-- the step of a run to flights that follow soon
abbrev pub soon_step : ℕ → List Event → RunStep
soon_step begins es = record { lead = lead_of begins es; reset = reset_of begins es; cap = 3 }

-- and to others
abbrev pub alone_step : List Event → RunStep
alone_step es = record { lead = alone_of es; reset = Some (nights_after 0 0 es); cap = 3 }

-- what a run comes to
abbrev pub run_to : Bool → ℕ → Option Run
run_to short n = if short then Some (record { value = n }) else None

-- the step says whether the row stays short, and what is left
pub soon_run : (n released begins : ℕ) (e : Event) (es : List Event) → n ≤ 3 → nat_lt e.report (released + 1800) ≡ true → nat_lt e.report (begins + 1800) ≡ true
    → run_extend (record { value = n }) (soon_step begins (e ∷ es)) ≡ run_to (stays_short n released (e ∷ es)) (nights_after n released (e ∷ es))
soon_run n released begins e es few soon here =
    go (stays_short 0 0 (e ∷ es)) (all_after begins (e ∷ es)) (stays_short n released (e ∷ es)) (nights_after n released (e ∷ es)) short left
  where
    leads : (lead_after released (e ∷ es) ≡ lead_after begins (e ∷ es)) × (all_after released (e ∷ es) ≡ all_after begins (e ∷ es))
    leads = lead_soon released begins e es soon here

    alone : (stays_short 0 released (e ∷ es) ≡ stays_short 0 0 (e ∷ es)) × (nights_after 0 released (e ∷ es) ≡ nights_after 0 0 (e ∷ es))
    alone = none_before released (e ∷ es)

    zero_more : n + 0 ≡ n
    zero_more = omega arith

    short : stays_short n released (e ∷ es) ≡ (stays_short 0 0 (e ∷ es) && nat_le (n + lead_after begins (e ∷ es)) 3)
    short =
        ap (λ (m : ℕ). stays_short m released (e ∷ es)) (sym zero_more) ∙ row_short n 0 released (e ∷ es) (omega arith)
        ∙ ap (λ (b : Bool). b && nat_le ((n + 0) + lead_after released (e ∷ es)) 3) alone.0
        ∙ ap (λ (m : ℕ). stays_short 0 0 (e ∷ es) && nat_le (m + lead_after released (e ∷ es)) 3) zero_more
        ∙ ap (λ (m : ℕ). stays_short 0 0 (e ∷ es) && nat_le (n + m) 3) leads.0

    left : nights_after n released (e ∷ es) ≡ (if all_after begins (e ∷ es) then n + lead_after begins (e ∷ es) else nights_after 0 0 (e ∷ es))
    left =
        ap (λ (m : ℕ). nights_after m released (e ∷ es)) (sym zero_more) ∙ row_left n 0 released (e ∷ es)
        ∙ ap (λ (b : Bool). if b then (n + 0) + lead_after released (e ∷ es) else nights_after 0 released (e ∷ es)) leads.1
        ∙ ap (λ (m : ℕ). if all_after begins (e ∷ es) then m + lead_after released (e ∷ es) else nights_after 0 released (e ∷ es)) zero_more
        ∙ ap (λ (m : ℕ). if all_after begins (e ∷ es) then n + m else nights_after 0 released (e ∷ es)) leads.0
        ∙ ap (λ (m : ℕ). if all_after begins (e ∷ es) then n + lead_after begins (e ∷ es) else m) alone.1

    four : (n : ℕ) → nat_le (n + 4) 3 ≡ false
    four n = grind (arith, nat_tests)

    go : (s all t : Bool) (row : ℕ) → t ≡ (s && nat_le (n + lead_after begins (e ∷ es)) 3)
        → row ≡ (if all then n + lead_after begins (e ∷ es) else nights_after 0 0 (e ∷ es))
        → (if nat_le (n + (if s then lead_after begins (e ∷ es) else 4)) 3 then Some (record { value = unwrap_or (if all then None else Some (nights_after 0 0 (e ∷ es))) (n + (if s then lead_after begins (e ∷ es) else 4)) }) else None)
        ≡ run_to t row
    go false all t row p q = ap (λ (b : Bool). if b then Some (record { value = unwrap_or (if all then None else Some (nights_after 0 0 (e ∷ es))) (n + 4) }) else None) (four n) ∙ sym (ap (λ (b : Bool). run_to b row) p)
    go true true t row p q =
        ap (λ (m : ℕ). run_to (nat_le (n + lead_after begins (e ∷ es)) 3) m) (sym q) ∙ ap (λ (b : Bool). run_to b row) (sym p)
    go true false t row p q =
        ap (λ (m : ℕ). run_to (nat_le (n + lead_after begins (e ∷ es)) 3) m) (sym q) ∙ ap (λ (b : Bool). run_to b row) (sym p)

pub alone_run : (n released : ℕ) (e : Event) (es : List Event) → n ≤ 3 → nat_lt e.report (released + 1800) ≡ false
    → run_extend (record { value = n }) (alone_step (e ∷ es)) ≡ run_to (stays_short n released (e ∷ es)) (nights_after n released (e ∷ es))
alone_run n released e es few late =
    let over = row_over n released e es late in
    go (stays_short 0 0 (e ∷ es)) (stays_short n released (e ∷ es)) (nights_after n released (e ∷ es)) over.0 over.1
  where
    none_more : (n : ℕ) → n ≤ 3 → nat_le (n + 0) 3 ≡ true
    none_more n h = grind (arith, nat_tests)

    four : (n : ℕ) → nat_le (n + 4) 3 ≡ false
    four n = grind (arith, nat_tests)

    go : (s t : Bool) (row : ℕ) → t ≡ s → row ≡ nights_after 0 0 (e ∷ es)
        → (if nat_le (n + (if s then 0 else 4)) 3 then Some (record { value = nights_after 0 0 (e ∷ es) }) else None) ≡ run_to t row
    go true t row p q =
        ap (λ (b : Bool). if b then Some (record { value = nights_after 0 0 (e ∷ es) }) else None) (none_more n few)
        ∙ ap (λ (m : ℕ). Some (record { value = m })) (sym q) ∙ ap (λ (b : Bool). run_to b row) (sym p)
    go false t row p q =
        ap (λ (b : Bool). if b then Some (record { value = nights_after 0 0 (e ∷ es) }) else None) (four n) ∙ ap (λ (b : Bool). run_to b row) (sym p)
