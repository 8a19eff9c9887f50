-- Where a lens looks at no free blocks and no days, passing over leaves each part of a label as it is.
use Rattle.std.proofs.Common.{◌≡◌, ℕ, zero, suc, ◌+◌, ◌-◌, ◌^◌, min, max, ◌<◌, ◌≤◌, Bool, true, List, [], ◌∷◌, Option, Some, None, refl, ap, sym, ◌∙◌, subst, arith, inl, inr}
use Rattle.std.specs.Prelude.{nat_le, bit_and, bit_or, if◌then◌else◌}
use Rattle.std.specs.Int.{bit_at}
use Rattle.std.specs.Int.Bits.{or_zero_r}
use Rattle.std.proofs.Math.Path.{fun_ext}
use Rattle.std.proofs.lemmas.Bool.{cases_Bool, and_parts, and_from}
use Rattle.std.proofs.lemmas.Bool.Decides.{nat_tests}
use Rattle.std.proofs.lemmas.Nat.{and_le_l, or_lt}
use Rattle.std.proofs.lemmas.Nat.Bits.{same_from_bits_below, bit_at_and, bit_at_ones, bit_at-lt}
use Rattle.label_lattice.specs.declared.counters.Usage.{Usage}
use Rattle.label_lattice.specs.declared.masks.Mask.{Mask}
use Rattle.label_lattice.specs.declared.spans.Span.{Span}
use Rattle.label_lattice.specs.declared.values.Latest.{Latest}
use Rattle.label_lattice.specs.declared.values.LatestStep.{LatestStep}
use Rattle.label_lattice.specs.declared.values.Least.{Least}
use Rattle.label_lattice.specs.declared.values.LeastStep.{LeastStep}
use Rattle.label_lattice.specs.Latest.{latest_extend}
use Rattle.label_lattice.specs.Least.{least_extend}
use Rattle.label_lattice.specs.Mask.{mask_extend}
use Rattle.label_lattice.specs.Span.{span_extend}
use Rattle.label_lattice.specs.Usage.{usage_extend, counters_below}
use Rattle.roster_model.specs.declared.proof.Window.{Window}
use Rattle.line_items.specs.WindowMinutes.{spread}
use Rattle.line_items.proofs.CounterRuns.{sum_spread, le_true, le_from, extend_some, extend_none}
use Rattle.take_graphs.proofs.Dropping.{Calms}

some_same : {X : Type 0} (a b : X) → Some a ≡ Some b → b ≡ a
some_same a b e = cc

none_some : {X : Type 0} {Q : Type 0} (a : X) → ◌≡◌ {A = Option X} None (Some a) → Q
none_some a e = cc

-- credit
span_fits : (r : Span) (d u cap : ℕ) → r.down + d ≤ cap → span_extend r (record { down = d; up = u; cap = cap }) ≡ Some (record { down = r.down + d; up = min (r.up + u) (2 ^ 31) })
span_fits r d u cap h = grind (arith, nat_tests)

span_fails : (r : Span) (d u cap : ℕ) → cap < r.down + d → span_extend r (record { down = d; up = u; cap = cap }) ≡ None
span_fails r d u cap h = grind (arith, nat_tests)

pub record IsCalmSpan (cap : ℕ) (r : Span) : Type 0 where
  pub down : r.down ≤ cap
  pub up : r.up ≤ 2 ^ 31

span_build : (d e u v : ℕ) → d ≡ e → u ≡ v → ◌≡◌ {A = Option Span} (Some (record { down = d; up = u })) (Some (record { down = e; up = v }))
span_build d e u v p q = rw (p, q) refl

span_stays : (r : Span) (d u cap : ℕ) → d ≡ 0 → u ≡ 0 → IsCalmSpan cap r → span_extend r (record { down = d; up = u; cap = cap }) ≡ Some r
span_stays r d u cap p q c =
    let a = c.down in
    let b = c.up in
    span_fits r d u cap (omega arith) ∙ span_build (r.down + d) r.down (min (r.up + u) (2 ^ 31)) r.up (omega arith) (omega arith)

span_fitted : (r q : Span) (d u cap : ℕ) → span_extend r (record { down = d; up = u; cap = cap }) ≡ Some q → (r.down ≤ cap) × IsCalmSpan cap q
span_fitted r q d u cap e = elim (cases_Bool (nat_le (r.down + d) cap)) [
  | inl fits ↦
      let le : r.down + d ≤ cap = grind (arith, nat_tests) in
      let same = some_same (record { down = r.down + d; up = min (r.up + u) (2 ^ 31) }) q (sym (span_fits r d u cap le) ∙ e) in
      (omega arith, subst (IsCalmSpan cap) (sym same) (record { down = le; up = omega arith }))
  | inr over ↦ none_some q (sym (span_fails r d u cap (grind (arith, nat_tests))) ∙ e)
]

pub span_calms : (down up : ℕ → ℕ) (cap sink : ℕ) (start : Span) → start.up ≤ 2 ^ 31 → down 0 ≡ 0 → up 0 ≡ 0 → down sink ≡ 0 → up sink ≡ 0
    → Calms span_extend start (λ t. record { down = down t; up = up t; cap = cap }) sink (IsCalmSpan cap)
span_calms down up cap sink start small a b c d = record {
  stays = λ r calm. span_stays r (down 0) (up 0) cap a b calm;
  ends = λ r calm. span_stays r (down sink) (up sink) cap c d calm;
  keeps = λ r q t calm e. (span_fitted r q (down t) (up t) cap e).1;
  begins = λ q t e. record { down = (span_fitted start q (down t) (up t) cap e).0; up = small };
}

-- bids; the width is a variable
all_ones : (w bits : ℕ) → bits < 2 ^ w → bit_and bits (2 ^ w - 1) ≡ bits
all_ones w bits small =
    same_from_bits_below w (bit_and bits (2 ^ w - 1)) bits (let le = and_le_l bits (2 ^ w - 1) in omega arith) small
    (λ i lt. bit_at_and bits (2 ^ w - 1) i ∙ one (bit_at bits i) (bit_at (2 ^ w - 1) i) (bit_at_ones w i lt) (bit_at-lt bits i))
  where
    one : (a b : ℕ) → b ≡ 1 → a < 2 → min a b ≡ a
    one a b e lt = omega arith

bits_stay : (w bits clear set : ℕ) → bits < 2 ^ w → clear ≡ 0 → set ≡ 0 → bit_or (bit_and bits (2 ^ w - 1 - clear)) set ≡ bits
bits_stay w bits clear set small p q =
    ap (λ (c : ℕ). bit_or (bit_and bits c) set) (let c : 2 ^ w - 1 - clear ≡ 2 ^ w - 1 = omega arith in c)
    ∙ ap (λ (b : ℕ). bit_or b set) (all_ones w bits small) ∙ ap (λ (s : ℕ). bit_or bits s) q ∙ or_zero_r bits

bits_small : (w bits keep set : ℕ) → bits < 2 ^ w → set < 2 ^ w → bit_or (bit_and bits keep) set < 2 ^ w
bits_small w bits keep set a b = or_lt w (bit_and bits keep) set (let le = and_le_l bits keep in omega arith) b

pub mask_calms : (w : ℕ) (clear set : ℕ → ℕ) (sink : ℕ) (start : Mask) → w ≡ 64 → start.bits < 2 ^ w → ((t : ℕ) → set t < 2 ^ w) → clear 0 ≡ 0 → set 0 ≡ 0 → clear sink ≡ 0 → set sink ≡ 0
    → Calms mask_extend start (λ t. record { clear = clear t; set = set t }) sink (λ r. r.bits < 2 ^ w)
mask_calms w clear set sink start wide small sets a b c d = record {
  stays = λ r calm. stay r (clear 0) (set 0) calm a b;
  ends = λ r calm. stay r (clear sink) (set sink) calm c d;
  keeps = λ r q t calm e. keep r q t calm e;
  begins = λ q t e. small;
}
  where
    at_width : (r : Mask) (clear set : ℕ) → mask_extend r (record { clear = clear; set = set }) ≡ Some (record { bits = bit_or (bit_and r.bits (2 ^ w - 1 - clear)) set })
    at_width r clear set = ap (λ (n : ℕ). Some (record { bits = bit_or (bit_and r.bits (2 ^ n - 1 - clear)) set })) (sym wide)

    same_mask : (a b : ℕ) → a ≡ b → ◌≡◌ {A = Option Mask} (Some (record { bits = a })) (Some (record { bits = b }))
    same_mask a b e = rw e refl

    stay : (r : Mask) (clear set : ℕ) → r.bits < 2 ^ w → clear ≡ 0 → set ≡ 0 → mask_extend r (record { clear = clear; set = set }) ≡ Some r
    stay r clear set calm p q = at_width r clear set ∙ same_mask (bit_or (bit_and r.bits (2 ^ w - 1 - clear)) set) r.bits (bits_stay w r.bits clear set calm p q)

    keep : (r q : Mask) (t : ℕ) → r.bits < 2 ^ w → mask_extend r (record { clear = clear t; set = set t }) ≡ Some q → q.bits < 2 ^ w
    keep r q t calm e =
        let same = some_same (record { bits = bit_or (bit_and r.bits (2 ^ w - 1 - clear t)) (set t) }) q (sym (at_width r (clear t) (set t)) ∙ e) in
        subst (λ (m : Mask). m.bits < 2 ^ w) (sym same) (bits_small w r.bits (2 ^ w - 1 - clear t) (set t) calm (sets t))

-- free blocks and days that nobody looks at
latest_same : (a b : ℕ) → a ≡ b → ◌≡◌ {A = Option Latest} (Some (record { value = a })) (Some (record { value = b }))
latest_same a b e = rw e refl

latest_stays : (r : Latest) → latest_extend r (record { renew = None; least = 0 }) ≡ Some r
latest_stays r =
    let t : nat_le 0 (max r.value 0) ≡ true = grind (arith, nat_tests) in
    ap (λ (b : Bool). if b then Some (record { value = max r.value 0 }) else None) t ∙ latest_same (max r.value 0) r.value (omega arith)

pub latest_calms : (step : ℕ → LatestStep) (sink : ℕ) (start : Latest) → ((t : ℕ) → step t ≡ record { renew = None; least = 0 })
    → Calms latest_extend start step sink (λ r. Unit {0})
latest_calms step sink start none = record {
  stays = λ r calm. ap (latest_extend r) (none 0) ∙ latest_stays r;
  ends = λ r calm. ap (latest_extend r) (none sink) ∙ latest_stays r;
  keeps = λ r q t calm e. tt;
  begins = λ q t e. tt;
}

least_same : (a b : ℕ) → a ≡ b → ◌≡◌ {A = Option Least} (Some (record { value = a })) (Some (record { value = b }))
least_same a b e = rw e refl

least_stays : (r : Least) → r.value ≡ 0 → least_extend r (record { add = 0; cap = 0 }) ≡ Some r
least_stays r e =
    let t : nat_le (r.value + 0) 0 ≡ true = grind (arith, nat_tests) in
    ap (λ (b : Bool). if b then Some (record { value = r.value + 0 }) else None) t ∙ least_same (r.value + 0) r.value (omega arith)

pub least_calms : (step : ℕ → LeastStep) (sink : ℕ) (start : Least) → start.value ≡ 0 → ((t : ℕ) → step t ≡ record { add = 0; cap = 0 })
    → Calms least_extend start step sink (λ r. r.value ≡ 0)
least_calms step sink start starts none = record {
  stays = λ r calm. ap (least_extend r) (none 0) ∙ least_stays r calm;
  ends = λ r calm. ap (least_extend r) (none sink) ∙ least_stays r calm;
  keeps = λ r q t calm e. let same = some_same r q (sym (ap (least_extend r) (none t) ∙ least_stays r calm) ∙ e) in ap (λ (x : Least). x.value) same ∙ calm;
  begins = λ q t e. starts;
}

-- windows
pub record IsCalmUsage (N : ℕ) (ws : List Window) (cap : Window → ℕ) (r : Usage N) : Type 0 where
  pub minutes : Window → ℕ
  pub is : r ≡ record { counters = spread N minutes ws }
  pub below : counters_below (spread N minutes ws) (spread N cap ws) ≡ true

less_below : (n : ℕ) (f g c : Window → ℕ) (ws : List Window) → counters_below (spread n (λ w. f w + g w) ws) (spread n c ws) ≡ true → counters_below (spread n f ws) (spread n c ws) ≡ true
less_below zero f g c ws h = refl
less_below (suc n) f g c [] h = less_below n f g c [] h
less_below (suc n) f g c (w ∷ ws) h =
    let parts = and_parts (nat_le (f w + g w) (c w)) (counters_below (spread n (λ w. f w + g w) ws) (spread n c ws)) h in
    let le = le_from (f w + g w) (c w) parts.0 in
    and_from (nat_le (f w) (c w)) (counters_below (spread n f ws) (spread n c ws)) (le_true (f w) (c w) (omega arith)) (less_below n f g c ws parts.1)

pub usage_calms : (N : ℕ) (ws : List Window) (g : ℕ → Window → ℕ) (cap base : Window → ℕ) (sink : ℕ) → ((w : Window) → g 0 w ≡ 0) → ((w : Window) → g sink w ≡ 0)
    → Calms (usage_extend {N = N}) (record { counters = spread N base ws }) (λ t. record { amounts = spread N (g t) ws; caps = spread N cap ws }) sink (IsCalmUsage N ws cap)
usage_calms N ws g cap base sink none none_last = record {
  stays = λ r calm. stay r calm (g 0) none;
  ends = λ r calm. stay r calm (g sink) none_last;
  keeps = λ r q t calm e. (fitted calm.minutes q t (ap (λ (x : Usage N). usage_extend x (record { amounts = spread N (g t) ws; caps = spread N cap ws })) (sym calm.is) ∙ e)).1;
  begins = λ q t e. (fitted base q t e).0;
}
  where
    same_usage : (f h : Window → ℕ) → ((w : Window) → f w ≡ h w) → ◌≡◌ {A = Option (Usage N)} (Some (record { counters = spread N f ws })) (Some (record { counters = spread N h ws }))
    same_usage f h e = ap (λ (k : Window → ℕ). Some (record { counters = spread N k ws })) (fun_ext e)

    add : (f h : Window → ℕ) → (w : Window) → ℕ
    add f h w = f w + h w

    stay : (r : Usage N) → IsCalmUsage N ws cap r → (h : Window → ℕ) → ((w : Window) → h w ≡ 0)
        → usage_extend {N = N} r (record { amounts = spread N h ws; caps = spread N cap ws }) ≡ Some r
    stay r calm h nought =
        let f = calm.minutes in
        let same : (λ w. f w + h w) ≡ f = fun_ext (λ w. let z = nought w in omega arith) in
        let fits : counters_below (spread N (λ w. f w + h w) ws) (spread N cap ws) ≡ true = ap (λ (k : Window → ℕ). counters_below (spread N k ws) (spread N cap ws)) same ∙ calm.below in
        ap (λ (x : Usage N). usage_extend x (record { amounts = spread N h ws; caps = spread N cap ws })) calm.is
        ∙ extend_some {N = N} (spread N f ws) (spread N h ws) (spread N cap ws) (spread N (λ w. f w + h w) ws) (sum_spread N f h ws) fits
        ∙ same_usage (λ w. f w + h w) f (λ w. let z = nought w in omega arith) ∙ ap (λ (x : Usage N). Some x) (sym calm.is)

    fitted : (f : Window → ℕ) (q : Usage N) (t : ℕ) → usage_extend {N = N} (record { counters = spread N f ws }) (record { amounts = spread N (g t) ws; caps = spread N cap ws }) ≡ Some q
        → IsCalmUsage N ws cap (record { counters = spread N f ws }) × IsCalmUsage N ws cap q
    fitted f q t e = elim (cases_Bool (counters_below (spread N (λ w. f w + g t w) ws) (spread N cap ws))) [
      | inl fits ↦
          let on = extend_some {N = N} (spread N f ws) (spread N (g t) ws) (spread N cap ws) (spread N (λ w. f w + g t w) ws) (sum_spread N f (g t) ws) fits in
          let same = some_same (record { counters = spread N (λ w. f w + g t w) ws }) q (sym on ∙ e) in
          (record { minutes = f; is = refl; below = less_below N f (g t) cap ws fits }, record { minutes = λ w. f w + g t w; is = same; below = fits })
      | inr fails ↦ none_some q (sym (extend_none {N = N} (spread N f ws) (spread N (g t) ws) (spread N cap ws) (spread N (λ w. f w + g t w) ws) (sum_spread N f (g t) ws) fails) ∙ e)
    ]
