-- What spares another by caps that no chain meets goes on wherever that one does, part by part.
use Rattle.std.proofs.Common.{◌≡◌, ◌≤◌, ◌<◌, ◌+◌, ◌-◌, ◌^◌, ◌⊎◌, ℕ, zero, suc, min, Bool, true, false, List, [], ◌∷◌, Option, Some, None, inl, inr, refl, sym, subst, arith, get_or, length}
use Rattle.std.specs.Prelude.{◌&&◌, ◌||◌, not, nat_le, nat_lt, if◌then◌else◌}
use Rattle.std.proofs.Math.Numerals.{add-one}
use Rattle.std.proofs.lemmas.Bool.{cases_Bool, and_parts, or_cases}
use Rattle.std.proofs.lemmas.Bool.Decides.{nat_tests}
use Rattle.label_lattice.specs.Both.{both}
use Rattle.label_lattice.specs.Daily.{daily_below, daily_extend, daily_total}
use Rattle.label_lattice.specs.DailyLaws.{daily_extends}
use Rattle.label_lattice.specs.Laws.{ExtendsBelow}
use Rattle.label_lattice.specs.Mask.{mask_below, mask_done, mask_extend}
use Rattle.label_lattice.specs.MaskLaws.{mask_resource_laws}
use Rattle.label_lattice.specs.NightLaws.{nights_extends}
use Rattle.label_lattice.specs.NightRow.{nights_below, nights_extend}
use Rattle.label_lattice.specs.Pair.{both_of, pair_below, pair_done, pair_extend}
use Rattle.label_lattice.specs.Pause.{pause_below, pause_extend}
use Rattle.label_lattice.specs.PauseLaws.{pause_extends}
use Rattle.label_lattice.specs.Span.{span_done, span_extend}
use Rattle.label_lattice.specs.Usage.{counters_below, counters_sum, usage_extend}
use Rattle.label_lattice.proofs.CounterLanes.{each_from_below}
use Rattle.label_lattice.proofs.CounterLists.{sum_at}
use Rattle.label_lattice.specs.declared.counters.Usage.{Usage}
use Rattle.label_lattice.specs.declared.counters.UsageStep.{UsageStep}
use Rattle.label_lattice.specs.declared.dailies.Daily.{Daily}
use Rattle.label_lattice.specs.declared.dailies.DailyStep.{DailyStep}
use Rattle.label_lattice.specs.declared.pairs.Pair.{Pair}
use Rattle.label_lattice.specs.declared.spans.Span.{Span}
use Rattle.label_lattice.specs.declared.spans.SpanStep.{SpanStep}
use Rattle.take_graphs.specs.TakeLabels.{TakeEndOf, TakeOf, TakeStepOf, take_done, take_extend}
use Rattle.term_lines.specs.declared.slacks.Slack.{Slack}
use Rattle.term_lines.specs.Slacks.{AreBefore, IsBefore, counters_spare, daily_spares, free_before, slack_spares, span_spares, sum_spares, usage_spares}

le_is : (a b : ℕ) → nat_le a b ≡ true → a ≤ b
le_is a b h = grind (arith, nat_tests)

le_so : (a b : ℕ) → a ≤ b → nat_le a b ≡ true
le_so a b h = grind (arith, nat_tests)

lt_is : (a b : ℕ) → nat_lt a b ≡ true → a < b
lt_is a b h = grind (arith, nat_tests)

lt_so : (a b : ℕ) → a < b → nat_lt a b ≡ true
lt_so a b h = grind (arith, nat_tests)

or_first : (a b : Bool) → a ≡ true → (a || b) ≡ true
or_first true b h = refl
or_first false b h = cc

or_second : (a b : Bool) → b ≡ true → (a || b) ≡ true
or_second true b h = refl
or_second false b h = h

-- what a sum that spares another comes to by what is added
record SumOn (limit cap add x y : ℕ) : Type 0 where
  fits : x + add ≤ cap
  spares : sum_spares limit (x + add) (y + add) ≡ true

sum_on : (here limit cap add x y : ℕ) → here ≤ free_before limit cap add → sum_spares here x y ≡ true → y + add ≤ cap → SumOn limit cap add x y
sum_on here limit cap add x y free spares fits = elim (or_cases (nat_le x y) (nat_lt x here) spares) [
  | inl less ↦
      let le = le_is x y less in
      record { fits = omega (arith, le, fits); spares = or_first (nat_le (x + add) (y + add)) (nat_lt (x + add) limit) (le_so (x + add) (y + add) (omega (arith, le))) }
  | inr low ↦
      let lt = lt_is x here low in
      record { fits = omega (arith, lt, free); spares = or_second (nat_le (x + add) (y + add)) (nat_lt (x + add) limit) (lt_so (x + add) limit (omega (arith, lt, free))) }
]

up_on : (low x y add : ℕ) → (nat_le y x || nat_le low x && nat_le low (2 ^ 31)) ≡ true
    → (nat_le (min (y + add) (2 ^ 31)) (min (x + add) (2 ^ 31)) || nat_le low (min (x + add) (2 ^ 31)) && nat_le low (2 ^ 31)) ≡ true
up_on low x y add h = elim (or_cases (nat_le y x) (nat_le low x && nat_le low (2 ^ 31)) h) [
  | inl less ↦
      let le = le_is y x less in
      or_first _ _ (le_so (min (y + add) (2 ^ 31)) (min (x + add) (2 ^ 31)) (omega (arith, le)))
  | inr high ↦
      let parts = and_parts (nat_le low x) (nat_le low (2 ^ 31)) high in
      let le = le_is low x parts.0 in
      let most = le_is low (2 ^ 31) parts.1 in
      or_second _ _ (both _ _ (le_so low (min (x + add) (2 ^ 31)) (omega (arith, le, most))) parts.1)
]

-- a test that holds, and what comes of it
record Passed {X : Type 0} (test : Bool) (x c : X) : Type 0 where
  holds : test ≡ true
  is : x ≡ c

passed : {X : Type 0} (test : Bool) (x c : X) → (if test then Some x else None) ≡ Some c → Passed test x c
passed true x c e = record { holds = refl; is = cc }
passed false x c e = cc

passes : {X : Type 0} (test : Bool) (x : X) → test ≡ true → (if test then Some x else None) ≡ Some x
passes true x h = refl
passes false x h = cc

abbrev span_after : Span → SpanStep → Span
span_after a step = record { down = a.down + step.down; up = min (a.up + step.up) (2 ^ 31) }

pub span_on : (here next low : ℕ) (a b c : Span) (step : SpanStep) → here ≤ free_before next step.cap step.down → span_spares here low a b ≡ true → span_extend b step ≡ Some c
    → ExtendsBelow (span_spares next low) span_extend a step c
span_on here next low a b c step free spares extends =
    let was = passed (nat_le (b.down + step.down) step.cap) (span_after b step) c extends in
    let parts = and_parts (sum_spares here a.down b.down) (nat_le b.up a.up || nat_le low a.up && nat_le low (2 ^ 31)) spares in
    let sum = sum_on here next step.cap step.down a.down b.down free parts.0 (le_is (b.down + step.down) step.cap was.holds) in
    record {
      to = span_after a step;
      extends = passes (nat_le (a.down + step.down) step.cap) (span_after a step) (le_so (a.down + step.down) step.cap sum.fits);
      is_below = subst (λ (z : Span). span_spares next low (span_after a step) z ≡ true) was.is (both _ _ sum.spares (up_on low a.up b.up step.up parts.1));
    }

abbrev daily_after : Daily → DailyStep → Daily
daily_after a step = record { count = daily_total a step; today = step.sets || (a.today && (step.keeps && not step.again)) }

daily_most : (x add : ℕ) (t : Bool) → (x + add) - (if t then 1 else 0) ≤ x + add
daily_most x add true = omega arith
daily_most x add false = omega arith

pub daily_on : (here next : ℕ) (a b c : Daily) (step : DailyStep) → here ≤ free_before next step.cap step.add → daily_spares here a b ≡ true → daily_extend b step ≡ Some c
    → ExtendsBelow (daily_spares next) daily_extend a step c
daily_on here next a b c step free spares extends = elim (or_cases (nat_lt a.count here) (daily_below a b) spares) [
  | inl low ↦
      let lt = lt_is a.count here low in
      let most = daily_most a.count step.add (a.today && step.again) in
      record {
        to = daily_after a step;
        extends = passes (nat_le (daily_total a step) step.cap) (daily_after a step) (le_so (daily_total a step) step.cap (omega (arith, lt, free, most)));
        is_below = or_first (nat_lt (daily_total a step) next) (daily_below (daily_after a step) c) (lt_so (daily_total a step) next (omega (arith, lt, free, most)));
      }
  | inr below ↦
      let on = daily_extends a b c step below extends in
      record { to = on.to; extends = on.extends; is_below = or_second (nat_lt on.to.count next) (daily_below on.to c) on.is_below }
]

-- counters that spare others, one by one
below_all : (xs ys : List ℕ) → ((k : ℕ) → get_or xs k 0 ≤ get_or ys k 0) → counters_below xs ys ≡ true
below_all [] ys each = refl
below_all (x ∷ xs) [] each = both (nat_le x 0) (counters_below xs []) (le_so x 0 (each 0)) (below_all xs [] (λ k. let h : get_or xs k 0 ≤ 0 = each (suc k) in omega (arith, h)))
below_all (x ∷ xs) (y ∷ ys) each = both (nat_le x y) (counters_below xs ys) (le_so x y (each 0)) (below_all xs ys (λ k. each (suc k)))

one_more : (k : ℕ) (limits xs ys : List ℕ) → counters_spare (k + 1) limits xs ys ≡ (counters_spare k limits xs ys && sum_spares (get_or limits k 0) (get_or xs k 0) (get_or ys k 0))
one_more k limits xs ys = rw add-one refl

before_or_at : (k n : ℕ) → k < suc n → (k < n) ⊎ (k ≡ n)
before_or_at k n h = grind arith

pub each_spares : (n : ℕ) (limits xs ys : List ℕ) → counters_spare n limits xs ys ≡ true → (k : ℕ) → k < n → sum_spares (get_or limits k 0) (get_or xs k 0) (get_or ys k 0) ≡ true
each_spares zero limits xs ys h k less = absurd (omega (arith, less))
each_spares (suc n) limits xs ys h k less =
    let parts = and_parts (counters_spare n limits xs ys) (sum_spares (get_or limits n 0) (get_or xs n 0) (get_or ys n 0)) h in
    elim (before_or_at k n less) [
      | inl earlier ↦ each_spares n limits xs ys parts.0 k earlier
      | inr now ↦ subst (λ j. sum_spares (get_or limits j 0) (get_or xs j 0) (get_or ys j 0) ≡ true) (sym now) parts.1
    ]

pub from_each : (n : ℕ) (limits xs ys : List ℕ) → ((k : ℕ) → k < n → sum_spares (get_or limits k 0) (get_or xs k 0) (get_or ys k 0) ≡ true) → counters_spare n limits xs ys ≡ true
from_each zero limits xs ys each = refl
from_each (suc n) limits xs ys each = both (counters_spare n limits xs ys) _ (from_each n limits xs ys (λ k less. each k (omega (arith, less)))) (each n (omega arith))

-- one that does not spare
pub spares_fail : (n : ℕ) (limits xs ys : List ℕ) (k : ℕ) → k < n → sum_spares (get_or limits k 0) (get_or xs k 0) (get_or ys k 0) ≡ false → counters_spare n limits xs ys ≡ false
spares_fail n limits xs ys k less h = elim (cases_Bool (counters_spare n limits xs ys)) [
  | inl t ↦ let is = each_spares n limits xs ys t k less in cc
  | inr f ↦ f
]

past_end : (xs : List ℕ) (k : ℕ) → length xs ≤ k → get_or xs k 0 ≡ 0
past_end [] k h = refl
past_end (x ∷ xs) zero h = absurd (omega (arith, h))
past_end (x ∷ xs) (suc k) h = past_end xs k (omega (arith, h))

within_or_past : (k n : ℕ) → (k < n) ⊎ (n ≤ k)
within_or_past k n = grind arith

counter_spares : (limits xs ys : List ℕ) → counters_spare (length xs) limits xs ys ≡ true → (k : ℕ) → sum_spares (get_or limits k 0) (get_or xs k 0) (get_or ys k 0) ≡ true
counter_spares limits xs ys h k = elim (within_or_past k (length xs)) [
  | inl within ↦ each_spares (length xs) limits xs ys h k within
  | inr past ↦
      let none = past_end xs k past in
      or_first (nat_le (get_or xs k 0) (get_or ys k 0)) (nat_lt (get_or xs k 0) (get_or limits k 0)) (le_so (get_or xs k 0) (get_or ys k 0) (omega (arith, none)))
]

counter_on : (here next xs ys amounts caps : List ℕ) (k : ℕ) → get_or here k 0 ≤ free_before (get_or next k 0) (get_or caps k 0) (get_or amounts k 0) → counters_spare (length xs) here xs ys ≡ true
    → counters_below (counters_sum ys amounts) caps ≡ true → SumOn (get_or next k 0) (get_or caps k 0) (get_or amounts k 0) (get_or xs k 0) (get_or ys k 0)
counter_on here next xs ys amounts caps k free spares fits =
    let sum = sum_at ys amounts k in
    let small = each_from_below (counters_sum ys amounts) caps fits k in
    sum_on (get_or here k 0) (get_or next k 0) (get_or caps k 0) (get_or amounts k 0) (get_or xs k 0) (get_or ys k 0) free (counter_spares here xs ys spares k) (omega (arith, sum, small))

pub usage_on : {N : ℕ} (here next : List ℕ) (a b c : Usage N) (step : UsageStep N)
    → AreBefore here next step.caps step.amounts → usage_spares here a b ≡ true → usage_extend b step ≡ Some c → ExtendsBelow (usage_spares next) usage_extend a step c
usage_on {N} here next a b c step free spares extends =
    let was = passed {X = Usage N} (counters_below (counters_sum b.counters step.amounts) step.caps) (record { counters = counters_sum b.counters step.amounts }) c extends in
    let fits = below_all (counters_sum a.counters step.amounts) step.caps (λ k.
    let on = counter_on here next a.counters b.counters step.amounts step.caps k (free k) spares was.holds in
    let small = on.fits in
    let sum = sum_at a.counters step.amounts k in
    omega (arith, small, sum)) in
    let after = from_each (length (counters_sum a.counters step.amounts)) next (counters_sum a.counters step.amounts) (counters_sum b.counters step.amounts) (λ k less.
    let on = counter_on here next a.counters b.counters step.amounts step.caps k (free k) spares was.holds in
    subst (λ x. sum_spares (get_or next k 0) x (get_or (counters_sum b.counters step.amounts) k 0) ≡ true) (sym (sum_at a.counters step.amounts k))
    (subst (λ y. sum_spares (get_or next k 0) (get_or a.counters k 0 + get_or step.amounts k 0) y ≡ true) (sym (sum_at b.counters step.amounts k)) on.spares)) in
    record {
      to = record { counters = counters_sum a.counters step.amounts };
      extends = passes {X = Usage N} (counters_below (counters_sum a.counters step.amounts) step.caps) (record { counters = counters_sum a.counters step.amounts }) fits;
      is_below = subst (λ (z : Usage N). usage_spares next (record { counters = counters_sum a.counters step.amounts }) z ≡ true) was.is after;
    }

-- the parts of a pair that is there
record Parts {A B : Type 0} (o : Option A) (p : Option B) (c : Pair A B) : Type 0 where
  first : o ≡ Some c.first
  second : p ≡ Some c.second

parts_of : {A B : Type 0} (o : Option A) (p : Option B) (c : Pair A B) → both_of o p ≡ Some c → Parts o p c
parts_of (Some a) (Some b) c e = record { first = cc; second = cc }
parts_of None p c e = cc
parts_of (Some a) None c e = cc

both_there : {A B : Type 0} (o : Option A) (p : Option B) (a : A) (b : B) → o ≡ Some a → p ≡ Some b → both_of o p ≡ Some (record { first = a; second = b })
both_there o p a b e f = rw (e, f) refl

pair_on : {A B S T : Type 0} (spares_a : A → A → Bool) (extend_a : A → S → Option A) (spares_b : B → B → Bool) (extend_b : B → T → Option B) (x c : Pair A B) (step : S × T)
    → ExtendsBelow spares_a extend_a x.first step.0 c.first → ExtendsBelow spares_b extend_b x.second step.1 c.second
    → ExtendsBelow (pair_below spares_a spares_b) (pair_extend extend_a extend_b) x step c
pair_on spares_a extend_a spares_b extend_b x c step first second = record {
  to = record { first = first.to; second = second.to };
  extends = both_there _ _ _ _ first.extends second.extends;
  is_below = both _ _ first.is_below second.is_below;
}

up_ends : (low x y : ℕ) → (nat_le y x || nat_le low x && nat_le low (2 ^ 31)) ≡ true → nat_le low y ≡ true → nat_le low x ≡ true
up_ends low x y h d = elim (or_cases (nat_le y x) (nat_le low x && nat_le low (2 ^ 31)) h) [
  | inl less ↦ let le = le_is y x less in let due = le_is low y d in le_so low x (omega (arith, le, due))
  | inr high ↦ (and_parts (nat_le low x) (nat_le low (2 ^ 31)) high).0
]

module _ {N : ℕ} where
  -- along an arc
  pub slack_on : (low : ℕ) (here next : Slack N) (a b c : TakeOf N) (step : TakeStepOf N) → IsBefore here next step → slack_spares low here a b ≡ true → take_extend b step ≡ Some c
      → ExtendsBelow (slack_spares low next) take_extend a step c
  slack_on low here next a b c step before spares extends =
      let all = parts_of (span_extend b.first step.0) (pair_extend mask_extend (pair_extend pause_extend (pair_extend daily_extend (pair_extend nights_extend usage_extend))) b.second step.1) c extends in
      let masked = parts_of (mask_extend b.second.first step.1.0) (pair_extend pause_extend (pair_extend daily_extend (pair_extend nights_extend usage_extend)) b.second.second step.1.1) c.second all.second in
      let paused = parts_of (pause_extend b.second.second.first step.1.1.0) (pair_extend daily_extend (pair_extend nights_extend usage_extend) b.second.second.second step.1.1.1) c.second.second masked.second in
      let dayed = parts_of (daily_extend b.second.second.second.first step.1.1.1.0) (pair_extend nights_extend usage_extend b.second.second.second.second step.1.1.1.1) c.second.second.second paused.second in
      let last = parts_of (nights_extend b.second.second.second.second.first step.1.1.1.1.0) (usage_extend b.second.second.second.second.second step.1.1.1.1.1) c.second.second.second.second dayed.second in
      let h0 = and_parts (span_spares here.down low a.first b.first) (pair_below mask_below (pair_below pause_below (pair_below (daily_spares here.days) (pair_below nights_below (usage_spares here.counters)))) a.second b.second) spares in
      let h1 = and_parts (mask_below a.second.first b.second.first) (pair_below pause_below (pair_below (daily_spares here.days) (pair_below nights_below (usage_spares here.counters))) a.second.second b.second.second) h0.1 in
      let h2 = and_parts (pause_below a.second.second.first b.second.second.first) (pair_below (daily_spares here.days) (pair_below nights_below (usage_spares here.counters)) a.second.second.second b.second.second.second) h1.1 in
      let h3 = and_parts (daily_spares here.days a.second.second.second.first b.second.second.second.first) (pair_below nights_below (usage_spares here.counters) a.second.second.second.second b.second.second.second.second) h2.1 in
      let h4 = and_parts (nights_below a.second.second.second.second.first b.second.second.second.second.first) (usage_spares here.counters a.second.second.second.second.second b.second.second.second.second.second) h3.1 in
      let span = span_on here.down next.down low a.first b.first c.first step.0 before.down h0.0 all.first in
      let mask = mask_resource_laws.extends a.second.first b.second.first c.second.first step.1.0 h1.0 masked.first in
      let pause = pause_extends a.second.second.first b.second.second.first c.second.second.first step.1.1.0 h2.0 paused.first in
      let daily = daily_on here.days next.days a.second.second.second.first b.second.second.second.first c.second.second.second.first step.1.1.1.0 before.days h3.0 dayed.first in
      let nights = nights_extends a.second.second.second.second.first b.second.second.second.second.first c.second.second.second.second.first step.1.1.1.1.0 h4.0 last.first in
      let usage = usage_on here.counters next.counters a.second.second.second.second.second b.second.second.second.second.second c.second.second.second.second.second step.1.1.1.1.1 before.counters h4.1 last.second in
      let rows = pair_on nights_below nights_extend (usage_spares next.counters) usage_extend a.second.second.second.second c.second.second.second.second step.1.1.1.1 nights usage in
      let days = pair_on (daily_spares next.days) daily_extend _ _ a.second.second.second c.second.second.second step.1.1.1 daily rows in
      let rest = pair_on pause_below pause_extend _ _ a.second.second c.second.second step.1.1 pause days in
      let bids = pair_on mask_below mask_extend _ _ a.second c.second step.1 mask rest in
      pair_on (span_spares next.down low) span_extend _ _ a c step span bids

  -- at the end
  pub slack_ends : (slack : Slack N) (a b : TakeOf N) (end : TakeEndOf) → slack_spares end.0.low slack a b ≡ true → take_done b end ≡ true → take_done a end ≡ true
  slack_ends slack a b end spares done =
      let d0 = and_parts (span_done b.first end.0) (pair_done mask_done (pair_done (λ _ _. true) (pair_done (λ _ _. true) (pair_done (λ _ _. true) (λ _ _. true)))) b.second end.1) done in
      let d1 = and_parts (mask_done b.second.first end.1.0) (pair_done (λ _ _. true) (pair_done (λ _ _. true) (pair_done (λ _ _. true) (λ _ _. true))) b.second.second end.1.1) d0.1 in
      let h0 = and_parts (span_spares slack.down end.0.low a.first b.first) (pair_below mask_below (pair_below pause_below (pair_below (daily_spares slack.days) (pair_below nights_below (usage_spares slack.counters)))) a.second b.second) spares in
      let h1 = and_parts (mask_below a.second.first b.second.first) (pair_below pause_below (pair_below (daily_spares slack.days) (pair_below nights_below (usage_spares slack.counters))) a.second.second b.second.second) h0.1 in
      let up = (and_parts (sum_spares slack.down a.first.down b.first.down) (nat_le b.first.up a.first.up || nat_le end.0.low a.first.up && nat_le end.0.low (2 ^ 31)) h0.0).1 in
      both _ _ (up_ends end.0.low a.first.up b.first.up up d0.0) (both _ _ (mask_resource_laws.finishes a.second.first b.second.first end.1.0 h1.0 d1.0) refl)
