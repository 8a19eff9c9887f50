-- The lines of a lens are those of its classes.
use Rattle.std.proofs.Common.{◌≡◌, ℕ, zero, suc, ◌+◌, ◌<◌, ◌≤◌, max, Bool, true, false, not, ◌||◌, ◌&&◌, ◌==◌, List, [], ◌∷◌, length, Option, None, Some, refl, ap, sym, subst, ◌∙◌, inl, inr, arith}
use Rattle.std.specs.Prelude.{All, cond, nat_lt, slice_get, unwrap_or, if◌then◌else◌}
use Rattle.std.specs.Option.{ForSome, option_and_then, option_map_or}
use Rattle.std.proofs.Math.Path.{fun_ext}
use Rattle.std.proofs.lemmas.List.Elements.{All-head, All-tail}
use Rattle.duty_calendar.specs.Minutes.{count_between}
use Rattle.duty_calendar.proofs.Counting.{count_between-none, count_between-one}
use Rattle.std.proofs.lemmas.Bool.{and_parts, and_from, cases_Bool}
use Rattle.std.proofs.lemmas.Bool.Decides.{nat_tests}
use Rattle.roster_model.proofs.Relaxation.{sum_by-le, floor_below, ceil_above}
use Rattle.roster_model.specs.declared.problem.Problem.{Problem}
use Rattle.roster_model.specs.declared.bid.Bid.{Bid}
use Rattle.roster_model.specs.declared.goal.BidRef.{BidRef}
use Rattle.roster_model.specs.declared.goal.Goal.{Goal}
use Rattle.roster_model.specs.declared.node.Decision.{Decision}
use Rattle.roster_model.specs.declared.proof.Lens.{Lens}
use Rattle.roster_model.specs.declared.proof.Window.{Window}
use Rattle.roster_model.specs.Legality.{low_of, high_of}
use Rattle.roster_model.specs.Timelines.{pairings_of, events_of}
use Rattle.roster_model.specs.Scores.{bids_of, days_off, is_granted, is_granting}
use Rattle.roster_model.specs.Lenses.{IsLens, IsLensLine, KeepsWindow, ceil_to, floor_to, has_trackable, has_whole, is_grain, is_granted_at, is_granting_at, is_trackable, is_tracked, is_whole, is_whole_tracked, lens_score, rounded_credit}
use Rattle.lens_classes.specs.declared.terms.Terms.{Terms}
use Rattle.lens_classes.specs.TermLines.{IsTermLine, term_score}
use Rattle.lens_classes.specs.Classes.{IsClass, IsClassLens, IsImplied, IsTerms, asks, beyond_for, class_beyond, class_days, class_lost, class_low, days_for, has_counting, is_counting, is_in, least_for, own_bid}
use Rattle.lens_classes.specs.Laws.{IsInClass, KeepsClass, PassesByClasses}
use Rattle.lens_classes.proofs.Among.{least_above, least_has, most_has, most_keeps, most_within}
use Rattle.lens_classes.proofs.Bits.{beyond_within}
use Rattle.lens_classes.proofs.Grants.{granting_counting, granting_trackable, is_beyond, is_days, is_granted_by, is_least, kind_of, kinds_apart}
use Rattle.lens_classes.proofs.Packs.{pack, pack_is, pack_small}
use Rattle.lens_classes.proofs.Scores.{IsKept, IsNarrow, IsTrue, each_of, kept_counts, true_counts}

-- a test of the bid that is there
pub test_of : (test : Bid → Bool) (o : Option Bid) (b : Bid) → o ≡ Some b → option_map_or test o false ≡ test b
test_of test o b e = rw e refl

from_zero : (test : ℕ → Bool) (k : ℕ) → test (0 + k) ≡ true → test k ≡ true
from_zero test k h = let e : 0 + k ≡ k = omega arith in subst (λ (m : ℕ). test m ≡ true) e h

to_zero : (test : ℕ → Bool) (k : ℕ) → test k ≡ true → test (0 + k) ≡ true
to_zero test k h = let e : k ≡ 0 + k = omega arith in subst (λ (m : ℕ). test m ≡ true) e h

pub some_grain : (grain : ℕ) → is_grain grain ≡ true → 1 ≤ grain
some_grain zero h = absurd (cc h)
some_grain (suc g) h = omega arith

-- where the first holds, both are the second
beside : (a b : Bool) → a ≡ true → (a && b) ≡ b
beside true b e = refl
beside false b e = cc

-- a number at which a test holds is one of a bid
number_of : (bids : List Bid) (bid : ℕ) → option_map_or (λ (b : Bid). is_whole b.wish) (slice_get bids bid) false ≡ true → bid < length bids
number_of [] bid h = cc
number_of (b ∷ bids) zero h = omega arith
number_of (b ∷ bids) (suc bid) h = let rest = number_of bids bid h in omega (arith, rest)

bids_few : (lists : List (List Bid)) (m : ℕ) → All (λ list. length list ≤ 64) lists → length (unwrap_or (slice_get lists m) []) ≤ 64
bids_few [] m few = omega arith
bids_few (x ∷ xs) zero few = All-head (λ (list : List Bid). length list ≤ 64) x xs few
bids_few (x ∷ xs) (suc m) few = bids_few xs m (All-tail (λ (list : List Bid). length list ≤ 64) x xs few)

pub few_bids : (problem : Problem) (member : ℕ) → length (bids_of problem member) ≤ 64
few_bids problem member = bids_few problem.bids member problem.valid.few_bids

pub floor_at : (o : Option ℕ) (s : ℕ) → ForSome o (λ f. f ≤ s) → option_map_or (λ f. f) o 0 ≤ s
floor_at None s h = omega arith
floor_at (Some f) s h = h f refl

pub floor_is : (o : Option ℕ) (f : ℕ) → o ≡ Some f → option_map_or (λ f. f) o 0 ≡ f
floor_is o f e = rw e refl

pub base_below : (d : Bool) (r days : ℕ) → (d ≡ true → r ≤ days) → (if d then r else 0) ≤ days
base_below true r days h = h refl
base_below false r days h = omega arith

pub base_is : (d : Bool) (r : ℕ) → d ≡ true → (if d then r else 0) ≡ r
base_is true r e = refl
base_is false r e = cc

module _ (problem : Problem) (member : ℕ) (lens : Lens) where
  -- the bid that the terms ask for, of the goal
  pub record IsAsked (grant : Option BidRef) (bid : ℕ) : Type 0 where
    pub ref : BidRef
    pub there : grant ≡ Some ref
    pub mine : ref.member ≡ member
    pub tracked : is_tracked lens ref.bid ≡ true
    pub trackable : has_trackable problem member ref.bid ≡ true
    pub same : ref.bid ≡ bid

  chosen : (c : Bool) (a b : ℕ) → (if c then Some a else None) ≡ Some b → (c ≡ true) × (a ≡ b)
  chosen true a b e = (refl, cc)
  chosen false a b e = cc

  pub asked_is : (grant : Option BidRef) (bid : ℕ) → option_and_then (own_bid problem member lens) grant ≡ Some bid → IsAsked grant bid
  asked_is None bid e = cc
  asked_is (Some b) bid e =
      let parts = chosen (b.member == member && (is_tracked lens b.bid && has_trackable problem member b.bid)) b.bid bid e in
      let first = and_parts (b.member == member) (is_tracked lens b.bid && has_trackable problem member b.bid) parts.0 in
      let second = and_parts (is_tracked lens b.bid) (has_trackable problem member b.bid) first.1 in
      let mine : b.member ≡ member = let h = first.0 in grind (arith, nat_tests) in
      record { ref = b; there = refl; mine = mine; tracked = second.0; trackable = second.1; same = parts.1 }

  pub asks_own : (grant : Option BidRef) (b : BidRef) → grant ≡ Some b → b.member ≡ member → is_tracked lens b.bid ≡ true
      → has_trackable problem member b.bid ≡ true → option_and_then (own_bid problem member lens) grant ≡ Some b.bid
  asks_own grant b e mine t h =
      let here : (b.member == member) ≡ true = grind (arith, nat_tests) in
      rw (e, here, t, h) refl

  -- a tracked bid is there
  bid_there : (o : Option Bid) (w z : Bool)
      → (option_map_or (λ (b : Bid). is_trackable b.wish) o false || (w && (option_map_or (λ (b : Bid). is_whole b.wish) o false && z))) ≡ true
      → (b : Bid) × (o ≡ Some b)
  bid_there None true z h = cc
  bid_there None false z h = cc
  bid_there (Some b) w z h = (b, refl)

module _ (problem : Problem) (member : ℕ) (goal : Goal) (node : List Decision) (lens : Lens) (shape : IsLens problem member lens) where
  pub own_at : (x : ℕ) (line : List ℕ) (o : Option Bid) → option_map_or (λ (b : Bid). is_trackable b.wish) o false ≡ true
      → option_map_or (λ (b : Bid). is_granting_at problem member x line b.wish) o false
      ≡ option_map_or (λ (b : Bid). is_granting problem member line b.wish) o false
  own_at x line None h = cc
  own_at x line (Some b) h = granting_trackable problem member x line b.wish h

  own_counting : (x : ℕ) (line : List ℕ) (o : Option Bid) → option_map_or (λ (b : Bid). is_counting b.wish) o false ≡ true
      → option_map_or (λ (b : Bid). is_granting_at problem member x line b.wish) o false
      ≡ option_map_or (λ (b : Bid). is_granting problem member line b.wish) o false
  own_counting x line None h = cc
  own_counting x line (Some b) h = granting_counting problem member x line b.wish h

  kind_there : (o : Option Bid) (b : Bid) (w z : Bool) → o ≡ Some b
      → (option_map_or (λ (x : Bid). is_trackable x.wish) o false || (w && (option_map_or (λ (x : Bid). is_whole x.wish) o false && z))) ≡ true
      → is_whole b.wish ≡ not (is_trackable b.wish)
  kind_there o b w z e h = kind_of b.wish w z (subst (λ (o : Option Bid). (option_map_or (λ (x : Bid). is_trackable x.wish) o false || (w && (option_map_or (λ (x : Bid). is_whole x.wish) o false && z))) ≡ true) e h)

  kind_at : (k : ℕ) (b : Bid) → slice_get (bids_of problem member) k ≡ Some b → is_tracked lens k ≡ true → is_whole b.wish ≡ not (is_trackable b.wish)
  kind_at k b e t = kind_there (slice_get (bids_of problem member) k) b lens.whole (nat_lt (count_between (is_whole_tracked problem member lens) 0 k) 6) e (shape.trackable k t)

  narrow_at : (terms : Terms) (narrow : Lens) (x : ℕ) (line : List ℕ) → IsClassLens problem member lens terms.days_off narrow
      → (granted : ℕ → Bool) (k : ℕ) (b : Bid) → slice_get (bids_of problem member) k ≡ Some b
      → IsNarrow lens (is_tracked narrow) granted (is_granting_at problem member x line) (is_granting problem member line) k b
  narrow_at terms narrow x line nl granted k b e = record {
    tracks = nl.tracked k ∙ ap (λ (t : Bool). is_tracked lens k && t) (test_of (λ (b : Bid). is_trackable b.wish) (slice_get (bids_of problem member) k) b e);
    kind = λ t. kind_at k b e t;
    same = λ t. granting_trackable problem member x line b.wish t;
  }

  module _ (line : List ℕ) (is : IsLensLine problem member goal node lens line) where
    -- the class of the bids that the line grants at its credit
    abbrev true_class : ℕ → Bool
    true_class bid = is_whole_tracked problem member lens bid && is_granted_at problem member is.credit bid line

    true_grants : (bid : ℕ) → true_class bid ≡ true → is_granted_at problem member is.credit bid line ≡ true
    true_grants bid h = (and_parts (is_whole_tracked problem member lens bid) (is_granted_at problem member is.credit bid line) h).1

    true_tracks : (bid : ℕ) → true_class bid ≡ true → is_whole_tracked problem member lens bid ≡ true
    true_tracks bid h = (and_parts (is_whole_tracked problem member lens bid) (is_granted_at problem member is.credit bid line) h).0

    true_below : (bid : ℕ) → true_class bid ≡ true → bid < 64
    true_below bid h =
        let tracks = and_parts (is_tracked lens bid) (has_whole problem member bid) (true_tracks bid h) in
        let there = number_of (bids_of problem member) bid tracks.1 in
        let few = few_bids problem member in
        omega (arith, there, few)

    at_bid : (k : ℕ) (b : Bid) → slice_get (bids_of problem member) k ≡ Some b → asks lens true_class (0 + k) ≡ true
        → is_granting_at problem member is.credit line b.wish ≡ true
    at_bid k b e h =
        let here = from_zero (asks lens true_class) k h in
        let both = and_parts (is_tracked lens k) (true_class k) here in
        sym (test_of (λ (b : Bid). is_granting_at problem member is.credit line b.wish) (slice_get (bids_of problem member) k) b e) ∙ true_grants k both.1

    low_within : class_low problem member lens true_class ≤ is.credit
    unfolding class_low
    low_within =
        most_within least_for (asks lens true_class) 0 (bids_of problem member) (low_of problem member) is.credit is.least_credit
        (λ k b e h. is_least problem member is.credit line b.wish (at_bid k b e h))

    beyond_above : is.credit < class_beyond problem member lens true_class
    unfolding class_beyond
    beyond_above =
        let most : is.credit < high_of problem member + 1 = let h = is.most_credit in omega arith in
        least_above (beyond_for (high_of problem member + 1)) (asks lens true_class) 0 (bids_of problem member) (high_of problem member + 1) is.credit most
        (λ k b e h. is_beyond problem member is.credit line (high_of problem member + 1) b.wish most (at_bid k b e h))

    days_within : class_days problem member lens true_class ≤ days_off problem member line
    unfolding class_days
    days_within =
        most_within days_for (asks lens true_class) 0 (bids_of problem member) (if lens.days then problem.base.rules.days_off else 0) (days_off problem member line)
        (base_below lens.days problem.base.rules.days_off (days_off problem member line) is.enough_days_off)
        (λ k b e h. is_days problem member is.credit line b.wish (at_bid k b e h))

    score_within : (terms : Terms) (narrow : Lens) → IsClassLens problem member lens terms.days_off narrow
        → lens_score problem member lens is.credit line + class_lost problem member lens true_class ≤ term_score problem member narrow line
    unfolding lens_score class_lost term_score
    score_within terms narrow nl =
        let sums = true_counts lens (is_tracked narrow) true_class (is_granting_at problem member is.credit line) (is_granting problem member line) 0 (bids_of problem member) 0
        (each_of (IsTrue lens (is_tracked narrow) true_class (is_granting_at problem member is.credit line) (is_granting problem member line)) (bids_of problem member)
        (λ k b e. record {
          narrows = narrow_at terms narrow is.credit line nl true_class k b e;
          granted_is = λ t w.
              let has = test_of (λ (b : Bid). is_whole b.wish) (slice_get (bids_of problem member) k) b e ∙ w in
              let at = test_of (λ (b : Bid). is_granting_at problem member is.credit line b.wish) (slice_get (bids_of problem member) k) b e in
              beside (is_whole_tracked problem member lens k) (is_granted_at problem member is.credit k line) (and_from (is_tracked lens k) (has_whole problem member k) t has) ∙ at;
        })) in
        omega (arith, sums)

    true_keeps : KeepsClass problem member goal node lens true_class line
    true_keeps terms narrow ts nl = record {
      ascending = is.ascending;
      in_range = is.in_range;
      obeys = is.obeys;
      apart = is.apart;
      rested = is.rested;
      least_credit = subst (λ (g : ℕ). terms.low ≤ rounded_credit (ceil_to g) problem member line) (sym nl.grain)
          (let low = low_within in let e = ts.low in let up = is.rounded_up in omega (arith, low, e, up));
      most_credit = subst (λ (g : ℕ). rounded_credit (floor_to g) problem member line ≤ terms.high) (sym nl.grain)
          (let beyond = beyond_above in let e = ts.high in let down = is.rounded_down in omega (arith, beyond, e, down));
      floor =
          let score = score_within terms narrow nl in
          let e = ts.floor in
          let f = floor_at (slice_get goal.floors member) (lens_score problem member lens is.credit line) is.floor in
          omega (arith, score, e, f);
      grant = λ bid e t.
          let asked = asked_is problem member lens goal.grant bid (sym ts.asked ∙ e) in
          let at = is.grant asked.ref asked.there asked.mine asked.tracked in
          let own = sym (own_at is.credit line (slice_get (bids_of problem member) asked.ref.bid) asked.trackable) ∙ at in
          subst (λ (n : ℕ). is_granted problem member n line ≡ true) asked.same own;
      counts = λ bid h.
          let both = and_parts (asks lens true_class bid) (has_counting problem member bid) (sym (ts.counted bid) ∙ h) in
          let at = and_parts (is_tracked lens bid) (true_class bid) both.0 in
          sym (own_counting is.credit line (slice_get (bids_of problem member) bid) both.1) ∙ true_grants bid at.1;
      free = λ on. is.free (sym nl.free30 ∙ on);
      nights = λ on. is.nights (sym nl.free30 ∙ on);
      enough_days_off = λ on. let days = days_within in let e = ts.days_off in omega (arith, days, e);
      windows = subst (λ (ws : List Window). All (KeepsWindow (events_of problem member line)) ws) (sym nl.windows) is.windows;
    }

    true_is : IsClass problem member goal lens true_class
    true_is = record {
      some_credit = let low = low_within in let beyond = beyond_above in omega (arith, low, beyond);
      grant = λ b e mine whole.
          and_from (is_whole_tracked problem member lens b.bid) (is_granted_at problem member is.credit b.bid line) whole
          (is.grant b e mine (and_parts (is_tracked lens b.bid) (has_whole problem member b.bid) whole).0);
    }

    -- what the terms of the class imply the line grants
    true_closed : (bid : ℕ) (b : Bid) → slice_get (bids_of problem member) bid ≡ Some b → is_tracked lens bid ≡ true
        → IsImplied problem member lens true_class b.wish → true_class bid ≡ true
    true_closed bid b e t implied =
        let has = test_of (λ (b : Bid). is_whole b.wish) (slice_get (bids_of problem member) bid) b e ∙ implied.whole in
        let at = test_of (λ (b : Bid). is_granting_at problem member is.credit line b.wish) (slice_get (bids_of problem member) bid) b e in
        let low = low_within in
        let least = implied.low in
        let less = beyond_above in
        let beyond = implied.beyond in
        let all = days_within in
        let days = implied.days in
        and_from (is_whole_tracked problem member lens bid) (is_granted_at problem member is.credit bid line)
        (and_from (is_tracked lens bid) (has_whole problem member bid) t has)
        (at ∙ is_granted_by problem member is.credit line (high_of problem member + 1) b.wish implied.whole (omega (arith, low, least)) (omega (arith, less, beyond)) (omega (arith, all, days)) (λ counting. absurd (cc (sym implied.single ∙ counting))))

    pub in_class : IsInClass problem member goal node lens line
    in_class =
        let bit = pack_is true_class 64 true_below in
        let same : true_class ≡ is_in (pack true_class 64) = fun_ext (λ bid. sym (bit bid)) in
        record {
          granted = pack true_class 64;
          within = pack_small true_class 64;
          only = λ bid h. true_tracks bid (sym (bit bid) ∙ h);
          closed = subst (λ (granted : ℕ → Bool). (bid : ℕ) (b : Bid) → slice_get (bids_of problem member) bid ≡ Some b → is_tracked lens bid ≡ true
              → IsImplied problem member lens granted b.wish → granted bid ≡ true) same true_closed;
          class = subst (λ (granted : ℕ → Bool). IsClass problem member goal lens granted) same true_is;
          keeps = subst (λ (granted : ℕ → Bool). KeepsClass problem member goal node lens granted line) same true_keeps;
        }

  module _ (granted : ℕ → Bool) (terms : Terms) (narrow : Lens) (line : List ℕ) (class : IsClass problem member goal lens granted) (ts : IsTerms problem member goal lens granted terms) (nl : IsClassLens problem member lens terms.days_off narrow) (is : IsTermLine problem member node narrow terms line) where
    abbrev down : ℕ
    down = rounded_credit (floor_to lens.grain) problem member line

    abbrev up : ℕ
    up = rounded_credit (ceil_to lens.grain) problem member line

    -- the credit at which the line is taken
    abbrev taken : ℕ
    taken = max (class_low problem member lens granted) down

    down_up : down ≤ up
    down_up =
        let a = sum_by-le (λ p. p.credit) (λ p. ceil_to lens.grain p.credit) (λ p. ceil_above lens.grain p.credit (some_grain lens.grain shape.grain)) (pairings_of problem line) in
        let b = sum_by-le (λ p. floor_to lens.grain p.credit) (λ p. p.credit) (λ p. floor_below lens.grain p.credit) (pairings_of problem line) in
        omega (arith, a, b)

    taken_low : class_low problem member lens granted ≤ up
    taken_low =
        let least : terms.low ≤ up = subst (λ (g : ℕ). terms.low ≤ rounded_credit (ceil_to g) problem member line) nl.grain is.least_credit in
        let e = ts.low in
        omega (arith, least, e)

    taken_beyond : taken < class_beyond problem member lens granted
    taken_beyond =
        let most : down ≤ terms.high = subst (λ (g : ℕ). rounded_credit (floor_to g) problem member line ≤ terms.high) nl.grain is.most_credit in
        let e = ts.high in
        let some = class.some_credit in
        omega (arith, most, e, some)

    low_kept : low_of problem member ≤ class_low problem member lens granted
    unfolding class_low
    low_kept = most_keeps least_for (asks lens granted) 0 (bids_of problem member) (low_of problem member)

    days_kept : class_days problem member lens granted ≤ days_off problem member line
    days_kept = elim (cases_Bool (nat_lt 0 terms.days_off)) [
      | inl some ↦ let days = is.enough_days_off (nl.days ∙ some) in let e = ts.days_off in omega (arith, days, e)
      | inr none ↦ let e = ts.days_off in let z : terms.days_off ≤ 0 = grind (arith, nat_tests) in omega (arith, e, z)
    ]

    rules_kept : (if lens.days then problem.base.rules.days_off else 0) ≤ class_days problem member lens granted
    unfolding class_days
    rules_kept = most_keeps days_for (asks lens granted) 0 (bids_of problem member) (if lens.days then problem.base.rules.days_off else 0)

    low_has : (k : ℕ) (b : Bid) → slice_get (bids_of problem member) k ≡ Some b → asks lens granted (0 + k) ≡ true
        → least_for b.wish ≤ class_low problem member lens granted
    unfolding class_low
    low_has k b e h = most_has least_for (asks lens granted) 0 (bids_of problem member) (low_of problem member) k b e h

    beyond_has : (k : ℕ) (b : Bid) → slice_get (bids_of problem member) k ≡ Some b → asks lens granted (0 + k) ≡ true
        → class_beyond problem member lens granted ≤ beyond_for (high_of problem member + 1) b.wish
    unfolding class_beyond
    beyond_has k b e h = least_has (beyond_for (high_of problem member + 1)) (asks lens granted) 0 (bids_of problem member) (high_of problem member + 1) k b e h

    days_has : (k : ℕ) (b : Bid) → slice_get (bids_of problem member) k ≡ Some b → asks lens granted (0 + k) ≡ true
        → days_for b.wish ≤ class_days problem member lens granted
    unfolding class_days
    days_has k b e h = most_has days_for (asks lens granted) 0 (bids_of problem member) (if lens.days then problem.base.rules.days_off else 0) k b e h

    -- the line grants what the class does
    kept : (k : ℕ) (b : Bid) → slice_get (bids_of problem member) k ≡ Some b → is_tracked lens k ≡ true → is_whole b.wish ≡ true
        → granted k ≡ true → is_granting_at problem member taken line b.wish ≡ true
    kept k b e t w g =
        let here : asks lens granted k ≡ true = and_from (is_tracked lens k) (granted k) t g in
        let asked = to_zero (asks lens granted) k here in
        let low = low_has k b e asked in
        let beyond = beyond_has k b e asked in
        let less = taken_beyond in
        let days = days_has k b e asked in
        let all = days_kept in
        is_granted_by problem member taken line (high_of problem member + 1) b.wish w (omega (arith, low)) (omega (arith, beyond, less)) (omega (arith, days, all))
        (λ c.
        let counting = test_of (λ (b : Bid). is_counting b.wish) (slice_get (bids_of problem member) k) b e ∙ c in
        let counted = is.counts k (ts.counted k ∙ and_from (asks lens granted k) (has_counting problem member k) here counting) in
        sym (test_of (λ (b : Bid). is_granting problem member line b.wish) (slice_get (bids_of problem member) k) b e) ∙ counted)

    score_kept : term_score problem member narrow line ≤ lens_score problem member lens taken line + class_lost problem member lens granted
    unfolding lens_score class_lost term_score
    score_kept =
        let sums = kept_counts lens (is_tracked narrow) granted (is_granting_at problem member taken line) (is_granting problem member line) 0 (bids_of problem member) 0
        (each_of (IsKept lens (is_tracked narrow) granted (is_granting_at problem member taken line) (is_granting problem member line)) (bids_of problem member)
        (λ k b e. record {
          narrows = narrow_at terms narrow taken line nl granted k b e;
          kept = λ t w g. kept k b e t w g;
        })) in
        omega (arith, sums)

    goal_kept : (b : BidRef) → goal.grant ≡ Some b → b.member ≡ member → is_tracked lens b.bid ≡ true
        → is_granted_at problem member taken b.bid line ≡ true
    goal_kept b e mine t =
        let o = slice_get (bids_of problem member) b.bid in
        let there = bid_there problem member lens o lens.whole _ (shape.trackable b.bid t) in
        let bid = there.0 in
        let tests = λ (test : Bid → Bool). test_of test o bid there.1 in
        elim (cases_Bool (is_trackable bid.wish)) [
          | inl able ↦
              let has : has_trackable problem member b.bid ≡ true = tests (λ (x : Bid). is_trackable x.wish) ∙ able in
              let tracks = nl.tracked b.bid ∙ and_from (is_tracked lens b.bid) (has_trackable problem member b.bid) t has in
              let asked = is.grant b.bid (ts.asked ∙ asks_own problem member lens goal.grant b e mine t has) tracks in
              own_at taken line o has ∙ asked
          | inr whole ↦
              let w : is_whole bid.wish ≡ true = kind_at b.bid bid there.1 t ∙ ap not whole in
              let has : has_whole problem member b.bid ≡ true = tests (λ (x : Bid). is_whole x.wish) ∙ w in
              let g = class.grant b e mine (and_from (is_tracked lens b.bid) (has_whole problem member b.bid) t has) in
              tests (λ (x : Bid). is_granting_at problem member taken line x.wish) ∙ kept b.bid bid there.1 t w g
        ]

    pub of_class : IsLensLine problem member goal node lens line
    of_class = record {
      ascending = is.ascending;
      in_range = is.in_range;
      obeys = is.obeys;
      apart = is.apart;
      rested = is.rested;
      credit = taken;
      least_credit = let low = low_kept in omega (arith, low);
      most_credit = let high = beyond_within problem member lens granted in let less = taken_beyond in omega (arith, high, less);
      rounded_down = omega arith;
      rounded_up = let low = taken_low in let between = down_up in omega (arith, low, between);
      floor = λ f e.
          let score = score_kept in
          let floor = is.floor in
          let terms_floor = ts.floor in
          let f_is = floor_is (slice_get goal.floors member) f e in
          omega (arith, score, floor, terms_floor, f_is);
      grant = λ b e mine t. goal_kept b e mine t;
      free = λ on. is.free (nl.free30 ∙ on);
      nights = λ on. is.nights (nl.free30 ∙ on);
      enough_days_off = λ on.
          let rules = rules_kept in
          let days = days_kept in
          let same = base_is lens.days problem.base.rules.days_off on in
          omega (arith, rules, days, same);
      windows = subst (λ (ws : List Window). All (KeepsWindow (events_of problem member line)) ws) nl.windows is.windows;
    }

  -- there are few tracked bids that only a whole line decides
  room_at : (r v l c : Bool) → (v ≡ true → r ≡ false) → v ≡ true → (r || (l && (v && c))) ≡ true → c ≡ true
  room_at true v l c apart w h = absurd (cc (apart w))
  room_at false true true c apart w h = h
  room_at false true false c apart w h = cc
  room_at false false l c apart w h = cc

  room : (o : Option Bid) (l c : Bool) → option_map_or (λ (b : Bid). is_whole b.wish) o false ≡ true
      → (option_map_or (λ (b : Bid). is_trackable b.wish) o false || (l && (option_map_or (λ (b : Bid). is_whole b.wish) o false && c))) ≡ true
      → c ≡ true
  room None l c w h = cc
  room (Some b) l c w h = room_at (is_trackable b.wish) (is_whole b.wish) l c (kinds_apart b.wish) w h

  few_at : (n : ℕ) → is_whole_tracked problem member lens n ≡ true → count_between (is_whole_tracked problem member lens) 0 n < 6
  few_at n h =
      let parts = and_parts (is_tracked lens n) (has_whole problem member n) h in
      let fewer = room (slice_get (bids_of problem member) n) lens.whole (nat_lt (count_between (is_whole_tracked problem member lens) 0 n) 6) parts.1 (shape.trackable n parts.0) in
      grind (arith, nat_tests)

  few_next : (b : Bool) (count : ℕ) → (b ≡ true → count < 6) → count ≤ 6 → count + cond b 1 0 ≤ 6
  few_next true count h le = let lt = h refl in omega (arith, lt)
  few_next false count h le = omega (arith, le)

  few : (n : ℕ) → count_between (is_whole_tracked problem member lens) 0 n ≤ 6
  few zero = let none = count_between-none (is_whole_tracked problem member lens) 0 in omega (arith, none)
  few (suc n) =
      let e : suc n ≡ n + 1 = omega arith in
      let one = count_between-one (is_whole_tracked problem member lens) 0 n (omega arith) in
      let next = few_next (is_whole_tracked problem member lens n) (count_between (is_whole_tracked problem member lens) 0 n) (few_at n) (few n) in
      subst (λ (m : ℕ). count_between (is_whole_tracked problem member lens) 0 m ≤ 6) (sym e) (omega (arith, one, next))

  pub passes_by_classes : PassesByClasses problem member goal node lens
  passes_by_classes = record {
    few = few;
    some = λ line is. in_class line is;
    each = λ granted terms narrow line class ts nl is. of_class granted terms narrow line class ts nl is;
  }
