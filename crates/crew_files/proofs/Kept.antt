-- What the rows keep of the members: the checks of the month's members.
use Rattle.std.proofs.Common.{◌≡◌, ℕ, suc, ◌<◌, ◌≤◌, List, [], ◌∷◌, ◌++◌, length, Bool, true, false, cond, ◌&&◌, nat_le, nat_lt, ◌==◌, fold, refl, sym, ap, subst, ◌∙◌, arith, append_assoc, length-append, All, AllPairs}
use Rattle.std.specs.Prelude.{IsTrue}
use Rattle.std.proofs.lemmas.Bool.{eqb-true}
use Rattle.std.proofs.lemmas.Bool.Decides.{nat_tests}
use Rattle.std.proofs.lemmas.List.{append-nil}
use Rattle.std.proofs.lemmas.List.Elements.{All-nil, All-cons, All-push, All-weaker}
use Rattle.std.proofs.lemmas.List.Kept.{AllPairs-cons}
use Rattle.std.proofs.lemmas.List.Quantifiers.{all_pairs_push}
use Rattle.duty_calendar.specs.Calendar.{month_end, horizon_end}
use Rattle.duty_calendar.specs.Checks.{IsFiled, IsMember}
use Rattle.duty_calendar.specs.Forms.{is_name}
use Rattle.duty_calendar.specs.Minutes.{is_flight}
use Rattle.duty_calendar.specs.declared.event.Event.{Event}
use Rattle.duty_calendar.specs.declared.event.Flown.{Flown}
use Rattle.duty_calendar.specs.declared.horizon.Horizon.{Horizon}
use Rattle.duty_calendar.specs.declared.member.Member.{Member}
use Rattle.crew_files.specs.declared.part.Part.TheVariants.{History, Fixed}
use Rattle.crew_files.specs.Crew.{new_member}
use Rattle.crew_files.specs.Events.{are_in_row, times_fit, flights_fit, last_release, with_event}

-- what holds of both tests
pub both : (a b : Bool) → (a && b) ≡ true → (a ≡ true) × (b ≡ true)
both true b h = (refl, h)
both false b h = cc

-- flights in a row lie within and follow one another
pub in_row-all : (start stop : ℕ) (fs : List Flown) → are_in_row start stop fs ≡ true → All (λ (f : Flown). (start ≤ f.out_at) × (f.out_at < f.in_at) × (f.in_at ≤ stop)) fs
unfolding are_in_row
in_row-all start stop [] h = All-nil (λ (f : Flown). (start ≤ f.out_at) × (f.out_at < f.in_at) × (f.in_at ≤ stop))
in_row-all start stop (f ∷ fs) h =
    let a = both (nat_le start f.out_at) _ h in
    let b = both (nat_lt f.out_at f.in_at) _ a.1 in
    let c = both (nat_le f.in_at stop) _ b.1 in
    let from : start ≤ f.out_at = grind (arith, nat_tests, a.0) in
    let lasts : f.out_at < f.in_at = grind (arith, nat_tests, b.0) in
    let till : f.in_at ≤ stop = grind (arith, nat_tests, c.0) in
    All-cons (λ (g : Flown). (start ≤ g.out_at) × (g.out_at < g.in_at) × (g.in_at ≤ stop)) f fs (from, lasts, till)
    (All-weaker (λ (g : Flown). (f.in_at ≤ g.out_at) × (g.out_at < g.in_at) × (g.in_at ≤ stop)) (λ (g : Flown). (start ≤ g.out_at) × (g.out_at < g.in_at) × (g.in_at ≤ stop)) (λ g w. (omega (arith, w.0), w.1, w.2)) fs (in_row-all f.in_at stop fs c.1))

pub in_row-pairs : (start stop : ℕ) (fs : List Flown) → are_in_row start stop fs ≡ true → AllPairs (λ (f g : Flown). f.in_at ≤ g.out_at) fs
unfolding are_in_row
in_row-pairs start stop [] h = λ i j d l m. absurd (omega arith)
in_row-pairs start stop (f ∷ fs) h =
    let a = both (nat_le start f.out_at) _ h in
    let b = both (nat_lt f.out_at f.in_at) _ a.1 in
    let c = both (nat_le f.in_at stop) _ b.1 in
    AllPairs-cons (λ (f g : Flown). f.in_at ≤ g.out_at) f fs
    (All-weaker (λ (g : Flown). (f.in_at ≤ g.out_at) × (g.out_at < g.in_at) × (g.in_at ≤ stop)) (λ (g : Flown). f.in_at ≤ g.out_at) (λ g w. w.0) fs (in_row-all f.in_at stop fs c.1))
    (in_row-pairs f.in_at stop fs c.1)

-- the last release is that of the last event
last-push : (b : ℕ) (es : List Event) (e : Event) → fold (λ (b : ℕ) (e : Event). e.release) b (es ++ e ∷ []) ≡ e.release
last-push b [] e = refl
last-push b (d ∷ es) e = last-push d.release es e

pub last_release-push : (es : List Event) (e : Event) → last_release (es ++ e ∷ []) ≡ e.release
unfolding last_release
last_release-push es e = last-push 0 es e

-- events in order, of which none ends after the last one
pub record InOrder (es : List Event) : Type 0 where
  pub pairs : AllPairs (λ (d e : Event). d.release ≤ e.report) es
  pub till : All (λ (e : Event). e.release ≤ last_release es) es

pub in_order-push : (es : List Event) (e : Event) → InOrder es → last_release es ≤ e.report → e.report < e.release → InOrder (es ++ e ∷ [])
in_order-push es e h after lasts = record {
  pairs = all_pairs_push (λ (d e : Event). d.release ≤ e.report) es e h.pairs (λ k d l. let t = h.till k d l in omega arith);
  till = All-push (λ (d : Event). d.release ≤ last_release (es ++ e ∷ [])) es e
      (All-weaker (λ (d : Event). d.release ≤ last_release es) (λ (d : Event). d.release ≤ last_release (es ++ e ∷ [])) (λ d t. let p = last_release-push es e in omega arith) es h.till)
      (let p = last_release-push es e in omega arith);
}

-- what is kept of a member while events are added
pub record IsRead (h : Horizon) (m : Member) : Type 0 where
  pub named : IsTrue (is_name m.name)
  pub window : m.low ≤ m.high
  pub few_credit : m.high ≤ 12000
  pub few_history : length m.history ≤ 500
  pub few_fixed : length m.fixed ≤ 60
  pub past : All (IsFiled h) m.history
  pub coming : All (IsFiled h) m.fixed
  pub before : All (λ (e : Event). e.report < 525600) m.history
  pub inside : All (λ (e : Event). (525600 ≤ e.report) × (e.report < month_end h)) m.fixed
  pub order : InOrder (m.history ++ m.fixed)

pub member-from_read : (h : Horizon) (m : Member) → IsRead h m → IsMember h m
member-from_read h m r = record {
  named = r.named;
  window = r.window;
  few_credit = r.few_credit;
  few_history = r.few_history;
  few_fixed = r.few_fixed;
  past = r.past;
  coming = r.coming;
  before = r.before;
  inside = r.inside;
  in_order = r.order.pairs;
}

pub new_member-read : (h : Horizon) (name : List ℕ) (low high : ℕ) → IsTrue (is_name name) → low ≤ high → high ≤ 12000 → IsRead h (new_member name low high)
new_member-read h name low high n w c = record {
  named = n;
  window = w;
  few_credit = c;
  few_history = omega arith;
  few_fixed = omega arith;
  past = All-nil (IsFiled h);
  coming = All-nil (IsFiled h);
  before = All-nil (λ (e : Event). e.report < 525600);
  inside = All-nil (λ (e : Event). (525600 ≤ e.report) × (e.report < month_end h));
  order = record {
    pairs = λ i j d l m. absurd (omega arith);
    till = All-nil (λ (e : Event). e.release ≤ last_release []);
  };
}

-- an event of values of fields
pub record IsValue (h : Horizon) (e : Event) : Type 0 where
  pub some_flights : is_flight e.kind ≡ true → 1 ≤ length e.flights
  pub ends : e.release ≤ horizon_end h

pub length-none : (fs : List Flown) → (length fs == 0) ≡ true → fs ≡ []
length-none [] h = refl
length-none (f ∷ fs) h = let z : suc (length fs) ≡ 0 = eqb-true (suc (length fs)) 0 h in absurd (omega arith)

-- an event in order within the limits is as a file can give it
pub filed : (h : Horizon) (e : Event) → IsValue h e → times_fit e ≡ true → flights_fit e ≡ true → length e.flights ≤ 8 → e.credit ≤ 12000 → IsFiled h e
filed h e v times flights few credit =
    let a = both (nat_le e.report e.parked) _ times in
    let b = both (nat_le e.parked e.release) _ a.1 in
    let reported : e.report ≤ e.parked = grind (arith, nat_tests, a.0) in
    let parked : e.parked ≤ e.release = grind (arith, nat_tests, b.0) in
    let lasts : e.report < e.release = grind (arith, nat_tests, b.1) in
    by (is_flight e.kind) refl flights reported parked lasts
  where
    by : (t : Bool) → is_flight e.kind ≡ t → cond t (are_in_row e.report e.parked e.flights) (e.parked == e.release && length e.flights == 0) ≡ true → e.report ≤ e.parked → e.parked ≤ e.release → e.report < e.release → IsFiled h e
    by true k fit reported parked lasts = record {
      form = record {
        reported = reported;
        parked = parked;
        lasts = lasts;
        flights = in_row-all e.report e.parked e.flights fit;
        in_order = in_row-pairs e.report e.parked e.flights fit;
        flies = λ n. cc;
      };
      flown = λ t. (v.some_flights k, few);
      ground = λ n. cc;
      few_credit = credit;
      ends = v.ends;
    }
    by false k fit reported parked lasts =
        let c = both (e.parked == e.release) _ fit in
        let none = length-none e.flights c.1 in
        record {
          form = record {
            reported = reported;
            parked = parked;
            lasts = lasts;
            flights = subst (All (λ (f : Flown). (e.report ≤ f.out_at) × (f.out_at < f.in_at) × (f.in_at ≤ e.parked))) (sym none) (All-nil (λ (f : Flown). (e.report ≤ f.out_at) × (f.out_at < f.in_at) × (f.in_at ≤ e.parked)));
            in_order = subst (AllPairs (λ (f g : Flown). f.in_at ≤ g.out_at)) (sym none) (λ i j d l m. absurd (omega arith));
            flies = λ n. none;
          };
          flown = λ t. cc;
          ground = λ n. grind (arith, nat_tests, c.0);
          few_credit = credit;
          ends = v.ends;
        }

-- one more event of a member is kept
pub with_event-fixed : (h : Horizon) (e : Event) (m : Member) → IsRead h m → IsFiled h e → last_release (m.history ++ m.fixed) ≤ e.report → 525600 ≤ e.report → e.report < month_end h → length m.fixed < 60 → IsRead h (with_event Fixed e m)
with_event-fixed h e m r f after from till few = record {
  named = r.named;
  window = r.window;
  few_credit = r.few_credit;
  few_history = r.few_history;
  few_fixed = omega (arith, length-append m.fixed (e ∷ []));
  past = r.past;
  coming = All-push (IsFiled h) m.fixed e r.coming f;
  before = r.before;
  inside = All-push (λ (e : Event). (525600 ≤ e.report) × (e.report < month_end h)) m.fixed e r.inside (from, till);
  order = subst InOrder (append_assoc m.history m.fixed (e ∷ [])) (in_order-push (m.history ++ m.fixed) e r.order after f.form.lasts);
}

pub with_event-history : (h : Horizon) (e : Event) (m : Member) → IsRead h m → m.fixed ≡ [] → IsFiled h e → last_release (m.history ++ m.fixed) ≤ e.report → e.report < 525600 → length m.history < 500 → IsRead h (with_event History e m)
with_event-history h e m r none f after before few =
    let bare : m.history ++ m.fixed ≡ m.history = ap (λ (es : List Event). m.history ++ es) none ∙ append-nil m.history in
    let grown : (m.history ++ e ∷ []) ++ m.fixed ≡ m.history ++ e ∷ [] = ap (λ (es : List Event). (m.history ++ e ∷ []) ++ es) none ∙ append-nil (m.history ++ e ∷ []) in
    record {
      named = r.named;
      window = r.window;
      few_credit = r.few_credit;
      few_history = omega (arith, length-append m.history (e ∷ []));
      few_fixed = r.few_fixed;
      past = All-push (IsFiled h) m.history e r.past f;
      coming = r.coming;
      before = All-push (λ (e : Event). e.report < 525600) m.history e r.before before;
      inside = r.inside;
      order = subst InOrder (sym grown) (in_order-push m.history e (subst InOrder bare r.order) (subst (λ (es : List Event). last_release es ≤ e.report) bare after) f.form.lasts);
    }
