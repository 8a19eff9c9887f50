-- Members that keep the reader's checks.
use Rattle.std.proofs.Common.{◌≡◌, ℕ, ◌<◌, ◌≤◌, List, [], ◌∷◌, ◌++◌, length, get_or, arith}
use Rattle.std.specs.Prelude.{All, AllPairs}
use Rattle.std.specs.List.Sorted.{IsPermutation}
use Rattle.std.proofs.lemmas.List.Elements.{All-head, All-tail, All-nil, All-cons}
use Rattle.std.proofs.lemmas.List.Sorted.{All-permutation}
use Rattle.crew_files.specs.Texts.{EndsWithin, LiesWithin}
use Rattle.duty_calendar.specs.Calendar.{month_end, horizon_end}
use Rattle.duty_calendar.specs.Checks.{IsFiled, IsMember, AreMembers}
use Rattle.duty_calendar.specs.declared.event.Event.{Event}
use Rattle.duty_calendar.specs.declared.event.Flown.{Flown}
use Rattle.duty_calendar.specs.declared.horizon.Horizon.{Horizon}
use Rattle.duty_calendar.specs.declared.member.Member.{Member}

all_left : {A : Type 0} (P : A → Type 0) (xs ys : List A) → All P (xs ++ ys) → All P xs
all_left P [] ys h = All-nil P
all_left P (x ∷ xs) ys h = All-cons P x xs (All-head P x (xs ++ ys) h) (all_left P xs ys (All-tail P x (xs ++ ys) h))

all_right : {A : Type 0} (P : A → Type 0) (xs ys : List A) → All P (xs ++ ys) → All P ys
all_right P [] ys h = h
all_right P (x ∷ xs) ys h = all_right P xs ys (All-tail P x (xs ++ ys) h)

module _ (next : Horizon) (person heir : Member) (events : List Event) where
  pub heir_valid : IsMember next person → heir.name ≡ person.name → heir.low ≡ person.low → heir.high ≡ person.high
      → All (λ e. IsFiled next e × (e.release ≤ month_end next)) events
      → IsPermutation events (heir.history ++ heir.fixed) → AllPairs (λ d e. d.release ≤ e.report) (heir.history ++ heir.fixed)
      → All (λ e. e.report < 525600) heir.history → All (λ e. 525600 ≤ e.report) heir.fixed → length heir.history ≤ 500 → length heir.fixed ≤ 60 → IsMember next heir
  heir_valid form n l u forms same apart before after few_history few_fixed =
      let P : Event → Type 0 = λ e. IsFiled next e × (e.release ≤ month_end next) in
      let all = All-permutation P events (heir.history ++ heir.fixed) same forms in
      let past = all_left P heir.history heir.fixed all in
      let coming = all_right P heir.history heir.fixed all in
      let window = form.window in
      let few = form.few_credit in
      record {
        named = rw n form.named;
        window = omega (arith, window, l, u);
        few_credit = omega (arith, few, u);
        few_history = few_history;
        few_fixed = few_fixed;
        past = λ k d lt. (past k d lt).0;
        coming = λ k d lt. (coming k d lt).0;
        before = before;
        inside = λ k d lt. (after k d lt, (let lasts = (coming k d lt).0.form.lasts in let ends = (coming k d lt).1 in omega (arith, lasts, ends)));
        in_order = apart;
      }

event_ends : (h : Horizon) (e : Event) → IsFiled h e → EndsWithin h e
event_ends h e v =
    let a : e.report ≤ e.parked = v.form.reported in
    let b : e.parked ≤ e.release = v.form.parked in
    let c : e.release ≤ horizon_end h = v.ends in record {
      report = omega arith;
      parked = omega arith;
      release = c;
      flights = λ (n : ℕ) (y : Flown). λ w.
          let l = v.form.flights n y w in
          let f : (get_or e.flights n y).out_at < (get_or e.flights n y).in_at = l.1 in
          let g : (get_or e.flights n y).in_at ≤ e.parked = l.2 in
          (omega arith, omega arith);
    }

all_end : (h : Horizon) (events : List Event) → All (IsFiled h) events → All (EndsWithin h) events
all_end h events v k e w = event_ends h (get_or events k e) (v k e w)

pub all_lie : (h : Horizon) (list : List Member) → AreMembers h list → All (LiesWithin h) list
all_lie h list v k m w =
    let q = v.each k m w in
    record { history = all_end h (get_or list k m).history q.past; fixed = all_end h (get_or list k m).fixed q.coming }
