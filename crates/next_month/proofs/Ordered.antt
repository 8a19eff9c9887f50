-- Sorted events that are apart, or of which two share a minute.
use Rattle.std.proofs.Common.{◌≡◌, ℕ, zero, suc, ◌+◌, ◌<◌, ◌≤◌, Bool, true, false, List, [], ◌∷◌, ◌++◌, length, get_or, take, refl, ap, sym, subst, ◌∙◌, arith, All, AllPairs}
use Rattle.std.specs.Prelude.{count_by, nat_le, nat_lt}
use Rattle.std.specs.List.Sorted.{IsNonDecreasingBy}
use Rattle.std.proofs.lemmas.Bool.Decides.{nat_tests}
use Rattle.std.proofs.lemmas.List.{take_more, take_all, get_or_default}
use Rattle.std.proofs.lemmas.List.Elements.{All-weaker, All-push}
use Rattle.std.proofs.lemmas.List.Quantifiers.{all_pairs_push}
use Rattle.duty_calendar.specs.declared.event.Event.{Event}
use Rattle.duty_calendar.specs.Minutes.{is_between}
use Rattle.duty_calendar.proofs.Pairs.{pairs_from_count}
use Rattle.next_month.specs.Causes.{Overlaps}

abbrev Before : Event → Event → Type 0
Before d e = d.release ≤ e.report

-- what is known of the events that were passed
pub record ArePassed (events : List Event) (k free : ℕ) : Type 0 where
  pub apart : AllPairs (λ d e. d.release ≤ e.report) (take k events)
  pub ended : All (λ e. e.release ≤ free) (take k events)
  pub first : k ≡ 0 → free ≡ 0
  pub last : (j : ℕ) (d : Event) → k ≡ suc j → free ≡ (get_or events j d).release

pub none_passed : (events : List Event) (k free : ℕ) → k ≡ 0 → free ≡ 0 → ArePassed events k free
none_passed events k free z f =
    let none : take k events ≡ [] = ap (λ (n : ℕ). take n events) z in record {
      apart = subst (λ (es : List Event). AllPairs (λ d e. d.release ≤ e.report) es) (sym none) (λ i j d lt inside. absurd (omega (arith, inside)));
      ended = subst (λ (es : List Event). All (λ e. e.release ≤ free) es) (sym none) (λ i d inside. absurd (omega (arith, inside)));
      first = λ _. f;
      last = λ j d same. absurd (omega (arith, same, z));
    }

module _ (events : List Event) (k free : ℕ) (e : Event) (inside : k < length events) (is : e ≡ get_or events k e) (was : ArePassed events k free) where
  pub one_passed : (next : ℕ) → free ≤ e.report → All (λ x. x.report < x.release) events → next ≡ e.release → ArePassed events (k + 1) next
  one_passed next late all same =
      let lasts : e.report < e.release = subst (λ (x : Event). x.report < x.release) (sym is) (all k e inside) in
      let more : take (k + 1) events ≡ take k events ++ e ∷ [] = take_more events k e inside ∙ ap (λ (x : Event). take k events ++ x ∷ []) (sym is) in
      let ends : All (λ x. x.release ≤ next) (take k events) = All-weaker (λ (x : Event). x.release ≤ free) (λ (x : Event). x.release ≤ next) (λ x le. omega (arith, le)) (take k events) was.ended in
      record {
        apart = subst (λ (es : List Event). AllPairs (λ d e. d.release ≤ e.report) es) (sym more)
            (all_pairs_push (λ (d e : Event). d.release ≤ e.report) (take k events) e was.apart (λ i d lt. let le = was.ended i d lt in omega (arith, le)));
        ended = subst (λ (es : List Event). All (λ x. x.release ≤ next) es) (sym more) (All-push (λ (x : Event). x.release ≤ next) (take k events) e ends (omega arith));
        first = λ z. absurd (omega arith);
        last = λ j d at. at_last j d (omega arith);
      }
    where
      at_last : (j : ℕ) (d : Event) → j ≡ k → next ≡ (get_or events j d).release
      at_last j d at = same ∙ ap (λ (x : Event). x.release) (is ∙ get_or_default events k e d inside) ∙ ap (λ (n : ℕ). (get_or events n d).release) (sym at)

  -- the event before it ends behind its report
  pub shares : IsNonDecreasingBy (λ e. e.report) events → All (λ e. e.report < e.release) events → e.report < free → Overlaps events
  shares sorted lasts early = by_place k refl
    where
      by_place : (n : ℕ) → k ≡ n → Overlaps events
      by_place zero z = let f = was.first z in absurd (omega (arith, f, early))
      by_place (suc j) same =
          let p : Event → Bool = λ x. is_between x.report x.release e.report in
          let ends : free ≡ (get_or events j e).release = was.last j e same in
          let up : (get_or events j e).report ≤ (get_or events k e).report = sorted j k e (omega (arith, same)) inside in
          let at : e.report ≡ (get_or events k e).report = ap (λ (x : Event). x.report) is in
          let here : e.report < e.release = subst (λ (x : Event). x.report < x.release) (sym is) (lasts k e inside) in
          let out : e.release ≡ (get_or events k e).release = ap (λ (x : Event). x.release) is in
          let one : p (get_or events j e) ≡ true = within (get_or events j e).report (get_or events j e).release e.report (omega (arith, up, at)) (omega (arith, ends, early)) in
          let two : p (get_or events k e) ≡ true = within (get_or events k e).report (get_or events k e).release e.report (omega (arith, at)) (omega (arith, here, out)) in
          record { minute = e.report; twice = twice_of p j one two (omega (arith, same)) }
        where
          within : (start stop minute : ℕ) → start ≤ minute → minute < stop → is_between start stop minute ≡ true
          within start stop minute a b =
              let x : nat_le start minute ≡ true = grind (arith, nat_tests, a) in
              let y : nat_lt minute stop ≡ true = grind (arith, nat_tests, b) in
              rw (x, y) refl

          twice_of : (p : Event → Bool) (j : ℕ) → p (get_or events j e) ≡ true → p (get_or events k e) ≡ true → j < k → 2 ≤ count_by p events
          twice_of p j one two lt = by_count (count_by p events) refl
            where
              by_count : (n : ℕ) → count_by p events ≡ n → 2 ≤ count_by p events
              by_count zero few = absurd (false_true (pairs_from_count p events (omega (arith, few)) j k e lt inside one))
                where
                  false_true : p (get_or events k e) ≡ false → ⊥
                  false_true f = cc
              by_count (suc zero) few = absurd (false_true (pairs_from_count p events (omega (arith, few)) j k e lt inside one))
                where
                  false_true : p (get_or events k e) ≡ false → ⊥
                  false_true f = cc
              by_count (suc (suc n)) many = omega (arith, many)

pub all_passed : (events : List Event) (k free : ℕ) → length events ≤ k → ArePassed events k free → AllPairs (λ d e. d.release ≤ e.report) events
all_passed events k free done was = subst (λ (es : List Event). AllPairs (λ d e. d.release ≤ e.report) es) (take_all k events done) was.apart
