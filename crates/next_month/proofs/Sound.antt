-- What sorted events that are parted say of those that were not sorted.
use Rattle.std.proofs.Common.{◌≡◌, ℕ, ◌<◌, ◌≤◌, Bool, true, cond, List, ◌++◌, length, ap, sym, subst, ◌∙◌, arith, All, AllPairs}
use Rattle.std.specs.Prelude.{count_by, filter, nat_le, nat_lt}
use Rattle.std.specs.List.Sorted.{IsNonDecreasingBy, IsPermutation}
use Rattle.std.proofs.lemmas.Bool.{leb-true, ltb-true}
use Rattle.std.proofs.lemmas.List.Sums.{length-filter}
use Rattle.std.proofs.lemmas.List.Elements.{filter_passes, All-weaker}
use Rattle.std.proofs.lemmas.List.Sorted.{sum_by-IsPermutation}
use Rattle.duty_calendar.specs.declared.event.Event.{Event}
use Rattle.duty_calendar.specs.Minutes.{is_between}
use Rattle.next_month.specs.Causes.{Overlaps}
use Rattle.next_month.proofs.Parted.{parts_join}

module _ (xs ys : List Event) (moved : IsPermutation xs ys) where
  pub overlap_back : Overlaps ys → Overlaps xs
  overlap_back o =
      let same : count_by (λ (e : Event). is_between e.report e.release o.minute) ys ≡ count_by (λ (e : Event). is_between e.report e.release o.minute) xs =
      sum_by-IsPermutation (λ (e : Event). cond (is_between e.report e.release o.minute) 1 0) xs ys moved in
      let twice = o.twice in
      record { minute = o.minute; twice = omega (arith, same, twice) }

  pub many_back : (p : Event → Bool) (part : List Event) (n k : ℕ) → part ≡ filter p ys → n ≡ length part → k < n → k < count_by p xs
  many_back p part n k is long many =
      let same : count_by p ys ≡ count_by p xs = sum_by-IsPermutation (λ (e : Event). cond (p e) 1 0) xs ys moved in
      let count : length (filter p ys) ≡ count_by p ys = length-filter p ys in
      let size : length part ≡ length (filter p ys) = ap (λ (es : List Event). length es) is in
      omega (arith, same, count, size, long, many)

  module _ (past coming : List Event) (up : IsNonDecreasingBy (λ e. e.report) ys) (is_past : past ≡ filter (λ e. nat_lt e.report 525600) ys) (is_coming : coming ≡ filter (λ e. nat_le 525600 e.report) ys) where
    joined : ys ≡ past ++ coming
    joined =
        sym (parts_join ys up) ∙ ap (λ (es : List Event). es ++ filter (λ e. nat_le 525600 e.report) ys) (sym is_past) ∙ ap (λ (es : List Event). past ++ es) (sym is_coming)

    pub parts_same : IsPermutation xs (past ++ coming)
    parts_same = subst (λ (es : List Event). IsPermutation xs es) joined moved

    pub parts_apart : AllPairs (λ d e. d.release ≤ e.report) ys → AllPairs (λ d e. d.release ≤ e.report) (past ++ coming)
    parts_apart h = subst (λ (es : List Event). AllPairs (λ d e. d.release ≤ e.report) es) joined h

pub past_early : (part ys : List Event) → part ≡ filter (λ e. nat_lt e.report 525600) ys → All (λ e. e.report < 525600) part
past_early part ys is =
    subst (λ (es : List Event). All (λ e. e.report < 525600) es) (sym is)
    (All-weaker (λ (e : Event). nat_lt e.report 525600 ≡ true) (λ (e : Event). e.report < 525600) (λ e t. ltb-true e.report 525600 t) (filter (λ e. nat_lt e.report 525600) ys)
    (filter_passes (λ (e : Event). nat_lt e.report 525600) ys))

pub coming_late : (part ys : List Event) → part ≡ filter (λ e. nat_le 525600 e.report) ys → All (λ e. 525600 ≤ e.report) part
coming_late part ys is =
    subst (λ (es : List Event). All (λ e. 525600 ≤ e.report) es) (sym is)
    (All-weaker (λ (e : Event). nat_le 525600 e.report ≡ true) (λ (e : Event). 525600 ≤ e.report) (λ e t. leb-true 525600 e.report t) (filter (λ e. nat_le 525600 e.report) ys)
    (filter_passes (λ (e : Event). nat_le 525600 e.report) ys))
