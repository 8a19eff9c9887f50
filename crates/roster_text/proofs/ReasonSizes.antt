-- The text of an award's reasons is short.
use Rattle.std.proofs.Common.{◌≡◌, ℕ, zero, suc, ◌+◌, ◌-◌, ◌*◌, ◌/◌, ◌%◌, ◌<◌, ◌≤◌, ◌^◌, Bool, true, false, cond, List, [], ◌∷◌, ◌++◌, length, length-append, decimal, Option, refl, sym, ap, subst, arith, inl, inr}
use Rattle.std.specs.Prelude.{All, ◌==◌, nat_le, slice_get, unsigned_abs, unwrap_or, codes}
use Rattle.std.specs.List.{AllByRecursion, list_all, flat_map}
use Rattle.std.specs.Option.{option_map_or}
use Rattle.std.proofs.lemmas.Bool.{and_parts, leb-true, eqb-true}
use Rattle.std.proofs.lemmas.List.Concat.{flat_map-cons}
use Rattle.std.proofs.lemmas.List.Elements.{All-head, All-tail}
use Rattle.std.proofs.lemmas.Option.{slice_get_cases}
use Rattle.duty_calendar.specs.declared.horizon.Horizon.{Horizon}
use Rattle.duty_calendar.specs.Forms.{is_station_code, are_capitals}
use Rattle.field_text.specs.Spelling.{two, number_text, minutes_text, clock_text, day_text}
use Rattle.roster_model.specs.declared.problem.Problem.{Problem}
use Rattle.roster_model.specs.declared.bid.Test.{Test}
use Rattle.roster_model.specs.declared.bid.Test.TheVariants.{Layover, Departs, Arrives, ReportBefore, ReportAfter, ReleaseBefore, ReleaseAfter, Days, OnWeekday, Is}
use Rattle.roster_model.specs.declared.bid.Atom.{Atom}
use Rattle.roster_model.specs.declared.bid.Wish.{Wish}
use Rattle.roster_model.specs.declared.bid.Wish.TheVariants.{Fly, Avoid, Prefer, Off, CreditBelow, CreditAbove, DaysOff}
use Rattle.roster_model.specs.declared.bid.Bid.{Bid}
use Rattle.roster_model.specs.declared.goal.BidRef.{BidRef}
use Rattle.roster_model.specs.declared.award.Cause.{Cause}
use Rattle.roster_model.specs.declared.award.Cause.TheVariants.{Tie, Place}
use Rattle.roster_model.specs.declared.award.Denial.{Denial}
use Rattle.roster_model.specs.Scores.{bids_of}
use Rattle.roster_model.specs.Valid.{IsBid, is_test, is_filter, is_wish}
use Rattle.roster_model.specs.Denials.{place_of}
use Rattle.duty_calendar.specs.declared.weekday.Weekday.{Weekday}
use Rattle.duty_calendar.specs.declared.weekday.Weekday.TheVariants.{Mon, Tue, Wed, Thu, Fri, Sat, Sun}
use Rattle.bid_language.specs.Spelling.{weekday_word, day_word, test_text, atom_text, more_text, filter_text, to_text, wish_text, bid_text, text_of}
use Rattle.roster_text.specs.RosterText.{member_name, longest_text}
use Rattle.roster_text.specs.ReasonText.{cause_text, head_text, end_text, reason_text, reasons_text, most_reasons, IsReason}
use Rattle.roster_text.proofs.Sizes.{pairing_short, member_short, number_short}
use Rattle.roster_text.proofs.ReasonLaws.{few_bids}

station_short : (s : List ℕ) → is_station_code s ≡ true → length s ≡ 3
station_short s h = eqb-true (length s) 3 (and_parts (length s == 3) (are_capitals s) h).0

clock_short : (c : ℕ) → length (clock_text c) ≡ 5
unfolding clock_text
clock_short c = refl

day_short : (y m d : ℕ) → length (day_text y m d) ≡ 10
unfolding day_text
day_short y m d = refl

minutes_short : (m : ℕ) → m < 10 ^ 10 → length (minutes_text m) ≤ 13
minutes_short m small =
    omega (arith, number_short (m / 60) (omega (arith, small)), length-append (decimal (m / 60)) (58 ∷ two (m % 60)))

weekday_short : (w : Weekday) → length (weekday_word w) ≡ 3
weekday_short Mon = refl
weekday_short Tue = refl
weekday_short Wed = refl
weekday_short Thu = refl
weekday_short Fri = refl
weekday_short Sat = refl
weekday_short Sun = refl

module _ (problem : Problem) where
  test_short : (t : Test) → is_test (length problem.base.pairings) t ≡ true → length (test_text problem.base.pairings t) ≤ 40
  test_short (Layover s) h = omega (arith, station_short s h)
  test_short (Departs s) h = omega (arith, station_short s h)
  test_short (Arrives s) h = omega (arith, station_short s h)
  test_short (ReportBefore c) h = omega (arith, clock_short c)
  test_short (ReportAfter c) h = omega (arith, clock_short c)
  test_short (ReleaseBefore c) h = omega (arith, clock_short c)
  test_short (ReleaseAfter c) h = omega (arith, clock_short c)
  test_short (Days n) h =
      let few : n ≤ 40 = leb-true n 40 (and_parts (nat_le 1 n) (nat_le n 40) h).1 in
      omega (arith, number_short n (omega (arith, few)))
  test_short (OnWeekday w) h = omega (arith, weekday_short w)
  test_short (Is p) h = omega (arith, pairing_short problem p)

  atom_short : (a : Atom) → is_test (length problem.base.pairings) a.test ≡ true → length (atom_text problem.base.pairings a) ≤ 44
  atom_short a h = by a.negated
    where
      by : (b : Bool) → length (cond b (codes "not " ++ test_text problem.base.pairings a.test) (test_text problem.base.pairings a.test)) ≤ 44
      by true = omega (arith, test_short a.test h)
      by false = omega (arith, test_short a.test h)

  more_short : (atoms : List Atom) → list_all (λ a. is_test (length problem.base.pairings) a.test) atoms ≡ true
      → length (more_text problem.base.pairings atoms) ≤ 49 * length atoms
  more_short [] h = omega arith
  more_short (a ∷ atoms) h =
      let t = and_parts (is_test (length problem.base.pairings) a.test) (list_all (λ a. is_test (length problem.base.pairings) a.test) atoms) h in
      let one : Atom → List ℕ = λ a. codes " and " ++ atom_text problem.base.pairings a in
      omega (
        arith,
        ap (λ (s : List ℕ). length s) (flat_map-cons one a atoms),
        length-append (one a) (flat_map one atoms),
        atom_short a t.0,
        more_short atoms t.1,
      )

  filter_short : (atoms : List Atom) → is_filter (length problem.base.pairings) atoms ≡ true → length (filter_text problem.base.pairings atoms) ≤ 392
  filter_short [] h = omega arith
  filter_short (a ∷ others) h =
      let n = length problem.base.pairings in
      let t = and_parts _ (list_all (λ a. is_test n a.test) (a ∷ others)) h in
      let few : length (a ∷ others) ≤ 8 = leb-true (length (a ∷ others)) 8 (and_parts (nat_le 1 (length (a ∷ others))) (nat_le (length (a ∷ others)) 8) t.0).1 in
      let each = and_parts (is_test n a.test) (list_all (λ a. is_test n a.test) others) t.1 in
      omega (
        arith,
        length-append (atom_text problem.base.pairings a) (more_text problem.base.pairings others),
        atom_short a each.0,
        more_short others each.1,
        few,
      )

  to_short : (h : Horizon) (first last : ℕ) → length (to_text h first last) ≤ 14
  to_short h first last = by (first == last)
    where
      by : (b : Bool) → length (cond b [] (codes " to " ++ day_word h last)) ≤ 14
      by true = omega arith
      by false = omega (arith, day_short (unsigned_abs h.year) h.month (last - 364))

  wish_short : (w : Wish) → is_wish problem.base.rules.horizon (length problem.base.pairings) w ≡ true → length (wish_text problem.base w) ≤ 420
  wish_short (Fly p) h = omega (arith, pairing_short problem p)
  wish_short (Avoid f) h = omega (arith, filter_short f h)
  wish_short (Prefer n f) h =
      let t = and_parts _ (is_filter (length problem.base.pairings) f) h in
      let few : n ≤ 600 = leb-true n 600 (and_parts (nat_le 1 n) (nat_le n 600) t.0).1 in
      omega (
        arith,
        length-append (codes "prefer " ++ number_text n) (32 ∷ filter_text problem.base.pairings f),
        number_short n (omega (arith, few)),
        filter_short f t.1,
      )
  wish_short (Off first last) h =
      let horizon = problem.base.rules.horizon in
      omega (
        arith,
        length-append (codes "off " ++ day_word horizon first) (to_text horizon first last),
        day_short (unsigned_abs horizon.year) horizon.month (first - 364),
        to_short horizon first last,
      )
  wish_short (CreditBelow m) h = omega (arith, minutes_short m (omega (arith, leb-true m 59999 h)))
  wish_short (CreditAbove m) h = omega (arith, minutes_short m (omega (arith, leb-true m 59999 h)))
  wish_short (DaysOff n) h = omega (arith, number_short n (omega (arith, leb-true n 31 h)))

  pub bid_short : (b : Bid) → IsBid problem.base.rules.horizon (length problem.base.pairings) b → length (bid_text problem.base b) ≤ 431
  unfolding bid_text
  bid_short b form =
      omega (
        arith,
        length-append (number_text b.weight) (32 ∷ wish_text problem.base b.wish),
        number_short b.weight (omega (arith, form.few_weight)),
        wish_short b.wish form.wish_form,
      )

  text_short : (bid : BidRef) → length (text_of problem bid) ≤ 431
  text_short bid =
      elim (slice_get_cases (bids_of problem bid.member) bid.bid).1 [
        | inl there ↦
            let form : IsBid problem.base.rules.horizon (length problem.base.pairings) there.0 =
            subst (IsBid problem.base.rules.horizon (length problem.base.pairings)) there.3
            (each_of problem.bids bid.member problem.valid.each_bid bid.bid there.0 there.1) in
            let text : text_of problem bid ≡ bid_text problem.base there.0 = ap (λ (o : Option Bid). option_map_or (bid_text problem.base) o []) there.2 in
            subst (λ (t : List ℕ). length t ≤ 431) (sym text) (bid_short there.0 form)
        | inr past ↦
            let text : text_of problem bid ≡ [] = ap (λ (o : Option Bid). option_map_or (bid_text problem.base) o []) past.1 in
            subst (λ (t : List ℕ). length t ≤ 431) (sym text) (omega arith)
      ]
    where
      each_of : (lists : List (List Bid)) (m : ℕ) → All (All (IsBid problem.base.rules.horizon (length problem.base.pairings))) lists
          → All (IsBid problem.base.rules.horizon (length problem.base.pairings)) (unwrap_or (slice_get lists m) [])
      each_of [] m each = λ k d lt. absurd (omega arith)
      each_of (x ∷ xs) zero each = All-head (All (IsBid problem.base.rules.horizon (length problem.base.pairings))) x xs each
      each_of (x ∷ xs) (suc m) each = each_of xs m (All-tail (All (IsBid problem.base.rules.horizon (length problem.base.pairings))) x xs each)

  cause_short : (c : Cause) → place_of c ≤ length problem.base.members → length (cause_text problem c) ≤ 33
  unfolding cause_text
  cause_short Tie within = omega arith
  cause_short (Place zero) within = omega arith
  cause_short (Place (suc m)) within =
      let few : length problem.base.members ≤ 200 = problem.valid.month.members_form.few in
      omega (
        arith,
        length-append (codes "place " ++ number_text (suc m)) (32 ∷ member_name problem m),
        number_short (suc m) (omega (arith, few, within)),
        member_short problem m,
      )

  end_short : (d : Denial) → length (end_text problem d) ≤ 434
  unfolding end_text
  end_short d = omega (arith, length-append (text_of problem d.bid) (10 ∷ []), text_short d.bid)

  reason_short : (d : Denial) → IsReason problem d → length (reason_text problem d) ≤ 500
  reason_short d is =
      omega (
        arith,
        length-append (head_text problem d) (end_text problem d),
        length-append (member_name problem d.bid.member ++ (32 ∷ number_text (d.bid.bid + 1))) (32 ∷ cause_text problem d.cause),
        length-append (member_name problem d.bid.member) (32 ∷ number_text (d.bid.bid + 1)),
        member_short problem d.bid.member,
        number_short (d.bid.bid + 1) (omega (arith, is.bid.number, few_bids problem d.bid.member)),
        cause_short d.cause is.place,
        end_short d,
      )

  lines_short : (ds : List Denial) → AllByRecursion (IsReason problem) ds → length (reasons_text problem ds) ≤ 500 * length ds
  lines_short [] each = omega arith
  lines_short (d ∷ ds) each =
      omega (
        arith,
        ap (λ (s : List ℕ). length s) (flat_map-cons (reason_text problem) d ds),
        length-append (reason_text problem d) (reasons_text problem ds),
        reason_short d each.0,
        lines_short ds each.1,
      )

  pub reasons_short : (ds : List Denial) → AllByRecursion (IsReason problem) ds → length ds ≤ most_reasons → length (reasons_text problem ds) ≤ longest_text
  reasons_short ds each few = omega (arith, lines_short ds each, few)
