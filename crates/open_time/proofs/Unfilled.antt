-- With one vacant line more there is a complete roster too, so that a number that is needed is the fewest.
use Rattle.std.proofs.Common.{cond, ◌≡◌, ℕ, zero, suc, ◌+◌, ◌-◌, ◌*◌, ◌<◌, ◌≤◌, inl, inr, Bool, true, false, not, List, [], ◌∷◌, ◌++◌, length, map, Option, Some, refl, sym, ap, subst, ◌∙◌, arith, length-append, append_assoc}
use Rattle.std.specs.Prelude.{All, filter, sum_by, slice_get}
use Rattle.std.specs.List.{range_with_len, list_any, filter_map, Contains}
use Rattle.std.specs.Option.{option_map_or}
use Rattle.std.proofs.lemmas.Bool.{cases_lt}
use Rattle.std.proofs.lemmas.List.{get_or_append_left}
use Rattle.std.proofs.Math.Seq.{get_or-append_seam}
use Rattle.std.proofs.lemmas.List.FromFn.{map-range_with_len_more}
use Rattle.std.proofs.lemmas.Option.{slice_get-get_or}
use Rattle.duty_calendar.specs.declared.event.Event.{Event}
use Rattle.duty_calendar.specs.declared.member.Base.{Base}
use Rattle.duty_calendar.specs.declared.member.Member.{Member}
use Rattle.duty_calendar.specs.declared.member.Rules.{Rules}
use Rattle.duty_calendar.specs.declared.pairing.Pairing.{Pairing}
use Rattle.duty_calendar.specs.Calendar.{month_days}
use Rattle.duty_calendar.specs.Limits.{KeepsPart117}
use Rattle.duty_calendar.specs.Minutes.{is_duty, is_flying_minute, is_period_minute, is_touching, count_between}
use Rattle.duty_calendar.proofs.Counting.{count_between-none, count_between-one, count_between-le, count_between-agree}
use Rattle.roster_model.specs.declared.problem.Problem.{Problem}
use Rattle.roster_model.specs.Ascending.{is_ascending}
use Rattle.roster_model.specs.Legality.{IsLegal}
use Rattle.roster_model.specs.Rosters.{IsComplete, crew_of, line_at}
use Rattle.roster_model.specs.Scores.{is_flown}
use Rattle.roster_model.specs.Spans.{duty_events, pairing_span, event_span}
use Rattle.open_time.specs.Vacant.{IsWithVacant, HasRoomFor, IsUnfilledWith, IsUnfilledBelow, IsUnfilledUnder, vacant_member, vacant_members, no_bids}
use Rattle.open_time.proofs.Months.{vacant_valid, fewer_room}

-- ---- a legal line looks at the rules, the pairings and the member

abbrev fixed_in : Option Member → List Event
fixed_in found = option_map_or (λ m. m.fixed) found []

abbrev history_in : Option Member → List Event
history_in found = option_map_or (λ m. m.history) found []

abbrev flown : List Pairing → List ℕ → List Pairing
flown pairings line = filter_map (slice_get pairings) line

abbrev is_off : Option Member → List Pairing → List ℕ → ℕ → Bool
is_off found pairings line day =
    not (list_any (λ span. is_touching span day) (map event_span (filter (λ e. is_duty e.kind) (fixed_in found)) ++ map pairing_span (flown pairings line)))

record LegalBy (rules : Rules) (pairings : List Pairing) (found : Option Member) (line : List ℕ) : Type 0 where
  ascending : is_ascending line ≡ true
  in_range : All (λ p. p < length pairings) line
  limits :
      KeepsPart117
      (map event_span (fixed_in found) ++ map pairing_span (flown pairings line))
      (history_in found ++ (fixed_in found ++ duty_events (flown pairings line)))
      (fixed_in found ++ duty_events (flown pairings line))
      (month_days rules.horizon)
  least_credit :
      option_map_or (λ m. m.low) found 0 ≤ sum_by (λ e. e.credit) (fixed_in found) + sum_by (λ p. p.credit) (flown pairings line)
  most_credit :
      sum_by (λ e. e.credit) (fixed_in found) + sum_by (λ p. p.credit) (flown pairings line) ≤ option_map_or (λ m. m.high) found 0
  enough_days_off : rules.days_off ≤ count_between (is_off found pairings line) 365 (365 + month_days rules.horizon)

by_parts : (a : Problem) (m : ℕ) (line : List ℕ) → IsLegal a m line → LegalBy a.base.rules a.base.pairings (slice_get a.base.members m) line
by_parts a m line h = record {
  ascending = h.ascending;
  in_range = h.in_range;
  limits = h.limits;
  least_credit = h.least_credit;
  most_credit = h.most_credit;
  enough_days_off = h.enough_days_off;
}

of_parts : (a : Problem) (m : ℕ) (line : List ℕ) → LegalBy a.base.rules a.base.pairings (slice_get a.base.members m) line → IsLegal a m line
of_parts a m line h = record {
  ascending = h.ascending;
  in_range = h.in_range;
  limits = h.limits;
  least_credit = h.least_credit;
  most_credit = h.most_credit;
  enough_days_off = h.enough_days_off;
}

legal_alike : (a b : Problem) (m : ℕ) (line : List ℕ) → a.base.rules ≡ b.base.rules → a.base.pairings ≡ b.base.pairings
    → slice_get a.base.members m ≡ slice_get b.base.members m → IsLegal a m line → IsLegal b m line
legal_alike a b m line r p f h =
    of_parts b m line
    (subst (λ (x : Option Member). LegalBy b.base.rules b.base.pairings x line) f
    (subst (λ (ps : List Pairing). LegalBy b.base.rules ps (slice_get a.base.members m) line) p
    (subst (λ (rs : Rules). LegalBy rs a.base.pairings (slice_get a.base.members m) line) r (by_parts a m line h))))

-- ---- the empty line of a vacant line is legal, where the days off are no more than the month's days

count_none : (test : ℕ → Bool) (start n : ℕ) → ((m : ℕ) → test m ≡ false) → count_between test start (start + n) ≡ 0
count_none test start zero none =
    let empty : start + 0 ≡ start = omega arith in rw (empty, count_between-none test start) refl
count_none test start (suc n) none =
    let more : start + suc n ≡ (start + n) + 1 = omega arith in
    let less : count_between test start (start + n) ≡ 0 = count_none test start n none in
    rw (more, count_between-one test start (start + n) (omega arith), less, none (start + n)) refl

count_all : (test : ℕ → Bool) (start n : ℕ) → ((m : ℕ) → test m ≡ true) → count_between test start (start + n) ≡ n
count_all test start zero all =
    let empty : start + 0 ≡ start = omega arith in rw (empty, count_between-none test start) refl
count_all test start (suc n) all =
    let more : start + suc n ≡ (start + n) + 1 = omega arith in
    let less : count_between test start (start + n) ≡ n = count_all test start n all in
    rw (more, count_between-one test start (start + n) (omega arith), less, all (start + n)) (omega arith)

-- no event has a minute
few_minutes : (test : ℕ → Bool) (t width limit : ℕ) → ((m : ℕ) → test m ≡ false) → count_between test t (t + width) ≤ limit
few_minutes test t width limit none = omega (arith, count_none test t width none)

few_of_year : (test : ℕ → Bool) (first last limit : ℕ) → first + 364 ≡ last → ((m : ℕ) → test m ≡ false)
    → count_between test (1440 * first) (1440 * (last + 1)) ≤ limit
few_of_year test first last limit e none =
    let stop : 1440 * (last + 1) ≡ 1440 * first + 525600 = omega (arith, e) in
    rw stop (few_minutes test (1440 * first) 525600 limit none)

contains_nothing : (e : Event) → Contains [] e → ⊥
contains_nothing e h = omega (arith, h.1)

nothing_kept : (days : ℕ) → KeepsPart117 [] [] [] days
nothing_kept days = record {
  apart = λ m. omega arith;
  rested = λ i d lt. absurd (omega arith);
  free = λ i d lt. absurd (omega arith);
  flight_672 = λ t lt past. few_minutes (is_flying_minute []) t 40320 6000 (λ m. refl);
  duty_168 = λ t lt past. few_minutes (is_period_minute []) t 10080 3600 (λ m. refl);
  duty_672 = λ t lt past. few_minutes (is_period_minute []) t 40320 11400 (λ m. refl);
  flight_365 = λ first last width from to. few_of_year (is_flying_minute []) first last 60000 width (λ m. refl);
  nights = λ e late fourth. contains_nothing fourth.first fourth.nights.0.flown;
}

empty_legal : (rules : Rules) (pairings : List Pairing) (k : ℕ) → rules.days_off ≤ month_days rules.horizon
    → LegalBy rules pairings (Some (vacant_member k)) []
empty_legal rules pairings k few = record {
  ascending = refl;
  in_range = λ i d lt. absurd (omega arith);
  limits = nothing_kept (month_days rules.horizon);
  least_credit = omega arith;
  most_credit = omega arith;
  enough_days_off = omega (arith, few, count_all (λ day. true) 365 (month_days rules.horizon) (λ m. refl));
}

-- ---- one vacant line more

none_more : (n : ℕ) → n + cond false 1 0 ≡ n
none_more n = omega arith

slice_left : {A : Type 0} (xs ys : List A) (m : ℕ) (d : A) → m < length xs → slice_get (xs ++ ys) m ≡ slice_get xs m
slice_left xs ys m d lt =
    slice_get-get_or (xs ++ ys) m d (omega (arith, lt, length-append xs ys))
    ∙ ap (λ (x : _). Some x) (get_or_append_left xs ys d m lt)
    ∙ sym (slice_get-get_or xs m d lt)

slice_last : {A : Type 0} (xs : List A) (y d : A) → slice_get (xs ++ y ∷ []) (length xs) ≡ Some y
slice_last xs y d =
    slice_get-get_or (xs ++ y ∷ []) (length xs) d (omega (arith, length-append xs (y ∷ [])))
    ∙ ap (λ (x : _). Some x) (get_or-append_seam xs y [] d)

module _ (problem : Problem) (less : ℕ) (made next : Problem) (of : IsWithVacant problem less made) (then : IsWithVacant problem (less + 1) next) where
  same_rules : made.base.rules ≡ next.base.rules
  same_rules = of.rules ∙ sym then.rules

  same_pairings : made.base.pairings ≡ next.base.pairings
  same_pairings = of.pairings ∙ sym then.pairings

  next_members : next.base.members ≡ made.base.members ++ vacant_member less ∷ []
  next_members =
      then.members
      ∙ ap (λ (xs : List Member). problem.base.members ++ xs) (map-range_with_len_more vacant_member 0 less less (omega arith))
      ∙ sym (append_assoc problem.base.members (vacant_members less) (vacant_member less ∷ []))
      ∙ ap (λ (xs : List Member). xs ++ vacant_member less ∷ []) (sym of.members)

  module _ (roster : List (List ℕ)) (complete : IsComplete made roster) where
    abbrev pub longer : List (List ℕ)
    longer = roster ++ [] ∷ []

    size : length next.base.members ≡ length made.base.members + 1
    size = ap (λ (xs : List Member). length xs) next_members ∙ length-append made.base.members (vacant_member less ∷ [])

    -- the days off are those of some line, so no more than there are
    few_days_off : next.base.rules.days_off ≤ month_days next.base.rules.horizon
    few_days_off =
        let first = complete.legal 0 (omega (arith, made.valid.month.members_form.some)) in
        let most = count_between-le (is_off (slice_get made.base.members 0) made.base.pairings (line_at roster 0)) 365 (365 + month_days made.base.rules.horizon) in
        subst (λ (r : Rules). r.days_off ≤ month_days r.horizon) same_rules (omega (arith, first.enough_days_off, most))

    legal_longer : (m : ℕ) → m < length next.base.members → IsLegal next m (line_at longer m)
    legal_longer m lt =
        elim (cases_lt m (length made.base.members)) [
          | inl old ↦
              subst (λ (line : List ℕ). IsLegal next m line) (sym (get_or_append_left roster ([] ∷ []) [] m (omega (arith, old, complete.lines))))
              (legal_alike made next m (line_at roster m) same_rules same_pairings
              (sym (slice_left made.base.members (vacant_member less ∷ []) m (vacant_member 0) old) ∙ ap (λ (xs : List Member). slice_get xs m) (sym next_members))
              (complete.legal m old))
          | inr new ↦
              (let last : length roster ≡ m = omega (arith, lt, new, size, complete.lines) in
              let here : slice_get next.base.members m ≡ Some (vacant_member less) =
              ap (λ (xs : List Member). slice_get xs m) next_members
              ∙ ap (λ (k : ℕ). slice_get (made.base.members ++ vacant_member less ∷ []) k) (omega (arith, last, complete.lines))
              ∙ slice_last made.base.members (vacant_member less) (vacant_member 0) in
              let empty : line_at longer m ≡ [] =
              ap (λ (k : ℕ). line_at longer k) (sym last) ∙ get_or-append_seam roster [] [] [] in
              subst (λ (line : List ℕ). IsLegal next m line) (sym empty)
              (of_parts next m []
              (subst (λ (x : Option Member). LegalBy next.base.rules next.base.pairings x []) (sym here)
              (empty_legal next.base.rules next.base.pairings less few_days_off))))
        ]

    crew_longer : (p : ℕ) → crew_of next longer p ≡ crew_of made roster p
    crew_longer p =
        let n : ℕ = length made.base.members in
        let test : ℕ → Bool = λ m. is_flown (line_at longer m) p in
        let old : ℕ → Bool = λ m. is_flown (line_at roster m) p in
        let empty : line_at longer n ≡ [] =
        ap (λ (k : ℕ). line_at longer k) (sym complete.lines) ∙ get_or-append_seam roster [] [] [] in
        let last : test n ≡ false = ap (λ (line : List ℕ). is_flown line p) empty in
        let agree : count_between test 0 (0 + n) ≡ count_between old 0 (0 + n) =
        count_between-agree test old 0 n (λ m a b. ap (λ (line : List ℕ). is_flown line p) (get_or_append_left roster ([] ∷ []) [] m (omega (arith, b, complete.lines)))) in
        let whole : 0 + n ≡ n = omega arith in
        ap (λ (k : ℕ). count_between test 0 k) size
        ∙ count_between-one test 0 n (omega arith)
        ∙ ap (λ (b : Bool). count_between test 0 n + cond b 1 0) last
        ∙ none_more (count_between test 0 n)
        ∙ rw whole at agree

    pub filled_more : IsComplete next longer
    filled_more = record {
      lines = omega (arith, length-append roster ([] ∷ []), complete.lines, size);
      legal = legal_longer;
      covered = λ p lt.
          crew_longer p
          ∙ complete.covered p (subst (λ (ps : List Pairing). p < length ps) (sym same_pairings) lt)
          ∙ ap (λ (ps : List Pairing). option_map_or (λ x. x.need) (slice_get ps p) 0) same_pairings;
    }

-- a month with room has one with so many vacant lines
with_made : (problem : Problem) (count : ℕ) → HasRoomFor problem count → (made : Problem) × IsWithVacant problem count made
with_made problem count room =
    let base : Base = record {
      rules = problem.base.rules;
      pairings = problem.base.pairings;
      members = problem.base.members ++ vacant_members count;
    } in
    let bids = problem.bids ++ map no_bids (range_with_len 0 count) in (
      record { base = base; bids = bids; valid = vacant_valid problem count base bids room refl refl refl refl },
      record { rules = refl; pairings = refl; members = refl; bids = refl },
    )

unfilled_by : (problem : Problem) (gap less : ℕ) → HasRoomFor problem (less + gap) → IsUnfilledWith problem (less + gap) → IsUnfilledWith problem less
unfilled_by problem zero less room none = λ made of.
    let same : less + 0 ≡ less = omega arith in
    none made (subst (λ (n : ℕ). IsWithVacant problem n made) (sym same) of)
unfilled_by problem (suc gap) less room none = λ made of roster complete.
    let same : less + suc gap ≡ (less + 1) + gap = omega arith in
    let room' : HasRoomFor problem ((less + 1) + gap) = subst (λ (n : ℕ). HasRoomFor problem n) same room in
    let more = with_made problem (less + 1) (fewer_room problem ((less + 1) + gap) (less + 1) (omega arith) room') in
    unfilled_by problem gap (less + 1) room' (subst (λ (n : ℕ). IsUnfilledWith problem n) same none)
    more.0 more.1 (longer problem less made more.0 of more.1 roster complete)
    (filled_more problem less made more.0 of more.1 roster complete)

pub unfilled_under : (problem : Problem) (count : ℕ) → HasRoomFor problem count → IsUnfilledBelow problem count → IsUnfilledUnder problem count
unfilled_under problem zero room below less lt = absurd (omega (arith, lt))
unfilled_under problem (suc last) room below less lt =
    let same : last ≡ less + (last - less) = omega (arith, lt) in
    unfilled_by problem (last - less) less
    (subst (λ (n : ℕ). HasRoomFor problem n) same (fewer_room problem (suc last) last (omega arith) room))
    (subst (λ (n : ℕ). IsUnfilledWith problem n) same (below last (omega arith)))
