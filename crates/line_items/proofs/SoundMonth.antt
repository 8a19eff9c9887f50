-- What the readers' checks say of pairings and of a member's events.
use Rattle.std.proofs.Common.{◌≡◌, ℕ, ◌+◌, ◌≤◌, List, [], ◌∷◌, ◌++◌, Option, Some, None, length, map, sym, subst, ◌∙◌, arith, inl, inr}
use Rattle.std.specs.Prelude.{AllPairs, slice_get}
use Rattle.std.specs.List.{AllByRecursion}
use Rattle.std.specs.Option.{option_map_or}
use Rattle.std.proofs.lemmas.Option.{slice_get_cases}
use Rattle.std.proofs.lemmas.List.Elements.{recursion_from_All}
use Rattle.duty_calendar.specs.declared.event.Event.{Event}
use Rattle.duty_calendar.specs.declared.horizon.Horizon.{Horizon}
use Rattle.duty_calendar.specs.declared.member.Member.{Member}
use Rattle.duty_calendar.specs.declared.pairing.Duty.{Duty}
use Rattle.duty_calendar.specs.declared.pairing.Pairing.{Pairing}
use Rattle.duty_calendar.specs.Checks.{IsDuty, IsPairing, IsFiled, IsMember}
use Rattle.roster_model.specs.declared.problem.Problem.{Problem}
use Rattle.roster_model.specs.Spans.{event_span}
use Rattle.roster_model.specs.Timelines.{history_of, fixed_of}
use Rattle.line_items.proofs.Resting.{Lasts, Disjoint, disjoint_from}
use Rattle.line_items.proofs.Following.{AreDuties, InOrder, not_crossing}
use Rattle.line_items.proofs.LineParts.{PairsBy, pairs_to, pairs_first, pairs_second, pairs_from, all_join}
use Rattle.line_items.proofs.Fitting.{IsSoundMonth}

-- one event ends before the other begins
abbrev Before : Event → Event → Type 0
Before d e = d.release ≤ e.report

-- duties of a pairing
in_order : (ds : List Duty) → AllByRecursion IsDuty ds → PairsBy (λ (d e : Duty). d.release + 600 ≤ e.report) ds → InOrder ds
in_order [] each pairs = tt
in_order (d ∷ ds) each pairs = (each.0.lasts, pairs.0, in_order ds each.1 pairs.1)

are_duties : (ds : List Duty) → 1 ≤ length ds → InOrder ds → AreDuties ds
are_duties [] some order = absurd (omega (arith, some))
are_duties (d ∷ ds) some order = order

pairing_duties : (h : Horizon) (p : Pairing) → IsPairing h p → AreDuties p.duties
pairing_duties h p form =
    are_duties p.duties form.some_duties
    (in_order p.duties (recursion_from_All IsDuty p.duties form.each_duty)
    (pairs_to (λ (d e : Duty). d.release + 600 ≤ e.report) p.duties form.in_order))

-- the pairing of a number
pairing_at : (problem : Problem) (n : ℕ) (x : Pairing) → slice_get problem.base.pairings n ≡ Some x → IsPairing problem.base.rules.horizon x
pairing_at problem n x is =
    elim (slice_get_cases problem.base.pairings n).1 [
      | inl found ↦
          let one : found.0 ≡ x = let e : Some found.0 ≡ Some x = sym found.2 ∙ is in cc in
          subst (IsPairing problem.base.rules.horizon) (found.3 ∙ one) (problem.valid.month.pairings_form.each n found.0 found.1)
      | inr past ↦ absurd (let none : slice_get problem.base.pairings n ≡ None = past.1 in cc)
    ]

-- events as files give them last
all_last : (h : Horizon) (es : List Event) → AllByRecursion (IsFiled h) es → AllByRecursion Lasts es
all_last h [] all = tt
all_last h (e ∷ es) all = (record { lasts = all.0.form.lasts }, all_last h es all.1)

-- spans of events in order are apart
all_after : (e : Event) (es : List Event) → AllByRecursion (Before e) es → AllByRecursion (Disjoint (event_span e)) (map event_span es)
all_after e [] all = tt
all_after e (x ∷ xs) all =
    (disjoint_from (event_span e) (event_span x) (not_crossing e.report e.release x.report x.release all.0), all_after e xs all.1)

spans_apart : (es : List Event) → PairsBy Before es → PairsBy Disjoint (map event_span es)
spans_apart [] pairs = tt
spans_apart (e ∷ es) pairs = (all_after e es pairs.0, spans_apart es pairs.1)

-- what holds of the events of a member
record AreSound (history fixed : List Event) : Type 0 where
  events : AllByRecursion Lasts (history ++ fixed)
  apart : PairsBy Disjoint (map event_span fixed)
  order : AllPairs (λ (d e : Event). d.release ≤ e.report) fixed
  past : AllPairs (λ (d e : Event). d.release ≤ e.report) history

none_sound : AreSound [] []
none_sound = record { events = tt; apart = tt; order = λ i j d a b. absurd (omega (arith, b)); past = λ i j d a b. absurd (omega (arith, b)) }

member_sound : (h : Horizon) (m : Member) → IsMember h m → AreSound m.history m.fixed
member_sound h m form =
    let pairs = pairs_second Before m.history m.fixed (pairs_to Before (m.history ++ m.fixed) form.in_order) in
    record {
      events = all_join Lasts m.history m.fixed
          (all_last h m.history (recursion_from_All (IsFiled h) m.history form.past))
          (all_last h m.fixed (recursion_from_All (IsFiled h) m.fixed form.coming));
      apart = spans_apart m.fixed pairs;
      order = pairs_from Before m.fixed pairs;
      past = pairs_from Before m.history (pairs_first Before m.history m.fixed (pairs_to Before (m.history ++ m.fixed) form.in_order));
    }

of_member : (problem : Problem) (member : ℕ) → AreSound (history_of problem member) (fixed_of problem member)
of_member problem member =
    elim (slice_get_cases problem.base.members member).1 [
      | inl found ↦
          subst Sound (sym found.2) (member_sound problem.base.rules.horizon found.0
          (subst (IsMember problem.base.rules.horizon) found.3 (problem.valid.month.members_form.each member found.0 found.1)))
      | inr past ↦ subst Sound (sym past.1) none_sound
    ]
  where
    Sound : Option Member → Type 0
    Sound o = AreSound (option_map_or (λ (m : Member). m.history) o []) (option_map_or (λ (m : Member). m.fixed) o [])

pub sound_month : (problem : Problem) (member : ℕ) → IsSoundMonth problem member
sound_month problem member =
    let are = of_member problem member in
    record {
      duties = λ n x is. pairing_duties problem.base.rules.horizon x (pairing_at problem n x is);
      events = are.events;
      fixed_apart = are.apart;
      fixed_order = are.order;
      past_order = are.past;
    }
