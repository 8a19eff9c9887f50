-- Members without events keep the reader's checks in any month.
use Rattle.std.proofs.Common.{◌≡◌, ◌≢◌, ◌<◌, ◌≤◌, List, length, get_or, map, sym, subst, arith, AllPairs}
use Rattle.std.proofs.lemmas.List.{get_or-map, length-map}
use Rattle.std.proofs.lemmas.List.Elements.{All-map, All-nil}
use Rattle.duty_calendar.specs.Checks.{IsFiled, IsMember, AreMembers}
use Rattle.duty_calendar.specs.Calendar.{month_end}
use Rattle.duty_calendar.specs.declared.event.Event.{Event}
use Rattle.duty_calendar.specs.declared.horizon.Horizon.{Horizon}
use Rattle.duty_calendar.specs.declared.member.Member.{Member}
use Rattle.next_folder.specs.Rolled.{bare}

bare_member : (this h : Horizon) (m : Member) → IsMember this m → IsMember h (bare m)
bare_member this h m form = record {
  named = form.named;
  window = form.window;
  few_credit = form.few_credit;
  few_history = omega arith;
  few_fixed = omega arith;
  past = All-nil (IsFiled h);
  coming = All-nil (IsFiled h);
  before = All-nil (λ (e : Event). e.report < 525600);
  inside = All-nil (λ (e : Event). (525600 ≤ e.report) × (e.report < month_end h));
  in_order = λ i j d lt inside. absurd (omega (arith, inside));
}

pub all_bare : (this h : Horizon) (ms crew : List Member) → AreMembers this ms → crew ≡ map bare ms → AreMembers h crew
all_bare this h ms crew form is = subst (λ (cs : List Member). AreMembers h cs) (sym is) whole
  where
    size : length (map bare ms) ≡ length ms
    size = length-map ms bare

    names : AllPairs (λ a b. a.name ≢ b.name) (map bare ms)
    names i j d lt inside = λ equal.
        let within : j < length ms = omega (arith, inside, size) in
        let before : i < length ms = omega (arith, lt, within) in
        let at_i : get_or (map bare ms) i d ≡ bare (get_or ms i d) = get_or-map bare ms i d d before in
        let at_j : get_or (map bare ms) j d ≡ bare (get_or ms j d) = get_or-map bare ms j d d within in
        form.names i j d lt within
        (subst (λ (m : Member). m.name ≡ (bare (get_or ms j d)).name) at_i (subst (λ (m : Member). (get_or (map bare ms) i d).name ≡ m.name) at_j equal))

    whole : AreMembers h (map bare ms)
    whole =
        let some = form.some in
        let few = form.few in
        record {
          some = omega (arith, some, size);
          few = omega (arith, few, size);
          each = All-map (IsMember h) bare ms (λ k d lt. bare_member this h (get_or ms k d) (form.each k d lt));
          names = names;
        }
