-- What is carried of events, gathered one by one.
use Rattle.std.proofs.Common.{◌≡◌, ℕ, ◌+◌, ◌<◌, true, false, List, [], ◌∷◌, ◌++◌, Some, None, length, get_or, take, map, refl, ap, sym, ◌∙◌, append_assoc}
use Rattle.std.specs.Prelude.{filter, slice_get}
use Rattle.std.proofs.lemmas.List.{take_more, map-append, append-nil}
use Rattle.std.proofs.lemmas.List.Elements.{filter-append}
use Rattle.std.proofs.lemmas.Grind.{flat_map-append}
use Rattle.duty_calendar.specs.declared.event.Event.{Event}
use Rattle.duty_calendar.specs.declared.member.Member.{Member}
use Rattle.duty_calendar.specs.declared.pairing.Duty.{Duty}
use Rattle.duty_calendar.specs.declared.pairing.Pairing.{Pairing}
use Rattle.roster_model.specs.declared.problem.Problem.{Problem}
use Rattle.roster_model.specs.Rosters.{line_at}
use Rattle.roster_model.specs.Spans.{duty_event, duty_events}
use Rattle.roster_model.specs.Timelines.{pairings_of, events_of}
use Rattle.roster_model.proofs.Parts.{pairings_more}
use Rattle.next_month.specs.Carrying.{is_carried, carried, all_carried}
use Rattle.next_month.specs.Heirs.{place_named, events_by}

pub carried_yes : (d : ℕ) (e : Event) → is_carried d e ≡ true → all_carried d (e ∷ []) ≡ carried d e ∷ []
carried_yes d e h = rw h refl

pub carried_no : (d : ℕ) (e : Event) → is_carried d e ≡ false → all_carried d (e ∷ []) ≡ []
carried_no d e h = rw h refl

pub carried_append : (d : ℕ) (xs ys : List Event) → all_carried d (xs ++ ys) ≡ all_carried d xs ++ all_carried d ys
carried_append d xs ys = ap (λ (es : List Event). map (carried d) es) (filter-append (is_carried d) xs ys) ∙ map-append (carried d) (filter (is_carried d) xs) (filter (is_carried d) ys)

-- some more events behind those that were gathered
pub gathered : (d : ℕ) (xs ys all : List Event) (old before now : List Event) → all ≡ xs ++ ys → before ≡ old ++ all_carried d xs → now ≡ before ++ all_carried d ys → now ≡ old ++ all_carried d all
gathered d xs ys all old before now parts was more =
    more ∙ ap (λ (es : List Event). es ++ all_carried d ys) was ∙ append_assoc old (all_carried d xs) (all_carried d ys)
    ∙ ap (λ (es : List Event). old ++ es) (sym (carried_append d xs ys) ∙ ap (λ (es : List Event). all_carried d es) (sym parts))

pub event_more : (d : ℕ) (events : List Event) (k : ℕ) (e : Event) (old before now : List Event) → k < length events → e ≡ get_or events k e
    → before ≡ old ++ all_carried d (take k events) → now ≡ before ++ all_carried d (e ∷ []) → now ≡ old ++ all_carried d (take (k + 1) events)
event_more d events k e old before now inside is was more =
    gathered d (take k events) (e ∷ []) (take (k + 1) events) old before now (take_more events k e inside ∙ ap (λ (x : Event). take k events ++ x ∷ []) (sym is)) was more

pub duty_more : (d : ℕ) (duties : List Duty) (k : ℕ) (x : Duty) (old before now : List Event) → k < length duties → x ≡ get_or duties k x
    → before ≡ old ++ all_carried d (map duty_event (take k duties)) → now ≡ before ++ all_carried d (duty_event x ∷ []) → now ≡ old ++ all_carried d (map duty_event (take (k + 1) duties))
duty_more d duties k x old before now inside is was more =
    let more_duties : take (k + 1) duties ≡ take k duties ++ x ∷ [] = take_more duties k x inside ∙ ap (λ (y : Duty). take k duties ++ y ∷ []) (sym is) in
    gathered d (map duty_event (take k duties)) (duty_event x ∷ []) (map duty_event (take (k + 1) duties)) old before now
    (ap (λ (ds : List Duty). map duty_event ds) more_duties ∙ map-append duty_event (take k duties) (x ∷ [])) was more

pub pairing_more : (d : ℕ) (problem : Problem) (line : List ℕ) (k e : ℕ) (x : Pairing) (old before now : List Event) → k < length line
    → slice_get problem.base.pairings (get_or line k e) ≡ Some x
    → before ≡ old ++ all_carried d (duty_events (pairings_of problem (take k line)))
    → now ≡ before ++ all_carried d (map duty_event x.duties)
    → now ≡ old ++ all_carried d (duty_events (pairings_of problem (take (k + 1) line)))
pairing_more d problem line k e x old before now inside found was more =
    let ps : List Pairing = pairings_of problem (take k line) in
    let parts : duty_events (ps ++ x ∷ []) ≡ duty_events ps ++ map duty_event x.duties =
    flat_map-append (λ (p : Pairing). map duty_event p.duties) ps (x ∷ []) ∙ ap (λ (es : List Event). duty_events ps ++ es) (append-nil (map duty_event x.duties)) in
    gathered d (duty_events ps) (map duty_event x.duties) (duty_events (pairings_of problem (take (k + 1) line))) old before now
    (ap (λ (qs : List Pairing). duty_events qs) (pairings_more problem.base.pairings line k e x inside found) ∙ parts) was more

module _ (d : ℕ) (problem : Problem) (member : ℕ) (line : List ℕ) where
  -- history, fixed events and the line's duties
  pub all_three : (person : Member) (none past fixed all : List Event) → slice_get problem.base.members member ≡ Some person
      → none ≡ [] → past ≡ none ++ all_carried d person.history → fixed ≡ past ++ all_carried d person.fixed → all ≡ fixed ++ all_carried d (duty_events (pairings_of problem line))
      → all ≡ all_carried d (events_of problem member line)
  all_three person none past fixed all found e0 e1 e2 e3 =
      let whole : events_of problem member line ≡ person.history ++ (person.fixed ++ duty_events (pairings_of problem line)) = rw found refl in
      let front : past ≡ all_carried d person.history = e1 ∙ ap (λ (es : List Event). es ++ all_carried d person.history) e0 in
      gathered d person.history (person.fixed ++ duty_events (pairings_of problem line)) (events_of problem member line) [] past all whole front
      (e3 ∙ ap (λ (es : List Event). es ++ all_carried d (duty_events (pairings_of problem line))) e2
      ∙ append_assoc past (all_carried d person.fixed) (all_carried d (duty_events (pairings_of problem line)))
      ∙ ap (λ (es : List Event). past ++ es) (sym (carried_append d person.fixed (duty_events (pairings_of problem line)))))

module _ (d : ℕ) (problem : Problem) (roster : List (List ℕ)) (name : List ℕ) (events : List Event) where
  pub named_there : (m : ℕ) (line : List ℕ) → place_named problem name ≡ Some m → line ≡ line_at roster m → events ≡ all_carried d (events_of problem m line) → events ≡ all_carried d (events_by problem roster name)
  named_there m line found at is = is ∙ ap (λ (l : List ℕ). all_carried d (events_of problem m l)) at ∙ rw found refl

  pub named_nowhere : place_named problem name ≡ None → events ≡ [] → events ≡ all_carried d (events_by problem roster name)
  named_nowhere found is = is ∙ rw found refl
