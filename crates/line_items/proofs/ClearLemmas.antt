-- Tests of some event, as code makes them.
use Rattle.std.proofs.Common.{◌≡◌, ℕ, Bool, true, false, not, ◌&&◌, ◌||◌, List, [], ◌∷◌, ◌++◌, map, reverse, refl, sym, ap, ◌∙◌}
use Rattle.std.specs.List.{list_any}
use Rattle.std.proofs.lemmas.List.Folds.{list_any-append}
use Rattle.std.proofs.lemmas.List.Sorted.{list_any-IsPermutation, IsPermutation-reverse}
use Rattle.duty_calendar.specs.declared.event.Event.{Event}
use Rattle.duty_calendar.specs.declared.interval.Interval.{Interval}
use Rattle.duty_calendar.specs.declared.pairing.Duty.{Duty}
use Rattle.duty_calendar.specs.declared.pairing.Pairing.{Pairing}
use Rattle.duty_calendar.specs.Minutes.{is_flight}
use Rattle.roster_model.specs.declared.node.Decision.{Decision}
use Rattle.roster_model.specs.declared.problem.Problem.{Problem}
use Rattle.roster_model.specs.Decided.{is_on, is_same, is_decided_as}
use Rattle.roster_model.specs.Spans.{duty_event, event_span, pairing_span}
use Rattle.roster_model.specs.Timelines.{fixed_of}
use Rattle.line_items.specs.Clear.{is_tiring, is_tired_by, is_crossing, duties_of, base_of, is_clear}

-- some element of two lists
pub any_two : {X : Type 0} (test : X → Bool) (xs ys : List X) → list_any test (xs ++ ys) ≡ (list_any test xs || list_any test ys)
any_two test xs ys = list_any-append test xs ys

pub ruleset any_of_two = (any_two)

-- what is made of some element passes
any_mapped : {X Y : Type 0} (make : X → Y) (test : Y → Bool) (xs : List X) → list_any test (map make xs) ≡ list_any (λ x. test (make x)) xs
any_mapped make test [] = refl
any_mapped make test (x ∷ xs) = ap (λ (b : Bool). test (make x) || b) (any_mapped make test xs)

-- duties that are tired, and duties that tire
pub duties_tired : (duties : List Duty) (events : List Event)
    → is_tired_by (map duty_event duties) events ≡ list_any (λ d. list_any (is_tiring d.report) events) duties
duties_tired duties events = any_mapped duty_event (λ (e : Event). is_flight e.kind && list_any (is_tiring e.report) events) duties

pub duties_tiring : (flights : List Event) (duties : List Duty)
    → is_tired_by flights (map duty_event duties) ≡ list_any (λ e. is_flight e.kind && list_any (λ d. is_tiring e.report (duty_event d)) duties) flights
duties_tiring [] duties = refl
duties_tiring (e ∷ es) duties =
    rw (any_mapped duty_event (is_tiring e.report) duties, duties_tiring es duties) refl

-- a pairing that is neither tired nor tiring is clear where it crosses nothing
pub clear_is : (problem : Problem) (member : ℕ) (p : Pairing) (duties : List Duty) (span : Interval) (crossing : Bool)
    → duties ≡ p.duties → span ≡ pairing_span p
    → list_any (λ d. list_any (is_tiring d.report) (base_of problem member)) duties ≡ false
    → list_any (λ e. is_flight e.kind && list_any (λ d. is_tiring e.report (duty_event d)) duties) (fixed_of problem member) ≡ false
    → crossing ≡ list_any (λ e. is_crossing (event_span e) span) (fixed_of problem member)
    → not crossing ≡ is_clear problem member p
clear_is problem member p duties span crossing same_duties same_span tired tiring crosses =
    let tired_none : is_tired_by (duties_of p) (base_of problem member) ≡ false =
    ap (λ (ds : List Duty). is_tired_by (map duty_event ds) (base_of problem member)) (sym same_duties)
    ∙ duties_tired duties (base_of problem member) ∙ tired in
    let tiring_none : is_tired_by (fixed_of problem member) (duties_of p) ≡ false =
    ap (λ (ds : List Duty). is_tired_by (fixed_of problem member) (map duty_event ds)) (sym same_duties)
    ∙ duties_tiring (fixed_of problem member) duties ∙ tiring in
    let crosses_same : crossing ≡ list_any (λ e. is_crossing (event_span e) (pairing_span p)) (fixed_of problem member) =
    crosses ∙ ap (λ (s : Interval). list_any (λ e. is_crossing (event_span e) s) (fixed_of problem member)) same_span in
    joined (is_tired_by (duties_of p) (base_of problem member)) (is_tired_by (fixed_of problem member) (duties_of p))
    crossing (list_any (λ e. is_crossing (event_span e) (pairing_span p)) (fixed_of problem member)) tired_none tiring_none crosses_same
  where
    joined : (a b c d : Bool) → a ≡ false → b ≡ false → c ≡ d → not c ≡ (not a && (not b && not d))
    joined true b c d e f g = cc
    joined false true c d e f g = cc
    joined false false c d e f g = ap not g

pub decided_reverse : (node : List Decision) (member pairing : ℕ) (flies : Bool) → is_decided_as (reverse node) member pairing flies ≡ is_decided_as node member pairing flies
decided_reverse node member pairing flies =
    sym (list_any-IsPermutation (λ (d : Decision). is_on member pairing d && is_same d.flies flies) node (reverse node) (IsPermutation-reverse node))
