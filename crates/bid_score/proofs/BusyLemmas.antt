-- What touches some days, and what a line's credit is, pairing by pairing.
use Rattle.std.proofs.Common.{◌≡◌, ℕ, ◌+◌, Bool, true, false, ◌&&◌, ◌||◌, List, [], ◌∷◌, Option, Some, None, map, refl, sym, ◌∙◌, zero-add}
use Rattle.std.specs.Prelude.{filter, sum_by, slice_get}
use Rattle.std.specs.List.{list_any, filter_map, cons_option}
use Rattle.std.specs.Option.{option_map_or}
use Rattle.std.proofs.lemmas.List.Folds.{list_any-append}
use Rattle.std.proofs.lemmas.List.Sums.{sum_by-cons}
use Rattle.duty_calendar.specs.declared.event.Event.{Event}
use Rattle.duty_calendar.specs.declared.interval.Interval.{Interval}
use Rattle.duty_calendar.specs.declared.pairing.Pairing.{Pairing}
use Rattle.duty_calendar.specs.Minutes.{is_duty}
use Rattle.roster_model.specs.declared.problem.Problem.{Problem}
use Rattle.roster_model.specs.Scores.{is_touching_days}
use Rattle.roster_model.specs.Spans.{event_span, pairing_span}
use Rattle.roster_model.specs.Timelines.{busy, credit_of, fixed_of, pairings_of}

-- fixed events but leave
any_kept : (test : Interval → Bool) (events : List Event)
    → list_any test (map event_span (filter (λ e. is_duty e.kind) events))
    ≡ list_any (λ e. is_duty e.kind && test (event_span e)) events
any_kept test [] = refl
any_kept test (e ∷ es) = by_kind (is_duty e.kind) refl (any_kept test es)
  where
    by_kind : (b : Bool) → is_duty e.kind ≡ b
        → list_any test (map event_span (filter (λ e. is_duty e.kind) es)) ≡ list_any (λ e. is_duty e.kind && test (event_span e)) es
        → list_any test (map event_span (filter (λ e. is_duty e.kind) (e ∷ es)))
        ≡ list_any (λ e. is_duty e.kind && test (event_span e)) (e ∷ es)
    by_kind true h rest = rw (h, rest) refl
    by_kind false h rest = rw (h, rest) refl

-- the pairings of a line
one_flown : (test : Interval → Bool) (o : Option Pairing) (rest : List Pairing) (r : Bool)
    → list_any test (map pairing_span rest) ≡ r
    → list_any test (map pairing_span (cons_option o rest)) ≡ (option_map_or (λ p. test (pairing_span p)) o false || r)
one_flown test None rest r h = h
one_flown test (Some p) rest r h = rw h refl

any_flown : (test : Interval → Bool) (pairings : List Pairing) (line : List ℕ)
    → list_any test (map pairing_span (filter_map (slice_get pairings) line))
    ≡ list_any (λ n. option_map_or (λ p. test (pairing_span p)) (slice_get pairings n) false) line
any_flown test pairings [] = refl
any_flown test pairings (x ∷ xs) =
    one_flown test (slice_get pairings x) (filter_map (slice_get pairings) xs) _ (any_flown test pairings xs)

pub busy_touched : (problem : Problem) (member : ℕ) (line : List ℕ) (first last : ℕ)
    → list_any (is_touching_days first last) (busy problem member line)
    ≡ (list_any (λ e. is_duty e.kind && is_touching_days first last (event_span e)) (fixed_of problem member)
    || list_any (λ n. option_map_or (λ p. is_touching_days first last (pairing_span p)) (slice_get problem.base.pairings n) false) line)
busy_touched problem member line first last =
    let test = is_touching_days first last in
    list_any-append test (map event_span (filter (λ e. is_duty e.kind) (fixed_of problem member))) (map pairing_span (pairings_of problem line))
    ∙ rw (any_kept test (fixed_of problem member), any_flown test problem.base.pairings line) refl

-- their credit
one_credit : (o : Option Pairing) (rest : List Pairing) (r : ℕ)
    → sum_by (λ p. p.credit) rest ≡ r
    → sum_by (λ p. p.credit) (cons_option o rest) ≡ option_map_or (λ p. p.credit) o 0 + r
one_credit None rest r h = h ∙ sym (zero-add r)
one_credit (Some p) rest r h = sum_by-cons (λ (p : Pairing). p.credit) p rest ∙ rw h refl

credit_each : (pairings : List Pairing) (line : List ℕ)
    → sum_by (λ p. p.credit) (filter_map (slice_get pairings) line)
    ≡ sum_by (λ n. option_map_or (λ p. p.credit) (slice_get pairings n) 0) line
credit_each pairings [] = refl
credit_each pairings (x ∷ xs) =
    one_credit (slice_get pairings x) (filter_map (slice_get pairings) xs) _ (credit_each pairings xs)
    ∙ sym (sum_by-cons (λ (n : ℕ). option_map_or (λ (p : Pairing). p.credit) (slice_get pairings n) 0) x xs)

pub credit_is : (problem : Problem) (member : ℕ) (line : List ℕ)
    → credit_of problem member line
    ≡ sum_by (λ e. e.credit) (fixed_of problem member)
    + sum_by (λ n. option_map_or (λ p. p.credit) (slice_get problem.base.pairings n) 0) line
credit_is problem member line = rw (credit_each problem.base.pairings line) refl
