-- The windows along a line's stops are those of the line.
use Rattle.std.proofs.Common.{◌≡◌, ℕ, ◌+◌, ◌-◌, ◌*◌, ◌<◌, ◌≤◌, Bool, true, false, List, [], ◌∷◌, Option, Some, None, length, refl, ap, sym, ◌∙◌, subst, arith}
use Rattle.std.specs.Prelude.{All, sum_by, slice_get, nat_lt}
use Rattle.std.specs.List.{AllByRecursion}
use Rattle.std.specs.Option.{option_map_or}
use Rattle.std.proofs.lemmas.Bool.Decides.{nat_tests}
use Rattle.std.proofs.lemmas.List.Elements.{recursion_from_All, All-from_recursion}
use Rattle.std.proofs.lemmas.List.Sums.{sum_by-cons}
use Rattle.std.proofs.lemmas.Option.{slice_get_past}
use Rattle.duty_calendar.specs.declared.event.Event.{Event}
use Rattle.duty_calendar.specs.declared.pairing.Pairing.{Pairing}
use Rattle.duty_calendar.specs.Minutes.{count_between, is_flying_minute}
use Rattle.duty_calendar.specs.Limits.{AreDisjoint, AtReports, IsRested}
use Rattle.part117_limits.specs.declared.peak.Minutes.TheVariants.{Flying, Period}
use Rattle.part117_limits.proofs.Overlaps.{count_nothing}
use Rattle.label_lattice.specs.declared.counters.Usage.{Usage}
use Rattle.label_lattice.specs.Usage.{usage_extend}
use Rattle.roster_model.specs.declared.problem.Problem.{Problem}
use Rattle.roster_model.specs.declared.node.Decision.{Decision}
use Rattle.roster_model.specs.declared.proof.Lens.{Lens}
use Rattle.roster_model.specs.declared.proof.Window.{Window}
use Rattle.roster_model.specs.declared.proof.WindowKind.{WindowKind}
use Rattle.roster_model.specs.declared.proof.WindowKind.TheVariants.{Flight672, Duty672, Duty168, Flight365}
use Rattle.roster_model.specs.Lenses.{IsWindow, IsInstance, KeepsWindow, KeepsFrom}
use Rattle.roster_model.specs.Timelines.{events_of, pairings_of, coming_events, occupied}
use Rattle.line_items.specs.Clear.{base_of, duties_of}
use Rattle.line_items.specs.Items.{item_events, visited_flights}
use Rattle.line_items.proofs.Walks.{run, along, end_of}
use Rattle.line_items.proofs.ItemSteps.{usage_step}
use Rattle.line_items.specs.WindowMinutes.{minutes_from, window_minutes, kind_limit, base_usage}
use Rattle.line_items.proofs.Completing.{Completes}
use Rattle.line_items.proofs.CounterRuns.{counters_run, counters_ran}
use Rattle.line_items.proofs.EventMinutes.{line_minutes}
use Rattle.line_items.proofs.Sums.{sum_line, sum_by-filter_map}
use Rattle.line_items.proofs.Visited.{IsVisited}

-- the minutes of no events
pub from_nothing : (start : ℕ) (kind : WindowKind) → minutes_from [] start kind ≡ 0
from_nothing start Flight672 = sym (count_nothing (λ m. false) start (start + 40320) (omega arith) (λ m. refl))
from_nothing start Duty672 = sym (count_nothing (λ m. false) start (start + 40320) (omega arith) (λ m. refl))
from_nothing start Duty168 = sym (count_nothing (λ m. false) start (start + 10080) (omega arith) (λ m. refl))
from_nothing last Flight365 = sym (count_nothing (λ m. false) (1440 * (last - 364)) (1440 * (last + 1)) (omega arith) (λ m. refl))

-- a window keeps its limit exactly where it has few minutes
keeps_from : (problem : Problem) (events : List Event) (start : ℕ) (kind : WindowKind) → minutes_from events start kind ≤ kind_limit kind → KeepsFrom events start kind
keeps_from problem events start Flight672 few = few
keeps_from problem events start Duty672 few = few
keeps_from problem events start Duty168 few = few
keeps_from problem events last Flight365 few = λ first whole.
    let same : last - 364 ≡ first = omega arith in
    subst (λ (n : ℕ). count_between (is_flying_minute events) (1440 * n) (1440 * (last + 1)) ≤ 60000) same few

few_from : (problem : Problem) (events : List Event) (start : ℕ) (kind : WindowKind) → IsInstance problem start kind → KeepsFrom events start kind → minutes_from events start kind ≤ kind_limit kind
few_from problem events start Flight672 is keeps = keeps
few_from problem events start Duty672 is keeps = keeps
few_from problem events start Duty168 is keeps = keeps
few_from problem events last Flight365 is keeps = keeps (last - 364) (let h = is.0 in omega arith)

all_keep : (problem : Problem) (events : List Event) (f : Window → ℕ) (ws : List Window) → ((w : Window) → window_minutes events w ≡ f w)
    → AllByRecursion (λ w. f w ≤ kind_limit w.kind) ws → AllByRecursion (KeepsWindow events) ws
all_keep problem events f [] same all = tt
all_keep problem events f (w ∷ ws) same all =
    (keeps_from problem events w.start w.kind (subst (λ (n : ℕ). n ≤ kind_limit w.kind) (sym (same w)) all.0), all_keep problem events f ws same all.1)

all_few : (problem : Problem) (events : List Event) (f : Window → ℕ) (ws : List Window) → ((w : Window) → window_minutes events w ≡ f w)
    → AllByRecursion (IsWindow problem) ws → AllByRecursion (KeepsWindow events) ws → AllByRecursion (λ w. f w ≤ kind_limit w.kind) ws
all_few problem events f [] same are all = tt
all_few problem events f (w ∷ ws) same are all =
    (subst (λ (n : ℕ). n ≤ kind_limit w.kind) (same w) (few_from problem events w.start w.kind are.0 all.0), all_few problem events f ws same are.1 all.1)

module _ (problem : Problem) (member : ℕ) (line : List ℕ) (apart : AreDisjoint (occupied problem member line))
    (rested : AtReports (IsRested (events_of problem member line)) (coming_events problem member line)) where
  -- a line's minutes in a window
  line_from : (start : ℕ) (kind : WindowKind)
      → minutes_from (events_of problem member line) start kind
      ≡ minutes_from (base_of problem member) start kind + sum_by (λ x. minutes_from (duties_of x) start kind) (pairings_of problem line)
  line_from start Flight672 = line_minutes Flying problem member line apart rested start (start + 40320) (omega arith)
  line_from start Duty672 = line_minutes Period problem member line apart rested start (start + 40320) (omega arith)
  line_from start Duty168 = line_minutes Period problem member line apart rested start (start + 10080) (omega arith)
  line_from last Flight365 = line_minutes Flying problem member line apart rested (1440 * (last - 364)) (1440 * (last + 1)) (omega arith)

module _ (problem : Problem) (member : ℕ) (lens : Lens) where
  -- what an item adds to a window: the minutes of its pairing, if it is one
  abbrev added_minutes : Window → ℕ → ℕ
  added_minutes w item = option_map_or (λ (x : Pairing). window_minutes (duties_of x) w) (slice_get problem.base.pairings item) 0

  pub by_pairing : (w : Window) (item : ℕ) → window_minutes (item_events problem member lens item) w ≡ added_minutes w item
  by_pairing w item = go (nat_lt item (length problem.base.pairings)) refl
    where
      flight_has_none : (o : Option Event) → minutes_from (option_map_or (λ (e : Event). []) o []) w.start w.kind ≡ 0
      flight_has_none None = from_nothing w.start w.kind
      flight_has_none (Some e) = from_nothing w.start w.kind

      of_option : (o : Option Pairing) → minutes_from (option_map_or duties_of o []) w.start w.kind ≡ option_map_or (λ (x : Pairing). minutes_from (duties_of x) w.start w.kind) o 0
      of_option None = from_nothing w.start w.kind
      of_option (Some x) = refl

      go : (b : Bool) → nat_lt item (length problem.base.pairings) ≡ b → window_minutes (item_events problem member lens item) w ≡ added_minutes w item
      go true is = rw is (of_option (slice_get problem.base.pairings item))
      go false is =
          let past : length problem.base.pairings ≤ item = grind (arith, nat_tests) in
          let none = slice_get_past problem.base.pairings item past in
          rw (is, none) (flight_has_none (slice_get (visited_flights problem member lens) (item - length problem.base.pairings)))

  abbrev item_minutes : (ℕ → ℕ) → ℕ → Window → ℕ
  item_minutes adds j = window_minutes (item_events problem member lens (adds j))

  abbrev totals : (ℕ → ℕ) → List ℕ → Window → ℕ
  totals adds js w = window_minutes (base_of problem member) w + sum_by (λ j. item_minutes adds j w) js

  module _ (node : List Decision) (adds : ℕ → ℕ) (sink : ℕ) (line js : List ℕ) (visited : IsVisited problem member node lens adds sink line js) where
    stops_sum : (w : Window) → sum_by (λ j. item_minutes adds j w) js ≡ sum_by (λ x. window_minutes (duties_of x) w) (pairings_of problem line)
    stops_sum w =
        let g = added_minutes w in
        sum_same (λ j. item_minutes adds j w) (λ j. g (adds j)) js (λ j. by_pairing w (adds j))
        ∙ sym (sum_line (length problem.base.pairings) adds once g (λ p le. ap (λ o. option_map_or (λ (x : Pairing). window_minutes (duties_of x) w) o 0) (slice_get_past problem.base.pairings p le)) 0 js visited.up)
        ∙ ap (sum_by g) visited.line_is
        ∙ sym (sum_by-filter_map (λ (x : Pairing). window_minutes (duties_of x) w) (slice_get problem.base.pairings) line)
      where
        once : (i j : ℕ) → adds i < length problem.base.pairings → adds i ≡ adds j → i ≡ j
        once i j small same = visited.placed.once i j (omega arith) same

        sum_same : (f g : ℕ → ℕ) (xs : List ℕ) → ((x : ℕ) → f x ≡ g x) → sum_by f xs ≡ sum_by g xs
        sum_same f g [] h = refl
        sum_same f g (x ∷ xs) h = sum_by-cons f x xs ∙ rw (h x, sum_same f g xs h) refl ∙ sym (sum_by-cons g x xs)

    line_total : (w : Window) → window_minutes (events_of problem member line) w ≡ totals adds js w
    line_total w =
        line_from problem member line visited.fit.fits.apart visited.fit.fits.rested w.start w.kind
        ∙ ap (λ (n : ℕ). window_minutes (base_of problem member) w + n) (sym (stops_sum w))

-- that the windows of a lens run along the stops
abbrev pub WindowsRun : ℕ → Problem → ℕ → Lens → (ℕ → ℕ) → List ℕ → Type 0
WindowsRun N problem member lens adds js =
    Completes (usage_extend {N = N}) (λ _ _. true) (record { counters = base_usage N problem member lens }) (tt {0})
    (along (usage_step {N = N} problem member lens adds) 0 js)

-- the counters of a line that fits run along its stops where each window has its limit
pub windows_complete : {N : ℕ} (problem : Problem) (member : ℕ) (node : List Decision) (lens : Lens) (adds : ℕ → ℕ) (sink : ℕ) (line js : List ℕ)
    → IsVisited problem member node lens adds sink line js → All (IsWindow problem) lens.windows
    → All (KeepsWindow (events_of problem member line)) lens.windows → WindowsRun N problem member lens adds js
windows_complete {N} problem member node lens adds sink line js visited are keep =
    let few = all_few problem (events_of problem member line) (totals problem member lens adds js) lens.windows
    (line_total problem member lens node adds sink line js visited)
    (recursion_from_All (IsWindow problem) lens.windows are) (recursion_from_All (KeepsWindow (events_of problem member line)) lens.windows keep) in
    let runs = counters_run {N = N} lens.windows (item_minutes problem member lens adds) (λ w. kind_limit w.kind) (window_minutes (base_of problem member)) 0 js few in
    record { last = runs.0; runs = runs.1; is_done = refl }

-- and only there
pub windows_kept : {N : ℕ} (problem : Problem) (member : ℕ) (node : List Decision) (lens : Lens) (adds : ℕ → ℕ) (sink : ℕ) (line js : List ℕ)
    → IsVisited problem member node lens adds sink line js → length lens.windows ≤ N
    → WindowsRun N problem member lens adds js → All (KeepsWindow (events_of problem member line)) lens.windows
windows_kept {N} problem member node lens adds sink line js visited few c =
    All-from_recursion (KeepsWindow (events_of problem member line)) lens.windows
    (all_keep problem (events_of problem member line) (totals problem member lens adds js) lens.windows (line_total problem member lens node adds sink line js visited)
    (ran js (let e = visited.ends in let s = visited.placed.size in omega arith) c.last c.runs))
  where
    ran : (js : List ℕ) → 0 < end_of 0 js → (last : Usage N)
        → run (usage_extend {N = N}) (record { counters = base_usage N problem member lens }) (along (usage_step {N = N} problem member lens adds) 0 js) ≡ Some last
        → AllByRecursion (λ w. totals problem member lens adds js w ≤ kind_limit w.kind) lens.windows
    ran [] some last runs = absurd (omega arith)
    ran (j ∷ js) some last runs =
        counters_ran {N = N} lens.windows (item_minutes problem member lens adds) (λ w. kind_limit w.kind) few (window_minutes (base_of problem member)) 0 j js last runs
