-- What the parts of the judge's answer say together.
use Rattle.std.proofs.Common.{◌≡◌, ℕ, List, [], None, Some, length, sym, ap, subst, ◌∙◌, arith}
use Rattle.std.proofs.lemmas.Bool.{false≢true}
use Rattle.std.proofs.lemmas.Option.{slice_get_within}
use Rattle.roster_model.specs.declared.problem.Problem.{Problem}
use Rattle.roster_model.specs.declared.proof.Item.{Item}
use Rattle.roster_model.specs.Rosters.{IsComplete, scores_of}
use Rattle.roster_model.specs.Awards.{IsBest, HasNoRoster, above_at, no_goal}
use Rattle.roster_model.specs.Closing.{Closes}
use Rattle.roster_model.proofs.Soundness.{closes_sound}
use Rattle.cert_checker.specs.declared.refusal.No.{No}
use Rattle.cert_checker.specs.declared.refusal.No.TheVariants as no
use Rattle.cert_checker.specs.Stops.{Stops}
use Rattle.cert_checker.specs.Awards.{AreClosed, IsFirstOfPlaces, IsIncomplete, PlacesFail, NamesFault}
use Rattle.cert_checker.proofs.Stopped.{stopped}

-- a fault of the roster is a fault of the award
pub incomplete_fails : (problem : Problem) (roster : List (List ℕ)) (proofs : List (List Item)) (why : No)
    → IsIncomplete problem roster why → PlacesFail problem roster proofs why
incomplete_fails problem roster proofs no.NoMemory h = tt
incomplete_fails problem roster proofs (no.Member m why) h = h
incomplete_fails problem roster proofs (no.Cover p count) h = h
incomplete_fails problem roster proofs (no.Amount found) h = absurd h
incomplete_fails problem roster proofs (no.Item k at why) h = absurd h
incomplete_fails problem roster proofs (no.Left k) h = absurd h
incomplete_fails problem roster proofs (no.Reason m b) h = absurd h
incomplete_fails problem roster proofs (no.Shown m b) h = absurd h

-- a fault of the places' proofs is
pub first_of_places : (problem : Problem) (roster : List (List ℕ)) (proofs : List (List Item)) (why : No)
    → IsComplete problem roster → length proofs ≡ length problem.base.members
    → IsFirstOfPlaces problem (scores_of problem roster) proofs why → PlacesFail problem roster proofs why
first_of_places problem roster proofs no.NoMemory complete amount h = tt
first_of_places problem roster proofs (no.Member m why) complete amount h = absurd h
first_of_places problem roster proofs (no.Cover p count) complete amount h = absurd h
first_of_places problem roster proofs (no.Amount found) complete amount h = absurd h
first_of_places problem roster proofs (no.Item k at why) complete amount h = record { complete = complete; amount = amount; place = h }
first_of_places problem roster proofs (no.Left k) complete amount h = record { complete = complete; amount = amount; place = h }
first_of_places problem roster proofs (no.Reason m b) complete amount h = absurd h
first_of_places problem roster proofs (no.Shown m b) complete amount h = absurd h

-- and no award with such a fault is accepted
pub refused_places : (problem : Problem) (roster : List (List ℕ)) (proofs : List (List Item)) (why : No)
    → IsFirstOfPlaces problem (scores_of problem roster) proofs why → NamesFault why → IsBest problem roster proofs → ⊥
refused_places problem roster proofs no.NoMemory h named best = named
refused_places problem roster proofs (no.Member m why) h named best = h
refused_places problem roster proofs (no.Cover p count) h named best = h
refused_places problem roster proofs (no.Amount found) h named best = h
refused_places problem roster proofs (no.Item k at why) h named best =
    stopped problem (above_at (scores_of problem roster) k) k h.items (no.Item k at why) h.stops tt (best.places k h.items h.here)
refused_places problem roster proofs (no.Left k) h named best =
    stopped problem (above_at (scores_of problem roster) k) k h.items (no.Left k) h.stops tt (best.places k h.items h.here)
refused_places problem roster proofs (no.Reason m b) h named best = h
refused_places problem roster proofs (no.Shown m b) h named best = h

-- a complete roster whose places are all closed is accepted
pub best_of_places : (problem : Problem) (roster : List (List ℕ)) (proofs : List (List Item))
    → IsComplete problem roster → length proofs ≡ length problem.base.members
    → AreClosed problem (scores_of problem roster) proofs (length proofs) → IsBest problem roster proofs
best_of_places problem roster proofs complete amount closed = record {
  complete = complete;
  count = amount;
  places = λ k items here. closed k items (slice_get_within proofs k items here) here;
}

-- the same of slices that hold the scores and the proofs
pub best_of : (problem : Problem) (roster : List (List ℕ)) (proofs slice : List (List Item)) (scores : List ℕ)
    → IsComplete problem roster → scores ≡ scores_of problem roster → slice ≡ proofs → length slice ≡ length problem.base.members
    → AreClosed problem scores slice (length slice) → IsBest problem roster proofs
best_of problem roster proofs slice scores complete e s amount closed =
    best_of_places problem roster proofs complete (sym (ap (λ (xs : List (List Item)). length xs) s) ∙ amount)
    (subst (λ (xs : List (List Item)). AreClosed problem (scores_of problem roster) xs (length xs)) s
    (subst (λ (ys : List ℕ). AreClosed problem ys slice (length slice)) e closed))

moved : (problem : Problem) (roster : List (List ℕ)) (proofs slice : List (List Item)) (scores : List ℕ) (why : No)
    → scores ≡ scores_of problem roster → slice ≡ proofs
    → IsFirstOfPlaces problem scores slice why → IsFirstOfPlaces problem (scores_of problem roster) proofs why
moved problem roster proofs slice scores why e s h =
    subst (λ (xs : List (List Item)). IsFirstOfPlaces problem (scores_of problem roster) xs why) s
    (subst (λ (ys : List ℕ). IsFirstOfPlaces problem ys slice why) e h)

pub first_of : (problem : Problem) (roster : List (List ℕ)) (proofs slice : List (List Item)) (scores : List ℕ) (why : No)
    → IsComplete problem roster → scores ≡ scores_of problem roster → slice ≡ proofs → length slice ≡ length problem.base.members
    → IsFirstOfPlaces problem scores slice why → PlacesFail problem roster proofs why
first_of problem roster proofs slice scores why complete e s amount h =
    first_of_places problem roster proofs why complete (sym (ap (λ (xs : List (List Item)). length xs) s) ∙ amount)
    (moved problem roster proofs slice scores why e s h)

pub refused_of : (problem : Problem) (roster : List (List ℕ)) (proofs slice : List (List Item)) (scores : List ℕ) (why : No)
    → scores ≡ scores_of problem roster → slice ≡ proofs
    → IsFirstOfPlaces problem scores slice why → NamesFault why → IsBest problem roster proofs → ⊥
refused_of problem roster proofs slice scores why e s h =
    refused_places problem roster proofs why (moved problem roster proofs slice scores why e s h)

-- where no goal is met, no roster is complete
pub none_complete : (problem : Problem) (items : List Item) → Closes problem no_goal [] items → HasNoRoster problem
none_complete problem items closes roster complete =
    closes_sound problem no_goal [] items closes roster complete
    (λ m in_range. record {
      floor = λ floor at. absurd (let past = slice_get_within [] m floor at in omega arith);
      grant = λ b e mine. absurd (let none : None ≡ Some b = e in cc);
    })
    (λ m in_range p flies h. absurd (false≢true h))

-- the same of a goal that holds no floors, and of a slice that holds the items
pub none_closed : (problem : Problem) (items slice : List Item) (floors : List ℕ) → floors ≡ [] → slice ≡ items
    → Closes problem (record { floors = floors; grant = None }) [] slice → Closes problem no_goal [] items
none_closed problem items slice floors e s closes =
    subst (λ (xs : List Item). Closes problem no_goal [] xs) s
    (subst (λ (fs : List ℕ). Closes problem (record { floors = fs; grant = None }) [] slice) e closes)

pub none_refused : (problem : Problem) (items slice : List Item) (floors : List ℕ) (why : No) → floors ≡ [] → slice ≡ items
    → Stops problem (record { floors = floors; grant = None }) 0 slice why → NamesFault why → Closes problem no_goal [] items → ⊥
none_refused problem items slice floors why e s stops =
    stopped problem no_goal 0 items why
    (subst (λ (xs : List Item). Stops problem no_goal 0 xs why) s
    (subst (λ (fs : List ℕ). Stops problem (record { floors = fs; grant = None }) 0 slice why) e stops))
