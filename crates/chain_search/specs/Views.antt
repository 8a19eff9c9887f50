-- Coarse views of resources, each with finitely many states.
use Rattle.std.specs.Prelude.{◌≡◌, ◌<◌, ◌&&◌, ℕ, Bool, true, Option, Some}
use Rattle.std.specs.List.{list_all}
use Rattle.label_setter.specs.Chains.{GraphOf}

-- the move leads to a state that passes the test
pub record GoesOn (seen : ℕ → Bool) (moved : Option ℕ) : Type 0 where
  pub next : ℕ
  pub is : moved ≡ Some next
  pub passes : seen next ≡ true

-- a resource shows one of the states, and is seen there. Where a step that the view follows extends a resource that is
-- seen in a state, its move leads to a state in which the new one is seen; and where one is done at an end that the
-- view knows, the state may be done
pub record CoarseLaws {R S E : Type 0} (extend : R → S → Option R) (done : R → E → Bool) (count : ℕ) (shows : R → ℕ)
    (sees : R → ℕ → Bool) (moves : S → ℕ → Option ℕ) (ends : ℕ → Bool) (fits_step : S → Bool)
    (fits_end : E → Bool) : Type 0 where
  pub shown : (a : R) → shows a < count
  pub seen : (a : R) → sees a (shows a) ≡ true
  pub stays : (step : S) (state next : ℕ) → state < count → moves step state ≡ Some next → next < count
  pub along :
      (a b : R) (step : S) (state : ℕ) → fits_step step ≡ true → sees a state ≡ true → extend a step ≡ Some b
      → GoesOn (sees b) (moves step state)
  pub final :
      (a : R) (end : E) (state : ℕ) → fits_end end ≡ true → sees a state ≡ true → done a end ≡ true → ends state ≡ true

-- the view follows the step of each arc, and knows the end
abbrev pub follows : {R S E : Type 0} → (S → Bool) → (E → Bool) → GraphOf R S E → Bool
follows fits_step fits_end graph = fits_end graph.end && list_all (λ arc. fits_step arc.step) graph.arcs
