-- What is known of the places that a chain visits, where its line fits.
use Rattle.std.proofs.Common.{◌≡◌, ℕ, ◌+◌, ◌<◌, ◌≤◌, true, List, length, arith}
use Rattle.roster_model.specs.declared.problem.Problem.{Problem}
use Rattle.roster_model.specs.declared.node.Decision.{Decision}
use Rattle.roster_model.specs.declared.proof.Lens.{Lens}
use Rattle.line_items.specs.Items.{item_count, item_begins, item_rests}
use Rattle.line_items.proofs.Places.{line_of}
use Rattle.line_items.proofs.Walks.{end_of}
use Rattle.line_items.proofs.Walking.{is_in_list, ascends}
use Rattle.line_items.proofs.Fitting.{IsFitLine}

-- each place but source and sink adds one item, and each item is added by one place
pub record IsPlaced (problem : Problem) (member : ℕ) (lens : Lens) (adds : ℕ → ℕ) (sink : ℕ) : Type 0 where
  pub size : sink ≡ item_count problem member lens + 1
  pub source : adds 0 ≡ item_count problem member lens
  pub last : adds sink ≡ item_count problem member lens
  pub inner : (k : ℕ) → 0 < k → k < sink → adds k < item_count problem member lens
  pub once : (i j : ℕ) → adds i < item_count problem member lens → adds i ≡ adds j → i ≡ j

-- no pairing is added twice
pub line_once : (problem : Problem) (member : ℕ) (lens : Lens) (adds : ℕ → ℕ) (sink : ℕ) → IsPlaced problem member lens adds sink
    → (i j : ℕ) → adds i < length problem.base.pairings → adds i ≡ adds j → i ≡ j
line_once problem member lens adds sink placed i j small same = placed.once i j (omega arith) same

-- the stops of a line that fits: the places of its pairings and of the fixed flights, and the sink
pub record IsVisited (problem : Problem) (member : ℕ) (node : List Decision) (lens : Lens) (adds : ℕ → ℕ) (sink : ℕ) (line js : List ℕ) : Type 0 where
  pub placed : IsPlaced problem member lens adds sink
  pub fit : IsFitLine problem member node line
  pub up : ascends 0 js
  pub ends : end_of 0 js ≡ sink
  pub line_is : line_of (length problem.base.pairings) adds js ≡ line
  pub flights :
      (item : ℕ) → length problem.base.pairings ≤ item → item < item_count problem member lens
      → (k : ℕ) × (is_in_list js k ≡ true) × (adds k ≡ item)
  pub follow :
      (i j : ℕ) → is_in_list js i ≡ true → is_in_list js j ≡ true → i < j → j < sink
      → item_rests problem member lens (adds i) ≤ item_begins problem member lens (adds j)
