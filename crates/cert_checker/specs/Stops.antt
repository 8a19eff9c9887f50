-- Why items do not close a goal at the node without decisions.
use Rattle.std.specs.Prelude.{◌≡◌, ℕ, Bool, ◌<◌, ◌⊎◌, List, [], ◌∷◌, length, take, slice_get, Some}
use Rattle.roster_model.specs.declared.problem.Problem.{Problem}
use Rattle.roster_model.specs.declared.goal.Goal.{Goal}
use Rattle.roster_model.specs.declared.node.Decision.{Decision}
use Rattle.roster_model.specs.declared.proof.Item.{Item}
use Rattle.roster_model.specs.Decided.{nodes_behind, open_nodes}
use Rattle.roster_model.specs.Walk.{Leads}
use Rattle.cert_checker.specs.declared.refusal.No.{No}
use Rattle.cert_checker.specs.declared.refusal.No.TheVariants.{NoMemory, Member, Cover, Amount, Left, Reason, Shown, Item as AtItem}
use Rattle.cert_checker.specs.declared.refusal.ItemFault.{ItemFault}
use Rattle.cert_checker.specs.Faults.{Fails}

-- the item is accepted at the node, and leads to this one, if a node is open behind it
abbrev pub GoesOver : Problem → Goal → List Decision → Item → List Decision → Bool → Type 0
GoesOver problem goal node item after is_open =
    Leads problem goal (node ∷ nodes_behind node) (item ∷ []) (open_nodes is_open after)

-- the items before this one are accepted, a node is still open, and the item has a fault there
pub record StopsAt (problem : Problem) (goal : Goal) (items : List Item) (at : ℕ)
    (why : ItemFault) : Type 0 where
  pub node : List Decision
  pub behind : List (List Decision)
  pub item : Item
  pub before : Leads problem goal ([] ∷ []) (take at items) (node ∷ behind)
  pub here : slice_get items at ≡ Some item
  pub fault : Fails problem goal node item why

-- all items are accepted, and a node is still open
pub record IsShort (problem : Problem) (goal : Goal) (items : List Item) : Type 0 where
  pub node : List Decision
  pub behind : List (List Decision)
  pub before : Leads problem goal ([] ∷ []) items (node ∷ behind)

-- some first items are accepted, and no node is open for the one behind them
pub record IsLong (problem : Problem) (goal : Goal) (items : List Item) : Type 0 where
  pub at : ℕ
  pub more : at < length items
  pub before : Leads problem goal ([] ∷ []) (take at items) []

-- what is wrong with the items of a search
abbrev pub Stops : Problem → Goal → ℕ → List Item → No → Type 0
Stops problem goal search items NoMemory = Unit {0}
Stops problem goal search items (Member m why) = ⊥
Stops problem goal search items (Cover p count) = ⊥
Stops problem goal search items (Amount found) = ⊥
Stops problem goal search items (AtItem k at why) = (k ≡ search) × StopsAt problem goal items at why
Stops problem goal search items (Left k) =
    (k ≡ search) × (IsShort problem goal items ⊎ IsLong problem goal items)
Stops problem goal search items (Reason m b) = ⊥
Stops problem goal search items (Shown m b) = ⊥
