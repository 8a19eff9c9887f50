-- How far a search for a chain above a bound has come.
use Rattle.std.specs.Prelude.{◌≡◌, ◌+◌, ◌-◌, ◌*◌, ◌^◌, ◌<◌, ◌≤◌, ◌+ℤ◌, ◌≤ℤ◌, ◌++◌, ◌⊎◌, neg_ℤ, pos, ℕ, ℤ, List, [], ◌∷◌, Bool, true, Option, Some, None, All, AllPairs, length, take}
use Rattle.label_setter.specs.declared.graph.Arc.{Arc}
use Rattle.label_setter.specs.Chains.{GraphOf, Leads, Reached, Takes, source}
use Rattle.chain_search.specs.declared.marks.Mark.{Mark}
use Rattle.chain_search.specs.declared.turns.Label.{Label}
use Rattle.chain_search.specs.declared.turns.Open.{Open}
use Rattle.chain_search.specs.Marking.{Stands}

-- each chain that leads from the label to a done end at the sink gains at most the bound
unfoldable pub NoneAboveFrom :
    {R S E : Type 0} → (R → S → Option R) → (R → E → Bool) → GraphOf R S E → ℤ → Reached R → Type 0
NoneAboveFrom {R} extend done graph over label =
    (chain : List ℕ) (gain : ℤ) (last : R)
    → Leads extend graph.arcs label chain (record { place = graph.places - 1; gain = gain; resource = last })
    → done last graph.end ≡ true → gain ≤ℤ over

-- the gain is at most that of so many arcs
pub record IsWithin (arcs : ℕ) (gain : ℤ) : Type 0 where
  pub low : neg_ℤ (pos (arcs * 2 ^ 40)) ≤ℤ gain
  pub high : gain ≤ℤ pos (arcs * 2 ^ 40)

-- a label that waits, one that goes on, and one that stands beside a place
abbrev pub reached_open : {R : Type 0} → Open R → Reached R
reached_open x = record { place = x.place; gain = x.gain; resource = x.resource }

abbrev pub reached_label : {R : Type 0} → Label R → Reached R
reached_label label = record { place = label.place; gain = label.gain; resource = label.resource }

abbrev pub reached_mark : {R : Type 0} → ℕ → Mark R → Reached R
reached_mark place mark = record { place = place; gain = mark.gain; resource = mark.resource }

-- the label after the arc
pub record IsNext {R S : Type 0} (extend : R → S → Option R) (label : Label R) (number : ℕ) (arc : Arc S)
    (next : Open R) : Type 0 where
  pub extends : extend label.resource arc.step ≡ Some next.resource
  pub arc_is : next.arc ≡ number
  pub before : next.before ≡ label.before
  pub place : next.place ≡ arc.to
  pub sum : next.gain ≡ label.gain +ℤ arc.gain
  pub within : IsWithin arc.to next.gain

-- nothing where the arc refuses, or nothing above the bound is left
abbrev pub Enters :
    {R S : Type 0} → (R → S → Option R) → (ℕ → R → ℤ) → ℤ → Label R → ℕ → Arc S → Option (Open R) → Type 0
Enters extend rest over label number arc (Some next) = IsNext extend label number arc next
Enters {R} extend rest over label number arc None = (resource : R) → extend label.resource arc.step ≡ Some resource → (label.gain +ℤ arc.gain +ℤ rest arc.to resource) ≤ℤ over

-- of two labels the one waits, and the other is the best so far
abbrev pub Puts : {R : Type 0} → List (Open R) → Option (Open R) → Open R → List (Open R) → Open R → Type 0
Puts old None next new best = (new ≡ old) × (best ≡ next)
Puts old (Some last) next new best = ((new ≡ old ++ last ∷ []) × (best ≡ next)) ⊎ ((new ≡ old ++ next ∷ []) × (best ≡ last))

-- the label came by its arc from another
pub record ComesFrom {R S E : Type 0} (extend : R → S → Option R) (graph : GraphOf R S E) (label : Label R)
    (next : Open R) : Type 0 where
  pub takes : Takes extend graph.arcs (reached_label label) next.arc (reached_open next)
  pub before : next.before ≡ label.before
  pub forward : label.place < next.place
  pub inside : next.place < graph.places
  pub within : IsWithin next.place next.gain

-- labels that come from this one are added to those that wait, and where nothing is above the bound, or above a greater
-- one, from those, nothing is from this one
pub record Spreads {R S E : Type 0} (extend : R → S → Option R) (done : R → E → Bool) (graph : GraphOf R S E)
    (over : ℤ) (label : Label R) (old new : List (Open R)) : Type 0 where
  pub more : List (Open R)
  pub added : new ≡ old ++ more
  pub come : All (ComesFrom extend graph label) more
  pub none :
      (most : ℤ) → over ≤ℤ most
      → All (λ next. NoneAboveFrom extend done graph most (reached_open next)) more
      → NoneAboveFrom extend done graph most (reached_label label)

-- where nothing is above the bound, or above a greater one, from any label that waits at this place or later, nothing is
-- from this label
pub record Owes {R S E : Type 0} (extend : R → S → Option R) (done : R → E → Bool) (graph : GraphOf R S E)
    (over : ℤ) (waiting : List (Open R)) (place : ℕ) (label : Reached R) : Type 0 where
  pub none :
      (most : ℤ) → over ≤ℤ most
      → All (λ other. place ≤ other.place → NoneAboveFrom extend done graph most (reached_open other)) waiting
      → NoneAboveFrom extend done graph most label

-- the first arcs of the path, and its own arc, lead to the label
pub record IsOnPath {R S E : Type 0} (extend : R → S → Option R) (graph : GraphOf R S E) (path : List ℕ)
    (next : Open R) : Type 0 where
  pub leads : Leads extend graph.arcs (source graph.start) (take next.before path ++ next.arc ∷ []) (reached_open next)
  pub before : next.before ≤ length path
  pub inside : next.place < graph.places
  pub within : IsWithin next.place next.gain

-- all that may come above the bound goes on from the labels that wait
pub record Hunts {R S E : Type 0} (extend : R → S → Option R) (done : R → E → Bool) (graph : GraphOf R S E)
    (over : ℤ) (path : List ℕ) (marks : List (List (Mark R))) (waiting : List (Open R)) : Type 0 where
  pub first : Owes extend done graph over waiting 0 (source graph.start)
  pub marked :
      (place : ℕ) (mark : Mark R) → Stands marks place mark
      → Owes extend done graph over waiting (place + 1) (reached_mark place mark)
  pub on_path : All (IsOnPath extend graph path) waiting
  pub ascend : AllPairs (λ a b. a.before ≤ b.before) waiting
  pub count : length marks + 1 ≡ graph.places
