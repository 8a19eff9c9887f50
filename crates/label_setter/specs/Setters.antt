-- Setters with memory of their own, as contracts see them.
use Rattle.std.specs.Prelude.{ℕ, List}

-- memory for graphs of so many places and arcs, and for so many labels; the arcs of the last chain that was found
pub record SetterOf : Type 0 where
  pub places : ℕ
  pub arcs : ℕ
  pub room : ℕ
  pub chain : List ℕ
