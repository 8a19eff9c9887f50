-- When a graph stands for the lines that keep terms, by what its arcs add.
use Rattle.std.specs.Prelude.{◌≡◌, ℕ, ℤ, Bool, List, Option, length, map, slice_index_or}
use Rattle.label_setter.specs.Chains.{GraphOf, IsFeasible}
use Rattle.roster_model.specs.Weights.{total, weight_at, weight_of}
use Rattle.roster_model.specs.declared.node.Decision.{Decision}
use Rattle.roster_model.specs.declared.problem.Problem.{Problem}
use Rattle.roster_model.specs.declared.proof.Lens.{Lens}
use Rattle.lens_classes.specs.TermLines.{IsTermLine}
use Rattle.lens_classes.specs.declared.terms.Terms.{Terms}
use Rattle.line_lens.specs.LineGraphs.{line_along}

-- the lines of the feasible chains are those that keep the terms, where `adds` has for each arc the number of the
-- pairing that it takes, or that of the pairings; each chain has its line's weight as gain, and its arcs add each
-- pairing once: by any weights they weigh what the line does
pub record StandsByArcs {R S E : Type 0} (extend : R → S → Option R) (done : R → E → Bool) (graph : GraphOf R S E) (adds : List ℕ) (problem : Problem) (member : ℕ) (node : List Decision) (lens : Lens) (terms : Terms) (weights : List ℤ) : Type 0 where
  pub per_arc : length adds ≡ length graph.arcs
  pub lines :
      (chain : List ℕ) (gain : ℤ) → IsFeasible extend done graph chain gain
      → IsTermLine problem member node lens terms (line_along (length problem.base.pairings) adds chain)
  pub weighs :
      (chain : List ℕ) (gain : ℤ) → IsFeasible extend done graph chain gain
      → gain ≡ weight_of weights (line_along (length problem.base.pairings) adds chain)
  pub once :
      (chain : List ℕ) (gain : ℤ) → IsFeasible extend done graph chain gain
      → (others : List ℤ) → length others ≡ length problem.base.pairings
      → total (map (λ number. weight_at others (slice_index_or adds number (length problem.base.pairings))) chain)
      ≡ weight_of others (line_along (length problem.base.pairings) adds chain)
  pub chains :
      (line : List ℕ) → IsTermLine problem member node lens terms line
      → (chain : List ℕ) × IsFeasible extend done graph chain (weight_of weights line)
      × (line_along (length problem.base.pairings) adds chain ≡ line)
