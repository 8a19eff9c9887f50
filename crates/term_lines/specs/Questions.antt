-- What a search for a line is asked of the lines that keep terms.
use Rattle.std.specs.Prelude.{◌≡◌, ℕ, ℤ, pos, neg_ℤ, ◌+◌, ◌*◌, ◌/◌, ◌^◌, ◌<◌, ◌≤◌, Bool, false, List, Option, Some, length, slice_get}
use Rattle.std.specs.Int.Signed.{◌<ℤ◌}
use Rattle.label_setter.specs.Chains.{GraphOf, IsFeasible}
use Rattle.label_setter.specs.declared.graph.Arc.{Arc}
use Rattle.roster_model.specs.declared.node.Decision.{Decision}
use Rattle.roster_model.specs.declared.problem.Problem.{Problem}
use Rattle.roster_model.specs.declared.proof.Lens.{Lens}
use Rattle.roster_model.specs.Goals.{IsNode}
use Rattle.roster_model.specs.Legality.{high_of}
use Rattle.roster_model.specs.Lenses.{IsLens}
use Rattle.roster_model.specs.Weights.{AreSmallWeights}
use Rattle.lens_classes.specs.TermLines.{AreTermsOf, IsTermLine}
use Rattle.lens_classes.specs.declared.terms.Terms.{Terms}
use Rattle.take_graphs.specs.ArcLines.{StandsByArcs}
use Rattle.count_graphs.specs.Counts.{AreCounted}
use Rattle.graph_climbs.specs.Parts.{PartsStepOf}
use Rattle.term_lines.specs.declared.question.TermQuestion.{TermQuestion}

-- a member, terms that may be the member's, a lens that looks at pairings one by one, and a small weight for each pairing
pub record IsTermQuestionOf (problem : Problem) (member : ℕ) (node : List Decision) (lens : Lens) (terms : Terms) (weights : List ℤ) : Type 0 where
  pub in_range : member < length problem.base.members
  pub fits : AreTermsOf problem member terms
  pub counted : AreCounted problem member terms
  pub decisions : IsNode problem node
  pub shape : IsLens problem member lens
  pub plain : lens.whole ≡ false
  pub per_pairing : length weights ≡ length problem.base.pairings
  pub small : AreSmallWeights weights

-- the same of what a question holds
abbrev pub IsTermQuestion : TermQuestion → Type 0
IsTermQuestion asked =
    IsTermQuestionOf asked.problem.now asked.member asked.node.now asked.lens.now asked.terms.now asked.weights.now

-- the lines that are asked for
abbrev pub KeepsTerms : TermQuestion → List ℕ → Type 0
KeepsTerms asked = IsTermLine asked.problem.now asked.member asked.node.now asked.lens.now asked.terms.now

-- the chains of a graph are the lines that are asked for, where these are the terms
abbrev pub StandsFor : {R S E : Type 0} → (R → S → Option R) → (R → E → Bool) → GraphOf R S E → List ℕ → TermQuestion → Terms → Type 0
StandsFor extend done graph adds asked terms =
    StandsByArcs extend done graph adds asked.problem.now asked.member asked.node.now asked.lens.now terms asked.weights.now

-- each arc has this cap of credit
abbrev pub AreCapped : {S : Type 0} → List (Arc (PartsStepOf S)) → ℕ → Type 0
AreCapped {S} arcs cap = (number : ℕ) (arc : Arc (PartsStepOf S)) → slice_get arcs number ≡ Some arc → arc.step.0.cap ≡ cap

-- each chain gains more than the lowest bound of searches
abbrev pub AreHeavy : {R S E : Type 0} → (R → S → Option R) → (R → E → Bool) → GraphOf R S E → Type 0
AreHeavy extend done graph =
    (chain : List ℕ) (gain : ℤ) → IsFeasible extend done graph chain gain → neg_ℤ (pos (2 ^ 59)) <ℤ gain

-- steps of a search by labels where the lens looks at hours: a cube of the pairings, and six times a square of them
pub record AreFewSteps (problem : Problem) (member before after : ℕ) : Type 0 where
  pub steps :
      after
      ≤ before + 256 * (length problem.base.pairings + 1) ^ 3 * (high_of problem member / 60 + 1)
  pub fewer :
      after
      ≤ before + 6 * (256 * (length problem.base.pairings + 1)
      * (high_of problem member / 60 + 1) * (2 * length problem.base.pairings + 1))
