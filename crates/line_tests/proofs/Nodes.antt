-- Nodes that hold little.
use Rattle.std.proofs.Common.{◌≡◌, ℕ, ◌<◌, List, [], ◌∷◌, length, sym, subst}
use Rattle.std.specs.Prelude.{All}
use Rattle.std.proofs.lemmas.List.Elements.{All-from_recursion}
use Rattle.roster_model.specs.declared.node.Decision.{Decision}
use Rattle.roster_model.specs.declared.problem.Problem.{Problem}
use Rattle.roster_model.specs.Decided.{HasNoPairTwice}
use Rattle.roster_model.specs.Goals.{IsNode}

-- a node of one decision
pub one_decision : (problem : Problem) (node : List Decision) (d : Decision) → node ≡ d ∷ [] → d.member < length problem.base.members → d.pairing < length problem.base.pairings
    → HasNoPairTwice (d ∷ []) → IsNode problem node
one_decision problem node d is m p once = subst (IsNode problem) (sym is) (record {
  members = All-from_recursion (λ (d : Decision). d.member < length problem.base.members) (d ∷ []) (m, tt);
  pairings = All-from_recursion (λ (d : Decision). d.pairing < length problem.base.pairings) (d ∷ []) (p, tt);
  once = once;
})
