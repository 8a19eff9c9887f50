-- Nodes that a walk goes on to decide pairs of the problem, none of them twice.
use Rattle.std.proofs.Common.{◌≡◌, ℕ, Bool, true, false, List, [], ◌∷◌, length, inl, inr, subst}
use Rattle.std.proofs.lemmas.Bool.{cases_Bool}
use Rattle.std.proofs.lemmas.List.Elements.{All-cons, All-head, All-tail}
use Rattle.std.specs.Prelude.{◌<◌}
use Rattle.roster_model.specs.declared.problem.Problem.{Problem}
use Rattle.roster_model.specs.declared.node.Decision.{Decision}
use Rattle.roster_model.specs.Decided.{decided, nodes_behind, open_nodes}
use Rattle.roster_model.specs.Goals.{IsNode}
use Rattle.roster_model.specs.Closing.{IsOpenPair}

-- one decision more, on a pair that is not decided
pub node_decided : (problem : Problem) (node : List Decision) (m p : ℕ) (flies : Bool) → IsNode problem node → IsOpenPair problem node m p
    → IsNode problem (decided node m p flies)
node_decided problem node m p flies is new =
    let d : Decision = record { member = m; pairing = p; flies = flies } in
    record {
      members = All-cons (λ (d : Decision). d.member < length problem.base.members) d node new.member_in_range is.members;
      pairings = All-cons (λ (d : Decision). d.pairing < length problem.base.pairings) d node new.pairing_in_range is.pairings;
      once = (new.undecided, is.once);
    }

-- the newest decision taken back, and turned
node_before : (problem : Problem) (d : Decision) (node : List Decision) → IsNode problem (d ∷ node) → IsNode problem node
node_before problem d node is = record {
  members = All-tail (λ (d : Decision). d.member < length problem.base.members) d node is.members;
  pairings = All-tail (λ (d : Decision). d.pairing < length problem.base.pairings) d node is.pairings;
  once = is.once.1;
}

node_turned : (problem : Problem) (d : Decision) (node : List Decision) → IsNode problem (d ∷ node)
    → IsNode problem (decided node d.member d.pairing false)
node_turned problem d node is =
    node_decided problem node d.member d.pairing false (node_before problem d node is) (record {
      member_in_range = All-head (λ (d : Decision). d.member < length problem.base.members) d node is.members;
      pairing_in_range = All-head (λ (d : Decision). d.pairing < length problem.base.pairings) d node is.pairings;
      undecided = is.once.0;
    })

-- the first node behind
node_behind : (problem : Problem) (node new : List Decision) (rest : List (List Decision)) → IsNode problem node
    → nodes_behind node ≡ new ∷ rest → IsNode problem new
node_behind problem [] new rest is e = absurd (cc e)
node_behind problem (d ∷ node) new rest is e =
    elim (cases_Bool d.flies) [
      | inl flies ↦
          let first : decided node d.member d.pairing false ≡ new =
          let e' : decided node d.member d.pairing false ∷ nodes_behind node ≡ new ∷ rest = rw flies at e in cc in
          subst (IsNode problem) first (node_turned problem d node is)
      | inr stays ↦
          let e' : nodes_behind node ≡ new ∷ rest = rw stays at e in
          node_behind problem node new rest (node_before problem d node is) e'
    ]

-- the node that is open after a turn
pub node_open : (problem : Problem) (node new : List Decision) (is_open : Bool) → IsNode problem node
    → nodes_behind node ≡ open_nodes is_open new → is_open ≡ true → IsNode problem new
node_open problem node new true is e o = node_behind problem node new (nodes_behind new) is e
node_open problem node new false is e o = absurd (cc o)
