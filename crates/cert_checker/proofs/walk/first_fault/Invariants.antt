use Rattle.std.proofs.Common.{◌≡◌, true, [], ◌∷◌, take}
use Rattle.roster_model.specs.Decided.{open_nodes}
use Rattle.roster_model.specs.Goals.{IsNode}
use Rattle.roster_model.specs.Walk.{Leads}
use Rattle.cert_checker.specs.Recalls.{IsRight}
use Rattle.cert_checker.proofs.walk.first_fault.Given as goal

abbrev pub invariant-loop-at : goal.invariant-loop-at
invariant-loop-at l = record {
  leads : Leads l.problem l.goal ([] ∷ []) (take l.at l.items) (open_nodes l.is_open l.node);
  node : l.is_open ≡ true → IsNode l.problem l.node;
  right : IsRight l.problem l.recall;
}
