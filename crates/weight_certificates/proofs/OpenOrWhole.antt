-- Whole rosters from rounds, and open nodes.
use Rattle.std.proofs.Common.{ℕ, ◌<◌, List, length}
use Rattle.roster_model.specs.declared.problem.Problem.{Problem}
use Rattle.roster_model.specs.declared.goal.Goal.{Goal}
use Rattle.roster_model.specs.declared.node.Decision.{Decision}
use Rattle.roster_model.specs.Rosters.{line_at}
use Rattle.roster_model.specs.Rounds.{IsRound}
use Rattle.roster_model.specs.OpenNodes.{IsOpenNode}
use Rattle.roster_model.specs.Closing.{IsOpenPair}
use Rattle.roster_model.proofs.Whole.{IsObedient, whole-complete, whole-meets, whole-obeys}
use Rattle.roster_model.proofs.Rounds.{effort-by_size}
use Rattle.branch_log.specs.Honest.{IsBranch, IsWhole}
use Rattle.weight_certificates.specs.Leaves.{AreFitting, HaveCrews, IsAllDecided}
use Rattle.weight_certificates.specs.Evidence.{HasLastRound}

module _ (problem : Problem) (goal : Goal) (node : List Decision) where
  -- where all pairs are decided, the lines of a round are a roster
  pub whole_from_round : (round : List (List ℕ)) → IsRound problem goal node round → HaveCrews problem node → AreFitting problem goal node
      → IsAllDecided problem node → IsWhole problem goal node round
  whole_from_round round is crews fitting decided =
      let obedient : (m : ℕ) → m < length problem.base.members → IsObedient problem node m (line_at round m) = λ m lt.
      let passes = (is.each m lt).passes in
      record { ascending = passes.ascending; in_range = passes.in_range; obeys = passes.obeys } in
      record {
        complete = whole-complete problem node round is.lines obedient decided crews (λ m lt. (fitting m lt (decided m lt)).legal);
        meets = whole-meets problem node round is.lines obedient decided goal (λ m lt. (fitting m lt (decided m lt)).meets);
        obeys = whole-obeys problem node round is.lines obedient decided;
      }

  -- a node at which nothing was found is open
  pub branch_honest : (count member pairing : ℕ) (last : List (List ℕ)) → HaveCrews problem node → AreFitting problem goal node
      → HasLastRound problem goal node count last → IsOpenPair problem node member pairing
      → IsBranch problem count goal node member pairing
  branch_honest count member pairing last crews fitting ended pair =
      let open_node : IsOpenNode problem count goal node = record {
        crewed = crews;
        fitting =
            λ m wrong.
            let fits = fitting m wrong.in_range wrong.decided in
            wrong.misfit fits.legal fits.meets;
        undecided = (member, pairing, pair);
        priced = ended.even;
      } in
      record {
        node_open = open_node;
        pair = pair;
        gaps = λ weights gap leaves. effort-by_size problem goal node weights gap count open_node leaves;
      }
