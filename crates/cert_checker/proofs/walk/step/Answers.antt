use Rattle.roster_model.specs.Decided.{nodes_behind, open_nodes}
use Rattle.cert_checker.proofs.Taken.{count_leads, fixed_leads, noline_leads, weights_leads}
use Rattle.cert_checker.proofs.Nodes.{node_open}
use Rattle.cert_checker.proofs.walk.step.Goals as goal

pub returns-in_ok-count-in-Count-clause-goes : goal.returns-in_ok-count-in-Count-clause-goes
returns-in_ok-count-in-Count-clause-goes c =
    count_leads c.args.problem.now c.args.goal.now c.args.node.now (nodes_behind c.args.node.now) (open_nodes c.turn.result c.turn.new.self) c.args.item.now _
    c.in-Count.is c.in_ok-count-in-Count.ensures.accepted c.turn.ensures.behind

pub returns-in_ok-fixed-in-Fixed-clause-goes : goal.returns-in_ok-fixed-in-Fixed-clause-goes
returns-in_ok-fixed-in-Fixed-clause-goes c =
    fixed_leads c.args.problem.now c.args.goal.now c.args.node.now (nodes_behind c.args.node.now) (open_nodes c.turn-in-Fixed.result c.turn-in-Fixed.new.self) c.args.item.now _
    c.in-Fixed.is c.in_ok-fixed-in-Fixed.ensures.accepted c.turn-in-Fixed.ensures.behind

pub returns-in_ok-noline-in-NoLine-clause-goes : goal.returns-in_ok-noline-in-NoLine-clause-goes
returns-in_ok-noline-in-NoLine-clause-goes c =
    noline_leads c.args.problem.now c.args.goal.now c.args.node.now (nodes_behind c.args.node.now) (open_nodes c.turn-in-NoLine.result c.turn-in-NoLine.new.self) c.args.item.now _ _
    c.in-NoLine.is c.in_ok-noline-in-NoLine.ensures.accepted c.turn-in-NoLine.ensures.behind

pub returns-in_ok-outweighed-in-Weights-clause-goes : goal.returns-in_ok-outweighed-in-Weights-clause-goes
returns-in_ok-outweighed-in-Weights-clause-goes c =
    weights_leads c.args.problem.now c.args.goal.now c.args.node.now (nodes_behind c.args.node.now) (open_nodes c.turn-in-Weights.result c.turn-in-Weights.new.self) c.args.item.now _ _ _ _
    c.in-Weights.is c.as_slice.ensures c.as_slice-in-Weights.ensures c.in_ok-outweighed-in-Weights.ensures.accepted c.turn-in-Weights.ensures.behind

pub returns-in_ok-count-in-Count-clause-node : goal.returns-in_ok-count-in-Count-clause-node
returns-in_ok-count-in-Count-clause-node c =
    node_open c.args.problem.now c.args.node.now c.turn.new.self c.turn.result c.requires.asked.node_fits c.turn.ensures.behind

pub returns-in_ok-fixed-in-Fixed-clause-node : goal.returns-in_ok-fixed-in-Fixed-clause-node
returns-in_ok-fixed-in-Fixed-clause-node c =
    node_open c.args.problem.now c.args.node.now c.turn-in-Fixed.new.self c.turn-in-Fixed.result c.requires.asked.node_fits c.turn-in-Fixed.ensures.behind

pub returns-in_ok-noline-in-NoLine-clause-node : goal.returns-in_ok-noline-in-NoLine-clause-node
returns-in_ok-noline-in-NoLine-clause-node c =
    node_open c.args.problem.now c.args.node.now c.turn-in-NoLine.new.self c.turn-in-NoLine.result c.requires.asked.node_fits c.turn-in-NoLine.ensures.behind

pub returns-in_ok-outweighed-in-Weights-clause-node : goal.returns-in_ok-outweighed-in-Weights-clause-node
returns-in_ok-outweighed-in-Weights-clause-node c =
    node_open c.args.problem.now c.args.node.now c.turn-in-Weights.new.self c.turn-in-Weights.result c.requires.asked.node_fits c.turn-in-Weights.ensures.behind
