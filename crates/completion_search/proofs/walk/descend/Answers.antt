use Rattle.std.proofs.Common.{refl, ◌∙◌, [], ◌∷◌, sym, ap, subst, arith, List}
use Rattle.std.proofs.lemmas.Option.{none-some}
use Rattle.roster_model.specs.declared.node.Decision.{Decision}
use Rattle.roster_model.specs.Decided.{open_nodes, nodes_behind}
use Rattle.completion_search.specs.Path.{IsAt}
use Rattle.completion_search.proofs.Path.{IsAt-turned, IsNode-stands}
use Rattle.completion_search.proofs.Grown.{HasGrown_then, HasGrown_none, IsAt-start, iff_then, Leads-start, Leads-leaf, Leads-split, Closes_done}
use Rattle.completion_search.proofs.Splits.{splits-leaf, splits-split, splits-none}
use Rattle.completion_search.proofs.walk.descend.Goals as goal

pub close-requires-clause-node : goal.close-requires-clause-node
close-requires-clause-node g c =
    IsNode-stands c.args.problem.now c.loop-is_open.ledger.entries c.args.number c.loop-is_open.node c.loop-is_open.parents.items
    (c.loop-is_open.invariant.here c.loop-is_open-test.true).stands

pub fly-requires : goal.fly-requires
fly-requires g c =
    let h = rw c.in-Branch.is at c.in_ok-roster.ensures.honest in record { undecided = h.pair.undecided }

pub loop-is_open-init : goal.loop-is_open-init
loop-is_open-init g c = record {
  fits = λ other. (λ h. h, λ h. h);
  same_rounds = refl;
  rounds = c.requires.rounds;
  first = rw c.new-node.ensures.empty c.requires.first;
  room = c.requires.room;
  grown = HasGrown_none c.args.problem.now c.args.number c.args.ledger.now;
  walked = Leads-start c.args.problem.now c.args.goal.now c.new-items.result c.new-node.result c.new-items.ensures c.new-node.ensures.empty;
  here = λ _. IsAt-start c.args.problem.now c.args.ledger.now.entries c.args.number c.new-node.result c.new-parents.result.items c.new-node.ensures.empty c.requires.new;
  short = omega (arith, splits-none c.new-items.result c.new-items.ensures);
}

pub loop-is_open-preserved-in-Closed : goal.loop-is_open-preserved-in-Closed
loop-is_open-preserved-in-Closed g c =
    let inv = c.loop-is_open.invariant in
    let at = inv.here c.loop-is_open-test.true in
    let ok = rw c.in-Closed.is at c.in_ok-roster.ensures.honest in
    record {
      fits = λ other. iff_then (c.close.ensures.fits other) (inv.fits other);
      same_rounds = c.close.ensures.rounds ∙ inv.same_rounds;
      rounds = c.close.ensures.rounds ∙ inv.rounds;
      first = rw c.close.ensures.taken (λ v e. absurd (none-some v e));
      room = inv.room;
      grown = inv.grown;
      walked = Leads-leaf c.args.problem.now c.args.goal.now ([] ∷ []) c.loop-is_open.items c.add_item.new.items c.in-Closed.leaf c.loop-is_open.is_open c.loop-is_open.node _ c.loop-is_open-test.true inv.walked ok c.in_ok-add_item-in-Closed.ensures.ok c.turn-is_open.ensures.behind;
      here = λ e. IsAt-turned c.args.problem.now c.loop-is_open.ledger.entries c.args.number c.loop-is_open.node c.loop-is_open.parents.items c.turn-is_open.new.self (nodes_behind c.turn-is_open.new.self) at.stands at.long (c.turn-is_open.ensures.behind ∙ ap (λ b. open_nodes b c.turn-is_open.new.self) e);
      short = omega (arith, inv.short, splits-leaf c.args.problem.now c.args.goal.now c.loop-is_open.node c.loop-is_open.items c.add_item.new.items c.in-Closed.leaf ok c.in_ok-add_item-in-Closed.ensures.ok);
    }

pub loop-is_open-preserved : goal.loop-is_open-preserved
loop-is_open-preserved g c =
    let inv = c.loop-is_open.invariant in
    let h = rw c.in-Branch.is at c.in_ok-roster.ensures.honest in
    record {
      fits = λ other. iff_then (c.close.ensures.fits other) (inv.fits other);
      same_rounds = c.close.ensures.rounds ∙ inv.same_rounds;
      rounds = c.close.ensures.rounds ∙ inv.rounds ∙ sym c.count_node.ensures.grown.rounds;
      first = rw c.close.ensures.taken (λ v e. absurd (none-some v e));
      room = omega (arith, inv.room, c.count_node.ensures.one, c.count_node.ensures.grown.cap, c.len.ensures.len, c.cap.ensures.cap, c.if-len-cap.false);
      grown = HasGrown_then c.args.problem.now c.args.number c.args.ledger.now c.loop-is_open.ledger c.count_node.new.ledger inv.grown c.count_node.ensures.grown;
      walked = Leads-split c.args.problem.now c.args.goal.now ([] ∷ []) c.loop-is_open.items c.add_item-in-Branch.new.items c.in-Branch.member c.in-Branch.pairing c.loop-is_open.is_open c.loop-is_open.node c.fly.new.node c.loop-is_open-test.true inv.walked h.pair c.in_ok-add_item-in-Branch.ensures.ok c.in_ok-fly-in-Branch.ensures.ok;
      here = λ _. subst (λ (x : List Decision). IsAt c.args.problem.now c.count_node.new.ledger.entries c.args.number x c.count_node.new.parents.items) (sym c.in_ok-fly-in-Branch.ensures.ok) (c.in_ok-count_node-in-Branch.ensures.below c.in-Branch.member c.in-Branch.pairing h.pair);
      short = omega (arith, inv.short, c.count_node.ensures.one, splits-split c.loop-is_open.items c.add_item-in-Branch.new.items c.in-Branch.member c.in-Branch.pairing c.in_ok-add_item-in-Branch.ensures.ok);
    }

pub returns-clause-found : goal.returns-clause-found
returns-clause-found g c = record {
  room = c.loop-is_open.invariant.room;
  closes = Closes_done c.args.problem.now c.args.goal.now c.loop-is_open.items c.loop-is_open.is_open c.loop-is_open.node c.loop-is_open-test.false c.loop-is_open.invariant.walked;
}

pub returns-in_err-count_node-in-Branch-clause-grown : goal.returns-in_err-count_node-in-Branch-clause-grown
returns-in_err-count_node-in-Branch-clause-grown g c =
    HasGrown_then c.args.problem.now c.args.number c.args.ledger.now c.loop-is_open.ledger c.count_node.new.ledger c.loop-is_open.invariant.grown c.count_node.ensures.grown

pub returns-then-len-cap-clause-grown : goal.returns-then-len-cap-clause-grown
returns-then-len-cap-clause-grown g c =
    HasGrown_then c.args.problem.now c.args.number c.args.ledger.now c.loop-is_open.ledger c.count_node.new.ledger c.loop-is_open.invariant.grown c.count_node.ensures.grown

pub returns-in_err-add_item-in-Branch-clause-grown : goal.returns-in_err-add_item-in-Branch-clause-grown
returns-in_err-add_item-in-Branch-clause-grown g c =
    HasGrown_then c.args.problem.now c.args.number c.args.ledger.now c.loop-is_open.ledger c.count_node.new.ledger c.loop-is_open.invariant.grown c.count_node.ensures.grown

pub returns-in_err-fly-in-Branch-clause-grown : goal.returns-in_err-fly-in-Branch-clause-grown
returns-in_err-fly-in-Branch-clause-grown g c =
    HasGrown_then c.args.problem.now c.args.number c.args.ledger.now c.loop-is_open.ledger c.count_node.new.ledger c.loop-is_open.invariant.grown c.count_node.ensures.grown
