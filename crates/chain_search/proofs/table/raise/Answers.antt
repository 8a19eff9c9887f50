use Rattle.std.proofs.Common.{◌≡◌, ◌-◌, Some, ◌∙◌, subst}
use Rattle.chain_search.specs.Rooms.{less_by}
use Rattle.chain_search.specs.Rows.{RaisedBy}
use Rattle.chain_search.proofs.Raising.{raised_as}
use Rattle.chain_search.proofs.table.raise.Goals as goal

pub returns-in-Less : goal.returns-in-Less
returns-in-Less g c =
    record {
      raised = raised_as (less_by c.in-Less.down) (g.C.Coarse.moves (g.C.Coarse.move_of c.args.coarse.now c.args.arc.now.step)) c.args.there.now c.args.arc.now.gain (g.C.Coarse.count c.args.coarse.now) c.args.here.now c.raise_above.new.here c.requires.wide (c.raise_above.auto.here ∙ c.requires.wide)
          (λ state less. subst (λ by. g.C.Coarse.moves by state ≡ less_by c.in-Less.down state) c.move_of-by.ensures.is_move (c.in-Less.ensures.shift state less)) c.raise_above.ensures.raised;
    }

pub returns-in-Floor : goal.returns-in-Floor
returns-in-Floor g c =
    record {
      raised = raised_as (λ state. Some (state - c.in-Floor.down)) (g.C.Coarse.moves (g.C.Coarse.move_of c.args.coarse.now c.args.arc.now.step)) c.args.there.now c.args.arc.now.gain (g.C.Coarse.count c.args.coarse.now) c.args.here.now c.raise_all.new.here c.requires.wide (c.raise_all.auto.here ∙ c.requires.wide)
          (λ state less. subst (λ by. g.C.Coarse.moves by state ≡ Some (state - c.in-Floor.down)) c.move_of-by.ensures.is_move (c.in-Floor.ensures.shift state less)) c.raise_all.ensures.raised;
    }

pub returns-in-Own : goal.returns-in-Own
returns-in-Own g c = record { raised = subst (λ by. RaisedBy (g.C.Coarse.moves by) c.args.there.now c.args.arc.now.gain c.args.here.now c.raise_each.new.here) c.move_of-by.ensures.is_move c.raise_each.ensures.raised }
