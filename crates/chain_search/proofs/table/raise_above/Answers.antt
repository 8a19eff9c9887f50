use Rattle.std.proofs.Common.{◌-◌, ◌<◌, length, arith, w64}
use Rattle.std.proofs.lemmas.Int.{to_z-of_z}
use Rattle.chain_search.specs.Rooms.{less_by}
use Rattle.chain_search.proofs.Raising.{above_start, is_less, raised_whole}
use Rattle.chain_search.proofs.TableRows.{raised_set}
use Rattle.chain_search.proofs.table.raise_above.Goals as goal

pub loop-state-preserved : goal.loop-state-preserved
loop-state-preserved g c =
    let within : c.loop-state.state < length c.loop-state.here = omega arith in
    rw (to_z-of_z w64 c.higher-most.result (record { sfits = c.higher-most.type_inv }))
    (raised_set (less_by c.args.down) c.args.there.now c.args.arc.now.gain c.loop-state.state c.args.here.now c.loop-state.here (c.loop-state.state - c.args.down) c.higher-most.result c.requires.high within (is_less c.args.down c.loop-state.state (omega arith))
    c.higher-most.ensures.risen c.higher-most.ensures.over c.higher-most.ensures.least c.higher-most.ensures.one c.loop-state.invariant)

pub loop-state-init : goal.loop-state-init
loop-state-init g c = above_start c.args.down c.args.there.now c.args.arc.now.gain c.args.here.now

pub returns : goal.returns
returns g c = record { raised = raised_whole (less_by c.args.down) c.args.there.now c.args.arc.now.gain c.loop-state.state c.args.here.now c.loop-state.here (omega arith) c.loop-state.invariant }
