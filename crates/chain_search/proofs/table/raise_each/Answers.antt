use Rattle.std.proofs.Common.{◌<◌, length, arith, sym, w64}
use Rattle.std.proofs.lemmas.Int.{to_z-of_z}
use Rattle.chain_search.proofs.TableRows.{raised_set}
use Rattle.chain_search.proofs.table.raise_each.Goals as goal

pub loop-state-preserved : goal.loop-state-preserved
loop-state-preserved g c =
    let within : c.loop-state.state < length c.loop-state.here = omega arith in
    rw (to_z-of_z w64 c.higher-most.result (record { sfits = c.higher-most.type_inv }))
    (raised_set (g.C.Coarse.moves c.args.by.now) c.args.there.now c.args.arc.now.gain c.loop-state.state c.args.here.now c.loop-state.here c.in-Some.next c.higher-most.result c.requires.high within (sym c.in-Some.ensures.moves)
    c.higher-most.ensures.risen c.higher-most.ensures.over c.higher-most.ensures.least c.higher-most.ensures.one c.loop-state.invariant)
