use Rattle.std.proofs.Common.{◌<◌, length, arith, w64}
use Rattle.std.proofs.lemmas.Int.{to_z-of_z}
use Rattle.chain_search.specs.Rows.{none_from}
use Rattle.chain_search.proofs.Raising.{below_whole, is_none, less_of_both}
use Rattle.chain_search.proofs.TableRows.{raised_set}
use Rattle.chain_search.proofs.table.raise_below.Goals as goal

pub loop-state-preserved : goal.loop-state-preserved
loop-state-preserved g c =
    let end = c.min-state-end.ensures in
    let less = c.loop-state-test.true in
    let within : c.loop-state.state < length c.loop-state.here = omega (arith, end, less) in
    rw (to_z-of_z w64 c.higher-most.result (record { sfits = c.higher-most.type_inv }))
    (raised_set (none_from c.args.below) c.args.there.now c.args.arc.now.gain c.loop-state.state c.args.here.now c.loop-state.here 0 c.higher-most.result c.requires.high within (is_none c.args.below c.loop-state.state (omega (arith, end, less)))
    c.higher-most.ensures.risen c.higher-most.ensures.over c.higher-most.ensures.least c.higher-most.ensures.one c.loop-state.invariant)

pub returns : goal.returns
returns g c = record { raised = below_whole c.args.below c.args.there.now c.args.arc.now.gain c.loop-state.state c.args.here.now c.loop-state.here (let end = c.min-state-end.ensures in less_of_both c.args.below (length c.args.here.now) c.loop-state.state (omega (arith, end))) c.loop-state.invariant }
