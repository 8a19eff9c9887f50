use Rattle.std.proofs.Common.{◌+◌, ◌^◌, ◌<◌, length, FitsSigned, w64}
use Rattle.std.proofs.lemmas.Int.{to_z-of_z}
use Rattle.label_setter.specs.Graphs.{FitsPlaces}
use Rattle.label_setter.proofs.GraphLemmas.{IsGraph-push}
use Rattle.label_setter.proofs.graph.Graph.arc.Goals as goal

pub invariant_of-self-2 : goal.invariant_of-self-2
invariant_of-self-2 g c =
    let within : c.args.to < c.self.inside.places = rw (← c.self.view_is) at c.requires.within in
    let few : length c.self.inside.arcs.items + 1 < 2 ^ 32 = rw (← c.self.view_is) at c.requires.few in
    let fits : FitsPlaces c.self.inside.places (record { from = c.args.from; to = c.args.to; gain = c.args.gain; step = c.args.step }) = record { forward = c.requires.forward; within = within; gain_low = c.requires.low; gain_high = c.requires.high } in
    let range : FitsSigned w64 c.args.gain = c.ranges.gain in
    rw (c.in_ok-push.ensures.items, to_z-of_z) (IsGraph-push _ _ _ c.self.invariant fits few)
