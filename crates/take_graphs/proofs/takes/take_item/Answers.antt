use Rattle.std.proofs.Common.{◌≡◌, true, arith, rules, refl}
use Rattle.std.proofs.Common.{FitsSigned, w64}
use Rattle.std.proofs.lemmas.Int.{to_z-of_z}
use Rattle.std.proofs.lemmas.List.Elements.{All-push}
use Rattle.label_setter.specs.Graphs.{FitsPlaces}
use Rattle.take_graphs.proofs.TakeJoining.{takes_none, takes_on}
use Rattle.take_graphs.proofs.takes.take_item.Goals as goal

pub returns-in_default-clause-arcs : goal.returns-in_default-clause-arcs
returns-in_default-clause-arcs g c =
    let m = g.M.Choices in
    let r = c.args.choices.now in
    takes_none (m.may r) (m.must r) (m.near r) (m.gain r) (m.step r) c.args.from c.args.places c.args.arcs.now.items c.args.taken.now.items
    (λ j h. let i = c.requires.inside j h in let e = c.requires.places in omega arith) (search rules) c.requires.arcs

pub returns-clause-arcs : goal.returns-clause-arcs
returns-clause-arcs g c =
    let m = g.M.Choices in
    let r = c.args.choices.now in
    let open_place : m.may r c.args.from ≡ true = search rules in
    let range : FitsSigned w64 c.gain-gain.result = search rules in
    let made = takes_on (m.may r) (m.must r) (m.near r) (m.gain r) (m.step r) c.args.from c.in-Some.to c.args.arcs.now.items c.args.taken.now.items
    (record { from = c.args.from; to = c.in-Some.to; gain = c.gain-gain.result; step = c.step-step.result })
    c.requires.within.0 open_place c.in-Some.ensures.leads refl refl c.gain-gain.ensures.gain c.step-step.ensures c.requires.arcs in
    rw (c.in_ok-push.ensures.items, c.in_ok-push-2.ensures.items, to_z-of_z) made

pub returns-clause-fit : goal.returns-clause-fit
returns-clause-fit g c =
    let range : FitsSigned w64 c.gain-gain.result = search rules in
    let fits : FitsPlaces c.args.places (record { from = c.args.from; to = c.in-Some.to; gain = c.gain-gain.result; step = c.step-step.result }) =
    record { forward = c.in-Some.ensures.inside.0; within = c.in-Some.ensures.inside.1; gain_low = c.gain-gain.ensures.low; gain_high = c.gain-gain.ensures.high } in
    rw (c.in_ok-push.ensures.items, to_z-of_z) (All-push (FitsPlaces c.args.places) c.args.arcs.now.items _ c.requires.fit fits)
