use Rattle.std.proofs.Common.{◌≡◌, ℕ, ◌<◌, [], ◌∷◌, ◌++◌, List, Bool, true, Some, Ok, length, get_or, take, arith, sym, ◌∙◌, ap, subst, rules, w64, ℤ, FitsSigned, to_z, of_z}
use Rattle.std.specs.Prelude.{slice_get}
use Rattle.std.specs.List.{list_any}
use Rattle.std.proofs.lemmas.Int.{to_z-of_z}
use Rattle.std.proofs.lemmas.Option.{slice_get-get_or}
use Rattle.chain_search.specs.Marking.{KeepsMark, dispenses}
use Rattle.chain_search.specs.Searches.{IsWithin, Spreads}
use Rattle.chain_search.proofs.Hunting.{hunt_above, hunt_dispensed, hunt_ends, hunt_low, hunt_on, hunt_on_above, hunt_rest, on_path_of}
use Rattle.chain_search.proofs.search.turn.Goals as goal

pub returns-then-is_outgrown-clause-goes : goal.returns-then-is_outgrown-clause-goes
returns-then-is_outgrown-clause-goes g c = λ _.
    hunt_rest g.R.Resource.extend g.R.Resource.done c.args.graph.now c.args.above.now.over c.args.walk.now.path.items c.args.walk.now.marks c.args.walk.now.waiting.items c.args.next.now (g.B.Rest.rest c.args.above.now.rest) c.requires.rest
    (c.is_outgrown.ensures.low c.if-is_outgrown.true) c.requires.hunts

pub returns-then-not-ends_above-clause-goes : goal.returns-then-not-ends_above-clause-goes
returns-then-not-ends_above-clause-goes g c = λ _.
    let sink = c.sink_of.ensures.sink in
    hunt_low g.R.Resource.extend g.R.Resource.done c.args.graph.now c.args.above.now.over c.args.walk.now.path.items c.args.walk.now.marks c.args.walk.now.waiting.items c.args.next.now c.sink_of.ensures.graph (let at = c.if-next-sink_of.true in omega (arith, at, sink))
    (sym c.ends_above.ensures.ends ∙ c.if-not-ends_above.true) c.requires.hunts

pub returns-then-next-sink_of-clause-comes : goal.returns-then-next-sink_of-clause-comes
returns-then-next-sink_of-clause-comes g c = λ _.
    let sink = c.sink_of.ensures.sink in
    hunt_ends g.R.Resource.extend g.R.Resource.done c.args.graph.now c.args.above.now.over c.args.walk.now.path.items c.args.walk.now.marks c.args.walk.now.waiting.items c.args.next.now (let at = c.if-next-sink_of.true in omega (arith, at, sink))
    (sym c.ends_above.ensures.ends ∙ c.if-not-ends_above.false) c.requires.hunts

pub returns-then-next-sink_of-clause-above : goal.returns-then-next-sink_of-clause-above
returns-then-next-sink_of-clause-above g c = λ _. hunt_above g.R.Resource.extend g.R.Resource.done c.args.graph.now c.args.above.now.over c.args.next.now (sym c.ends_above.ensures.ends ∙ c.if-not-ends_above.false)

pub returns-then-next-sink_of-clause-rises : goal.returns-then-next-sink_of-clause-rises
returns-then-next-sink_of-clause-rises g c = λ _.
    let sink = c.sink_of.ensures.sink in
    hunt_on_above g.R.Resource.extend g.R.Resource.done c.args.graph.now c.args.above.now.over c.args.walk.now.path.items c.args.walk.now.marks c.args.walk.now.waiting.items c.args.next.now c.sink_of.ensures.graph (let at = c.if-next-sink_of.true in omega (arith, at, sink))
    (hunt_above g.R.Resource.extend g.R.Resource.done c.args.graph.now c.args.above.now.over c.args.next.now (sym c.ends_above.ensures.ends ∙ c.if-not-ends_above.false)) c.requires.hunts

pub returns-then-next-sink_of-clause-along : goal.returns-then-next-sink_of-clause-along
returns-then-next-sink_of-clause-along g c = λ _. (on_path_of g.R.Resource.extend g.R.Resource.done c.args.graph.now c.args.above.now.over c.args.walk.now.path.items c.args.walk.now.marks c.args.walk.now.waiting.items c.args.next.now c.requires.hunts).before

pub dispense-requires : goal.dispense-requires
dispense-requires g c =
    let on = on_path_of g.R.Resource.extend g.R.Resource.done c.args.graph.now c.args.above.now.over c.args.walk.now.path.items c.args.walk.now.marks c.args.walk.now.waiting.items c.args.next.now c.requires.hunts in
    let inside = on.inside in
    let count = c.requires.hunts.count in
    let sink = c.sink_of.ensures.sink in
    let at = c.if-next-sink_of.false in
    record { within = omega (arith, inside, count, sink, at) }

pub returns-then-dispense-clause-goes : goal.returns-then-dispense-clause-goes
returns-then-dispense-clause-goes g c = λ _.
    let on = on_path_of g.R.Resource.extend g.R.Resource.done c.args.graph.now c.args.above.now.over c.args.walk.now.path.items c.args.walk.now.marks c.args.walk.now.waiting.items c.args.next.now c.requires.hunts in
    let inside = on.inside in
    let count = c.requires.hunts.count in
    let sink = c.sink_of.ensures.sink in
    let at = c.if-next-sink_of.false in
    let within : c.args.next.now.place < length c.args.walk.now.marks = omega (arith, inside, count, sink, at) in
    let row = get_or c.args.walk.now.marks c.args.next.now.place [] in
    let is : slice_get c.args.walk.now.marks c.args.next.now.place ≡ Some row = slice_get-get_or c.args.walk.now.marks c.args.next.now.place [] within in
    let range : FitsSigned w64 c.args.next.now.gain = search rules in
    let any : c.dispense.result ≡ list_any (λ mark. dispenses (g.O.Order.spares c.args.order.now c.args.next.now.place) mark (to_z w64 (of_z w64 c.args.next.now.gain)) c.args.next.now.resource) row = rw is at c.dispense.ensures.any in
    hunt_dispensed g.R.Resource.extend g.R.Resource.done c.args.graph.now c.args.above.now.over (g.O.Order.spares c.args.order.now) c.requires.order c.args.walk.now.path.items c.args.walk.now.marks c.args.walk.now.waiting.items c.args.next.now row is
    (subst (λ (x : ℤ). list_any (λ mark. dispenses (g.O.Order.spares c.args.order.now c.args.next.now.place) mark x c.args.next.now.resource) row ≡ true) (to_z-of_z w64 c.args.next.now.gain range) (sym any ∙ c.if-dispense.true)) c.requires.hunts

pub keep-requires : goal.keep-requires
keep-requires g c =
    let on = on_path_of g.R.Resource.extend g.R.Resource.done c.args.graph.now c.args.above.now.over c.args.walk.now.path.items c.args.walk.now.marks c.args.walk.now.waiting.items c.args.next.now c.requires.hunts in
    let inside = on.inside in
    let count = c.requires.hunts.count in
    let sink = c.sink_of.ensures.sink in
    let at = c.if-next-sink_of.false in
    record { within = omega (arith, inside, count, sink, at) }

pub from-leaving-requires : goal.from-leaving-requires
from-leaving-requires g c =
    let on = on_path_of g.R.Resource.extend g.R.Resource.done c.args.graph.now c.args.above.now.over c.args.walk.now.path.items c.args.walk.now.marks c.args.walk.now.waiting.items c.args.next.now c.requires.hunts in
    let inside = on.inside in
    let count = c.requires.ways.count in
    record { within = omega (arith, inside, count) }

pub spread-requires-clause-leaving : goal.spread-requires-clause-leaving
spread-requires-clause-leaving g c = c.requires.ways.leaving c.args.next.now.place c.from-leaving.result.now c.from-leaving.ensures.leaving

pub spread-requires-clause-before : goal.spread-requires-clause-before
spread-requires-clause-before g c =
    let on = on_path_of g.R.Resource.extend g.R.Resource.done c.args.graph.now c.args.above.now.over c.args.walk.now.path.items c.args.walk.now.marks c.args.walk.now.waiting.items c.args.next.now c.requires.hunts in
    let inside = on.inside in
    let sink = c.sink_of.ensures.sink in
    let at = c.if-next-sink_of.false in
    omega (arith, inside, sink, at)

pub spread-requires-clause-within : goal.spread-requires-clause-within
spread-requires-clause-within g c =
    let on = on_path_of g.R.Resource.extend g.R.Resource.done c.args.graph.now c.args.above.now.over c.args.walk.now.path.items c.args.walk.now.marks c.args.walk.now.waiting.items c.args.next.now c.requires.hunts in
    let range : FitsSigned w64 c.args.next.now.gain = search rules in
    subst (λ (x : ℤ). IsWithin c.args.next.now.place x) (sym (to_z-of_z w64 c.args.next.now.gain range)) on.within

pub returns-then-branch-clause-goes : goal.returns-then-branch-clause-goes
returns-then-branch-clause-goes g c = λ _.
    let range : FitsSigned w64 c.args.next.now.gain = search rules in
    let same : to_z w64 (of_z w64 c.args.next.now.gain) ≡ c.args.next.now.gain = to_z-of_z w64 c.args.next.now.gain range in
    let long : c.len.result ≡ length c.push.new.self.items = omega arith in
    let path_is : c.push.new.self.items ≡ take c.args.next.now.before c.args.walk.now.path.items ++ c.args.next.now.arc ∷ [] = c.in_ok-push.ensures.items ∙ ap (λ (xs : List ℕ). xs ++ c.args.next.now.arc ∷ []) c.truncate.ensures.items in
    let kept : KeepsMark c.args.walk.now.marks c.args.next.now.place (record { gain = c.args.next.now.gain; resource = c.args.next.now.resource }) c.keep.new.self =
    subst (λ (x : ℤ). KeepsMark c.args.walk.now.marks c.args.next.now.place (record { gain = x; resource = c.args.next.now.resource }) c.keep.new.self) same c.in_ok-keep.ensures.kept in
    let spreads = c.in_ok-spread.ensures.spreads (ap (λ (b : Bool). Ok b) c.if-branch.true) in
    hunt_on g.R.Resource.extend g.R.Resource.done c.args.graph.now c.args.above.now.over c.args.walk.now.path.items c.push.new.self.items c.args.walk.now.marks c.keep.new.self c.args.walk.now.waiting.items c.spread.new.waiting.items c.args.next.now path_is kept
    (subst (λ (n : ℕ). Spreads g.R.Resource.extend g.R.Resource.done c.args.graph.now c.args.above.now.over (record { before = n; place = c.args.next.now.place; gain = c.args.next.now.gain; resource = c.args.next.now.resource }) c.args.walk.now.waiting.items c.spread.new.waiting.items) long
    (subst (λ (x : ℤ). Spreads g.R.Resource.extend g.R.Resource.done c.args.graph.now c.args.above.now.over (record { before = c.len.result; place = c.args.next.now.place; gain = x; resource = c.args.next.now.resource }) c.args.walk.now.waiting.items c.spread.new.waiting.items) same spreads))
    c.requires.hunts
