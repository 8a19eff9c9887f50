use Rattle.std.proofs.Common.{◌-◌, ◌≤◌, ap, arith}
use Rattle.take_graphs.specs.TakeLabels.{TakeEndOf}
use Rattle.term_lines.proofs.SlackRows.{built_more, built_order, built_start, for_all}
use Rattle.term_lines.proofs.slacks.slacks_of.Goals as goal

pub loop-back-init : goal.loop-back-init
loop-back-init g c =
    let two = c.arcs-arcs.ensures.graph.two in
    let sink = c.places-sink.ensures.places in
    built_start c.args.graph.now.places c.args.graph.now.arcs (c.places-sink.result - 1) c.arcs-arcs.ensures.graph (omega (arith, two, sink)) c.new-rows.result.items c.push.new.self.items c.all_free.result c.new-rows.ensures.items c.in_ok-push.ensures.items

pub loop-back-preserved : goal.loop-back-preserved
loop-back-preserved g c =
    let sink = c.places-sink.result - 1 in
    let place = sink - c.loop-back.back in
    let two = c.arcs-arcs.ensures.graph.two in
    let places = c.places-sink.ensures.places in
    let some : 1 ≤ c.loop-back.back = c.loop-back.auto.back in
    let less = c.loop-back-test.true in
    let leaves = c.leaving-numbers.ensures.leaving in
    built_more c.args.graph.now.places c.args.graph.now.arcs sink c.arcs-arcs.ensures.graph (omega (arith, two, places)) c.loop-back.rows.items c.push-in-loop-back.new.self.items c.loop-back.back c.slack_at-slack.result c.in_ok-push-2.ensures.items
    (omega (arith, some)) (omega (arith, less)) (for_all c.args.graph.now.arcs sink place c.leaving-numbers.result.now leaves c.loop-back.rows.items c.as_slice.result.now c.slack_at-slack.result c.as_slice.ensures.value c.slack_at-slack.ensures.before) c.loop-back.invariant

pub returns : goal.returns
returns g c =
    let two = c.arcs-arcs.ensures.graph.two in
    let places = c.places-sink.ensures.places in
    let past = c.loop-back-test.false in
    let end = c.loop-back.auto.back-end (omega arith) in
    record {
      order = built_order c.args.graph.now (record { rows = c.loop-back.rows; sink = c.places-sink.result - 1; low = c.end.result.now.0.low }) c.loop-back.back c.arcs-arcs.ensures.graph (omega (arith, two, places)) (omega (arith, two, places, past, end))
          (ap (λ (e : TakeEndOf). e.0.low) c.end.ensures.end) c.loop-back.invariant;
    }
