use Rattle.std.proofs.Common.{◌≡◌, ◌≤◌, ◌∙◌, List, ap, arith, get_or, length}
use Rattle.label_setter.specs.declared.graph.Arc.{Arc}
use Rattle.take_graphs.specs.TakeLabels.{TakeStepOf}
use Rattle.term_lines.proofs.SlackRows.{for_known, for_unknown}
use Rattle.term_lines.proofs.slacks.slack_at.Goals.{in-Some, in_default}
use Rattle.term_lines.proofs.slacks.slack_at.Goals as goal

pub loop-number-preserved : goal.loop-number-preserved
loop-number-preserved g c =
    let read : c.index-arcs-number.result ≡ get_or c.args.graph.now.arcs (get_or c.args.leaving.now c.loop-number.number-index 0) c.index-arcs-number.result =
    c.index-arcs-number.is ∙ ap (λ (xs : List (Arc (TakeStepOf g.row.N))). get_or xs (get_or c.args.leaving.now c.loop-number.number-index 0) c.index-arcs-number.result) c.arcs-arcs.ensures.arcs in
    elim c.match-get.branch [
      | in-Some w ↦
          let look = w.in-Some.ensures.lookup in
          for_known c.args.graph.now.arcs c.args.rows.now c.args.sink c.args.leaving.now c.loop-number.number-index c.saturating_sub.result c.loop-number.here w.slack_before-here.result c.match-get.here w.in-Some.next.now c.index-arcs-number.result
          c.loop-number-test.true read c.saturating_sub.ensures look.3.0 look.1 w.slack_before-here.ensures.before w.slack_before-here.ensures.kept w.here-is c.loop-number.invariant
      | in_default w ↦
          let look = w.in_default.ensures.lookup in
          for_unknown c.args.graph.now.arcs c.args.rows.now c.args.sink c.args.leaving.now c.loop-number.number-index c.saturating_sub.result c.loop-number.here c.match-get.here c.index-arcs-number.result
          c.loop-number-test.true read c.saturating_sub.ensures look.3 w.here-is c.loop-number.invariant
    ]

pub returns : goal.returns
returns g c = record { before = λ k d less arc next is next_is. c.loop-number.invariant k d (let end : length c.args.leaving.now ≤ c.loop-number.number-index = omega arith in omega (arith, less, end)) arc next is next_is }
