use Rattle.std.proofs.Common.{List, ap, map, ◌∙◌}
use Rattle.std.specs.Prelude.{filter}
use Rattle.std.specs.List.{list_any}
use Rattle.duty_calendar.specs.declared.event.Event.{Event}
use Rattle.duty_calendar.specs.Minutes.{is_duty}
use Rattle.roster_model.specs.Scores.{is_touching_days}
use Rattle.roster_model.specs.Spans.{event_span}
use Rattle.line_items.proofs.MaskParts.{any_duty}
use Rattle.line_items.proofs.hits.is_busy_in.Goals as goal

pub returns : goal.returns
returns c = record {
  busy =
      c.some_duty_in.ensures.some
      ∙ any_duty c.fixed_of.result.now c.args.first c.args.last
      ∙ ap (λ (es : List Event). list_any (is_touching_days c.args.first c.args.last) (map event_span (filter (λ e. is_duty e.kind) es))) c.fixed_of.ensures.events;
}
