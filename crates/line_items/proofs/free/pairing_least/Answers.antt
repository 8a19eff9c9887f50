use Rattle.std.proofs.Common.{◌++◌, List, arith, length, get_or, map, refl, sym, ◌∙◌, ap}
use Rattle.duty_calendar.specs.declared.interval.Interval.{Interval}
use Rattle.duty_calendar.specs.declared.pairing.Pairing.{Pairing}
use Rattle.roster_model.specs.Spans.{duty_event, event_span}
use Rattle.line_items.proofs.FewEvents.{few_duties}
use Rattle.line_items.proofs.FreeTimes.{own_table, own_least}
use Rattle.line_items.proofs.free.pairing_least.Goals as goal

pub least_start-requires : goal.least_start-requires
least_start-requires c =
    record {
      timetable = own_table c.args.problem.now c.args.pairing c.index-as_slice-pairing.result c.as_slice-duties.result.now c.deref.result.now
          c.requires.known
          (c.index-as_slice-pairing.is ∙ ap (λ (l : List Pairing). get_or l c.args.pairing c.index-as_slice-pairing.result) c.as_slice.ensures)
          (c.as_slice-duties.ensures ∙ ap (λ (p : Pairing). p.duties) (sym c.index-as_slice-pairing.is))
          (c.deref.ensures.value ∙ c.in_ok-push_duties.ensures.more
          ∙ ap (λ (l : List Interval). l ++ map event_span (map duty_event c.as_slice-duties.result.now)) c.clear.ensures.items);
    }

pub returns-clause-least : goal.returns-clause-least
returns-clause-least c =
    own_least c.args.problem.now c.args.pairing c.index-as_slice-pairing.result c.as_slice-duties.result.now c.deref.result.now
    c.args.first c.least_start.result c.requires.known
    (c.index-as_slice-pairing.is ∙ ap (λ (l : List Pairing). get_or l c.args.pairing c.index-as_slice-pairing.result) c.as_slice.ensures)
    (c.as_slice-duties.ensures ∙ ap (λ (p : Pairing). p.duties) (sym c.index-as_slice-pairing.is))
    (c.deref.ensures.value ∙ c.in_ok-push_duties.ensures.more
    ∙ ap (λ (l : List Interval). l ++ map event_span (map duty_event c.as_slice-duties.result.now)) c.clear.ensures.items)
    c.least_start.ensures.least

pub returns-in_err-push_duties-clause-calm : goal.returns-in_err-push_duties-clause-calm
returns-in_err-push_duties-clause-calm c = λ room fails.
    let none = ap length c.clear.ensures.items in
    let duties = few_duties c.args.problem.now c.args.pairing c.index-as_slice-pairing.result c.as_slice-duties.result.now c.requires.known
    (c.index-as_slice-pairing.is ∙ ap (λ (l : List Pairing). get_or l c.args.pairing c.index-as_slice-pairing.result) c.as_slice.ensures)
    (c.as_slice-duties.ensures ∙ ap (λ (p : Pairing). p.duties) (sym c.index-as_slice-pairing.is)) in
    c.push_duties.ensures.calm (omega (arith, none, duties, room)) (rw c.in_err-push_duties.was refl)
