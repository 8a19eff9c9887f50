use Rattle.std.proofs.Common.{List, get_or, sym, ap, ◌∙◌}
use Rattle.duty_calendar.specs.declared.pairing.Pairing.{Pairing}
use Rattle.line_items.proofs.NightPlaces.{pairing_night}
use Rattle.line_items.proofs.nights.pairing_marks.Goals as goal

pub returns : goal.returns
returns c = record {
  marks = λ member lens spans.
      pairing_night c.args.problem.now member lens c.args.pairing c.index-as_slice-pairing.result c.as_slice-duties.result.now c.args.span c.duties_marks.result
      c.requires.known
      (c.index-as_slice-pairing.is ∙ ap (λ (l : List Pairing). get_or l c.args.pairing c.index-as_slice-pairing.result) c.as_slice.ensures)
      (c.as_slice-duties.ensures ∙ ap (λ (p : Pairing). p.duties) (sym c.index-as_slice-pairing.is))
      spans c.duties_marks.ensures.marks;
}
