use Rattle.std.proofs.Common.{◌∙◌, sym}
use Rattle.line_items.proofs.ClearLemmas.{clear_is}
use Rattle.line_items.proofs.clear.is_clear.Goals as goal

pub returns : goal.returns
returns c = record {
  clear =
      clear_is c.args.problem.now c.args.member c.args.pairing.now c.as_slice-duties.result.now c.pairing_span.result c.is_crossing.result
      c.as_slice-duties.ensures c.pairing_span.ensures
      (sym c.are_tired.ensures.tired ∙ c.if-are_tired.false)
      (sym c.are_tiring.ensures.tired ∙ c.if-are_tiring.false)
      c.is_crossing.ensures.crossing;
}
