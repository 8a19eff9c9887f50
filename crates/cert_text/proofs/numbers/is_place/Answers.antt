use Rattle.std.proofs.Common.{sym, ap, ◌∙◌}
use Rattle.std.specs.Prelude.{not}
use Rattle.cert_text.proofs.PlaceWords.{place_true, place_false, place_none}
use Rattle.cert_text.proofs.numbers.is_place.Goals as goal

pub returns-then-not-is_number : goal.returns-then-not-is_number
returns-then-not-is_number c = record { value = place_none _ _ c.args.word.now (sym c.is_number.ensures.value ∙ c.if-not-is_number.true) }

pub returns-then-is_below : goal.returns-then-is_below
returns-then-is_below c = record {
  value =
      ap not c.is_below-then-is_below.ensures.value
      ∙ place_true c.args.most.now c.args.last.now c.args.word.now c.requires.most c.requires.last (sym c.is_number.ensures.value ∙ c.if-not-is_number.false) (sym c.is_below.ensures.value ∙ c.if-is_below.true);
}

pub returns-else-is_below : goal.returns-else-is_below
returns-else-is_below c = record {
  value =
      c.if-is_below.false
      ∙ place_false c.args.most.now c.args.last.now c.args.word.now c.requires.most c.requires.last (sym c.is_number.ensures.value ∙ c.if-not-is_number.false) (sym c.is_below.ensures.value ∙ c.if-is_below.false);
}
