use Rattle.std.proofs.Common.{◌∙◌, ap}
use Rattle.std.specs.Prelude.{Bool, Ok}
use Rattle.cert_text.specs.Fields.{kept}
use Rattle.cert_text.proofs.PlaceWords.{place_is_number}
use Rattle.cert_text.proofs.numbers.place_after.Goals as goal

pub returns-clause-number : goal.returns-clause-number
returns-clause-number c =
    place_is_number _ _ c.args.word.now (Ok c.size.result) c.kept.result (c.kept.ensures.value ∙ ap (λ (b : Bool). kept b (Ok c.size.result)) c.is_place.ensures.value)
