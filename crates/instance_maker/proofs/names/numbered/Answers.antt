use Rattle.std.proofs.Common.{◌≡◌, ◌∷◌, ℕ, List, sym, subst, ◌∙◌}
use Rattle.std.specs.Prelude.{IsTrue, decimal}
use Rattle.std.proofs.lemmas.Bool.{false≢true}
use Rattle.duty_calendar.specs.Forms.{is_name}
use Rattle.instance_maker.proofs.Spelled.{numbered_is_name}
use Rattle.instance_maker.proofs.names.numbered.Goals as goal

pub unreachable-requires : goal.unreachable-requires
unreachable-requires c =
    let same : c.as_slice.result.now ≡ c.args.letter ∷ decimal c.args.number =
    c.as_slice.ensures.value ∙ c.in_ok-bytes.ensures.items in
    let named : IsTrue (is_name (c.args.letter ∷ decimal c.args.number)) =
    numbered_is_name c.args.letter c.args.number c.requires.capital c.ranges.number.fits in
    false≢true (c.in-None.ensures.succeeds.1 (subst (λ (bs : List ℕ). IsTrue (is_name bs)) (sym same) named))
