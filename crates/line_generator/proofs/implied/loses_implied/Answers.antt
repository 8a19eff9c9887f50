use Rattle.std.proofs.Common.{◌≡◌, ◌∙◌, Some, List, refl, sym, subst}
use Rattle.std.specs.Prelude.{length, slice_get}
use Rattle.std.proofs.lemmas.Option.{slice_get_read}
use Rattle.roster_model.specs.declared.bid.Bid.{Bid}
use Rattle.roster_model.specs.Lenses.{is_tracked}
use Rattle.lens_classes.specs.Classes.{is_in}
use Rattle.line_generator.specs.ClassLines.{IsImpliedBy}
use Rattle.line_generator.proofs.SparedClasses.{left_parts}
use Rattle.line_generator.proofs.implied.loses_implied.Goals as goal

pub returns-then-is_implied-clause-implied : goal.returns-then-is_implied-clause-implied
returns-then-is_implied-clause-implied c = λ _. record {
  bid = c.loop-number.number;
  lost = c.index-bids-number.result;
  there = subst (λ (xs : List Bid). slice_get xs c.loop-number.number ≡ Some c.index-bids-number.result) c.bids_of-bids.ensures.bids
      (slice_get_read c.bids_of-bids.result.now (length c.bids_of-bids.result.now) c.loop-number.number c.index-bids-number.result refl c.loop-number-test.true c.index-bids-number.is);
  tracked = (left_parts (is_tracked c.args.lens.now c.loop-number.number) (is_in c.args.granted c.loop-number.number) (sym c.is_left.ensures.left ∙ c.if-not-is_left.false)).0;
  left = (left_parts (is_tracked c.args.lens.now c.loop-number.number) (is_in c.args.granted c.loop-number.number) (sym c.is_left.ensures.left ∙ c.if-not-is_left.false)).1;
  implied = subst (λ (b : Bid). IsImpliedBy b.wish c.args.terms.now) (sym c.index-bids-number.is) (c.is_implied.ensures.implied.0 c.if-is_implied.true);
}
