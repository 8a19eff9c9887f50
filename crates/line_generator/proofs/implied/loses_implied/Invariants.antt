use Rattle.std.proofs.Common.{◌≡◌, ℕ, ◌<◌, Some, true}
use Rattle.std.specs.Prelude.{slice_get}
use Rattle.roster_model.specs.declared.bid.Bid.{Bid}
use Rattle.roster_model.specs.Lenses.{is_tracked}
use Rattle.roster_model.specs.Scores.{bids_of}
use Rattle.lens_classes.specs.Classes.{is_in}
use Rattle.line_generator.specs.ClassLines.{IsImpliedBy}
use Rattle.line_generator.proofs.implied.loses_implied.Given as goal

abbrev pub invariant-loop-number : goal.invariant-loop-number
invariant-loop-number l =
    (bid : ℕ) (b : Bid) → bid < l.number → slice_get (bids_of l.problem l.member) bid ≡ Some b → is_tracked l.lens bid ≡ true → IsImpliedBy b.wish l.terms
    → is_in l.granted bid ≡ true
