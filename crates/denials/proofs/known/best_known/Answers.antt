use Rattle.std.proofs.Common.{length, refl, arith}
use Rattle.std.proofs.lemmas.Option.{slice_get_read}
use Rattle.denials.specs.Known.{IsFound}
use Rattle.denials.proofs.Knowing.{all_read, known_at, known_moved}
use Rattle.denials.proofs.known.best_known.Goals.{then-place-reached, else-place-reached}
use Rattle.denials.proofs.known.best_known.Goals as goal

pub place_for-reached-requires-clause-found : goal.place_for-reached-requires-clause-found
place_for-reached-requires-clause-found c =
    all_read (IsFound c.args.problem.now c.args.scores.now) c.args.known.now c.loop-at.at c.index-known-at.result
    c.requires.found c.loop-at-test.true c.index-known-at.is

pub loop-at-preserved : goal.loop-at-preserved
loop-at-preserved c =
    elim c.if-place-reached.branch [
      | then-place-reached w ↦ record {
        within = omega (arith, w.place-is, c.place_for-reached.ensures.within);
        best =
            known_moved c.args.problem.now c.args.scores.now c.args.bid c.args.known.now c.loop-at.at c.if-place-reached.best c.place_for-reached.result c.if-place-reached.place
            w.best-is w.place-is
            (λ some.
            known_at c.args.problem.now c.args.scores.now c.args.bid c.args.known.now c.loop-at.at c.place_for-reached.result c.index-known-at.result
            (slice_get_read c.args.known.now (length c.args.known.now) c.loop-at.at c.index-known-at.result refl c.loop-at-test.true c.index-known-at.is)
            (c.place_for-reached.ensures.reached some));
      }
      | else-place-reached w ↦ record {
        within = omega (arith, w.place-is, c.loop-at.invariant.within);
        best =
            known_moved c.args.problem.now c.args.scores.now c.args.bid c.args.known.now c.loop-at.best c.if-place-reached.best c.loop-at.place c.if-place-reached.place
            w.best-is w.place-is c.loop-at.invariant.best;
      }
    ]
