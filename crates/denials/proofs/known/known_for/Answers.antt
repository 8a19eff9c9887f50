use Rattle.std.proofs.Common.{arith}
use Rattle.std.proofs.lemmas.Option.{slice_get_within}
use Rattle.denials.proofs.known.known_for.Goals as goal

pub bounds-known-at : goal.bounds-known-at
bounds-known-at c =
    let is = c.best_known-at.ensures.best (omega (arith, c.if-place-eq0.false)) in
    slice_get_within c.args.known.now c.best_known-at.result.0 is.one is.here
