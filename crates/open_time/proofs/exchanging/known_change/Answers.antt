use Rattle.std.proofs.Common.{◌≡◌, ℕ, ◌<◌, List, length, sym, subst, ◌∙◌}
use Rattle.std.specs.Prelude.{All}
use Rattle.open_time.proofs.Moving.{known_all}
use Rattle.open_time.proofs.exchanging.known_change.Goals as goal

pub returns : goal.returns
returns c = record {
  known = λ x e.
      let same : c.in-Some.made ≡ x = cc in
      subst (λ (l : List ℕ). All (λ p. p < length c.args.problem.now.base.pairings) l) same
      (known_all (length c.args.problem.now.base.pairings) c.in-Some.made (sym c.is_known-known.ensures.value ∙ c.if-not-known.false));
}
