use Rattle.std.proofs.Common.{◌≡◌, ℕ, ◌<◌, List, length, sym, ap, subst, ◌∙◌}
use Rattle.std.specs.Prelude.{All}
use Rattle.open_time.specs.Moves.{without_pairing}
use Rattle.open_time.proofs.Moving.{without_known, without_ascends}
use Rattle.open_time.proofs.moves.line_without.Goals as goal

pub in_order-requires : goal.in_order-requires
in_order-requires c = record {
  ascending = rw c.in_ok-left.ensures.value (without_ascends c.pairings.result.now c.args.pairing (rw c.pairings.ensures.numbers c.pairings.ensures.ascending));
}

pub returns-clause-known : goal.returns-clause-known
returns-clause-known c =
    let whole : c.in_order.result ≡ without_pairing c.args.line.now c.args.pairing =
    c.in_order.ensures.value ∙ c.in_ok-left.ensures.value ∙ ap (λ (xs : List ℕ). without_pairing xs c.args.pairing) c.pairings.ensures.numbers in
    subst (λ (xs : List ℕ). All (λ p. p < length c.args.problem.now.base.pairings) xs) (sym whole)
    (without_known (length c.args.problem.now.base.pairings) c.args.line.now c.args.pairing c.requires.known)
