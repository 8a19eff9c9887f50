use Rattle.std.proofs.Common.{ℕ, ◌<◌, List, [], length, sym, subst, arith}
use Rattle.std.specs.Prelude.{All}
use Rattle.open_time.proofs.Inserted.{with_pairing-within}
use Rattle.open_time.proofs.lines.eligible.Goals as goal

pub legal-requires-clause-in_range : goal.legal-requires-clause-in_range
legal-requires-clause-in_range c =
    let n : ℕ = length c.args.problem.now.base.pairings in
    let line : All (λ p. p < n) c.line_at-line.result.now =
    subst (λ (xs : List ℕ). All (λ p. p < n) xs) (sym c.line_at-line.ensures.line)
    (c.requires.pairings c.args.member [] (omega (arith, c.requires.lines, c.requires.member))) in
    subst (λ (xs : List ℕ). All (λ p. p < n) xs) (sym c.in_ok-more.ensures.value)
    (with_pairing-within c.line_at-line.result.now c.args.pairing n line c.requires.pairing)
