use Rattle.std.proofs.Common.{◌<◌, ℕ, List, length, sym, subst}
use Rattle.std.specs.Prelude.{All}
use Rattle.std.proofs.lemmas.Result.{MatchResult-at_ok}
use Rattle.cert_checker.specs.Choices.{IsLineDecided}
use Rattle.cert_checker.specs.Faults.{IsFirstUndecided}
use Rattle.cert_checker.proofs.Lines.{decided_line-in_range}
use Rattle.cert_checker.proofs.fixed.fixed.Goals as goal

pub serves-requires-clause-pairings : goal.serves-requires-clause-pairings
serves-requires-clause-pairings c =
    let problem = c.args.problem.now in
    let node = c.args.node.now in
    let found =
    MatchResult-at_ok (IsLineDecided problem node c.args.member) (IsFirstUndecided problem node c.args.member) c.in-Ok.line c.in-Ok.is c.in_ok-line.ensures.found in
    subst (λ (line : List ℕ). All (λ p. p < length problem.base.pairings) line) (sym found.value) (decided_line-in_range problem node c.args.member)
