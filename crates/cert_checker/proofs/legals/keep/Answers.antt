use Rattle.cert_checker.specs.Legals.{IsLegalLine, legal_line}
use Rattle.cert_checker.proofs.LegalLines.{copy_legal}
use Rattle.cert_checker.proofs.Recalls.{pushed}
use Rattle.cert_checker.proofs.legals.keep.Goals as goal

pub returns : goal.returns
returns c = record {
  legal = λ problem all legal. pushed (IsLegalLine problem) c.args.lines.now c.push.new.self (legal_line c.args.member c.in_ok-line.line) c.push.result
      c.push.ensures.ok c.push.ensures.err all (copy_legal problem c.args.member c.args.line.now c.in_ok-line.line c.in_ok-line.ensures.equal legal);
}
