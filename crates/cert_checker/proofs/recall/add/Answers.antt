use Rattle.cert_checker.specs.Recalls.{IsRightAnswer}
use Rattle.cert_checker.proofs.Recalls.{pushed}
use Rattle.cert_checker.proofs.recall.add.Goals as goal

pub returns : goal.returns
returns c = record {
  right = λ problem weights. pushed (IsRightAnswer problem weights) c.args.answers.now c.push.new.self c.args.answer c.push.result c.push.ensures.ok c.push.ensures.err;
}
