use Rattle.std.proofs.lemmas.Result.{on_err_weaker}
use Rattle.bid_language.specs.Spelling.{bid_text, text_of}
use Rattle.bid_language.proofs.BidTextAgain.{text-again}
use Rattle.bid_language.proofs.DaysAgain.{days-again}
use Rattle.bid_language.proofs.Written.{partly_same}
use Rattle.bid_language.proofs.text.put_bid.Goals as goal

pub returns-clause-partly : goal.returns-clause-partly
returns-clause-partly c =
    on_err_weaker c.put_text.result
    (λ h. partly_same c.args.out.now (bid_text c.args.problem.now.base c.bid_at.result.now) (text_of c.args.problem.now c.args.bid) c.put_text.new.out c.bid_at.ensures.text h)
    c.put_text.ensures.partly

pub returns-clause-again : goal.returns-clause-again
returns-clause-again c = text-again c.args.problem.now c.args.bid (days-again c.args.problem.now.base.rules.horizon)
