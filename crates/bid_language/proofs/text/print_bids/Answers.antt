use Rattle.bid_language.proofs.BidsAgain.{bids-again}
use Rattle.bid_language.proofs.DaysAgain.{days-again}
use Rattle.bid_language.proofs.Spelt.{problem-spelt}
use Rattle.bid_language.proofs.text.print_bids.Goals as goal

pub returns-clause-again : goal.returns-clause-again
returns-clause-again c =
    bids-again c.args.problem.now.base c.args.problem.now.bids c.args.problem.now.valid (days-again c.args.problem.now.base.rules.horizon)
    (problem-spelt c.args.problem.now.base c.args.problem.now.bids c.args.problem.now.valid)

pub returns-in_err-put_problem-clause-again : goal.returns-in_err-put_problem-clause-again
returns-in_err-put_problem-clause-again c =
    bids-again c.args.problem.now.base c.args.problem.now.bids c.args.problem.now.valid (days-again c.args.problem.now.base.rules.horizon)
    (problem-spelt c.args.problem.now.base c.args.problem.now.bids c.args.problem.now.valid)
