use Rattle.month_files.proofs.Drafted.{all_eight, names_again}
use Rattle.month_files.proofs.drafting.month_drafts.Goals as goal

pub returns-clause-drafts : goal.returns-clause-drafts
returns-clause-drafts c =
    all_eight c.args.problem.now _ _ _ _ _ _ c.new-drafts.ensures c.in_ok-add_rules.ensures.added c.in_ok-add_pairings.ensures.added c.in_ok-add_members.ensures.added
    c.in_ok-add.ensures.added c.in_ok-bids.ensures.whole

pub returns-clause-again : goal.returns-clause-again
returns-clause-again c =
    names_again c.args.problem.now c.in_ok-add_rules.ensures.again c.in_ok-add_pairings.ensures.again c.in_ok-add_members.ensures.again c.in_ok-bids.ensures.again
