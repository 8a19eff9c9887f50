use Rattle.std.proofs.lemmas.Result.{err_from_is_err_and}
use Rattle.whatif_commands.proofs.AskingRun.{finds-again}
use Rattle.whatif_commands.proofs.again.again.Goals as goal

pub returns-in-Award-clause-found : goal.returns-in-Award-clause-found
returns-in-Award-clause-found g c =
    finds-again c.args.question.now c.args.nodes c.in_ok-ledger.ledger c.what_if.new.ledger c.in_ok-ledger.ensures.empty c.what_if.ensures.adds c.what_if.ensures.lawful
    c.what_if.ensures.behind c.args.roster.now c.in-Award.best c.in-Award.field-1 (rw c.in-Award.is at c.in_ok-best.ensures.outcome)
    c.in_ok-said-in-Award.said.scores c.in_ok-said-in-Award.said.drafts c.in_ok-said-in-Award.ensures.scores
    c.in_ok-said-in-Award.ensures.drafts c.in_ok-said-in-Award.ensures.readable

pub returns-in_err-best-clause-miss : goal.returns-in_err-best-clause-miss
returns-in_err-best-clause-miss g c =
    let p = err_from_is_err_and c.from_residual-in_err-best.result c.from_residual-in_err-best.ensures.1 in
    rw (p.1, p.2) tt

pub returns-in_err-said-in-Award-clause-miss : goal.returns-in_err-said-in-Award-clause-miss
returns-in_err-said-in-Award-clause-miss g c =
    let p = err_from_is_err_and c.from_residual-in_err-said-in-Award.result c.from_residual-in_err-said-in-Award.ensures.1 in
    rw (p.1, p.2) tt
