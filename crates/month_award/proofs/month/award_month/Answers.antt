use Rattle.std.proofs.Common.{ℕ, subst}
use Rattle.std.specs.Prelude.{IfOk}
use Rattle.month_award.specs.Months.{IsMonthAward}
use Rattle.month_award.proofs.Ends.{same-cap, full-month, award-run, has-awarded, unfillable-month, denials-fit, award-fits}
use Rattle.month_award.proofs.month.award_month.Goals as goal

pub with_reasons-requires-clause-awarded : goal.with_reasons-requires-clause-awarded
with_reasons-requires-clause-awarded g c =
    let problem = c.args.problem.now in
    let said = c.award.ensures in
    let made = c.in_ok-ledger.ensures.empty in
    let before = c.in_ok-ledger.ledger in
    let after = c.award.new.ledger in
    let run = award-run problem c.args.nodes before after made said.adds said.takes c.requires.few_nodes said.lawful in
    has-awarded problem c.args.nodes before after made said.adds said.takes c.in-Award.roster c.in-Award.proofs run said.no_bid
    (rw c.in-Award.is at c.in_ok-roster.ensures.outcome) (rw c.in-Award.is at c.in_ok-roster.ensures.short)

pub returns-in-Award-clause-outcome : goal.returns-in-Award-clause-outcome
returns-in-Award-clause-outcome g c =
    subst (λ (n : ℕ). IfOk c.with_reasons.result (IsMonthAward c.args.problem.now n))
    (same-cap c.args.problem.now c.args.nodes c.in_ok-ledger.ledger c.award.new.ledger c.in_ok-ledger.ensures.empty c.award.ensures.adds c.award.ensures.takes)
    c.with_reasons.ensures.outcome

pub returns-in-Award-clause-enough : goal.returns-in-Award-clause-enough
returns-in-Award-clause-enough g c room =
    c.with_reasons.ensures.enough
    (denials-fit c.args.problem.now c.args.nodes c.in_ok-ledger.ledger c.award.new.ledger c.in_ok-ledger.ensures.empty c.award.ensures.adds c.award.ensures.takes room)

pub returns-in-NoRoster-clause-outcome : goal.returns-in-NoRoster-clause-outcome
returns-in-NoRoster-clause-outcome g c =
    let problem = c.args.problem.now in
    let said = c.award.ensures in
    let made = c.in_ok-ledger.ensures.empty in
    let before = c.in_ok-ledger.ledger in
    let after = c.award.new.ledger in
    let run = award-run problem c.args.nodes before after made said.adds said.takes c.requires.few_nodes said.lawful in
    unfillable-month problem c.args.nodes before after made said.adds said.takes c.in-NoRoster.proof run
    (rw c.in-NoRoster.is at c.in_ok-roster.ensures.outcome) (rw c.in-NoRoster.is at c.in_ok-roster.ensures.short)

pub returns-clause-outcome : goal.returns-clause-outcome
returns-clause-outcome g c =
    let problem = c.args.problem.now in
    let said = c.award.ensures in
    let made = c.in_ok-ledger.ensures.empty in
    let before = c.in_ok-ledger.ledger in
    let after = c.award.new.ledger in
    full-month problem c.args.nodes before after made said.adds said.takes
    (award-run problem c.args.nodes before after made said.adds said.takes c.requires.few_nodes said.lawful)
    (rw c.in-Spent.is at c.in_ok-roster.ensures.outcome)

pub returns-clause-enough : goal.returns-clause-enough
returns-clause-enough g c room =
    rw c.in-Spent.is at c.in_ok-roster.ensures.enough (award-fits c.args.problem.now c.args.nodes c.in_ok-ledger.ledger c.in_ok-ledger.ensures.empty room)
