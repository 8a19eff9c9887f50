use Rattle.std.proofs.Common.{List, ap, length, subst, sym, arith}
use Rattle.roster_model.specs.declared.entry.Entry.{Entry}
use Rattle.roster_model.specs.declared.goal.Goal.{Goal}
use Rattle.roster_model.specs.Ledgers.{AreOrderly}
use Rattle.open_time.proofs.Attempts.{has_awarded, awarded_same, tried_none}
use Rattle.open_time.proofs.tries.try_month.Goals as goal

pub award-requires-clause-orderly : goal.award-requires-clause-orderly
award-requires-clause-orderly g c =
    subst (λ (es : List Entry). AreOrderly c.args.problem.now c.args.ledger.now.rounds c.args.ledger.now.goals es) (sym c.requires.empty) tt

pub award-requires-clause-searches : goal.award-requires-clause-searches
award-requires-clause-searches g c = omega (arith, ap (λ (gs : List Goal). length gs) c.requires.unused)

pub with_reasons-requires-clause-awarded : goal.with_reasons-requires-clause-awarded
with_reasons-requires-clause-awarded g c =
    awarded_same c.args.problem.now c.award.new.ledger c.in-Award.roster c.in_ok-kept-in-Award.kept c.in-Award.proofs
    (has_awarded c.args.problem.now c.args.ledger.now c.award.new.ledger c.requires.unused c.requires.empty c.award.ensures.takes c.in-Award.roster c.in-Award.proofs
    c.award.ensures.lawful c.award.ensures.no_bid (rw c.in-Award.is at c.in_ok-roster.ensures.outcome) (rw c.in-Award.is at c.in_ok-roster.ensures.short))
    c.in_ok-kept-in-Award.ensures.complete c.in_ok-kept-in-Award.ensures.same

pub with_reasons-requires-clause-settled : goal.with_reasons-requires-clause-settled
with_reasons-requires-clause-settled g c = c.in_ok-kept-in-Award.ensures.settled

pub settled-requires-clause-complete : goal.settled-requires-clause-complete
settled-requires-clause-complete g c =
    let outcome = rw c.in-Award.is at c.in_ok-roster.ensures.outcome in outcome.best.complete

pub returns-in-NoRoster-clause-tried : goal.returns-in-NoRoster-clause-tried
returns-in-NoRoster-clause-tried g c =
    tried_none c.args.problem.now c.args.ledger.now c.award.new.ledger c.requires.unused c.requires.empty c.award.ensures.takes c.in-NoRoster.proof
    (rw c.in-NoRoster.is at c.in_ok-roster.ensures.outcome) (rw c.in-NoRoster.is at c.in_ok-roster.ensures.short)
