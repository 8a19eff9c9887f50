use Rattle.bid_language.proofs.printing.put_wish.Goals as goal

pub returns-in-Off-clause-partly : goal.returns-in-Off-clause-partly
returns-in-Off-clause-partly c = rw c.in-Off.is c.put_off.ensures.partly

pub returns-in-CreditBelow-clause-whole : goal.returns-in-CreditBelow-clause-whole
returns-in-CreditBelow-clause-whole c = rw c.in-CreditBelow.is c.put_credit.ensures.whole

pub returns-in-CreditBelow-clause-partly : goal.returns-in-CreditBelow-clause-partly
returns-in-CreditBelow-clause-partly c = rw c.in-CreditBelow.is c.put_credit.ensures.partly

pub returns-in-CreditAbove-clause-whole : goal.returns-in-CreditAbove-clause-whole
returns-in-CreditAbove-clause-whole c = rw c.in-CreditAbove.is c.put_credit-in-CreditAbove.ensures.whole

pub returns-in-CreditAbove-clause-partly : goal.returns-in-CreditAbove-clause-partly
returns-in-CreditAbove-clause-partly c = rw c.in-CreditAbove.is c.put_credit-in-CreditAbove.ensures.partly
