use Rattle.bid_language.proofs.printing.put_test.Goals as goal

pub returns-in-ReleaseBefore-clause-whole : goal.returns-in-ReleaseBefore-clause-whole
returns-in-ReleaseBefore-clause-whole c = rw c.in-ReleaseBefore.is c.put_time-in-ReleaseBefore.ensures.whole

pub returns-in-ReleaseBefore-clause-partly : goal.returns-in-ReleaseBefore-clause-partly
returns-in-ReleaseBefore-clause-partly c = rw c.in-ReleaseBefore.is c.put_time-in-ReleaseBefore.ensures.partly

pub returns-in-ReleaseAfter-clause-whole : goal.returns-in-ReleaseAfter-clause-whole
returns-in-ReleaseAfter-clause-whole c = rw c.in-ReleaseAfter.is c.put_time-in-ReleaseAfter.ensures.whole

pub returns-in-ReleaseAfter-clause-partly : goal.returns-in-ReleaseAfter-clause-partly
returns-in-ReleaseAfter-clause-partly c = rw c.in-ReleaseAfter.is c.put_time-in-ReleaseAfter.ensures.partly
