use Rattle.search_tests.proofs.vacant.named.Goals as goal

pub month-requires-clause-who : goal.month-requires-clause-who
month-requires-clause-who g c = c.member-who.ensures.form _
