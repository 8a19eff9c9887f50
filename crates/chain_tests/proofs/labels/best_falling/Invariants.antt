use Rattle.chain_tests.proofs.labels.best_falling.Given as goal

abbrev pub ghosts-falling_from : goal.ghosts-falling_from
ghosts-falling_from a = record { name = a.blank.name; parts = a.blank.parts }
