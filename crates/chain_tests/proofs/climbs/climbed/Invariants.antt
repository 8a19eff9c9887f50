use Rattle.chain_tests.proofs.climbs.climbed.Given as goal

abbrev pub ghosts-climbed_from : goal.ghosts-climbed_from
ghosts-climbed_from g a = record { name = a.blank.name; parts = a.blank.parts }
