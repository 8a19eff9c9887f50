use Rattle.chain_tests.proofs.climbs.twins_without_bits.Given as goal

abbrev pub ghosts-climbed_from : goal.ghosts-climbed_from
ghosts-climbed_from a = record { name = a.blank.name; parts = a.blank.parts }
