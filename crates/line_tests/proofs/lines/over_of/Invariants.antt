use Rattle.line_tests.proofs.lines.over_of.Given as goal

abbrev pub ghosts-over_from : goal.ghosts-over_from
ghosts-over_from a = record { name = a.blank.name; parts = a.blank.parts }
