use Rattle.line_bounds.proofs.over.line_over.Given as goal

abbrev pub ghosts-over_from : goal.ghosts-over_from
ghosts-over_from a = record { name = a.blank.name; parts = a.blank.parts }
