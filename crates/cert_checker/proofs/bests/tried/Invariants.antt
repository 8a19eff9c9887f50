use Rattle.cert_checker.proofs.bests.tried.Given as goal

abbrev pub ghosts-line_above : goal.ghosts-line_above
ghosts-line_above a = record { name = a.blank.name; parts = a.blank.parts }
