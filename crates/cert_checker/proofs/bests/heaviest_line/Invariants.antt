use Rattle.cert_checker.proofs.bests.heaviest_line.Given as goal

abbrev pub ghosts-best_line : goal.ghosts-best_line
ghosts-best_line a = record { name = a.blank.name; parts = a.blank.parts }
