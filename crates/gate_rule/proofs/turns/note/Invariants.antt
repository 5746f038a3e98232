use Rattle.gate_rule.proofs.turns.note.Given as goal

abbrev pub ghosts-count : goal.ghosts-count
ghosts-count a = record { desk = a.desk.now }
