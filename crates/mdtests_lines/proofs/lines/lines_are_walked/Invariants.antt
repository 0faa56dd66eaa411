use Rattle.mdtests_lines.proofs.lines.lines_are_walked.Given as goal

abbrev pub ghosts-walked_from : goal.ghosts-walked_from
ghosts-walked_from a = record { name = a.blank.name; parts = a.blank.parts }
