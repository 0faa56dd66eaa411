use Rattle.mddocument_references.proofs.references.is_label_ahead.Given as goal

abbrev pub ghosts-is_label_ahead_counted : goal.ghosts-is_label_ahead_counted
ghosts-is_label_ahead_counted a = record { name = a.blank.name; parts = a.blank.parts }
