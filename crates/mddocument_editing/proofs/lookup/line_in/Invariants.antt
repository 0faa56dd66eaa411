use Rattle.mddocument_editing.proofs.lookup.line_in.Given as goal

abbrev pub ghosts-line_in_uncounted : goal.ghosts-line_in_uncounted
ghosts-line_in_uncounted a = record { name = a.blank.name; parts = a.blank.parts }
