use Rattle.mddocument_editing.proofs.lookup.section_and_left.Given as goal

abbrev pub ghosts-section_and_left_uncounted : goal.ghosts-section_and_left_uncounted
ghosts-section_and_left_uncounted a = record { name = a.blank.name; parts = a.blank.parts }
