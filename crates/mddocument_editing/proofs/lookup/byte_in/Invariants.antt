use Rattle.mddocument_editing.proofs.lookup.byte_in.Given as goal

abbrev pub ghosts-byte_in_uncounted : goal.ghosts-byte_in_uncounted
ghosts-byte_in_uncounted a = record { name = a.blank.name; parts = a.blank.parts }
