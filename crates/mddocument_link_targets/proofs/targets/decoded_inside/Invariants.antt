use Rattle.mddocument_link_targets.proofs.targets.decoded_inside.Given as goal

abbrev pub ghosts-decoded_inside_uncounted : goal.ghosts-decoded_inside_uncounted
ghosts-decoded_inside_uncounted a = record { name = a.blank.name; parts = a.blank.parts }
