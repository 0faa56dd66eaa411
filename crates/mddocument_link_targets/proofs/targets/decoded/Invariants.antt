use Rattle.mddocument_link_targets.proofs.targets.decoded.Given as goal

abbrev pub ghosts-decoded_uncounted : goal.ghosts-decoded_uncounted
ghosts-decoded_uncounted a = record { name = a.blank.name; parts = a.blank.parts }
