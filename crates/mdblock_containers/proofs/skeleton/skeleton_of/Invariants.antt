use Rattle.mdblock_containers.proofs.skeleton.skeleton_of.Given as goal

abbrev pub ghosts-skeleton_uncounted : goal.ghosts-skeleton_uncounted
ghosts-skeleton_uncounted a = record { name = a.blank.name; parts = a.blank.parts }
