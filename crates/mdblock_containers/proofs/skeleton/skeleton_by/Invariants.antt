use Rattle.mdblock_containers.proofs.skeleton.skeleton_by.Given as goal

abbrev pub ghost-write_parts : goal.ghost-write_parts
ghost-write_parts g a = g.all

abbrev pub ghost-letters_of : goal.ghost-letters_of
ghost-letters_of g a = g.all
