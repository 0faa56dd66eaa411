use Rattle.mdblock_definitions.proofs.skeleton.write_one.Given as goal

abbrev pub ghost-write_section : goal.ghost-write_section
ghost-write_section g a = g.given.0.part

abbrev pub ghost-go_on : goal.ghost-go_on
ghost-go_on g a = (g.given.0.part, g.given.1)
