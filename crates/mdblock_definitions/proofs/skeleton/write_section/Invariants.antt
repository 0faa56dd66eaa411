use Rattle.mdblock_definitions.proofs.skeleton.write_section.Given as goal

abbrev pub ghost-write_text : goal.ghost-write_text
ghost-write_text g a = g.part

abbrev pub ghost-write_rows : goal.ghost-write_rows
ghost-write_rows g a = g.part

abbrev pub ghost-write_defined : goal.ghost-write_defined
ghost-write_defined g a = g.part
