use Rattle.mdblock_definitions.specs.Sections.{cut}
use Rattle.mdblock_definitions.proofs.skeleton.fill_part.Given as goal

abbrev pub ghost-write_section : goal.ghost-write_section
ghost-write_section g a = g.part

abbrev pub ghost-cut_part : goal.ghost-cut_part
ghost-cut_part g a = g.part

abbrev pub ghost-write_sections : goal.ghost-write_sections
ghost-write_sections g a = (g.part, cut a.on.now g.part)
