use Rattle.mdblock_containers.proofs.RestLemmas.{part_of}
use Rattle.mdblock_definitions.proofs.parts.write_part.Given as goal

abbrev pub ghost-fill_part : goal.ghost-fill_part
ghost-fill_part g a = part_of g.given.0 g.given.1
