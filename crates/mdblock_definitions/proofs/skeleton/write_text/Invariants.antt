use Rattle.mdblock_definitions.specs.Skeleton.{all_rows}
use Rattle.mdblock_definitions.proofs.skeleton.write_text.Given as goal

abbrev pub ghost-write_lines : goal.ghost-write_lines
ghost-write_lines g a = g.part

abbrev pub ghost-push_letters : goal.ghost-push_letters
ghost-push_letters g a = all_rows g.part
