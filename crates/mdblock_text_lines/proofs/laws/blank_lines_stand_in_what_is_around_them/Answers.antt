use Rattle.mdblock_text_lines.proofs.BlankLines.{parts-are-those}
use Rattle.mdblock_text_lines.proofs.SectionsAreThose.{sections-are-those}
use Rattle.mdblock_text_lines.proofs.laws.blank_lines_stand_in_what_is_around_them.Goals as goal

pub returns-clause-parts : goal.returns-clause-parts
returns-clause-parts c = parts-are-those

pub returns-clause-sections : goal.returns-clause-sections
returns-clause-sections c = sections-are-those
