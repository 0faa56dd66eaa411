use Rattle.mdblock_paragraphs.proofs.OpenEvents.{open-events}
use Rattle.mdblock_paragraphs.proofs.OpenLines.{open-lines}
use Rattle.mdblock_paragraphs.proofs.laws.open_lines_are_a_paragraph.Goals as goal

pub returns-clause-blocks : goal.returns-clause-blocks
returns-clause-blocks c = open-lines

pub returns-clause-events : goal.returns-clause-events
returns-clause-events c = open-events
