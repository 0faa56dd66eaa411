use Rattle.mdblock_definitions.specs.Seen.{rows_by}
use Rattle.mdblock_definitions.proofs.sections.defined_in.Given as goal

abbrev pub ghost-hold_lines : goal.ghost-hold_lines
ghost-hold_lines g a = rows_by a.tab a.bytes.now a.rows.now
