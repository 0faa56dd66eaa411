-- Backslash escapes in the table of texts: they write nothing.
use Rattle.std.proofs.Common.{Option, Some}
use Rattle.mdconstructs_tables.specs.PlainWrites.{StatesWritePlain}
use Rattle.mdinline_text_machine.specs.EscapeRows.{escapes}
use Rattle.mdinline_text_machine.specs.TextBytes.{TextByte, line_feed}

pub escape-writes : (previous current : Option TextByte) → StatesWritePlain (escapes {R = Unit} {D = Unit}).states previous current
escape-writes previous (Some line_feed) = tt
escape-writes previous _ = tt
