-- Autolinks in the table of texts: what they write leaves nothing to resolve.
use Rattle.std.proofs.Common.{Option, Some}
use Rattle.mdconstructs_tables.specs.PlainWrites.{StatesWritePlain}
use Rattle.mdinline_text_machine.specs.AutolinkRows.{autolinks}
use Rattle.mdinline_text_machine.specs.Laws.Writes.{b-is, b-grows}
use Rattle.mdinline_text_machine.specs.TextBytes.{TextByte, letter, digit, mark}

pub autolink-writes : (previous current : Option TextByte) → StatesWritePlain (autolinks {R = Unit} {D = Unit}).states previous current
autolink-writes previous (Some letter) = (b-is 1, (b-grows, tt))
autolink-writes previous (Some digit) = (b-grows, tt)
autolink-writes previous (Some mark) = (b-grows, tt)
autolink-writes previous _ = tt
