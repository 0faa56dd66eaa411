-- Code spans in the table of texts: what they write leaves nothing to resolve.
use Rattle.std.proofs.Common.{Option, Some}
use Rattle.mdconstructs_tables.specs.PlainWrites.{StatesWritePlain}
use Rattle.mdinline_text_machine.specs.CodeSpanRows.{code_spans}
use Rattle.mdinline_text_machine.specs.Laws.Writes.{b-is, b-grows, c-is, c-grows}
use Rattle.mdinline_text_machine.specs.TextBytes.{TextByte, backtick}

pub code-span-writes : (previous current : Option TextByte) → StatesWritePlain (code_spans {R = Unit} {D = Unit}).states previous current
code-span-writes previous (Some backtick) = (b-is 0, (b-grows, (c-is 0, (c-grows, tt))))
code-span-writes previous _ = (b-is 0, tt)
