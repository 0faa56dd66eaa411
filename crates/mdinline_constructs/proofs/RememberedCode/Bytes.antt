-- Code spans whose further lines may begin with white space, by their bytes: they begin at a backtick, and are a byte at least.
use Rattle.mdinline_constructs.proofs.Prelude.{IsApart, item_length, lined_events, remembered_code_spans, text_byte, tick-classed}
use Rattle.mdinline_text_machine.proofs.CodeSpans.Bytes.{code-nowhere, code-some}

pub lined-code-apart : IsApart text_byte item_length remembered_code_spans
lined-code-apart = record { classed = tick-classed; nowhere = code-nowhere lined_events; some = code-some lined_events }
