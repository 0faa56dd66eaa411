-- Positions where a document is cut: line endings and starts of lines are those of the laws of rests.
use Rattle.std.specs.Prelude.{◌≡◌, ℕ, true, List}
use Rattle.mddocument_parts.specs.Moved.{begins_line, line_endings}
use Rattle.mddocument_editing.specs.PositionParts.{StartsLine, endings}

-- Bytes have the line endings by which the laws of rests move lines
abbrev pub EndingsAreCounted : Type 0
EndingsAreCounted = (bytes : List ℕ) → endings bytes ≡ line_endings bytes

-- A part that begins a line behind others starts one
abbrev pub PartsStartLines : Type 0
PartsStartLines = (front part : List ℕ) → begins_line part front ≡ true → StartsLine front part
