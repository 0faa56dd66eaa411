-- What it costs to find definitions in lines, and to write them: turns of loops. The columns of the lines pay for it.
use Rattle.std.specs.Prelude.{ℕ, suc, ◌+◌, ◌-◌, ◌*◌, List, [], ◌∷◌, drop, length, take}
use Rattle.std.specs.List.{prefix_len}
use Rattle.mdblock_lines.specs.Lines.{line_bytes}
use Rattle.mdblock_containers.specs.declared.spans.RowAt.{RowAt}
use Rattle.mdblock_containers.specs.Costs.{columns_in}
use Rattle.mdblock_definitions.specs.declared.marks.Cursor.{Cursor}
use Rattle.mdblock_definitions.specs.Seen.{is_text_at}

-- what lines pay, of the first those columns that are left behind so many
abbrev pub to_write : (columns : ℕ) → List RowAt → ℕ
to_write columns [] = 0
to_write columns (x ∷ xs) = 2 * (x.span.size - columns) + 12 * columns_in xs

-- what is left to pay with behind a cursor
abbrev pub left_to_write : List RowAt → Cursor → ℕ
left_to_write xs c = to_write c.at.columns (drop c.row xs)

module _ (t : ℕ) (bytes : List ℕ) where
  -- the virtual bytes of a line, and one more
  abbrev pub bytes_of : RowAt → ℕ
  bytes_of x = suc (length (line_bytes t x.span.number 1 x.span.start (drop x.span.start bytes)))

  abbrev pub bytes_in : List RowAt → ℕ
  bytes_in [] = 0
  bytes_in (x ∷ xs) = bytes_of x + bytes_in xs

-- the lines of a paragraph from these on
abbrev pub text_rows : List RowAt → List RowAt
text_rows xs = take (prefix_len is_text_at xs) xs
