-- Examples of tables and checks, computed from their definitions.
use Rattle.std.specs.Prelude.{◌≡◌, refl, codes, [], ◌∷◌, Some, None, true, false}
use Rattle.markdown_base.specs.declared.event.Name.TheVariants as name
use Rattle.mdblock_tables.specs.declared.rows.RowKind.TheVariants.{Text, Delimiter}
use Rattle.mdblock_tables.specs.declared.tables.Alignment.TheVariants as align
use Rattle.mdblock_tables.specs.Pieces.{nothing, leaf, span}
use Rattle.mdblock_tables.specs.TablePieces.{row_pieces}
use Rattle.mdblock_tables.specs.Tables.{cells, delimiters, is_row, matched}
use Rattle.mdblock_tables.specs.Tasks.{check_at, check_pieces}

-- ---- "separated by pipes (|). A leading and trailing pipe is also recommended"
row : cells (codes "| foo | bar |") ≡ codes "foo" ∷ codes "bar" ∷ []
row = refl

bare : cells (codes "bar | baz") ≡ codes "bar" ∷ codes "baz" ∷ []
bare = refl

-- no pipe is needed
alone : cells (codes "foo") ≡ codes "foo" ∷ []
alone = refl

empty-cells : cells (codes "|| a | |") ≡ [] ∷ codes "a" ∷ [] ∷ []
empty-cells = refl

one-empty-cell : cells (codes "||") ≡ [] ∷ []
one-empty-cell = refl

no-cell : cells (codes " | ") ≡ []
no-cell = refl

-- "Spaces between pipes and cell content are trimmed", and tabs
trimmed-cells : cells (codes " \t|\tfoo  bar |baz\t ") ≡ codes "foo  bar" ∷ codes "baz" ∷ []
trimmed-cells = refl

-- "Include a pipe in a cell's content by escaping it"
escaped : cells (codes "| f\\|oo  |") ≡ codes "f\\|oo" ∷ []
escaped = refl

escaped-first : cells (codes "\\| a | b") ≡ codes "\\| a" ∷ codes "b" ∷ []
escaped-first = refl

-- behind two backslashes too
escaped-twice : cells (codes "a \\\\| b") ≡ codes "a \\\\| b" ∷ []
escaped-twice = refl

-- a backslash that is not directly before it escapes none
unescaped : cells (codes "a \\ | b") ≡ codes "a \\" ∷ codes "b" ∷ []
unescaped = refl

-- "including inside other inline spans": one in code divides
in-code : cells (codes "`a | b` \\|") ≡ codes "`a" ∷ codes "b` \\|" ∷ []
in-code = refl

has-cell : is_row (codes "||") ≡ true
has-cell = refl

has-none : is_row (codes "|") ≡ false
has-none = refl

blank : is_row (codes " \t") ≡ false
blank = refl

-- ---- "cells whose only content are hyphens (-), and optionally, a leading or trailing colon (:), or both"
delimiter-row : delimiters (codes ":-: | -----------: |-| :-") ≡ Some (align.Center ∷ align.Right ∷ align.None ∷ align.Left ∷ [])
delimiter-row = refl

one-hyphen : delimiters (codes "|-|") ≡ Some (align.None ∷ [])
one-hyphen = refl

one-column : delimiters (codes ":-") ≡ Some (align.Left ∷ [])
one-column = refl

colon-alone : delimiters (codes ":") ≡ None
colon-alone = refl

colons-alone : delimiters (codes "| :: |") ≡ None
colons-alone = refl

two-colons : delimiters (codes "| -:: |") ≡ None
two-colons = refl

equals : delimiters (codes "| = |") ≡ None
equals = refl

torn-hyphens : delimiters (codes "- -") ≡ None
torn-hyphens = refl

torn-colon : delimiters (codes ": -") ≡ None
torn-colon = refl

text-cell : delimiters (codes "| - | a |") ≡ None
text-cell = refl

empty-cell : delimiters (codes "| - | |") ≡ None
empty-cell = refl

no-delimiter : delimiters (codes "|") ≡ None
no-delimiter = refl

-- ---- "The header row must match the delimiter row in the number of cells. If not, a table will not be recognized"
match-cells : matched (codes "| abc | defghi |") (codes ":-: | -----------:") ≡ Some (align.Center ∷ align.Right ∷ [])
match-cells = refl

fewer-delimiters : matched (codes "| abc | def |") (codes "| --- |") ≡ None
fewer-delimiters = refl

more-delimiters : matched (codes "| abc |") (codes "| --- | --- |") ≡ None
more-delimiters = refl

no-columns : matched (codes "|") (codes "|") ≡ None
no-columns = refl

-- ---- rows as pieces: each cell has the pipe before it, and the last one the pipe behind it too
row-pieces : row_pieces Text (codes " | a |b ")
    ≡ span name.GfmTableRow (leaf name.SpaceOrTab 1
    (span name.GfmTableCell (leaf name.GfmTableCellDivider 1 (leaf name.SpaceOrTab 1 (span name.GfmTableCellText (leaf name.Data 1 nothing) (leaf name.SpaceOrTab 1 (leaf name.GfmTableCellDivider 0 nothing)))))
    (span name.GfmTableCell (leaf name.GfmTableCellDivider 1 (leaf name.SpaceOrTab 0 (span name.GfmTableCellText (leaf name.Data 1 nothing) (leaf name.SpaceOrTab 0 (leaf name.GfmTableCellDivider 0 nothing)))))
    (leaf name.SpaceOrTab 1 nothing)))) nothing
row-pieces = refl

closed-row : row_pieces Text (codes "a |")
    ≡ span name.GfmTableRow (leaf name.SpaceOrTab 0
    (span name.GfmTableCell (leaf name.GfmTableCellDivider 0 (leaf name.SpaceOrTab 0 (span name.GfmTableCellText (leaf name.Data 1 nothing) (leaf name.SpaceOrTab 1 (leaf name.GfmTableCellDivider 1 nothing)))))
    (leaf name.SpaceOrTab 0 nothing))) nothing
closed-row = refl

-- a pipe alone is a divider of no cell
pipe-row : row_pieces Text (codes "|") ≡ span name.GfmTableRow (leaf name.SpaceOrTab 0 (leaf name.GfmTableCellDivider 1 (leaf name.SpaceOrTab 0 nothing))) nothing
pipe-row = refl

delimiter-pieces : row_pieces Delimiter (codes "|:--")
    ≡ span name.GfmTableDelimiterRow (leaf name.SpaceOrTab 0
    (span name.GfmTableDelimiterCell (leaf name.GfmTableCellDivider 1 (leaf name.SpaceOrTab 0
    (span name.GfmTableDelimiterCellValue (leaf name.GfmTableDelimiterMarker 1 (leaf name.GfmTableDelimiterFiller 2 (leaf name.GfmTableDelimiterMarker 0 nothing)))
    (leaf name.SpaceOrTab 0 (leaf name.GfmTableCellDivider 0 nothing)))))
    (leaf name.SpaceOrTab 0 nothing))) nothing
delimiter-pieces = refl

-- ---- "a left bracket ([), either a whitespace character or the letter x in either lowercase or uppercase, and then a right bracket (])"
checked : check_at (codes "[x] a") ≡ Some (record { columns = 0; is_checked = true })
checked = refl

capital : check_at (codes "[X] a") ≡ Some (record { columns = 0; is_checked = true })
capital = refl

unchecked : check_at (codes "[ ] a") ≡ Some (record { columns = 0; is_checked = false })
unchecked = refl

tab-unchecked : check_at (codes "[\t]\tb") ≡ Some (record { columns = 0; is_checked = false })
tab-unchecked = refl

-- "an optional number of spaces"
behind-white : check_at (codes "  [x] a") ≡ Some (record { columns = 2; is_checked = true })
behind-white = refl

other-letter : check_at (codes "[y] a") ≡ None
other-letter = refl

no-letter : check_at (codes "[] a") ≡ None
no-letter = refl

two-letters : check_at (codes "[xx] a") ≡ None
two-letters = refl

-- "at least one whitespace character before any other content"
no-white : check_at (codes "[x]a") ≡ None
no-white = refl

no-content : check_at (codes "[x] ") ≡ None
no-content = refl

nothing-behind : check_at (codes "[x]") ≡ None
nothing-behind = refl

not-first : check_at (codes "a [x] b") ≡ None
not-first = refl

check-pieces : check_pieces (record { columns = 2; is_checked = true })
    ≡ leaf name.SpaceOrTab 2 (span name.GfmTaskListItemCheck (leaf name.GfmTaskListItemMarker 1 (leaf name.GfmTaskListItemValueChecked 1 (leaf name.GfmTaskListItemMarker 1 nothing))) nothing)
check-pieces = refl
