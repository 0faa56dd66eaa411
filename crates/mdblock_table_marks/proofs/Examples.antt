-- Examples of the events of tables, computed from their definitions.
use Rattle.std.specs.Prelude.{◌≡◌, ℕ, refl, codes, is_some, filter, map, List, [], ◌∷◌}
use Rattle.markdown_base.specs.declared.event.Event.{Event}
use Rattle.markdown_base.specs.declared.event.Name.{Name}
use Rattle.markdown_base.specs.declared.event.Name.TheVariants as name
use Rattle.markdown_base.specs.Presets.{default_constructs, gfm_constructs}
use Rattle.markdown_base.specs.Virtual.{virtual}
use Rattle.mdconstructs_machines.specs.LineEvents.{lines_in}
use Rattle.mdblock_containers.specs.Rows.{Row, rows}
use Rattle.mdblock_containers.specs.SeatPlaces.{events_of}
use Rattle.mdblock_table_marks.specs.Cells.{with_cells}
use Rattle.mdblock_table_marks.specs.TableMarks.{rows_marks}

-- all lines of a document as a table
abbrev table_of : List ℕ → List Row → List Event
table_of document [] = []
table_of document (row ∷ rows) = events_of (rows_marks document row rows)

abbrev table : List ℕ → List Event
table document = table_of document (rows gfm_constructs (lines_in (virtual 4 document)))

-- names and places of events
abbrev read : List Event → List (Name × ℕ)
read events = map (λ e. (e.name, e.point.index)) events

-- a header row and a delimiter row, with pipes at both ends
one-column : read (table (codes "| a |\n| - |\n"))
    ≡ (name.GfmTable, 0) ∷ (name.GfmTableHead, 0)
    ∷ (name.GfmTableRow, 0) ∷ (name.GfmTableCell, 0) ∷ (name.GfmTableCellDivider, 0) ∷ (name.GfmTableCellDivider, 1) ∷ (name.SpaceOrTab, 1) ∷ (name.SpaceOrTab, 2)
    ∷ (name.GfmTableCellText, 2) ∷ (name.Data, 2) ∷ (name.Data, 3) ∷ (name.GfmTableCellText, 3)
    ∷ (name.SpaceOrTab, 3) ∷ (name.SpaceOrTab, 4) ∷ (name.GfmTableCellDivider, 4) ∷ (name.GfmTableCellDivider, 5) ∷ (name.GfmTableCell, 5) ∷ (name.GfmTableRow, 5)
    ∷ (name.LineEnding, 5) ∷ (name.LineEnding, 6)
    ∷ (name.GfmTableDelimiterRow, 6) ∷ (name.GfmTableDelimiterCell, 6) ∷ (name.GfmTableCellDivider, 6) ∷ (name.GfmTableCellDivider, 7) ∷ (name.SpaceOrTab, 7) ∷ (name.SpaceOrTab, 8)
    ∷ (name.GfmTableDelimiterCellValue, 8) ∷ (name.GfmTableDelimiterFiller, 8) ∷ (name.GfmTableDelimiterFiller, 9) ∷ (name.GfmTableDelimiterCellValue, 9)
    ∷ (name.SpaceOrTab, 9) ∷ (name.SpaceOrTab, 10) ∷ (name.GfmTableCellDivider, 10) ∷ (name.GfmTableCellDivider, 11) ∷ (name.GfmTableDelimiterCell, 11) ∷ (name.GfmTableDelimiterRow, 11)
    ∷ (name.GfmTableHead, 11) ∷ (name.GfmTable, 11) ∷ []
one-column = refl

-- in a block quote: its prefixes stand between the rows
in-quote : read (table (codes "> a | b\n> -|:-\n> c\n"))
    ≡ (name.GfmTable, 2) ∷ (name.GfmTableHead, 2)
    ∷ (name.GfmTableRow, 2)
    ∷ (name.GfmTableCell, 2) ∷ (name.GfmTableCellText, 2) ∷ (name.Data, 2) ∷ (name.Data, 3) ∷ (name.GfmTableCellText, 3) ∷ (name.SpaceOrTab, 3) ∷ (name.SpaceOrTab, 4) ∷ (name.GfmTableCell, 4)
    ∷ (name.GfmTableCell, 4) ∷ (name.GfmTableCellDivider, 4) ∷ (name.GfmTableCellDivider, 5) ∷ (name.SpaceOrTab, 5) ∷ (name.SpaceOrTab, 6)
    ∷ (name.GfmTableCellText, 6) ∷ (name.Data, 6) ∷ (name.Data, 7) ∷ (name.GfmTableCellText, 7) ∷ (name.GfmTableCell, 7) ∷ (name.GfmTableRow, 7)
    ∷ (name.LineEnding, 7) ∷ (name.LineEnding, 8)
    ∷ (name.BlockQuotePrefix, 8) ∷ (name.BlockQuoteMarker, 8) ∷ (name.BlockQuoteMarker, 9) ∷ (name.SpaceOrTab, 9) ∷ (name.SpaceOrTab, 10) ∷ (name.BlockQuotePrefix, 10)
    ∷ (name.GfmTableDelimiterRow, 10)
    ∷ (name.GfmTableDelimiterCell, 10) ∷ (name.GfmTableDelimiterCellValue, 10) ∷ (name.GfmTableDelimiterFiller, 10) ∷ (name.GfmTableDelimiterFiller, 11) ∷ (name.GfmTableDelimiterCellValue, 11) ∷ (name.GfmTableDelimiterCell, 11)
    ∷ (name.GfmTableDelimiterCell, 11) ∷ (name.GfmTableCellDivider, 11) ∷ (name.GfmTableCellDivider, 12)
    ∷ (name.GfmTableDelimiterCellValue, 12) ∷ (name.GfmTableDelimiterMarker, 12) ∷ (name.GfmTableDelimiterMarker, 13) ∷ (name.GfmTableDelimiterFiller, 13) ∷ (name.GfmTableDelimiterFiller, 14) ∷ (name.GfmTableDelimiterCellValue, 14)
    ∷ (name.GfmTableDelimiterCell, 14) ∷ (name.GfmTableDelimiterRow, 14)
    ∷ (name.GfmTableHead, 14)
    ∷ (name.LineEnding, 14) ∷ (name.LineEnding, 15)
    ∷ (name.BlockQuotePrefix, 15) ∷ (name.BlockQuoteMarker, 15) ∷ (name.BlockQuoteMarker, 16) ∷ (name.SpaceOrTab, 16) ∷ (name.SpaceOrTab, 17) ∷ (name.BlockQuotePrefix, 17)
    ∷ (name.GfmTableBody, 17) ∷ (name.GfmTableRow, 17) ∷ (name.GfmTableCell, 17) ∷ (name.GfmTableCellText, 17) ∷ (name.Data, 17) ∷ (name.Data, 18) ∷ (name.GfmTableCellText, 18) ∷ (name.GfmTableCell, 18) ∷ (name.GfmTableRow, 18)
    ∷ (name.GfmTableBody, 18) ∷ (name.GfmTable, 18) ∷ []
in-quote = refl

-- the events with a link
abbrev linked : List Event → List (Name × ℕ)
linked events = read (filter (λ e. is_some e.link) events)

-- the data of each cell's text is a chain; a delimiter row and an empty cell have none
cells : linked (with_cells gfm_constructs (table (codes "a||b\n-|-|-\n"))) ≡ (name.Data, 0) ∷ (name.Data, 3) ∷ []
cells = refl

no-cells : linked (with_cells default_constructs (table (codes "a||b\n-|-|-\n"))) ≡ []
no-cells = refl
