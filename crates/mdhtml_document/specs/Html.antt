-- HTML of a document, by its events. The definition has no states: it goes down the tree of the document's spans.
use Rattle.std.specs.List.{list_any, take_while}
use Rattle.std.specs.Char.{is_ascii_whitespace}
use Rattle.std.specs.Option.{option_map_or}
use Rattle.std.specs.Prelude.{ℕ, zero, suc, ◌+◌, ◌-◌, ◌==◌, ◌&&◌, ◌||◌, max, nat_lt, not, Bool, true, false, cond, List, [], ◌∷◌, ◌++◌, codes, drop, length, reverse, slice_get, Option, None, Some, option_and_then}
use Rattle.markdown_base.specs.declared.configuration.CompileOptions.{CompileOptions}
use Rattle.markdown_base.specs.declared.event.Event.{Event}
use Rattle.markdown_base.specs.declared.event.Name.{Name}
use Rattle.markdown_base.specs.declared.event.Name.TheVariants as name
use Rattle.mdblock_containers.specs.Lists.{is_loose, list_start}
use Rattle.mdhtml_document.specs.declared.notes.Called.{Called}
use Rattle.mdhtml_document.specs.declared.names.Block.{Block}
use Rattle.mdhtml_document.specs.declared.names.Block.TheVariants as block
use Rattle.mdhtml_document.specs.declared.names.Inline.{Inline}
use Rattle.mdhtml_document.specs.declared.names.Inline.TheVariants as inline
use Rattle.mdhtml_document.specs.declared.shapes.Mode.{Mode}
use Rattle.mdhtml_document.specs.declared.shapes.Mode.TheVariants as mode
use Rattle.mdhtml_document.specs.Names.{block_of, inline_of}
use Rattle.mdhtml_document.specs.Notes.{back_links, call_pieces, called_at, calls_in, classed, labels_of, last_call, note_id, note_of, notes_in, notes_of, place_of_first}
use Rattle.mdhtml_document.specs.Spans.{Nothing, Span, Spans, events_of, spans_of}
use Rattle.mdhtml_document.specs.Values.{alt_of, autolink_address, behind_first_line, cell_text, code_lines, code_text, html_flow, html_text, is_email, said}
use Rattle.mdhtml_markup.specs.Addresses.{allowed}
use Rattle.mdhtml_markup.specs.declared.addresses.Place.{Place}
use Rattle.mdhtml_markup.specs.declared.addresses.Place.TheVariants as place
use Rattle.mdhtml_markup.specs.declared.elements.Alignment.{Alignment}
use Rattle.mdhtml_markup.specs.declared.elements.Alignment.TheVariants as alignment
use Rattle.mdhtml_markup.specs.declared.elements.Element.{Element}
use Rattle.mdhtml_markup.specs.declared.elements.Element.TheVariants.{Anchor, BlockQuote, Break, Checkbox, Code, DataCell, Deleted, Emphasis, HeaderCell, Heading1, Heading2, Heading3, Heading4, Heading5, Heading6, Image, ListItem, OrderedList, Paragraph, Preformatted, Section, Strong, Table, TableBody, TableHead, TableRow, ThematicBreak, UnorderedList}
use Rattle.mdhtml_markup.specs.Pieces.{Aligned, Alt, Attribute, Checked, Close, Disabled, Feed, Footnotes, Fresh, Href, Id, InputType, Kept, Language, Open, Piece, Src, Start, Text, Title, Void, html}
use Rattle.mdhtml_markup.specs.TagFilter.{filtered, first_filtered}
use Rattle.mddocument_link_targets.specs.declared.targets.Parts.{Parts}
use Rattle.mddocument_link_targets.specs.declared.targets.Target.{Target}
use Rattle.mddocument_link_targets.specs.declared.targets.Target.TheVariants as target
use Rattle.mddocument_link_targets.specs.Spans.{enters, first_in, inside}
use Rattle.mddocument_link_targets.specs.Strings.{decoded}
use Rattle.mddocument_link_targets.specs.Targets.{definition_of, parts_of, target_in}

-- ---- shapes

-- What is written of a span: pieces in front of the spans in it, what is written of these, and pieces behind them
pub record Shape : Type 0 where
  pub opened : List Piece
  pub inside : Mode
  pub closed : List Piece

-- nothing of a span but what is in it; and pieces, of which it is all
abbrev pub through : Mode → Shape
through m = record { opened = []; inside = m; closed = [] }

abbrev pub alone : List Piece → Shape
alone ps = record { opened = ps; inside = mode.Nothing; closed = [] }

-- an element within a line; one with lines of its own; and one with text
abbrev pub within_line : Element → List Attribute → Shape
within_line e attributes = record { opened = Open e attributes ∷ []; inside = mode.Text; closed = Close e ∷ [] }

abbrev pub container : Element → List Attribute → Mode → Shape
container e attributes m = record { opened = Fresh ∷ Open e attributes ∷ Feed ∷ []; inside = m; closed = Fresh ∷ Close e ∷ Feed ∷ [] }

abbrev pub line : Element → Mode → Shape
line e m = record { opened = Fresh ∷ Open e [] ∷ []; inside = m; closed = Close e ∷ Feed ∷ [] }

-- a text, and what is in the span
abbrev pub told : List ℕ → Shape
told t = record { opened = Text t ∷ []; inside = mode.Text; closed = [] }

-- code
abbrev pub code : List Attribute → List ℕ → Shape
code attributes t = alone (Fresh ∷ Open Preformatted [] ∷ Open Code attributes ∷ Text t ∷ Close Code ∷ Close Preformatted ∷ Feed ∷ [])

-- ---- what blocks say

-- the element of a heading of a rank
abbrev pub heading : ℕ → Element
heading rank =
    cond (rank == 1) Heading1 (cond (rank == 2) Heading2 (cond (rank == 3) Heading3 (cond (rank == 4) Heading4 (cond (rank == 5) Heading5 Heading6))))

-- the length of the first span of a name among events, and the byte that it begins with
abbrev pub length_of_first : Name → List Event → ℕ
length_of_first n [] = 0
length_of_first n (e ∷ []) = 0
length_of_first n (e ∷ (f ∷ fs)) = cond (enters n e) (f.point.index - e.point.index) (length_of_first n (f ∷ fs))

abbrev pub byte_of_first : List ℕ → Name → List Event → Option ℕ
byte_of_first bytes n [] = None
byte_of_first bytes n (e ∷ es) = cond (enters n e) (slice_get bytes e.point.index) (byte_of_first bytes n es)

-- the rank of a heading that is underlined, by the byte of its underline
abbrev pub setext_rank : List ℕ → List Event → ℕ
setext_rank bytes es = cond (option_map_or (λ b. b == 61) (byte_of_first bytes name.HeadingSetextUnderlineSequence es) false) 1 2

-- "the first word of the info string is typically used to specify the language of the code sample, and rendered in the class attribute of the code tag" (4.5)
abbrev pub language : List ℕ → Option (List Event) → List Attribute
language bytes None = []
language bytes (Some info) = Language (take_while (λ b. not (is_ascii_whitespace b)) (decoded bytes info)) ∷ []

-- the number that a list starts with, unless it is 1
abbrev pub ordered : Option ℕ → List Attribute
ordered None = []
ordered (Some n) = cond (n == 1) [] (Start n ∷ [])

abbrev pub items : (is_loose : Bool) → Mode
items loose = cond loose mode.LooseItems mode.TightItems

abbrev pub blocks : (tight : Bool) → Mode
blocks tight = cond tight mode.Tight mode.Flow

-- ---- what is allowed

-- an address that is written at a place
abbrev pub address_at : CompileOptions → Place → List ℕ → List ℕ
address_at options place.Href url = cond options.allow_dangerous_protocol url (allowed place.Href url)
address_at options place.Src url = cond (options.allow_dangerous_protocol || options.allow_any_img_src) url (allowed place.Src url)

-- HTML of the document: as it is, or with its tags filtered; or as text
abbrev pub raw_or : CompileOptions → (filtered raw : List ℕ) → Piece
raw_or options f h = cond options.allow_dangerous_html (Kept (cond options.gfm_tagfilter f h)) (Text h)

-- in lines of its own, and within text
abbrev pub raw : CompileOptions → List ℕ → Piece
raw options h = raw_or options (filtered h) h

abbrev pub raw_within : CompileOptions → List ℕ → Piece
raw_within options h = raw_or options (first_filtered h) h

-- ---- links and images

-- What a link or an image leads to, by the events in it: what its resource says, or what its label is defined as
abbrev pub parts_in_link : (bytes : List ℕ) → (lookup : (label : List ℕ) → Option Parts) → List Event → Option Parts
parts_in_link bytes lookup es =
    elim (target_in bytes es) [ target.Parts parts ↦ Some parts | target.Label label ↦ lookup label ]

abbrev pub titled : (title : Option (List ℕ)) → List Attribute
titled title = option_map_or (λ t. Title t ∷ []) title []

-- A link that leads nowhere is its text alone, and an image that does is what it is described by
abbrev pub link_to : CompileOptions → Option Parts → Shape
link_to options None = through mode.Text
link_to options (Some parts) = within_line Anchor (Href (address_at options place.Href parts.destination) ∷ titled parts.title)

abbrev pub image_of : CompileOptions → (alt : List ℕ) → Option Parts → Shape
image_of options alt None = alone (Text alt ∷ [])
image_of options alt (Some parts) = alone (Void Image (Src (address_at options place.Src parts.destination) ∷ (Alt alt ∷ titled parts.title)) ∷ [])

-- an address as a link, by what is written of it
abbrev pub address_link : (url text : List ℕ) → Shape
address_link url text = alone (Open Anchor (Href url ∷ []) ∷ Text text ∷ Close Anchor ∷ [])

abbrev pub autolink : CompileOptions → (bytes : List ℕ) → List Event → Shape
autolink options bytes es =
    let address = autolink_address bytes es in
    let url = cond (is_email es) (codes "mailto:" ++ address) (address_at options place.Href address) in
    address_link url address

-- A literal: a link to its text, with a scheme in front if it has none (GFM 0.29, 6.9: "The scheme http will be inserted automatically")
abbrev pub literal : CompileOptions → (scheme text : List ℕ) → Shape
literal options scheme text = address_link (address_at options place.Href (scheme ++ text)) text

-- ---- tasks

-- A check of a task says that it is done: its value has no space (GFM 0.29, 5.3)
abbrev pub is_checked : List Event → Bool
is_checked es = list_any (enters name.GfmTaskListItemValueChecked) es

abbrev pub is_check : Inline → Bool
is_check inline.Check = true
is_check _ = false

-- the box of a task; the white space behind it is text
abbrev pub task_box : (checked : Bool) → Piece
task_box checked = Void Checkbox (InputType ∷ cond checked (Checked ∷ Disabled ∷ []) (Disabled ∷ []))

abbrev pub check : (checked : Bool) → Shape
check checked = alone (task_box checked ∷ [])

-- ---- tables (GFM 0.29, 4.10)

-- Where the columns of a table are told: events of its delimiter row, in which the next delimiter cell is the next column. Outside of tables there are none
abbrev pub columns_of : List Event → List Event
columns_of es = elim (first_in name.GfmTableDelimiterRow es) [ None ↦ [] | Some row ↦ row ]

-- the columns behind the first one
abbrev pub behind_column : List Event → List Event
behind_column [] = []
behind_column (e ∷ es) = cond (enters name.GfmTableDelimiterCell e) es (behind_column es)

-- A colon before the hyphens of a delimiter cell, and one behind them: "optionally, a leading or trailing colon (:), or both, to indicate left, right, or center
-- alignment respectively"
abbrev pub is_led : List Event → Bool
is_led [] = false
is_led (e ∷ es) = cond (enters name.GfmTableDelimiterMarker e) true (cond (enters name.GfmTableDelimiterFiller e) false (is_led es))

abbrev pub is_trailed : List Event → Bool
is_trailed [] = false
is_trailed (e ∷ es) = cond (enters name.GfmTableDelimiterFiller e) (list_any (enters name.GfmTableDelimiterMarker) es) (is_trailed es)

abbrev pub alignment_by : (led trailed : Bool) → Option Alignment
alignment_by true true = Some alignment.Center
alignment_by true false = Some alignment.Left
alignment_by false true = Some alignment.Right
alignment_by false false = None

-- where the text of a column stands, by the events in its delimiter cell
abbrev pub alignment_of : List Event → Option Alignment
alignment_of es = alignment_by (is_led es) (is_trailed es)

abbrev pub aligned : Option Alignment → List Attribute
aligned None = []
aligned (Some a) = Aligned a ∷ []

-- a cell of the head of a table, or of a row
abbrev pub cell_element : (is_head : Bool) → Element
cell_element is_head = cond is_head HeaderCell DataCell

abbrev pub cell : (is_head : Bool) → Option Alignment → Shape
cell is_head a = record { opened = Fresh ∷ Open (cell_element is_head) (aligned a) ∷ []; inside = mode.Heading; closed = Close (cell_element is_head) ∷ Feed ∷ [] }

abbrev pub empty_cell : (is_head : Bool) → Option Alignment → List Piece
empty_cell is_head a = Open (cell_element is_head) (aligned a) ∷ Close (cell_element is_head) ∷ Feed ∷ []

-- "If there are a number of cells fewer than the number of cells in the header row, empty cells are inserted": so many at most, for these columns
abbrev pub empty_cells : (most : ℕ) → (is_head : Bool) → (columns : List Event) → List Piece
empty_cells zero is_head columns = []
empty_cells (suc n) is_head columns =
    elim (first_in name.GfmTableDelimiterCell columns) [
      | None ↦ []
      | Some column ↦ empty_cell is_head (alignment_of column) ++ empty_cells n is_head (behind_column columns)
    ]

-- What is written behind the last of some spans: behind the cells of a row those that it lacks. A hundred are enough for people, and so many rows that are
-- short of a wide header are not the square of that
abbrev pub lacking : Mode → (columns : List Event) → List Piece
lacking (mode.Cells is_head) columns = empty_cells 100 is_head columns
lacking m columns = []

-- the columns that the spans in a span, and those behind it, stand in
abbrev pub columns_in : Block → (columns inner : List Event) → List Event
columns_in block.Table columns inner = columns_of inner
columns_in b columns inner = columns

abbrev pub is_cell : Block → Bool
is_cell block.TableCell = true
is_cell b = false

abbrev pub columns_behind : Block → (columns : List Event) → List Event
columns_behind b [] = []
columns_behind b (e ∷ es) = cond (is_cell b) (behind_column (e ∷ es)) (e ∷ es)

-- text that stands in a column is in a cell
abbrev pub is_in_cell : (columns : List Event) → Bool
is_in_cell [] = false
is_in_cell (e ∷ es) = true

-- a span directly in a table: its head; and its body, if that has a row
abbrev pub table_shape : Block → List Event → Shape
table_shape block.TableHead es = container TableHead [] (mode.Rows true)
table_shape block.TableBody es = cond (list_any (enters name.GfmTableRow) es) (container TableBody [] (mode.Rows false)) (alone [])
table_shape _ es = alone []

-- directly in these; and directly in a row: "If there are greater, the excess is ignored"
abbrev pub row_shape : (is_head : Bool) → Block → Shape
row_shape is_head block.TableRow = container TableRow [] (mode.Cells is_head)
row_shape is_head _ = alone []

abbrev pub cell_shape : (is_head : Bool) → (columns : List Event) → Block → Shape
cell_shape is_head columns block.TableCell = elim (first_in name.GfmTableDelimiterCell columns) [ None ↦ alone [] | Some column ↦ cell is_head (alignment_of column) ]
cell_shape is_head columns _ = alone []

-- ---- spans

-- a span directly in a list
abbrev pub item_shape : (tight : Bool) → Block → Shape
item_shape tight block.Item = line ListItem (blocks tight)
item_shape tight _ = alone []

-- and directly in a heading, or in a cell of a table
abbrev pub heading_shape : Block → Shape
heading_shape block.HeadingText = through mode.Text
heading_shape _ = alone []

abbrev pub is_paragraph : Block → Bool
is_paragraph block.Paragraph = true
is_paragraph _ = false

-- something is written of some of these spans among blocks
abbrev pub is_written : Block → Bool
is_written block.Other = false
is_written _ = true

abbrev pub has_block : Spans → Bool
has_block Nothing = false
has_block (Span e f s behind) = is_written (block_of e.name) || has_block behind

-- the call of a footnote; its text, if its note has no number
abbrev pub call_shape : Option Called → Shape
call_shape None = through mode.Text
call_shape (Some c) = alone (call_pieces c)

-- What is known of a document: what its labels are defined as, and its calls of footnotes
pub record Known : Type 0 where
  pub lookup : (label : List ℕ) → Option Parts
  pub called : (place : ℕ) → Option Called

-- what is known where nothing calls a footnote
abbrev pub uncalled : (lookup : (label : List ℕ) → Option Parts) → Known
uncalled lookup = record { lookup = lookup; called = λ place. None }

-- options, a document, what is known of it, and the distance of its tab stops
module _ (options : CompileOptions) (bytes : List ℕ) (known : Known) (tab : ℕ) where
  -- A span among blocks, by what it is, the events in it, and what is said of it if it is a list. The blocks of an item of a tight list are tight:
  -- paragraphs are text alone. An item has tags in a list alone, and a heading's text is written in a heading alone
  abbrev pub block_shape : (tight : Bool) → Block → List Event → (is_loose : Bool) → (start : Option ℕ) → Shape
  block_shape tight block.Paragraph es loose start = cond tight (through mode.Paragraph) (line Paragraph mode.Paragraph)
  block_shape tight block.HeadingAtx es loose start = line (heading (length_of_first name.HeadingAtxSequence es)) mode.Heading
  block_shape tight block.HeadingSetext es loose start = line (heading (setext_rank bytes es)) mode.Heading
  block_shape tight block.HeadingText es loose start = alone []
  block_shape tight block.Quote es loose start = container BlockQuote [] mode.Flow
  block_shape tight block.Bullets es loose start = container UnorderedList [] (items loose)
  block_shape tight block.Numbers es loose start = container OrderedList (ordered start) (items loose)
  block_shape tight block.Item es loose start = through (blocks tight)
  block_shape tight block.Fenced es loose start = code (language bytes (first_in name.CodeFencedFenceInfo es)) (code_lines bytes tab (behind_first_line es))
  block_shape tight block.Indented es loose start = code [] (code_lines bytes tab es)
  block_shape tight block.Html es loose start = alone (Fresh ∷ raw options (html_flow bytes tab es) ∷ Fresh ∷ [])
  block_shape tight block.Rule es loose start = alone (Fresh ∷ Void ThematicBreak [] ∷ Feed ∷ [])
  block_shape tight block.Table es loose start = container Table [] mode.Table
  block_shape tight block.TableHead es loose start = alone []
  block_shape tight block.TableBody es loose start = alone []
  block_shape tight block.TableRow es loose start = alone []
  block_shape tight block.TableCell es loose start = alone []
  block_shape tight block.Other es loose start = alone []

  -- a span of inline text, by whether it is in a cell, what it is, the events in it, what it says if it is an innermost one, and what it is described by if it is an image
  abbrev pub inline_shape : (in_cell : Bool) → Inline → List Event → (said alt : List ℕ) → Shape
  inline_shape in_cell inline.Ending es said alt = alone (Feed ∷ [])
  inline_shape in_cell inline.Break es said alt = alone (Void Break [] ∷ [])
  inline_shape in_cell inline.Emphasis es said alt = within_line Emphasis []
  inline_shape in_cell inline.Strong es said alt = within_line Strong []
  inline_shape in_cell inline.Struck es said alt = within_line Deleted []
  inline_shape in_cell inline.Code es said alt = alone (Open Code [] ∷ Text (cell_text in_cell (code_text bytes es)) ∷ Close Code ∷ [])
  inline_shape in_cell inline.Html es said alt = alone (raw_within options (cell_text in_cell (html_text bytes es)) ∷ [])
  inline_shape in_cell inline.Autolink es said alt = autolink options bytes es
  inline_shape in_cell inline.Www es said alt = literal options (codes "http://") said
  inline_shape in_cell inline.Email es said alt = literal options (codes "mailto:") said
  inline_shape in_cell inline.Address es said alt = literal options [] said
  inline_shape in_cell inline.Link es said alt = link_to options (parts_in_link bytes known.lookup es)
  inline_shape in_cell inline.Image es said alt = image_of options alt (parts_in_link bytes known.lookup es)
  inline_shape in_cell inline.Call es said alt = call_shape (known.called (place_of_first es))
  inline_shape in_cell inline.Check es said alt = alone []
  inline_shape in_cell inline.Tail es said alt = alone []
  inline_shape in_cell inline.Other es said alt = told said

  -- and directly in a paragraph: there a check of a task is a box
  abbrev pub paragraph_shape : (in_cell : Bool) → Inline → List Event → (said alt : List ℕ) → Shape
  paragraph_shape in_cell i es said alt = cond (is_check i) (check (is_checked es)) (inline_shape in_cell i es said alt)

  abbrev pub shape_by : Mode → (columns : List Event) → Name → List Event → (is_loose : Bool) → (start : Option ℕ) → (said alt : List ℕ) → Shape
  shape_by mode.Flow columns n es loose start said alt = block_shape false (block_of n) es loose start
  shape_by mode.Tight columns n es loose start said alt = block_shape true (block_of n) es loose start
  shape_by mode.LooseItems columns n es loose start said alt = item_shape false (block_of n)
  shape_by mode.TightItems columns n es loose start said alt = item_shape true (block_of n)
  shape_by mode.Heading columns n es loose start said alt = heading_shape (block_of n)
  shape_by mode.Table columns n es loose start said alt = table_shape (block_of n) es
  shape_by (mode.Rows is_head) columns n es loose start said alt = row_shape is_head (block_of n)
  shape_by (mode.Cells is_head) columns n es loose start said alt = cell_shape is_head columns (block_of n)
  shape_by mode.Paragraph columns n es loose start said alt = paragraph_shape (is_in_cell columns) (inline_of n) es said alt
  shape_by mode.Text columns n es loose start said alt = inline_shape (is_in_cell columns) (inline_of n) es said alt
  shape_by mode.Nothing columns n es loose start said alt = alone []

  abbrev pub shape : Mode → (columns : List Event) → (enter exit : Event) → Spans → Shape
  shape m columns e f s = let es = events_of s in shape_by m columns e.name es (is_loose es) (list_start bytes es) (said bytes e f s) (alt_of bytes s)

  -- the pieces of spans that stand in these columns
  abbrev pub pieces : Mode → (columns : List Event) → Spans → List Piece
  pieces m columns Nothing = lacking m columns
  pieces m columns (Span e f s behind) =
      let b = block_of e.name in
      let here = shape m columns e f s in
      here.opened ++ (pieces here.inside (columns_in b columns (events_of s)) s ++ (here.closed ++ pieces m (columns_behind b columns) behind))

  -- ---- footnotes

  -- The blocks of a note, and links back: in its last paragraph, if that is its last block. Footnote definitions in it are no blocks
  abbrev pub note_blocks : (backs : List Piece) → Spans → List Piece
  note_blocks backs Nothing = Fresh ∷ (backs ++ Feed ∷ [])
  note_blocks backs (Span e f s behind) =
      let last = Fresh ∷ Open Paragraph [] ∷ (pieces mode.Paragraph [] s ++ Text (codes " ") ∷ (backs ++ Close Paragraph ∷ Feed ∷ [])) in
      cond (is_paragraph (block_of e.name) && not (has_block behind)) last (pieces mode.Flow [] (Span e f s Nothing) ++ note_blocks backs behind)

  -- A note of a number, by its label, all footnote definitions and the labels of all calls, of which the last one is the first here
  abbrev pub note_pieces : (definitions : List (List ℕ × Spans)) → (called : List (List ℕ)) → (number : ℕ) → (label : List ℕ) → List Piece
  note_pieces definitions called number label =
      Open ListItem (Id (note_id number) ∷ []) ∷ Feed
      ∷ (note_blocks (back_links number (option_map_or (λ c. c.repeat) (last_call label called) 0)) (note_of label definitions) ++ Close ListItem ∷ Feed ∷ [])

  -- notes with these labels, of which the first has this number
  abbrev pub notes_from : (definitions : List (List ℕ × Spans)) → (called : List (List ℕ)) → (number : ℕ) → (labels : List (List ℕ)) → List Piece
  notes_from definitions called number [] = []
  notes_from definitions called number (l ∷ ls) = note_pieces definitions called number l ++ notes_from definitions called (suc number) ls

  -- the section of notes at the end of a document, if it has calls
  abbrev pub section_by : (definitions : List (List ℕ × Spans)) → (called : List (List ℕ)) → List Piece
  section_by definitions [] = []
  section_by definitions (l ∷ ls) =
      Fresh ∷ Open Section (classed (codes "footnotes") ++ Footnotes ∷ []) ∷ Feed ∷ Open OrderedList [] ∷ Feed
      ∷ (notes_from definitions (l ∷ ls) 1 (notes_of (l ∷ ls)) ++ (Close OrderedList ∷ Feed ∷ Close Section ∷ Feed ∷ []))

  abbrev pub section : List Event → List Piece
  section events = section_by (notes_in bytes (spans_of events)) (labels_of (reverse (calls_in bytes events)))

-- ---- HTML

-- HTML of events, by what is known of their document, without a section of notes
abbrev pub html_by : CompileOptions → (bytes : List ℕ) → Known → (tab : ℕ) → List Event → List ℕ
html_by options bytes known tab events = html (pieces options bytes known tab mode.Flow [] (spans_of events))

-- what labels are defined as by the events of a document: the first definition of a label counts
abbrev pub defined_in : (bytes : List ℕ) → List Event → (label : List ℕ) → Option Parts
defined_in bytes events label = option_and_then (λ at. parts_of bytes events at) (definition_of bytes events label)

-- how many bytes of a document the first of these events enters a span over
abbrev pub extent : List Event → ℕ
extent [] = 0
extent (e ∷ es) = place_of_first (drop (length (inside es)) es) - e.point.index

-- how many the definition of a label is
abbrev pub size_of_label : (bytes : List ℕ) → List Event → (label : List ℕ) → ℕ
size_of_label bytes events label = option_map_or (λ at. extent (drop at events)) (definition_of bytes events label) 0

-- and that of the label of a link or an image, if it has one
abbrev pub size_of_target : (size : (label : List ℕ) → ℕ) → Target → ℕ
size_of_target size (target.Parts parts) = 0
size_of_target size (target.Label label) = size label

-- The definitions that links and images refer to, all together; links and images within an image are not written
abbrev pub referred : (bytes : List ℕ) → (size : (label : List ℕ) → ℕ) → Inline → List Event → (inner : ℕ) → ℕ
referred bytes size inline.Link es inner = size_of_target size (target_in bytes es) + inner
referred bytes size inline.Image es inner = size_of_target size (target_in bytes es)
referred bytes size _ es inner = inner

abbrev pub references : (bytes : List ℕ) → (size : (label : List ℕ) → ℕ) → Spans → ℕ
references bytes size Nothing = 0
references bytes size (Span e f s behind) = referred bytes size (inline_of e.name) (events_of s) (references bytes size s) + references bytes size behind

-- A document may refer so much that its HTML were far longer than itself: then labels lead nowhere
abbrev pub are_too_many : (bytes : List ℕ) → List Event → Bool
are_too_many bytes events = nat_lt (max 100000 (length bytes)) (references bytes (size_of_label bytes events) (spans_of events))

abbrev pub led_to : (bytes : List ℕ) → List Event → (label : List ℕ) → Option Parts
led_to bytes events label = cond (are_too_many bytes events) None (defined_in bytes events label)

-- what is known of a document by its events
abbrev pub known_in : (bytes : List ℕ) → List Event → Known
known_in bytes events = record { lookup = led_to bytes events; called = called_at (reverse (calls_in bytes events)) }

-- HTML of events, by what is known of their document, with the section of their footnotes
abbrev pub html_with_notes : CompileOptions → (bytes : List ℕ) → Known → (tab : ℕ) → List Event → List ℕ
html_with_notes options bytes known tab events =
    html (pieces options bytes known tab mode.Flow [] (spans_of events) ++ section options bytes known tab events)

-- HTML of the events of a document
abbrev pub html_of_events : CompileOptions → (bytes : List ℕ) → (tab : ℕ) → List Event → List ℕ
html_of_events options bytes tab events = html_with_notes options bytes (known_in bytes events) tab events
