-- The skeleton of a document: the events of its containers, and a chain of chunks for each stretch of lines that leaf blocks are read from. The
-- definitions have no states.
use Rattle.std.specs.Prelude.{ℕ, zero, suc, ◌+◌, ◌==◌, ◌&&◌, not, nat_le, nat_lt, Bool, true, false, cond, List, [], ◌∷◌, ◌++◌, take, drop, map, reverse, length, Option, Some, None}
use Rattle.std.specs.List.{flat_map}
use Rattle.markdown_base.specs.declared.configuration.Constructs.{Constructs}
use Rattle.markdown_base.specs.declared.event.Content.TheVariants as content
use Rattle.markdown_base.specs.declared.event.Event.{Event}
use Rattle.markdown_base.specs.declared.event.Kind.TheVariants.{Enter, Exit}
use Rattle.markdown_base.specs.declared.event.Name.{Name}
use Rattle.markdown_base.specs.declared.event.Name.TheVariants as name
use Rattle.markdown_base.specs.declared.event.Point.{Point}
use Rattle.markdown_base.specs.Events.{same_name}
use Rattle.markdown_base.specs.Virtual.{Seat, point, end_after}
use Rattle.mdconstructs_machines.specs.Spans.{event}
use Rattle.mdconstructs_machines.specs.LineEvents.{line_text, ending_of, lines_in}
use Rattle.mdblock_leaf_blocks.specs.LeafBlocks.{Line, bytes_of}
use Rattle.mdblock_leaf_blocks.specs.LeafEvents.{Mark, chunk_span, leaf_marks, span_marks, white}
use Rattle.mdblock_leaf_blocks.specs.LineKinds.{indent}
use Rattle.mdblock_lines.specs.Containers.{Container, quote, item, footnote, Item, Prefix}
use Rattle.mdblock_containers.specs.Prefixes.{columns_of, containers_of}
use Rattle.mdblock_containers.specs.Rows.{Row, rows, holds_ending, has_none}

-- the containers in which a blank line stands, from the innermost on: not in items and footnote definitions that began before it and do not go on
-- behind it, where so many containers go on
abbrev pub left_in : (many number : ℕ) → List Container → List Container
left_in many number [] = []
left_in many number (quote q ∷ cs) = quote q ∷ cs
left_in many number (item i ∷ cs) = cond (nat_le many (length cs) && nat_lt i.line number) (left_in many number cs) (item i ∷ cs)
left_in many number (footnote f ∷ cs) = cond (nat_le many (length cs) && nat_lt f.line number) (left_in many number cs) (footnote f ∷ cs)

-- how many containers go on at the next line that is not left blank
abbrev pub going_on_at : List Row → ℕ
going_on_at [] = 0
going_on_at (row ∷ behind) = cond row.is_left_blank (going_on_at behind) (length row.went_on)

-- A span of containers: a quote, a list, an item or a footnote definition, by its name and the number of its first line
pub record Frame : Type 0 where
  pub name : Name
  pub line : ℕ

abbrev pub list_name : Item → Name
list_name i = cond (nat_le 1 i.digits) name.ListOrdered name.ListUnordered

-- an item stands in its list
abbrev pub frames_of : Container → List Frame
frames_of (quote q) = record { name = name.BlockQuote; line = q.line } ∷ []
frames_of (item i) = record { name = list_name i; line = i.list } ∷ record { name = name.ListItem; line = i.line } ∷ []
frames_of (footnote f) = record { name = name.GfmFootnoteDefinition; line = f.line } ∷ []

-- the list that goes on at the next line that is not left blank: its first new container is no first item
abbrev pub list_begun : List Prefix → List Frame
list_begun [] = []
list_begun (p ∷ ps) = elim p.container [
  | quote q ↦ []
  | item i ↦ cond (nat_lt i.list i.line) (record { name = list_name i; line = i.list } ∷ []) []
  | footnote f ↦ []
]

abbrev pub list_at : List Row → List Frame
list_at [] = []
list_at (row ∷ behind) = cond row.is_left_blank (list_at behind) (list_begun row.begun)

-- the containers of a line, and the spans in which it stands, by the lines behind it
abbrev pub standing : Row → List Row → List Container
standing row behind =
    let all = containers_of row.went_on ++ containers_of row.begun in
    cond (row.is_blank) (reverse (left_in (going_on_at behind) row.number (reverse all))) all

abbrev pub frames_at : Row → List Row → List Frame
frames_at row behind =
    let stands = standing row behind in
    flat_map frames_of stands ++ cond (row.is_left_blank && (length stands == going_on_at behind)) (list_at behind) []

-- how many further lines a stretch has: they stay in it, and blank lines may be between
abbrev pub further : List Row → ℕ
further [] = 0
further (row ∷ behind) =
    let n = further behind in
    cond row.is_left_blank (cond (nat_le 1 n) (suc n) 0) (cond row.stays (suc n) 0)

-- A part of a document: a blank line, or a stretch of lines that leaf blocks are read from; with the spans in which it stands
pub record Part : Type 0 where
  pub first : Row
  pub more : List Row
  pub frames : List Frame
  pub stands : List Container

abbrev pub parts_in : (bound : ℕ) → List Row → List Part
parts_in zero all = []
parts_in (suc bound) [] = []
parts_in (suc bound) (row ∷ behind) =
    let n = cond (row.is_blank) 0 (further behind) in
    record { first = row; more = take n behind; frames = frames_at row behind; stands = standing row behind } ∷ parts_in bound (drop n behind)

abbrev pub parts : List Row → List Part
parts all = parts_in (length all) all

abbrev pub last_of : Row → List Row → Row
last_of row [] = row
last_of row (next ∷ more) = last_of next more

-- a part holds its last line ending: its block is open to the end
abbrev pub is_held : Part → Bool
is_held part = not (part.first.is_blank) && holds_ending (last_of part.first part.more).leaf

-- the place of a line's beginning
abbrev pub begin_of : Line → Point
begin_of [] = point 1 1 0 0
begin_of (s ∷ ss) = s.point

-- frames that two lines share, from the outermost on
abbrev pub shared : List Frame → List Frame → ℕ
shared [] gs = 0
shared (f ∷ fs) [] = 0
shared (f ∷ fs) (g ∷ gs) = cond (same_name f.name g.name && (f.line == g.line)) (suc (shared fs gs)) 0

module _ (bytes : List ℕ) where
  -- the events of a prefix over its virtual bytes, where its container goes on and where it begins
  abbrev pub going_marks : Container → List Seat → List Mark
  going_marks (quote q) seats =
      let n = indent (bytes_of seats) in
      white bytes (take n seats) ++ span_marks bytes name.BlockQuotePrefix (drop n seats) (leaf_marks bytes name.BlockQuoteMarker (take 1 (drop n seats)) ++ white bytes (drop (suc n) seats))
  going_marks (item i) seats = white bytes seats
  going_marks (footnote f) seats = white bytes seats

  -- the label of a footnote definition: `[`, `^`, its bytes and `]`
  abbrev pub label_marks : (label : ℕ) → List Seat → List Mark
  label_marks label seats =
      leaf_marks bytes name.GfmFootnoteDefinitionLabelMarker (take 1 seats)
      ++ (leaf_marks bytes name.GfmFootnoteDefinitionMarker (take 1 (drop 1 seats))
      ++ (span_marks bytes name.GfmFootnoteDefinitionLabelString (take label (drop 2 seats)) (leaf_marks bytes name.Data (take label (drop 2 seats)))
      ++ leaf_marks bytes name.GfmFootnoteDefinitionLabelMarker (take 1 (drop (label + 2) seats))))

  -- the prefix of one: its label, the colon, and white space
  abbrev pub footnote_marks : (label : ℕ) → List Seat → List Mark
  footnote_marks label seats =
      span_marks bytes name.GfmFootnoteDefinitionPrefix seats
      (span_marks bytes name.GfmFootnoteDefinitionLabel (take (label + 3) seats) (label_marks label seats)
      ++ (leaf_marks bytes name.DefinitionMarker (take 1 (drop (label + 3) seats)) ++ white bytes (drop (label + 4) seats)))

  abbrev pub begun_marks : Container → List Seat → List Mark
  begun_marks (quote q) seats = going_marks (quote q) seats
  begun_marks (item i) seats =
      let n = indent (bytes_of seats) in
      white bytes (take n seats)
      ++ span_marks bytes name.ListItemPrefix (drop n seats)
      (leaf_marks bytes name.ListItemValue (take i.digits (drop n seats)) ++ (leaf_marks bytes name.ListItemMarker (take 1 (drop (n + i.digits) seats)) ++ white bytes (drop (suc (n + i.digits)) seats)))
  begun_marks (footnote f) seats = let n = indent (bytes_of seats) in white bytes (take n seats) ++ footnote_marks f.label (drop n seats)

  abbrev pub prefixes_marks : List Prefix → List Seat → List Mark
  prefixes_marks [] seats = []
  prefixes_marks (p ∷ ps) seats = going_marks p.container (take p.size seats) ++ prefixes_marks ps (drop p.size seats)

  -- a container begins: its list, if it is the first item; itself; its prefix
  abbrev pub enters_of : Container → Point → List Mark
  enters_of (quote q) place = (event bytes Enter name.BlockQuote place, None) ∷ []
  enters_of (item i) place = cond (i.list == i.line) ((event bytes Enter (list_name i) place, None) ∷ []) [] ++ (event bytes Enter name.ListItem place, None) ∷ []
  enters_of (footnote f) place = (event bytes Enter name.GfmFootnoteDefinition place, None) ∷ []

  abbrev pub begun_all : List Prefix → List Seat → List Mark
  begun_all [] seats = []
  begun_all (p ∷ ps) seats = enters_of p.container (begin_of seats) ++ (begun_marks p.container (take p.size seats) ++ begun_all ps (drop p.size seats))

  -- A piece of a stretch: a prefix, and virtual bytes behind it
  pub record Piece : Type 0 where
    pub before : List Mark
    pub seats : List Seat

  abbrev pub piece_of : (is_kept : Bool) → Row → Piece
  piece_of is_kept row = record { before = prefixes_marks row.went_on row.line; seats = drop row.columns (cond is_kept row.line (line_text row.line)) }

  -- the pieces of lines; the last one has its line ending only if it is held
  abbrev pub pieces_of : (is_held : Bool) → Row → List Row → List Piece
  pieces_of is_held row [] = piece_of is_held row ∷ []
  pieces_of is_held row (next ∷ more) = piece_of true row ∷ pieces_of is_held next more

  -- pieces without a prefix between them are one
  abbrev pub joined_pieces : List Piece → List Piece
  joined_pieces [] = []
  joined_pieces (p ∷ []) = p ∷ []
  joined_pieces (p ∷ q ∷ ps) = elim (joined_pieces (q ∷ ps)) [
    | [] ↦ p ∷ []
    | r ∷ rs ↦ cond (has_none r.before) (record p { seats = p.seats ++ r.seats } ∷ rs) (p ∷ r ∷ rs)
  ]

  -- chunks of a stretch, each linked to the one before
  abbrev pub chunks_of : (has_previous : Bool) → List Piece → List Mark
  chunks_of has_previous [] = []
  chunks_of has_previous (p ∷ ps) =
      let has_next = not (has_none (flat_map (λ q. q.seats) ps)) in
      p.before ++ (chunk_span bytes (Some (record { content = content.Content; has_previous = has_previous; has_next = has_next })) name.Data p.seats [] ++ chunks_of true ps)

  -- what is in a part, behind the prefix of its first line
  abbrev pub inside_of : Part → List Mark
  inside_of part =
      let first = drop (cond (has_none part.first.begun) (columns_of (take (length part.stands) part.first.went_on)) part.first.columns) part.first.line in
      cond (part.first.is_blank) (white bytes (line_text first))
      (elim (joined_pieces (pieces_of (is_held part) part.first part.more)) [ [] ↦ [] | p ∷ ps ↦ chunks_of false (record p { before = [] } ∷ ps) ])

  abbrev pub last_line : Part → Line
  last_line part = (last_of part.first part.more).line

  -- where a part ends, and the line ending behind it
  abbrev pub end_of : Part → Point
  end_of part = end_after (begin_of (last_line part)) (cond (is_held part) (last_line part) (line_text (last_line part)))

  abbrev pub ending_marks : Part → List Mark
  ending_marks part = cond (is_held part) [] (leaf_marks bytes (cond (part.first.is_blank) name.BlankLineEnding name.LineEnding) (ending_of (last_line part)))

  -- spans end, the innermost first
  abbrev pub exits : List Frame → Point → List Mark
  exits frames place = map (λ f. (event bytes Exit f.name place, None)) (reverse frames)

  -- Parts, one after another: spans that the next part is not in end before the line ending
  abbrev pub part_marks : Part → List Mark
  part_marks part =
      prefixes_marks (take (length part.stands) part.first.went_on) part.first.line
      ++ (begun_all part.first.begun (drop (columns_of part.first.went_on) part.first.line) ++ inside_of part)

  abbrev pub behind_marks : Part → List Part → List Mark
  behind_marks part [] = exits part.frames (end_of part) ++ ending_marks part
  behind_marks part (next ∷ more) =
      exits (drop (shared part.frames next.frames) part.frames) (end_of part)
      ++ (ending_marks part ++ (part_marks next ++ behind_marks next more))

  abbrev pub parts_marks : List Part → List Mark
  parts_marks [] = []
  parts_marks (part ∷ more) = part_marks part ++ behind_marks part more

-- where the next chunk begins
abbrev pub next_chunk : (index : ℕ) → List Mark → Option ℕ
next_chunk i [] = None
next_chunk i ((e, None) ∷ marks) = next_chunk (suc i) marks
next_chunk i ((e, Some chunk) ∷ marks) = Some i

-- the events of marks from this index on, behind a chunk at that place
abbrev pub chained_from : (index : ℕ) → (previous : Option ℕ) → List Mark → List Event
chained_from i previous [] = []
chained_from i previous ((e, None) ∷ marks) = e ∷ chained_from (suc i) previous marks
chained_from i previous ((e, Some chunk) ∷ marks) =
    record e { link = Some (record { previous = cond chunk.has_previous previous None; next = cond chunk.has_next (next_chunk (suc i) marks) None; content = chunk.content }) }
    ∷ chained_from (suc i) (Some i) marks

-- The skeleton of a document, by its virtual bytes
abbrev pub skeleton : Constructs → (bytes : List ℕ) → List Seat → List Event
skeleton on bytes seats = chained_from 0 None (parts_marks bytes (parts (rows on (lines_in seats))))
