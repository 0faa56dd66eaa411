-- The events of link reference definitions (CommonMark 0.31, 4.7), from the virtual bytes of their lines. Between two lines of a definition stand
-- the line ending and the prefixes of the next line. The definitions have no states.
use Rattle.std.specs.Prelude.{ℕ, ◌+◌, ◌-◌, Bool, true, false, cond, List, [], ◌∷◌, ◌++◌, drop, length, map, take, Some, None}
use Rattle.std.specs.List.{flat_map, prefix_len}
use Rattle.markdown_base.specs.declared.event.Name.{Name}
use Rattle.markdown_base.specs.declared.event.Name.TheVariants as name
use Rattle.markdown_base.specs.Virtual.{Seat}
use Rattle.mdconstructs_machines.specs.LineEvents.{ending_of, line_text}
use Rattle.mdblock_leaf_blocks.specs.LeafBlocks.{bytes_of}
use Rattle.mdblock_leaf_blocks.specs.LeafEvents.{Mark, leaf_marks, span_marks, white}
use Rattle.mdblock_leaf_blocks.specs.LineKinds.{indent}
use Rattle.mdblock_containers.specs.Prefixes.{columns_of}
use Rattle.mdblock_containers.specs.Rows.{Row}
use Rattle.mdblock_containers.specs.Skeleton.{prefixes_marks}
use Rattle.mdinline_labels.specs.declared.definitions.Definition.{Definition}
use Rattle.mdinline_labels.specs.declared.definitions.Stretch.{Stretch}
use Rattle.mdinline_labels.specs.Definitions.{end, end_of}
use Rattle.mdinline_labels.specs.Tails.{begins_with}

-- A byte of the text of lines: a virtual byte; or a line ending, with the prefixes of the next line behind it
pub data Place : Type 0 where
  byte_at : Seat → Place
  ending_at : (ending prefixes : List Seat) → (marks : List Mark) → Place

abbrev pub is_byte : Place → Bool
is_byte (byte_at s) = true
is_byte (ending_at ending prefixes marks) = false

-- all its virtual bytes, and its byte in the text
abbrev pub all_seats : Place → List Seat
all_seats (byte_at s) = s ∷ []
all_seats (ending_at ending prefixes marks) = ending ++ prefixes

abbrev pub text_byte : Place → ℕ
text_byte (byte_at s) = s.byte
text_byte (ending_at ending prefixes marks) = 10

abbrev pub seats_of : List Place → List Seat
seats_of places = flat_map all_seats places

abbrev pub text_of : List Place → List ℕ
text_of places = map text_byte places

-- from one place of a text up to another
abbrev pub between : (from to : ℕ) → List Place → List Place
between from to places = take (to - from) (drop from places)

-- a part of a text
abbrev pub places_of : Stretch → List Place → List Place
places_of s places = between s.from (end s) places

-- A line of a string; and the line ending behind it, with the prefixes of the next line
pub record StringLine : Type 0 where
  pub seats : List Seat
  pub behind : List Place

abbrev pub string_lines : List Place → List StringLine
string_lines [] = []
string_lines (ending_at ending prefixes marks ∷ places) = record { seats = []; behind = ending_at ending prefixes marks ∷ [] } ∷ string_lines places
string_lines (byte_at s ∷ places) = elim (string_lines places) [
  | [] ↦ record { seats = s ∷ []; behind = [] } ∷ []
  | line ∷ lines ↦ record line { seats = s ∷ line.seats } ∷ lines
]

-- The places of a string: if its last line is empty, it ends with the line ending before that, in front of the prefixes
abbrev pub before_prefixes : List Place → List Place
before_prefixes [] = []
before_prefixes (byte_at s ∷ places) = byte_at s ∷ before_prefixes places
before_prefixes (ending_at ending prefixes marks ∷ []) = ending_at ending [] [] ∷ []
before_prefixes (ending_at ending prefixes marks ∷ next ∷ places) = ending_at ending prefixes marks ∷ before_prefixes (next ∷ places)

-- what is behind it: the prefixes of its last line, if that is empty
abbrev pub last_prefixes : List Place → List Place
last_prefixes [] = []
last_prefixes (byte_at s ∷ places) = last_prefixes places
last_prefixes (ending_at ending prefixes marks ∷ []) = ending_at [] prefixes marks ∷ []
last_prefixes (ending_at ending prefixes marks ∷ next ∷ places) = last_prefixes (next ∷ places)

module _ (bytes : List ℕ) where
  -- the text of lines, byte by byte: behind the prefixes of the first
  abbrev pub places_in : List Row → List Place
  places_in [] = []
  places_in (row ∷ rows) =
      map byte_at (drop row.columns (line_text row.line))
      ++ elim rows [
        | [] ↦ []
        | next ∷ more ↦ ending_at (ending_of row.line) (take (columns_of next.went_on) next.line) (prefixes_marks bytes next.went_on next.line) ∷ places_in rows
      ]

  abbrev pub leaf : Name → List Place → List Mark
  leaf n places = leaf_marks bytes n (seats_of places)

  abbrev pub span : Name → List Place → List Mark → List Mark
  span n places inside = span_marks bytes n (seats_of places) inside

  -- a line ending, and the prefixes of the next line
  abbrev pub ending_marks : Place → List Mark
  ending_marks (byte_at s) = []
  ending_marks (ending_at ending prefixes marks) = leaf_marks bytes name.LineEnding ending ++ marks

  -- White space with at most one line ending
  abbrev pub gap_marks : List Place → List Mark
  gap_marks places =
      let n = prefix_len is_byte places in
      white bytes (seats_of (take n places)) ++ (flat_map ending_marks (take 1 (drop n places)) ++ white bytes (seats_of (drop (n + 1) places)))

  -- a further line of a string: "the paragraph's raw content is formed by concatenating the lines and removing initial and final spaces or tabs" (4.8)
  abbrev pub further_line : List Seat → List Mark
  further_line seats = let n = indent (bytes_of seats) in white bytes (take n seats) ++ leaf_marks bytes name.Data (drop n seats)

  -- the lines of a string, as data: what is escaped and referred to in them is read apart
  abbrev pub line_marks : (is_first : Bool) → List StringLine → List Mark
  line_marks is_first [] = []
  line_marks is_first (line ∷ lines) =
      cond is_first (leaf_marks bytes name.Data line.seats) (further_line line.seats) ++ (flat_map ending_marks line.behind ++ line_marks false lines)

  -- A string, if it is not empty: it ends before the prefixes of its last line, if that is empty
  abbrev pub string : Name → List Place → List Mark
  string n places =
      let inside = before_prefixes places in
      span n inside (line_marks true (string_lines inside)) ++ flat_map ending_marks (last_prefixes places)

  -- a string between two marks
  abbrev pub marked : (mark inside : Name) → List Place → List Mark
  marked mark inside places =
      let last = length places - 1 in
      leaf mark (between 0 1 places) ++ (string inside (between 1 last places) ++ leaf mark (drop last places))

  -- "a link destination, .. either a sequence of zero or more characters between an opening < and a closing >", or one without marks (6.3)
  abbrev pub destination_marks : List Place → List Mark
  destination_marks places =
      span name.DefinitionDestination places
      (cond (begins_with 60 (text_of places))
      (span name.DefinitionDestinationLiteral places (marked name.DefinitionDestinationLiteralMarker name.DefinitionDestinationString places))
      (span name.DefinitionDestinationRaw places (string name.DefinitionDestinationString places)))

  -- "A link reference definition consists of a link label, .., followed by a colon (:), optional spaces or tabs (including up to one line ending), a
  -- link destination, optional spaces or tabs (including up to one line ending), and an optional link title" (4.7): by its places up to its end
  abbrev pub parts_marks : Definition → List Place → List Mark
  parts_marks d places =
      gap_marks (between 0 d.label.from places)
      ++ (span name.DefinitionLabel (places_of d.label places) (marked name.DefinitionLabelMarker name.DefinitionLabelString (places_of d.label places))
      ++ (leaf name.DefinitionMarker (between (end d.label) (end d.label + 1) places)
      ++ (gap_marks (between (end d.label + 1) d.destination.from places)
      ++ (destination_marks (places_of d.destination places)
      ++ (elim d.title [
        | None ↦ []
        | Some t ↦
            gap_marks (between (end d.destination) t.from places)
            ++ span name.DefinitionTitle (places_of t places) (marked name.DefinitionTitleMarker name.DefinitionTitleString (places_of t places))
      ]
      ++ gap_marks (between (end_of d.title d.destination) d.size places))))))

  abbrev pub definition_marks : Definition → List Place → List Mark
  definition_marks d places = span name.Definition (take d.size places) (parts_marks d (take d.size places))

  -- Definitions, one after another: each begins in the line behind the one before
  abbrev pub definitions_marks : List Definition → List Place → List Mark
  definitions_marks [] places = []
  definitions_marks (d ∷ ds) places =
      definition_marks d places ++ (flat_map ending_marks (between d.size (d.size + 1) places) ++ definitions_marks ds (drop (d.size + 1) places))
