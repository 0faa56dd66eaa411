-- The skeleton of a document with link reference definitions and tables: the events of its containers, definitions and tables, and a chain of chunks for
-- each stretch of other lines. The definitions have no states.
use Rattle.std.specs.Prelude.{ℕ, ◌+◌, ◌-◌, false, cond, List, [], ◌∷◌, ◌++◌, drop, length, map, take, None}
use Rattle.std.specs.List.{flat_map}
use Rattle.markdown_base.specs.declared.configuration.Constructs.{Constructs}
use Rattle.markdown_base.specs.declared.event.Event.{Event}
use Rattle.markdown_base.specs.Virtual.{Seat}
use Rattle.mdconstructs_machines.specs.LineEvents.{lines_in}
use Rattle.mdblock_leaf_blocks.specs.LeafEvents.{Mark, white}
use Rattle.mdblock_leaf_blocks.specs.LineKinds.{indent}
use Rattle.mdblock_containers.specs.Letters.{lazy_underline}
use Rattle.mdblock_containers.specs.Prefixes.{columns_of}
use Rattle.mdblock_containers.specs.Rows.{Row, rest_of}
use Rattle.mdblock_containers.specs.Skeleton.{Part, begun_all, chained_from, chunks_of, end_of, ending_marks, exits, inside_of, is_held, joined_pieces, pieces_of, prefixes_marks, shared}
use Rattle.mdblock_table_marks.specs.TableMarks.{table_marks}
use Rattle.mdinline_labels.specs.declared.definitions.Definition.{Definition}
use Rattle.mdinline_labels.specs.Labels.{normalised}
use Rattle.mdblock_definitions.specs.Definitions.{definitions_marks, places_in}
use Rattle.mdblock_definitions.specs.Rows.{rows}
use Rattle.mdblock_definitions.specs.Sections.{Inside, Section, defined, lines, sections, table, text_in}

-- all lines of a part
abbrev pub all_rows : Part → List Row
all_rows part = part.first ∷ part.more

module _ (bytes : List ℕ) where
  -- A stretch directly behind definitions: the white space of its first line is outside, so that its text cannot be indented code
  abbrev pub behind_definitions : Part → List Mark
  behind_definitions part =
      let columns = indent (rest_of part.first) in
      elim (joined_pieces bytes (pieces_of bytes (is_held part) part.first part.more)) [
        | [] ↦ []
        | p ∷ ps ↦ white bytes (take columns p.seats) ++ chunks_of bytes false (record p { before = []; seats = drop columns p.seats } ∷ ps)
      ]

  -- what is in a section, behind the prefixes of its first line
  abbrev pub inside_marks : Part → Inside → List Mark
  inside_marks part (lines is_behind) = cond is_behind (behind_definitions part) (inside_of bytes part)
  inside_marks part (defined ds) = definitions_marks bytes ds (places_in bytes (all_rows part))
  inside_marks part table = table_marks bytes part

  -- Sections, one after another: spans that the next one is not in end before the line ending
  abbrev pub section_marks : Section → List Mark
  section_marks s =
      prefixes_marks bytes (take (length s.part.stands) s.part.first.went_on) s.part.first.line
      ++ (begun_all bytes s.part.first.begun (drop (columns_of s.part.first.went_on) s.part.first.line) ++ inside_marks s.part s.inside)

  abbrev pub behind_marks : Part → List Section → List Mark
  behind_marks part [] = exits bytes part.frames (end_of bytes part) ++ ending_marks bytes part
  behind_marks part (next ∷ more) =
      exits bytes (drop (shared part.frames next.part.frames) part.frames) (end_of bytes part)
      ++ (ending_marks bytes part ++ (section_marks next ++ behind_marks next.part more))

  abbrev pub sections_marks : List Section → List Mark
  sections_marks [] = []
  sections_marks (s ∷ more) = section_marks s ++ behind_marks s.part more

-- the labels of definitions in a text, without their brackets
abbrev pub labels_in : List Definition → List ℕ → List (List ℕ)
labels_in [] text = []
labels_in (d ∷ ds) text = take (d.label.size - 2) (drop (d.label.from + 1) text) ∷ labels_in ds (drop (d.size + 1) text)

abbrev pub labels_of_section : Section → List (List ℕ)
labels_of_section s = elim s.inside [
  | lines is_behind ↦ []
  | defined ds ↦ labels_in ds (text_in (all_rows s.part))
  | table ↦ []
]

-- the index of the first byte of a line behind its prefixes and white space
abbrev pub text_begin : Row → List ℕ
text_begin row = map (λ s. s.point.index) (take 1 (drop (row.columns + indent (rest_of row)) row.line))

module _ (on : Constructs) where
  abbrev pub sections_in_seats : List Seat → List Section
  sections_in_seats seats = sections on (rows on (lines_in seats))

  -- The skeleton of a document, by its virtual bytes
  abbrev pub skeleton : (bytes : List ℕ) → List Seat → List Event
  skeleton bytes seats = chained_from 0 None (sections_marks bytes (sections_in_seats seats))

  -- the labels of a document's definitions, as they are written
  abbrev pub written_labels : List Seat → List (List ℕ)
  written_labels seats = flat_map labels_of_section (sections_in_seats seats)

  -- The labels that a document defines, in the form by which they are compared: "matching of labels is case-insensitive" (4.7), and white space is
  -- collapsed (6.3)
  abbrev pub labels : List Seat → List (List ℕ)
  labels seats = map normalised (written_labels seats)

  -- what leaf blocks are read of as of text: the first line directly behind definitions, and lazy underlines
  abbrev pub letters_of_section : Section → List ℕ
  letters_of_section s = elim s.inside [
    | lines is_behind ↦ cond is_behind (text_begin s.part.first) (lazy_underline on s.part.first) ++ flat_map (lazy_underline on) s.part.more
    | defined ds ↦ []
    | table ↦ []
  ]

  -- The indices of bytes that leaf blocks are read of as of a letter, so that their lines are text
  abbrev pub letters : List Seat → List ℕ
  letters seats = flat_map letters_of_section (sections_in_seats seats)
