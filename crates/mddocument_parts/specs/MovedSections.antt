-- Parts and sections of a document that stand behind other lines: the same, moved.
use Rattle.std.specs.Prelude.{◌≡◌, ℕ, ◌+◌, true, false, List, ◌++◌, length, map}
use Rattle.markdown_base.specs.declared.configuration.Constructs.{Constructs}
use Rattle.markdown_base.specs.Virtual.{virtual}
use Rattle.mdconstructs_machines.specs.LineEvents.{lines_in}
use Rattle.mdblock_containers.specs.Rows.{Row}
use Rattle.mdblock_containers.specs.Skeleton.{Frame, Part}
use Rattle.mdblock_definitions.specs.Sections.{Section, sections}
use Rattle.mdblock_definitions.specs.Skeleton.{sections_marks, skeleton}
use Rattle.mddocument_parts.specs.DocumentRests.{begins_at_document_rest, document_rows, first_stays, goes_on_behind, moved_container, moved_row}
use Rattle.mddocument_parts.specs.Moved.{line_endings, moved_event}

abbrev pub moved_frame : (lines : ℕ) → Frame → Frame
moved_frame lines f = record f { line = f.line + lines }

module _ (lines bytes : ℕ) where
  abbrev pub moved_part : Part → Part
  moved_part part =
      record {
        first = moved_row lines bytes part.first;
        more = map (moved_row lines bytes) part.more;
        frames = map (moved_frame lines) part.frames;
        stands = map (moved_container lines) part.stands;
      }

  abbrev pub moved_section : Section → Section
  moved_section s = record s { part = moved_part s.part }

-- Moved rows have the same sections, moved
abbrev pub SectionsMove : Type 0
SectionsMove = (on : Constructs) (lines bytes : ℕ) (rows : List Row) → sections on (map (moved_row lines bytes) rows) ≡ map (moved_section lines bytes) (sections on rows)

-- At a rest whose line goes on with no stretch of lines before it the sections of a document are those of its parts. (Where it does, no container is open there, and
-- the last section of the first part is one with the first of the second.)
abbrev pub SectionsOfBoth : Type 0
SectionsOfBoth = (on : Constructs) (t : ℕ) (a b : List ℕ) → begins_at_document_rest on t a b ≡ true → goes_on_behind on (lines_in (virtual t a)) (lines_in (virtual t b)) ≡ false
    → sections on (document_rows on t (a ++ b)) ≡ sections on (document_rows on t a) ++ map (moved_section (line_endings a) (length a)) (sections on (first_stays false (document_rows on t b)))

-- and so are the marks of its skeleton
abbrev pub MarksOfBoth : Type 0
MarksOfBoth = (on : Constructs) (t : ℕ) (a b : List ℕ) → begins_at_document_rest on t a b ≡ true → goes_on_behind on (lines_in (virtual t a)) (lines_in (virtual t b)) ≡ false
    → sections_marks (a ++ b) (sections on (document_rows on t (a ++ b)))
    ≡ sections_marks (a ++ b) (sections on (document_rows on t a)) ++ sections_marks (a ++ b) (map (moved_section (line_endings a) (length a)) (sections on (first_stays false (document_rows on t b))))

-- Then the skeleton of a document is that of its parts: that of the second moved by the lines, bytes and events of the first
abbrev pub SkeletonOfBoth : Type 0
SkeletonOfBoth = (on : Constructs) (t : ℕ) (a b : List ℕ) → begins_at_document_rest on t a b ≡ true → goes_on_behind on (lines_in (virtual t a)) (lines_in (virtual t b)) ≡ false
    → let first = skeleton on a (virtual t a) in
    skeleton on (a ++ b) (virtual t (a ++ b)) ≡ first ++ map (moved_event (line_endings a) (length a) (length first)) (skeleton on b (virtual t b))
