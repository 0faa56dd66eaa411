-- Where a document can be cut: at a rest the lines before it and the lines from it on have, with their containers, the rows that they have apart.
use Rattle.std.specs.Prelude.{◌≡◌, ℕ, suc, ◌+◌, ◌≤◌, ◌==◌, ◌&&◌, not, Bool, true, false, List, [], ◌∷◌, ◌++◌, length, map}
use Rattle.markdown_base.specs.declared.configuration.Constructs.{Constructs}
use Rattle.mdblock_leaf_blocks.specs.LeafBlocks.{Line}
use Rattle.mdblock_lines.specs.Containers.{Container, Prefix, footnote, item, quote}
use Rattle.mdblock_containers.specs.Rows.{Before, Leaf, Row, closed, has_none, nothing_known}
use Rattle.mdblock_definitions.specs.Rows.{Known, known_after, row_of, rows, rows_from}
use Rattle.markdown_base.specs.Virtual.{virtual}
use Rattle.mdconstructs_machines.specs.LineEvents.{lines_in}
use Rattle.mddocument_parts.specs.Moved.{begins_line, line_endings, moved_line, moved_lines}
use Rattle.mddocument_parts.specs.Rests.{begins_near, kind_of_line}

-- ---- where a document can be cut

-- no leaf block is open: no paragraph, also none of definitions alone, no fenced code, and no HTML
abbrev pub is_closed : Leaf → Bool
is_closed closed = true
is_closed _ = false

-- the first container that begins goes on with a list, in the place of an item that ended
abbrev pub joins_list : (ended : List Container) → (begun : List Prefix) → Bool
joins_list (item old ∷ cs) (p ∷ ps) = elim p.container [ quote q ↦ false | item new ↦ old.marker == new.marker | footnote f ↦ false ]
joins_list _ _ = false

-- The constructs that are on
module _ (on : Constructs) where
  -- A line begins anew, by what is known before it: no leaf block is open; the line is neither blank nor indented code; no container goes on with it;
  -- and it goes on with no list
  abbrev pub begins_anew : Known → (number : ℕ) → Line → Bool
  begins_anew k number line =
      let row = row_of on k number line in
      is_closed k.before.leaf && (begins_near (kind_of_line on line) && (has_none row.went_on && not (joins_list k.before.stack row.begun)))

  -- what is known behind lines
  abbrev pub known_behind : Known → (number : ℕ) → List Line → Known
  known_behind k number [] = k
  known_behind k number (line ∷ lines) = known_behind (known_after on k (row_of on k number line)) (suc number) lines

  abbrev pub known_at_start : Known
  known_at_start = record { before = nothing_known on; text = [] }

  -- A line is at a rest behind the lines of a document
  abbrev pub is_at_document_rest : (before : List Line) → Line → Bool
  is_at_document_rest before line = begins_anew (known_behind known_at_start 1 before) (suc (length before)) line

-- ---- so many lines further on
module _ (lines : ℕ) where
  abbrev pub moved_container : Container → Container
  moved_container (quote q) = quote (record q { line = q.line + lines })
  moved_container (item i) = item (record i { line = i.line + lines; list = i.list + lines })
  moved_container (footnote f) = footnote (record f { line = f.line + lines })

  abbrev pub moved_prefix : Prefix → Prefix
  moved_prefix p = record p { container = moved_container p.container }

  abbrev pub moved_before : Before → Before
  moved_before b = record b { stack = map moved_container b.stack }

  abbrev pub moved_known : Known → Known
  moved_known k = record k { before = moved_before k.before }

-- and so many bytes
abbrev pub moved_row : (lines bytes : ℕ) → Row → Row
moved_row lines bytes row =
    record row {
      number = row.number + lines;
      line = moved_line lines bytes row.line;
      went_on = map (moved_prefix lines) row.went_on;
      begun = map (moved_prefix lines) row.begun;
    }

-- the first of rows goes on with a stretch of lines before it, or does not
abbrev pub first_stays : Bool → List Row → List Row
first_stays stays [] = []
first_stays stays (row ∷ rows) = record row { stays = stays } ∷ rows

-- ---- what is said of rests

-- Moved lines have the same rows, moved
abbrev pub RowsMove : Type 0
RowsMove = (on : Constructs) (lines bytes : ℕ) (k : Known) (number : ℕ) (ls : List Line)
    → rows_from on (moved_known lines k) (number + lines) (moved_lines lines bytes ls) ≡ map (moved_row lines bytes) (rows_from on k number ls)

-- At a rest the rows of lines are those of the lines before and those of the lines from it on, moved. One thing is not told by the latter alone: whether the
-- first goes on with the stretch of lines before it
abbrev pub RowsOfBoth : Type 0
RowsOfBoth = (on : Constructs) (bytes : ℕ) (before : List Line) (line : Line) (behind : List Line) → is_at_document_rest on before line ≡ true
    → let n = length before in
    let stays = (row_of on (known_behind on (known_at_start on) 1 before) (suc n) line).stays in
    rows on (before ++ moved_lines n bytes (line ∷ behind)) ≡ rows on before ++ map (moved_row n bytes) (first_stays stays (rows on (line ∷ behind)))

-- Behind a rest what comes before it is forgotten: later lines are at a rest or not, whatever it was
abbrev pub DocumentRestsForget : Type 0
DocumentRestsForget = (on : Constructs) (bytes : ℕ) (before : List Line) (line : Line) (behind : List Line) (next : Line) → is_at_document_rest on before line ≡ true
    → let n = length before in
    is_at_document_rest on (before ++ moved_lines n bytes (line ∷ behind)) (moved_line n bytes next) ≡ is_at_document_rest on (line ∷ behind) next

-- ---- as bytes

-- the first of lines is at a rest; none is at one
abbrev pub first_at_document_rest : Constructs → (before : List Line) → List Line → Bool
first_at_document_rest on before [] = true
first_at_document_rest on before (line ∷ lines) = is_at_document_rest on before line

-- The second bytes begin at a rest of the document behind the first
abbrev pub begins_at_document_rest : Constructs → (t : ℕ) → (a b : List ℕ) → Bool
begins_at_document_rest on t a b = begins_line b a && first_at_document_rest on (lines_in (virtual t a)) (lines_in (virtual t b))

-- the lines of a document with their containers
abbrev pub document_rows : Constructs → (t : ℕ) → (bytes : List ℕ) → List Row
document_rows on t bytes = rows on (lines_in (virtual t bytes))

-- lines go on with the stretch of lines before them
abbrev pub goes_on_behind : Constructs → (before : List Line) → List Line → Bool
goes_on_behind on before [] = false
goes_on_behind on before (line ∷ lines) = (row_of on (known_behind on (known_at_start on) 1 before) (suc (length before)) line).stays

-- The lines of a document with their containers are those of its parts
abbrev pub DocumentRowsOfBoth : Type 0
DocumentRowsOfBoth = (on : Constructs) (t : ℕ) (a b : List ℕ) → begins_at_document_rest on t a b ≡ true
    → document_rows on t (a ++ b)
    ≡ document_rows on t a ++ map (moved_row (line_endings a) (length a)) (first_stays (goes_on_behind on (lines_in (virtual t a)) (lines_in (virtual t b))) (document_rows on t b))

-- They go on with it only where no container is open behind the lines before
abbrev pub StretchesGoOnAtTop : Type 0
StretchesGoOnAtTop = (on : Constructs) (before : List Line) (line : Line) → is_at_document_rest on before line ≡ true → goes_on_behind on before (line ∷ []) ≡ true
    → ((known_behind on (known_at_start on) 1 before).before.stack ≡ []) × (has_none (row_of on (known_at_start on) 1 line).begun ≡ true)

-- What comes behind bytes that end a line does not matter for whether they begin at a rest: it is told at the end of their first line
abbrev pub DocumentFirstLineTells : Type 0
DocumentFirstLineTells = (on : Constructs) (t : ℕ) (a b c : List ℕ) → 1 ≤ length b → begins_line c b ≡ true → begins_line b a ≡ true → begins_at_document_rest on t a (b ++ c) ≡ begins_at_document_rest on t a b

-- Behind a rest what comes before it is forgotten: later bytes begin at a rest, or not, whatever it was
abbrev pub DocumentRestsOfBoth : Type 0
DocumentRestsOfBoth = (on : Constructs) (t : ℕ) (a b c : List ℕ) → begins_at_document_rest on t a b ≡ true → 1 ≤ length b → begins_line c b ≡ true → begins_at_document_rest on t (a ++ b) c ≡ begins_at_document_rest on t b c
