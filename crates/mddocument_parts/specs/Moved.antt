-- Places and blocks moved by lines and bytes: what stands behind other lines is the same, moved.
use Rattle.std.specs.Prelude.{◌≡◌, ℕ, suc, ◌+◌, ◌==◌, ◌&&◌, ◌||◌, not, Bool, true, cond, List, [], ◌∷◌, ◌++◌, length, map, Option, Some, None}
use Rattle.markdown_base.specs.declared.configuration.Constructs.{Constructs}
use Rattle.markdown_base.specs.declared.event.Event.{Event}
use Rattle.markdown_base.specs.declared.event.Link.{Link}
use Rattle.markdown_base.specs.declared.event.Point.{Point}
use Rattle.mdblock_leaf_blocks.specs.LeafBlocks.{Line, LeafBlock, blank_line, break_line, atx_heading, paragraph, setext_heading, indented_code, fenced_code, html_block, leaf_blocks}
use Rattle.mdblock_leaf_blocks.specs.LeafEvents.{flow_events}
use Rattle.mdconstructs_machines.specs.LineEvents.{lines_in}
use Rattle.mddocument_parts.specs.Rests.{is_at_rest}
use Rattle.markdown_base.specs.Virtual.{Seat, begins_with_lf, virtual}

-- Bytes begin a line behind others: those end in a line ending, and no CR LF is torn; or there are none
abbrev pub begins_line : (behind : List ℕ) → List ℕ → Bool
begins_line behind [] = true
begins_line behind (b ∷ []) = (b == 10) || ((b == 13) && not (begins_with_lf behind))
begins_line behind (b ∷ bs) = begins_line behind bs

-- how many line endings bytes have: LF, CR LF, or a CR that no LF follows
abbrev pub line_endings : List ℕ → ℕ
line_endings [] = 0
line_endings (b ∷ bs) =
    let more = line_endings bs in
    cond (b == 10) (suc more) (cond (b == 13) (cond (begins_with_lf bs) more (suc more)) more)

-- what a link names, so many events further on
abbrev pub moved_index : (events : ℕ) → Option ℕ → Option ℕ
moved_index events None = None
moved_index events (Some i) = Some (i + events)

abbrev pub moved_link : (events : ℕ) → Option Link → Option Link
moved_link events None = None
moved_link events (Some l) = Some (record { previous = moved_index events l.previous; next = moved_index events l.next; content = l.content })

-- so many lines and bytes further on
module _ (lines bytes : ℕ) where
  abbrev pub moved_point : Point → Point
  moved_point p = record { line = p.line + lines; column = p.column; index = p.index + bytes; vs = p.vs }

  abbrev pub moved_seat : Seat → Seat
  moved_seat s = record { byte = s.byte; point = moved_point s.point; end = moved_point s.end }

  abbrev pub moved_line : Line → Line
  moved_line line = map moved_seat line

  abbrev pub moved_lines : List Line → List Line
  moved_lines ls = map moved_line ls

  abbrev pub moved_block : LeafBlock → LeafBlock
  moved_block (blank_line line) = blank_line (moved_line line)
  moved_block (break_line line) = break_line (moved_line line)
  moved_block (atx_heading line) = atx_heading (moved_line line)
  moved_block (paragraph ls) = paragraph (moved_lines ls)
  moved_block (setext_heading rank ls below) = setext_heading rank (moved_lines ls) (moved_line below)
  moved_block (indented_code ls) = indented_code (moved_lines ls)
  moved_block (fenced_code f is_closed ls) = fenced_code f is_closed (moved_lines ls)
  moved_block (html_block kind is_closed ls) = html_block kind is_closed (moved_lines ls)

  -- and so many events
  abbrev pub moved_event : (events : ℕ) → Event → Event
  moved_event events e = record { kind = e.kind; name = e.name; point = moved_point e.point; link = moved_link events e.link }

-- The virtual bytes of bytes and of those that begin a line behind them
abbrev pub VirtualOfBoth : Type 0
VirtualOfBoth = (t : ℕ) (a b : List ℕ) → begins_line b a ≡ true → virtual t (a ++ b) ≡ virtual t a ++ map (moved_seat (line_endings a) (length a)) (virtual t b)

-- Their lines
abbrev pub LinesOfBoth : Type 0
LinesOfBoth = (t : ℕ) (a b : List ℕ) → begins_line b a ≡ true → lines_in (virtual t (a ++ b)) ≡ lines_in (virtual t a) ++ moved_lines (line_endings a) (length a) (lines_in (virtual t b))

-- as many as there are line endings in those before
abbrev pub LinesAreCounted : Type 0
LinesAreCounted = (t : ℕ) (a b : List ℕ) → begins_line b a ≡ true → length (lines_in (virtual t a)) ≡ line_endings a

-- Moved lines are cut into the same leaf blocks, moved
abbrev pub BlocksMove : Type 0
BlocksMove = (on : Constructs) (lines bytes : ℕ) (ls : List Line) → leaf_blocks on (moved_lines lines bytes ls) ≡ map (moved_block lines bytes) (leaf_blocks on ls)

-- the first of lines is at a rest; none is at one
abbrev pub first_at_rest : Constructs → List Line → List Line → Bool
first_at_rest on before [] = true
first_at_rest on before (line ∷ lines) = is_at_rest on before line

-- The second bytes begin at a rest behind the first
abbrev pub begins_at_rest : Constructs → (t : ℕ) → (a b : List ℕ) → Bool
begins_at_rest on t a b = begins_line b a && first_at_rest on (lines_in (virtual t a)) (lines_in (virtual t b))

-- The leaf blocks of a document are those of its parts
abbrev pub BlocksOfBoth : Type 0
BlocksOfBoth = (on : Constructs) (t : ℕ) (a b : List ℕ) → begins_at_rest on t a b ≡ true
    → leaf_blocks on (lines_in (virtual t (a ++ b))) ≡ leaf_blocks on (lines_in (virtual t a)) ++ map (moved_block (line_endings a) (length a)) (leaf_blocks on (lines_in (virtual t b)))

-- The events of leaf blocks of a document are those of its parts: those of the second moved by the lines, bytes and events of the first
abbrev pub EventsOfBoth : Type 0
EventsOfBoth = (on : Constructs) (t : ℕ) (a b : List ℕ) → begins_at_rest on t a b ≡ true
    → let first = flow_events on a (virtual t a) in
    flow_events on (a ++ b) (virtual t (a ++ b)) ≡ first ++ map (moved_event (line_endings a) (length a) (length first)) (flow_events on b (virtual t b))
