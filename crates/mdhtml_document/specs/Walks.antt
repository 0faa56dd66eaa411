-- The definitions of HTML as walks over events, an event at a time: what the code does.
use Rattle.std.specs.List.{slice_range}
use Rattle.std.specs.Prelude.{◌≡◌, ℕ, zero, suc, ◌+◌, ◌&&◌, ◌||◌, not, Bool, true, false, cond, List, [], ◌∷◌, ◌++◌, bytes_eq, drop, length, take, Option, None, Some}
use Rattle.markdown_base.specs.declared.configuration.CompileOptions.{CompileOptions}
use Rattle.markdown_base.specs.declared.event.Event.{Event}
use Rattle.markdown_base.specs.declared.event.Name.{Name}
use Rattle.markdown_base.specs.declared.event.Name.TheVariants.{CharacterEscapeValue, Data}
use Rattle.markdown_base.specs.Events.{is_enter, same_name}
use Rattle.mdblock_containers.specs.declared.list_shapes.ListShape.{ListShape}
use Rattle.mdblock_containers.specs.Lists.{is_loose, list_start}
use Rattle.mdhtml_document.specs.declared.names.Block.{Block}
use Rattle.mdhtml_document.specs.declared.names.Block.TheVariants as block
use Rattle.mdhtml_document.specs.declared.names.Inline.{Inline}
use Rattle.mdhtml_document.specs.declared.names.Inline.TheVariants as inline
use Rattle.mdhtml_document.specs.declared.shapes.Mode.{Mode}
use Rattle.mdhtml_document.specs.declared.shapes.Mode.TheVariants as mode
use Rattle.mdhtml_document.specs.declared.links.Whole.{Whole}
use Rattle.mdhtml_document.specs.declared.note_section.Notes.{Notes}
use Rattle.mdhtml_document.specs.Frames.{Open, closed_of, columns_at, ends, known_note, known_of, loose_of, mode_of, moved, start_of}
use Rattle.mdhtml_document.specs.Written.{after}
use Rattle.mdhtml_document.specs.Html.{Known, Shape, columns_in, lacking, referred, shape_by}
use Rattle.mdhtml_document.specs.Names.{block_of, inline_of}
use Rattle.mdhtml_document.specs.Notes.{is_container, is_note, label_in}
use Rattle.mdhtml_document.specs.Values.{alt_by, reading_of}
use Rattle.mdhtml_markup.specs.Pieces.{Piece}
use Rattle.mddocument_link_targets.specs.Spans.{inside}
use Rattle.mddocument_link_targets.specs.Strings.{given_at}

-- what the span of inline text that an event enters says, if it is an innermost one, by the events behind that
abbrev pub said_at : (bytes : List ℕ) → Event → (behind : List Event) → List ℕ
said_at bytes e es = given_at bytes (reading_of (inline_of e.name)) e es

-- the bytes of that span, and whether they are what it says
abbrev pub inner_bytes : (bytes : List ℕ) → Event → (behind : List Event) → List ℕ
inner_bytes bytes e [] = []
inner_bytes bytes e (f ∷ fs) = cond (is_enter e.kind && not (is_enter f.kind)) (slice_range bytes e.point.index f.point.index) []

abbrev pub says_bytes : Name → Bool
says_bytes n = same_name n Data || same_name n CharacterEscapeValue

-- what is written of spans is that of inline text
abbrev pub is_inline : Mode → Bool
is_inline mode.Text = true
is_inline mode.Paragraph = true
is_inline _ = false

-- Its bytes are all that is written of a span, by what is written of spans there, the event that enters it and those behind that
abbrev pub is_bytes : Mode → Event → (behind : List Event) → Bool
is_bytes m e es = is_inline m && (says_bytes e.name && ends es)

-- ---- descriptions of images

-- what is in a span is passed over, by what that is
abbrev pub is_passed : Inline → Bool
is_passed inline.Ending = true
is_passed inline.Code = true
is_passed inline.Html = true
is_passed inline.Autolink = true
is_passed inline.Tail = true
is_passed _ = false

abbrev pub passed : Inline → List Event → ℕ
passed i es = cond (is_passed i) (length (inside es)) 0

-- The description that events give, by how many of them are passed over first
abbrev pub alt_from : (bytes : List ℕ) → (skip : ℕ) → List Event → List ℕ
alt_from bytes skip [] = []
alt_from bytes zero (e ∷ es) =
    cond (is_enter e.kind) (alt_by bytes (inline_of e.name) (inside es) (said_at bytes e es) [] ++ alt_from bytes (passed (inline_of e.name) es) es) (alt_from bytes 0 es)
alt_from bytes (suc n) (e ∷ es) = alt_from bytes n es

-- ---- references

abbrev pub is_left : Inline → Bool
is_left inline.Image = true
is_left _ = false

abbrev pub left : Inline → List Event → ℕ
left i es = cond (is_left i) (length (inside es)) 0

abbrev pub references_from : (bytes : List ℕ) → (size : (label : List ℕ) → ℕ) → (skip : ℕ) → List Event → ℕ
references_from bytes size skip [] = 0
references_from bytes size zero (e ∷ es) =
    cond (is_enter e.kind) (referred bytes size (inline_of e.name) (inside es) 0 + references_from bytes size (left (inline_of e.name) es) es) (references_from bytes size 0 es)
references_from bytes size (suc n) (e ∷ es) = references_from bytes size n es

-- ---- pieces

module _ (options : CompileOptions) (bytes : List ℕ) (known : Known) (tab : ℕ) where
  -- the shape of the span that an event enters, by the events behind that
  abbrev pub shape_at : Mode → (columns : List Event) → Event → List Event → Shape
  shape_at m columns e es = shape_by options bytes known tab m columns e.name (inside es) (is_loose es) (list_start bytes es) (said_at bytes e es) (alt_from bytes 0 (inside es))

  -- the pieces of events behind spans that are open, the innermost first
  abbrev pub entered : List Open → Event → (inner : List Event) → Shape → (rest : List Open → List Piece) → List Piece
  entered os e inner s rest =
      let b = block_of e.name in s.opened ++ rest (record { mode = s.inside; columns = columns_in b (columns_at os) inner; closed = s.closed } ∷ moved b os)

  abbrev pub walked : List Open → List Event → List Piece
  walked os [] = []
  walked os (e ∷ es) =
      cond (is_enter e.kind) (entered os e (inside es) (shape_at (mode_of os) (columns_at os) e es) (λ next. walked next es))
      (lacking (mode_of os) (columns_at os) ++ (closed_of os ++ walked (drop 1 os) es))

-- A span of a shape was entered, with these events in it: its beginning was written, and it is open
pub record Entered (s : Shape) (e : Event) (inner : List Event) (old new : List ℕ) (before behind : List Open) : Type 0 where
  pub written : new ≡ after old s.opened
  pub stack : behind ≡ record { mode = s.inside; columns = columns_in (block_of e.name) (columns_at before) inner; closed = s.closed } ∷ moved (block_of e.name) before

-- ---- of a document, as the code knows it

abbrev pub shape_in : Whole → Mode → (columns : List Event) → (list : Option ListShape) → Event → List Event → Shape
shape_in w m columns list e es =
    shape_by w.options.now w.bytes.now (known_of w) w.tab m columns e.name (inside es) (loose_of list) (start_of list) (said_at w.bytes.now e es) (alt_from w.bytes.now 0 (inside es))

abbrev pub walked_in : Whole → List Open → List Event → List Piece
walked_in w os es = walked w.options.now w.bytes.now (known_of w) w.tab os es

-- ---- footnote definitions

-- definitions that are open, the innermost first, with one event more in that
abbrev pub with_event : Event → List (List ℕ × List Event) → List (List ℕ × List Event)
with_event e [] = []
with_event e (n ∷ ns) = (n.0, n.1 ++ e ∷ []) ∷ ns

-- how many events behind an event are passed: those of a span in which no definition stands
abbrev pub skipped : Event → (behind : List Event) → ℕ
skipped e es = cond (is_enter e.kind && not (is_container e.name)) (suc (length (inside es))) 0

-- the definitions that end among events, by how many of these are passed first, and those that are around
abbrev pub noted : (bytes : List ℕ) → (skip : ℕ) → (around : List (List ℕ × List Event)) → List Event → List (List ℕ × List Event)
noted bytes skip around [] = []
noted bytes (suc n) around (e ∷ es) = noted bytes n (with_event e around) es
noted bytes zero around (e ∷ es) =
    cond (is_note e.name)
    (cond (is_enter e.kind) (noted bytes 0 ((label_in bytes (inside es), []) ∷ around) es) (take 1 around ++ noted bytes 0 (drop 1 around) es))
    (noted bytes (skipped e es) (with_event e around) es)

-- the events in the first definition of a label
abbrev pub first_note : (label : List ℕ) → List (List ℕ × List Event) → Option (List Event)
first_note label [] = None
first_note label (n ∷ ns) = cond (bytes_eq label n.0) (Some n.1) (first_note label ns)

abbrev pub first_of : {A : Type 0} → (first second : Option A) → Option A
first_of None second = second
first_of (Some a) second = Some a

-- what is found of a label: what is known, or else the first one of these
abbrev pub found_by : Notes → (label : List ℕ) → List (List ℕ × List Event) → Option (List Event)
found_by notes label ns = first_of (known_note notes.found label) (first_note label ns)

-- where the last block begins that something is written of, if that is a paragraph, by where the last one did, and how many events are passed first
abbrev pub last_by : Block → (at : ℕ) → (last : Option ℕ) → Option ℕ
last_by block.Paragraph at last = Some at
last_by block.Other at last = last
last_by _ at last = None

abbrev pub last_from : (at skip : ℕ) → (last : Option ℕ) → List Event → Option ℕ
last_from at skip last [] = last
last_from at (suc n) last (e ∷ es) = last_from (suc at) n last es
last_from at zero last (e ∷ es) = last_from (suc at) (suc (length (inside es))) (last_by (block_of e.name) at last) es
