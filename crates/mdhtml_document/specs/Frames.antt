-- What the code knows of open spans, and what of a document.
use Rattle.std.specs.List.{list_any}
use Rattle.std.specs.BTreeMap.{BTreeMap, get}
use Rattle.std.specs.Global.{Global}
use Rattle.std.specs.Map.{lookup}
use Rattle.std.specs.Option.{option_map_or, unwrap_or}
use Rattle.std.specs.Ordering.{nat_cmp}
use Rattle.std.specs.Prelude.{◌≡◌, ℕ, zero, suc, ◌&&◌, Bool, true, false, bytes_eq, cond, List, [], ◌∷◌, ◌++◌, drop, map, not, reverse, Option, None, Some, option_and_then, option_map, Vec}
use Rattle.markdown_base.specs.declared.event.Event.{Event}
use Rattle.markdown_base.specs.declared.event.Kind.{Kind}
use Rattle.markdown_base.specs.declared.event.Kind.TheVariants.{Enter, Exit}
use Rattle.markdown_base.specs.Events.{is_enter}
use Rattle.markdown_edits.specs.SpanWalks.{is_wanted}
use Rattle.mdblock_containers.specs.declared.list_shapes.ListShape.{ListShape}
use Rattle.mdblock_containers.specs.Lists.{list_names}
use Rattle.mdblock_containers.specs.ListShapes.{shapes_from}
use Rattle.mdhtml_document.specs.declared.shapes.End.{End}
use Rattle.mdhtml_document.specs.declared.shapes.End.TheVariants as end
use Rattle.mdhtml_document.specs.declared.names.Block.{Block}
use Rattle.mdhtml_document.specs.declared.shapes.Frame.{Frame}
use Rattle.mdhtml_document.specs.declared.shapes.Level.{Level}
use Rattle.mdhtml_document.specs.declared.shapes.Mode.{Mode}
use Rattle.mdhtml_document.specs.declared.shapes.Mode.TheVariants as mode
use Rattle.mdhtml_document.specs.declared.links.Whole.{Whole}
use Rattle.mdhtml_document.specs.Html.{Known, Shape, columns_behind, extent}
use Rattle.mdhtml_document.specs.Notes.{called_at, labels_of, last_call, note_of, notes_of}
use Rattle.mdhtml_document.specs.Spans.{AreKinded, Spans, events_of}
use Rattle.mdhtml_document.specs.declared.note_section.Note.{Note}
use Rattle.mdhtml_document.specs.declared.note_section.Notes.{Notes}
use Rattle.mdhtml_document.specs.declared.notes.Call.{Call}
use Rattle.mdhtml_document.specs.declared.notes.Called.{Called}
use Rattle.mdhtml_document.specs.declared.notes.Calls.{Calls}
use Rattle.mdhtml_document.specs.declared.notes.Numbered.{Numbered}
use Rattle.mdhtml_document.specs.Written.{after}
use Rattle.mdhtml_markup.specs.Pieces.{Close, Feed, Fresh, Piece}
use Rattle.mddocument_link_targets.specs.declared.definitions.Definitions.{Definitions}
use Rattle.mddocument_link_targets.specs.declared.targets.Parts.{Parts}
use Rattle.mddocument_link_targets.specs.Defined.{defined_at}
use Rattle.mddocument_link_targets.specs.Targets.{parts_of}

-- what ends a span
abbrev pub closed_by : End → List Piece
closed_by end.Nothing = []
closed_by (end.WithinLine e) = Close e ∷ []
closed_by (end.Line e) = Close e ∷ Feed ∷ []
closed_by (end.Lines e) = Fresh ∷ Close e ∷ Feed ∷ []

-- a span that is open: what is written of the spans in it from here on, the columns that they stand in, and what ends it
pub record Open : Type 0 where
  pub mode : Mode
  pub columns : List Event
  pub closed : List Piece

abbrev pub open_of : Level → Open
open_of l = record { mode = l.mode; columns = l.columns.now; closed = closed_by l.end }

-- those of levels, the innermost first
abbrev pub opens : List Level → List Open
opens levels = map open_of (reverse levels)

-- what is written of spans behind them, in which columns, and what ends the innermost one
abbrev pub mode_of : List Open → Mode
mode_of [] = mode.Flow
mode_of (o ∷ os) = o.mode

abbrev pub columns_at : List Open → List Event
columns_at [] = []
columns_at (o ∷ os) = o.columns

-- behind a span that is entered, the others stand in the columns behind it
abbrev pub moved : Block → List Open → List Open
moved b [] = []
moved b (o ∷ os) = record o { columns = columns_behind b o.columns } ∷ os

abbrev pub closed_of : List Open → List Piece
closed_of [] = []
closed_of (o ∷ os) = o.closed

-- The beginning of a span of a shape was written, and the frame says the rest
pub record Opens (s : Shape) (old new : List ℕ) (frame : Frame) : Type 0 where
  pub written : new ≡ after old s.opened
  pub mode : frame.mode ≡ s.inside
  pub closed : closed_by frame.end ≡ s.closed

-- The span ends that some events are in: its exit is the first of them
abbrev pub ends : List Event → Bool
ends [] = false
ends (e ∷ es) = not (is_enter e.kind)

-- Nothing more is written of a span, by what is written of the spans in it and the events behind its enter; and by what ends it
abbrev pub is_silent : Mode → List Event → Bool
is_silent mode.Nothing es = true
is_silent mode.Text es = ends es
is_silent m es = false

abbrev pub is_over : End → Mode → List Event → Bool
is_over end.Nothing m es = is_silent m es
is_over e m es = false

-- what is said of the list that an event enters, if it does
abbrev pub loose_of : Option ListShape → Bool
loose_of list = option_map_or (λ l. l.is_loose) list false

abbrev pub start_of : Option ListShape → Option ℕ
start_of list = option_and_then (λ l. l.start) list

-- an event enters a list
abbrev pub is_list : Event → Bool
is_list e = is_enter e.kind && is_wanted list_names e.name

-- the events from the first list on
abbrev pub from_list : List Event → List Event
from_list [] = []
from_list (e ∷ es) = cond (is_list e) (e ∷ es) (from_list es)

-- These are the lists among events: those among events behind some that enter none
pub record AreListsOf (bytes : List ℕ) (lists : List ListShape) (events : List Event) : Type 0 where
  pub front : List Event
  pub none : list_any is_list front ≡ false
  pub rest : List Event
  pub whole : events ≡ front ++ rest
  pub at : ℕ
  pub are : lists ≡ shapes_from bytes at rest

-- the list that it enters, by the lists from there on, and those behind it
abbrev pub list_at : List ListShape → Event → Option ListShape
list_at [] e = None
list_at (l ∷ ls) e = cond (is_list e) (Some l) None

abbrev pub lists_behind : List ListShape → Event → List ListShape
lists_behind [] e = []
lists_behind (l ∷ ls) e = cond (is_list e) ls (l ∷ ls)

-- how many bytes the definition of a label is, by what is known of definitions
abbrev pub size_by : List Event → Definitions → (label : List ℕ) → ℕ
size_by events definitions label = option_map_or (λ at. extent (drop at events)) (defined_at definitions label) 0

-- what labels are defined as, by the same: nothing, if there are too many references
abbrev pub led_by : (bytes : List ℕ) → List Event → Definitions → (are_too_many : Bool) → (label : List ℕ) → Option Parts
led_by bytes events definitions too_many label = cond too_many None (option_and_then (λ at. parts_of bytes events at) (defined_at definitions label))

abbrev pub lookup_of : Whole → (label : List ℕ) → Option Parts
lookup_of w label = led_by w.bytes.now w.events.now w.definitions.now w.are_too_many label

-- calls as they stand in a document
abbrev pub as_call : Call → ℕ × List ℕ
as_call c = (c.place, c.label.items)

abbrev pub calls_of : List Call → List (ℕ × List ℕ)
calls_of calls = map as_call calls

-- what is known of calls: the last one of a label, and the one at a place
abbrev pub last_known : BTreeMap (Vec ℕ Global) Called → (label : List ℕ) → Option Called
last_known last label = lookup (λ known. bytes_eq label known.items) last.entries

abbrev pub call_at : Calls → (place : ℕ) → Option Called
call_at calls place = get nat_cmp calls.places place

-- These are the notes that some calls call, of which the last one is the first here
pub record IsNumbered (n : Numbered) (before : List (ℕ × List ℕ)) : Type 0 where
  pub last : (label : List ℕ) → last_known n.last label ≡ last_call label (labels_of before)
  pub labels : map (λ l. l.items) n.labels.items ≡ notes_of (labels_of before)
  pub calls : (place : ℕ) → call_at n.calls place ≡ called_at before place

abbrev pub known_of : Whole → Known
known_of w = record { lookup = lookup_of w; called = call_at w.calls.now }

-- footnote definitions that are open, the innermost first
abbrev pub as_note : Note → List ℕ × List Event
as_note n = (n.label.items, n.events.items)

abbrev pub open_notes : List Note → List (List ℕ × List Event)
open_notes notes = map as_note (reverse notes)

-- the events that are known of the definition of a label
abbrev pub known_note : BTreeMap (Vec ℕ Global) (Vec Event Global) → (label : List ℕ) → Option (List Event)
known_note found label = option_map (λ events. events.items) (lookup (λ known. bytes_eq label known.items) found.entries)

-- These are known of definitions
pub record AreNotes (notes : Notes) (definitions : List (List ℕ × Spans)) : Type 0 where
  pub events : (label : List ℕ) → unwrap_or (known_note notes.found label) [] ≡ events_of (note_of label definitions)
  pub kinded : (label : List ℕ) → AreKinded (note_of label definitions)

-- ---- what is behind a span, by the events behind its enter; the depth is how many spans in it are open

abbrev pub past_by : Kind → (depth : ℕ) → List Event → (rest : (depth : ℕ) → List Event) → List Event
past_by Enter depth es rest = rest (suc depth)
past_by Exit zero es rest = es
past_by Exit (suc depth) es rest = rest depth

-- the events behind its exit
abbrev pub events_past : (depth : ℕ) → List Event → List Event
events_past depth [] = []
events_past depth (e ∷ es) = past_by e.kind depth es (λ d. events_past d es)

abbrev pub left_by : Kind → (depth : ℕ) → Event → List ListShape → (rest : (depth : ℕ) → List ListShape → List ListShape) → List ListShape
left_by Enter depth e ls rest = rest (suc depth) (lists_behind ls e)
left_by Exit zero e ls rest = ls
left_by Exit (suc depth) e ls rest = rest depth ls

-- the lists among them, by those from the enter on
abbrev pub lists_past : (depth : ℕ) → List ListShape → List Event → List ListShape
lists_past depth ls [] = ls
lists_past depth ls (e ∷ es) = left_by e.kind depth e ls (λ d l. lists_past d l es)
