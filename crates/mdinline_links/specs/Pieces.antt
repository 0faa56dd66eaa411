-- Inner: the outermost spans of a text, and what comes in the place of each. No public contract cites this file.
use Rattle.std.specs.Prelude.{ℕ, ◌≤◌, Bool, cond, List, [], ◌∷◌, ◌++◌}
use Rattle.std.specs.List.{between}
use Rattle.markdown_base.specs.declared.event.Event.{Event}
use Rattle.markdown_base.specs.declared.event.Kind.TheVariants.{Enter, Exit}
use Rattle.markdown_base.specs.declared.event.Name.{Name}
use Rattle.markdown_base.specs.declared.event.Name.TheVariants.{Image, Label, LabelText, Link}
use Rattle.mdinline_emphasis.specs.Emphasis.{unlinked_event}
use Rattle.mdinline_emphasis.specs.Places.{HasRoom, markers}
use Rattle.mdinline_emphasis.specs.RunEdits.{in_place}
use Rattle.mdinline_emphasis.specs.Searches.{as_run}
use Rattle.mdinline_links.specs.declared.pieces.Fate.{Fate}
use Rattle.mdinline_links.specs.declared.pieces.Fate.TheVariants.{Same, AsData, Opens, Ends, Tail, Waits, Paired}
use Rattle.mdinline_links.specs.declared.pieces.Piece.{Piece}
use Rattle.mdinline_links.specs.Linked.{as_data, last_place}

-- the name of an image's span, or a link's
abbrev pub whole : Bool → Name
whole image = cond image Image Link

-- a bracket that makes one: its span and its label begin, and its text does, if it has one
abbrev pub opening_events : (image filled : Bool) → List Event → List Event
opening_events image filled [] = []
opening_events image filled (e ∷ es) =
    unlinked_event Enter (whole image) e.point
    ∷ unlinked_event Enter Label e.point
    ∷ ((e ∷ es) ++ cond filled (unlinked_event Enter LabelText (last_place e.point es) ∷ []) [])

-- the end of a label, behind these events: its text ends, if it has one, where they do, and the label does; and the span, if no tail is behind
abbrev pub closing_events : (before : List Event) → (image filled last : Bool) → List Event → List Event
closing_events before image filled last [] = []
closing_events before image filled last (e ∷ es) =
    cond filled (unlinked_event Exit LabelText (last_place e.point before) ∷ []) []
    ++ ((e ∷ es) ++ unlinked_event Exit Label (last_place e.point es) ∷ cond last (unlinked_event Exit (whole image) (last_place e.point es) ∷ []) [])

-- a tail, behind which the span ends
abbrev pub tail_events : (image : Bool) → List Event → List Event
tail_events image [] = []
tail_events image (e ∷ es) = (e ∷ es) ++ unlinked_event Exit (whole image) (last_place e.point es) ∷ []

-- what comes in the place of a span, behind these events
abbrev pub in_fate : (before : List Event) → Fate → List Event → List Event
in_fate before Same span = span
in_fate before AsData span = as_data span
in_fate before (Opens image filled) span = opening_events image filled span
in_fate before (Ends image filled last) span = closing_events before image filled last span
in_fate before (Tail image) span = tail_events image span
in_fate before Waits span = span
in_fate before (Paired d) span = in_place (as_run d)

-- the span of a piece
abbrev pub span_of : List Event → Piece → List Event
span_of es p = between p.start p.end es

abbrev pub put : List Event → (before : List Event) → Piece → List Event
put es before p = in_fate before p.fate (span_of es p)

-- what comes in the place of pieces, behind these events
abbrev pub written_from : List Event → (before : List Event) → List Piece → List Event
written_from es before [] = []
written_from es before (p ∷ ps) = let here = put es before p in here ++ written_from es (before ++ here) ps

-- a run with its pairs has room for its markers
abbrev pub HasRoomFor : Fate → Type 0
HasRoomFor (Paired d) = HasRoom (markers (as_run d)) d.start
HasRoomFor _ = Unit {0}

-- a piece is one of a list of so many events
abbrev pub Fits : ℕ → Piece → Type 0
Fits n p = (p.start ≤ p.end) × (p.end ≤ n) × HasRoomFor p.fate
