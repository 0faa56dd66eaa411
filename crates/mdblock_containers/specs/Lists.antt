-- What is said of a list by its events: whether it is tight or loose, its marker, and the number it starts with (CommonMark 0.31, 5.3). The parts
-- of a list are spans directly in it: its items, and line endings between them.
use Rattle.std.specs.Prelude.{ℕ, zero, suc, ◌+◌, ◌*◌, ◌-◌, ◌==◌, ◌&&◌, ◌||◌, not, nat_le, nat_lt, Bool, false, cond, List, [], ◌∷◌, drop, filter, find, length, map, slice_get, Option, None, Some, option_and_then}
use Rattle.std.specs.List.{list_any, take_while}
use Rattle.markdown_base.specs.declared.event.Event.{Event}
use Rattle.markdown_base.specs.declared.event.Kind.{Kind}
use Rattle.markdown_base.specs.declared.event.Kind.TheVariants.{Enter, Exit}
use Rattle.markdown_base.specs.declared.event.Name.{Name}
use Rattle.markdown_base.specs.declared.event.Name.TheVariants.{BlankLineEnding, BlockQuote, CodeFenced, CodeIndented, Definition, GfmFootnoteDefinition, GfmTable, HeadingAtx, HeadingSetext, HtmlFlow, ListItem, ListItemMarker, ListItemPrefix, ListItemValue, ListOrdered, ListUnordered, Paragraph, ThematicBreak}
use Rattle.markdown_base.specs.declared.event.Point.{Point}
use Rattle.markdown_base.specs.Events.{is_enter, same_name}
use Rattle.markdown_edits.specs.SpanWalks.{is_wanted}
use Rattle.mdblock_containers.specs.declared.lists.Marker.{Marker}
use Rattle.mdblock_containers.specs.declared.lists.Marker.TheVariants.{Dash, Parenthesis, Period, Plus, Star}

-- the names of lists, of their items, and of blocks
abbrev pub list_names : List Name
list_names = ListOrdered ∷ ListUnordered ∷ []

abbrev pub item_names : List Name
item_names = ListItem ∷ []

abbrev pub block_names : List Name
block_names = BlockQuote ∷ ListOrdered ∷ ListUnordered ∷ Paragraph ∷ HeadingAtx ∷ HeadingSetext ∷ CodeIndented ∷ CodeFenced ∷ HtmlFlow ∷ ThematicBreak ∷ Definition ∷ GfmTable ∷ GfmFootnoteDefinition ∷ []

-- An event, and the events behind it
pub record Met : Type 0 where
  pub event : Event
  pub behind : List Event

-- The enters and exits of the spans directly in a span, by the events behind its enter: those with no open span around them, up to the exit of the
-- span itself. The depth is how many spans are open
abbrev pub directly_by : Kind → (depth : ℕ) → Met → (rest : (depth : ℕ) → List Met) → List Met
directly_by Enter zero here rest = here ∷ rest 1
directly_by Enter (suc depth) here rest = rest (suc (suc depth))
directly_by Exit zero here rest = []
directly_by Exit (suc zero) here rest = here ∷ rest 0
directly_by Exit (suc (suc depth)) here rest = rest (suc depth)

abbrev pub directly_from : (depth : ℕ) → List Event → List Met
directly_from depth [] = []
directly_from depth (e ∷ es) = directly_by e.kind depth (record { event = e; behind = es }) (λ d. directly_from d es)

abbrev pub directly_in : List Event → List Met
directly_in events = directly_from 0 events

-- A blank line behind a block that ends at a place: one that begins there or later. The line ending of a line in which a block ends is that of no
-- blank line, also if nothing is in the block, as in an item of a marker alone
abbrev pub is_blank_behind : Point → Event → Bool
is_blank_behind end e = is_enter e.kind && (same_name e.name BlankLineEnding && (nat_lt end.line e.point.line || (end.column == 1)))

-- Behind a place comes a span of these names, and before the first one a blank line
abbrev pub is_apart_behind : List Name → Point → List Event → Bool
is_apart_behind names end es = list_any (λ f. is_wanted names f.name) es && list_any (is_blank_behind end) (take_while (λ f. not (is_wanted names f.name)) es)

-- some span of these names is followed by another, and between the two is a blank line
abbrev pub is_apart : List Name → List Event → Bool
is_apart names [] = false
is_apart names (e ∷ es) = (is_wanted names e.name && is_apart_behind names e.point es) || is_apart names es

-- Two of the spans of these names directly in a span have a blank line between them, by the events behind its enter. Unist calls a list spread by
-- its items, and an item by its blocks
abbrev pub is_spread : List Name → List Event → Bool
is_spread names events = is_apart names (map (λ m. m.event) (directly_in events))

-- the items of a list
abbrev pub items_in : List Event → List Met
items_in events = filter (λ m. is_enter m.event.kind && same_name m.event.name ListItem) (directly_in events)

-- "A list is loose if any of its constituent list items are separated by blank lines, or if any of its constituent list items directly contain two
-- block-level elements with a blank line between them. Otherwise a list is tight"
abbrev pub is_loose : List Event → Bool
is_loose events = is_spread item_names events || list_any (λ item. is_spread block_names item.behind) (items_in events)

-- the first span of a name directly in a span
abbrev pub first_in : Name → List Event → Option Met
first_in n events = find (λ m. same_name m.event.name n) (directly_in events)

-- a part of the prefix of a list's first item
abbrev pub in_first_prefix : Name → List Event → Option Met
in_first_prefix n events = option_and_then (λ item. option_and_then (λ prefix. first_in n prefix.behind) (first_in ListItemPrefix item.behind)) (first_in ListItem events)

-- "A bullet list marker is a `-`, `+`, or `*` character", and an ordered one ends in "either a `.` character or a `)` character" (5.2)
abbrev pub marker_of : ℕ → Option Marker
marker_of byte =
    cond (byte == 45) (Some Dash)
    (cond (byte == 43) (Some Plus)
    (cond (byte == 42) (Some Star)
    (cond (byte == 46) (Some Period)
    (cond (byte == 41) (Some Parenthesis) None))))

-- the marker of a list's first item: "two list items are of the same type if they begin with a list marker of the same type"
abbrev pub list_marker : (bytes : List ℕ) → List Event → Option Marker
list_marker bytes events = option_and_then (λ m. option_and_then marker_of (slice_get bytes m.event.point.index)) (in_first_prefix ListItemMarker events)

-- digits as a number, behind digits of this number
abbrev pub number_from : ℕ → List ℕ → ℕ
number_from n [] = n
number_from n (d ∷ ds) = number_from (10 * n + (d - 48)) ds

-- "a sequence of 1–9 arabic digits" (5.2) as a number
abbrev pub number_of : List ℕ → Option ℕ
number_of digits = cond (nat_le 1 (length digits) && nat_le (length digits) 9) (Some (number_from 0 digits)) None

abbrev pub is_digit : ℕ → Bool
is_digit b = nat_le 48 b && nat_le b 57

-- the digits from an index on
abbrev pub digits_at : (bytes : List ℕ) → (index : ℕ) → List ℕ
digits_at bytes index = take_while is_digit (drop index bytes)

-- "The start number of an ordered list is determined by the list number of its initial list item"
abbrev pub list_start : (bytes : List ℕ) → List Event → Option ℕ
list_start bytes events = option_and_then (λ m. number_of (digits_at bytes m.event.point.index)) (in_first_prefix ListItemValue events)

-- the events behind an enter of one of these names at an index, if one is there
abbrev pub behind_first : List Name → List Event → Option (List Event)
behind_first names [] = None
behind_first names (e ∷ es) = cond (is_enter e.kind && is_wanted names e.name) (Some es) None

abbrev pub behind_enter : List Name → (at : ℕ) → List Event → Option (List Event)
behind_enter names at events = behind_first names (drop at events)
