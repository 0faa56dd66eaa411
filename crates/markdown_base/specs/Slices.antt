-- Slices of a document: the bytes between two places, and the virtual bytes between them of tabs that the places cut.
use Rattle.std.specs.Prelude.{ℕ, ◌==◌, ◌&&◌, not, nat_lt, Bool, List, ◌++◌, length, filter, find, map, reverse, take, replicate, slice_get, slice_index, Option, option_and_then, if◌then◌else◌}
use Rattle.std.specs.List.{range_with_len}
use Rattle.markdown_base.specs.declared.event.Event.{Event}
use Rattle.markdown_base.specs.declared.event.Point.{Point}
use Rattle.markdown_base.specs.Events.{is_enter, same_name}
use Rattle.markdown_base.specs.Virtual.{point, virtual}
use Rattle.markdown_base.specs.Places.{lies_between, in_range}

-- how many virtual bytes between two places belong to the tab at an index; its first is the tab byte, and does not count
abbrev pub spaces_between : (t : ℕ) → List ℕ → (index : ℕ) → Point → Point → ℕ
spaces_between t bytes index p q = length (filter (λ s. (s.point.index == index) && (nat_lt 0 s.point.vs && in_range p q s)) (virtual t bytes))

-- a place cuts a tab: it is after the tab byte
abbrev pub cuts_tab : Point → Bool
cuts_tab p = nat_lt 0 p.vs

-- the place of a byte: its index, and number 0 if it is a tab (the order of places ignores lines and columns)
abbrev pub byte_place : (index : ℕ) → Point
byte_place index = point 1 1 index 0

-- the bytes whose places are between two places
abbrev pub bytes_between : List ℕ → Point → Point → List ℕ
bytes_between bytes p q = map (slice_index bytes) (filter (λ index. lies_between p q (byte_place index)) (range_with_len 0 (length bytes)))

-- how many virtual bytes of a tab that the start cuts are in the slice: its tab byte is not
abbrev pub spaces_before : (t : ℕ) → List ℕ → Point → Point → ℕ
spaces_before t bytes p q = if cuts_tab p then spaces_between t bytes p.index p q else 0

-- how many virtual bytes of a tab that only the end cuts are in the slice, not counting its tab byte
abbrev pub spaces_after : (t : ℕ) → List ℕ → Point → Point → ℕ
spaces_after t bytes p q = if cuts_tab q && not (cuts_tab p && (p.index == q.index)) then spaces_between t bytes q.index p q else 0

-- a slice as a text: its spaces before, its bytes, its spaces after
abbrev pub slice_text : ℕ → List ℕ → ℕ → List ℕ
slice_text before bytes after = replicate before 32 ++ (bytes ++ replicate after 32)

-- an event enters a span of another event's name
abbrev pub is_enter_of : Event → Event → Bool
is_enter_of event exit = is_enter event.kind && same_name event.name exit.name

-- the nearest enter before an exit with its name
abbrev pub nearest_enter : List Event → ℕ → Option Event
nearest_enter events index = option_and_then (λ exit. find (λ event. is_enter_of event exit) (reverse (take index events))) (slice_get events index)
