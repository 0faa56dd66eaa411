-- Which events can be packed.
use Rattle.std.specs.Prelude.{ℕ, ◌-◌, ◌^◌, ◌&&◌, nat_lt, Bool, true, List, Option, Some, None}
use Rattle.std.specs.List.{list_all}
use Rattle.markdown_base.specs.declared.event.Event.{Event}
use Rattle.markdown_base.specs.declared.event.Link.{Link}
use Rattle.markdown_base.specs.declared.event.Point.{Point}

-- a place fits: its line, column and index fit 32 bits, and its number in a tab fits 8
abbrev pub point_fits : Point → Bool
point_fits p = (nat_lt p.line (2 ^ 32) && nat_lt p.column (2 ^ 32)) && (nat_lt p.index (2 ^ 32) && nat_lt p.vs (2 ^ 8))

-- an end of a link fits: it fits 32 bits, and is not the last such number, which stands for no end
abbrev pub end_fits : Option ℕ → Bool
end_fits None = true
end_fits (Some k) = nat_lt k (2 ^ 32 - 1)

abbrev pub link_fits : Option Link → Bool
link_fits None = true
link_fits (Some l) = end_fits l.previous && end_fits l.next

-- an event fits: its place does, and the ends of its link do, if it has one
abbrev pub event_fits : Event → Bool
event_fits e = point_fits e.point && link_fits e.link

abbrev pub events_fit : List Event → Bool
events_fit events = list_all event_fits events
