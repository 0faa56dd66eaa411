-- Inner: what a walk over the parts of a span knows. No public contract cites this file.
use Rattle.std.specs.Prelude.{ℕ, zero, suc, ◌+◌, ◌&&◌, ◌||◌, Bool, false, cond, List, Option, None, Some}
use Rattle.std.specs.List.{list_any}
use Rattle.markdown_base.specs.declared.event.Event.{Event}
use Rattle.markdown_base.specs.declared.event.Kind.{Kind}
use Rattle.markdown_base.specs.declared.event.Kind.TheVariants.{Enter, Exit}
use Rattle.markdown_base.specs.declared.event.Name.{Name}
use Rattle.markdown_base.specs.declared.event.Name.TheVariants.{ListItem}
use Rattle.markdown_base.specs.Events.{is_enter, same_name}
use Rattle.markdown_edits.specs.SpanWalks.{is_wanted}
use Rattle.mdblock_containers.specs.declared.lists.Known.{Known}
use Rattle.mdblock_containers.specs.declared.lists.Known.TheVariants.{Apart, Ended, Nothing}
use Rattle.mdblock_containers.specs.Lists.{is_apart, is_apart_behind, is_blank_behind}

-- how many spans are open around the span of an enter or exit, by how many were open before it; None if it exits a span around all
abbrev pub depth_at : Kind → ℕ → Option ℕ
depth_at Enter depth = Some depth
depth_at Exit zero = None
depth_at Exit (suc depth) = Some depth

-- how many are open behind it
abbrev pub depth_next : Kind → ℕ → ℕ
depth_next Enter around = around + 1
depth_next Exit around = around

-- what is known behind an event of no span of the names
abbrev pub known_behind : Known → Event → Known
known_behind Nothing e = Nothing
known_behind (Ended end) e = cond (is_blank_behind end e) Apart (Ended end)
known_behind Apart e = Apart

abbrev pub known_next : List Name → Known → Event → Known
known_next names known e = cond (is_wanted names e.name) (Ended e.point) (known_behind known e)

-- a blank line came, and this is another span of the names
abbrev pub is_found : List Name → Known → Event → Bool
is_found names Apart e = is_wanted names e.name
is_found names _ e = false

-- what is known, and these events behind it, have a blank line between two spans of the names
abbrev pub apart_from : List Name → Known → List Event → Bool
apart_from names Nothing es = is_apart names es
apart_from names (Ended end) es = is_apart_behind names end es || is_apart names es
apart_from names Apart es = list_any (λ f. is_wanted names f.name) es || is_apart names es

-- an event is the enter of an item
abbrev pub is_item : Event → Bool
is_item e = is_enter e.kind && same_name e.name ListItem
