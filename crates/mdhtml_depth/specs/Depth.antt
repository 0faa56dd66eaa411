-- Events within a limit of depth: spans that make elements in one another, and the enters and exits of those that are too deep.
use Rattle.std.specs.Prelude.{ℕ, suc, ◌-◌, ◌&&◌, nat_le, not, Bool, true, cond, List, [], ◌∷◌, ◌++◌}
use Rattle.std.specs.List.{list_any}
use Rattle.markdown_base.specs.declared.event.Event.{Event}
use Rattle.markdown_base.specs.declared.event.Name.{Name}
use Rattle.markdown_base.specs.declared.event.Name.TheVariants.{BlockQuote, Emphasis, GfmStrikethrough, Link, ListOrdered, ListUnordered, Strong}
use Rattle.markdown_base.specs.Events.{is_enter, same_name}

-- Spans that make an element which others may be in, and that may be in one another. (An item is in its list, and makes one more element)
abbrev pub nesting_names : List Name
nesting_names = BlockQuote ∷ ListOrdered ∷ ListUnordered ∷ Emphasis ∷ Strong ∷ GfmStrikethrough ∷ Link ∷ []

abbrev pub nests : Name → Bool
nests n = list_any (λ nesting. same_name nesting n) nesting_names

-- how many such spans are around the span of an event, and how many are open behind the event, by how many are open in front of it
abbrev pub around : (opened : ℕ) → Event → ℕ
around opened e = cond (is_enter e.kind) opened (opened - 1)

abbrev pub behind : (opened : ℕ) → Event → ℕ
behind opened e = cond (nests e.name) (cond (is_enter e.kind) (suc opened) (opened - 1)) opened

-- An event enters or exits such a span, and so many are around it
abbrev pub is_deep : (limit opened : ℕ) → Event → Bool
is_deep limit opened e = nests e.name && nat_le limit (around opened e)

-- no span among events is too deep
abbrev pub has_depth : (limit opened : ℕ) → List Event → Bool
has_depth limit opened [] = true
has_depth limit opened (e ∷ es) = not (is_deep limit opened e) && has_depth limit (behind opened e) es

-- Events without the enters and exits of spans that are too deep; what is in these stays
abbrev pub kept : (limit opened : ℕ) → Event → List Event
kept limit opened e = cond (is_deep limit opened e) [] (e ∷ [])

abbrev pub within : (limit opened : ℕ) → List Event → List Event
within limit opened [] = []
within limit opened (e ∷ es) = kept limit opened e ++ within limit (behind opened e) es
