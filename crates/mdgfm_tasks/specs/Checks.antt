-- The check at the front of events: text with the bytes of a check, where the text of an item's first block is awaited.
use Rattle.std.specs.Prelude.{ℕ, ◌+◌, ◌-◌, ◌==◌, ◌&&◌, ◌||◌, nat_le, Bool, true, false, cond, List, [], ◌∷◌, drop, take, Option, Some, None, option_map}
use Rattle.std.specs.List.{prefix_len}
use Rattle.markdown_base.specs.declared.event.Event.{Event}
use Rattle.markdown_base.specs.declared.event.Name.TheVariants.{Data, Link}
use Rattle.mdblock_lines.specs.Lines.{is_in_line}
use Rattle.mdblock_tables.specs.declared.tasks.Check.{Check}
use Rattle.mdblock_tables.specs.Tasks.{check_at}
use Rattle.mdgfm_events.specs.Spans.{span_end, span_size}
use Rattle.mdgfm_tasks.specs.declared.awaited.Awaited.{Awaited}
use Rattle.mdgfm_tasks.specs.declared.awaited.Awaited.TheVariants.{Nothing, Block, DefinitionEnd, Text}
use Rattle.mdgfm_tasks.specs.declared.checks.Covered.{Covered}
use Rattle.mdgfm_tasks.specs.declared.checks.Found.{Found}
use Rattle.mdgfm_tasks.specs.Awaits.{awaited_behind, enters, exits}

-- the line of an index from there on, without its line ending
abbrev pub line_from : List ℕ → (at : ℕ) → List ℕ
line_from bytes at = let rest = drop at bytes in take (prefix_len is_in_line rest) rest

-- two events are a span of data
abbrev pub is_data : Event → Event → Bool
is_data e f = enters Data e && exits Data f

abbrev pub two_more : Covered → Covered
two_more c = record c { size = c.size + 2 }

-- Spans of data at the front of events, up to the one that ends at least so many bytes behind an index. Brackets are spans of their own
abbrev pub data_over : (at many : ℕ) → List Event → Option Covered
data_over at many [] = None
data_over at many (e ∷ []) = None
data_over at many (e ∷ f ∷ es) =
    cond (is_data e f) (cond (nat_le many (f.point.index - at)) (Some (record { size = 2; end = f.point })) (option_map two_more (data_over at many es))) None

-- A link that has as many bytes from an index on, by its enter and the events behind that: `[x]` alone can be one, if this label is defined
abbrev pub linked : (at many : ℕ) → Event → List Event → Option Covered
linked at many e es =
    let end = span_end e.point 0 es in cond ((end.index - at) == many) (Some (record { size = span_size 0 es + 1; end = end })) None

-- data or a link over so many bytes
abbrev pub text_over : (at many : ℕ) → List Event → Option Covered
text_over at many [] = None
text_over at many (e ∷ es) = cond (enters Link e) (linked at many e es) (data_over at many (e ∷ es))

-- a check, and what has its bytes
abbrev pub found : Check → Option Covered → Option Found
found check None = None
found check (Some text) = Some (record { check = check; text = text })

-- The check at the front of events
abbrev pub check_in : List ℕ → List Event → Option Found
check_in bytes [] = None
check_in bytes (e ∷ es) = elim (check_at (line_from bytes e.point.index)) [
  | None ↦ None
  | Some check ↦ found check (text_over e.point.index (check.columns + 3) (e ∷ es))
]

-- the check there, by what is awaited
abbrev pub check_of : List ℕ → Awaited → List Event → Option Found
check_of bytes Text es = check_in bytes es
check_of bytes Nothing es = None
check_of bytes Block es = None
check_of bytes DefinitionEnd es = None

-- there is one
abbrev pub is_found : Option Found → Bool
is_found None = false
is_found (Some f) = true

-- a check is among events
abbrev pub has_check : List ℕ → Awaited → List Event → Bool
has_check bytes a [] = false
has_check bytes a (e ∷ es) = is_found (check_of bytes a (e ∷ es)) || has_check bytes (awaited_behind a e) es
