-- What is awaited behind an event, on the way to the check of an item: "A task list item is a list item where the first block in it is a paragraph which
-- begins with a task list item marker" (GFM 0.29, 5.3). Prefixes, white space, blank lines and definitions are no blocks.
use Rattle.std.specs.Prelude.{◌&&◌, not, Bool, cond, [], ◌∷◌}
use Rattle.std.specs.List.{list_any}
use Rattle.markdown_base.specs.declared.event.Event.{Event}
use Rattle.markdown_base.specs.declared.event.Name.{Name}
use Rattle.markdown_base.specs.declared.event.Name.TheVariants.{BlankLineEnding, BlockQuoteMarker, BlockQuotePrefix, Definition, LineEnding, ListItemPrefix, Paragraph, SpaceOrTab}
use Rattle.markdown_base.specs.Events.{is_enter, same_name}
use Rattle.mdgfm_tasks.specs.declared.awaited.Awaited.{Awaited}
use Rattle.mdgfm_tasks.specs.declared.awaited.Awaited.TheVariants.{Nothing, Block, DefinitionEnd, Text}

-- an event enters a span of this name
abbrev pub enters : Name → Event → Bool
enters n e = is_enter e.kind && same_name e.name n

-- an event exits one
abbrev pub exits : Name → Event → Bool
exits n e = not (is_enter e.kind) && same_name e.name n

-- a span of this name may stand between the prefix of an item and its first block
abbrev pub is_passed : Name → Bool
is_passed n = list_any (λ m. same_name n m) (SpaceOrTab ∷ LineEnding ∷ BlankLineEnding ∷ BlockQuotePrefix ∷ BlockQuoteMarker ∷ [])

-- by what was awaited. White space may stand before the text of a paragraph too
abbrev pub awaited_next : Awaited → Event → Awaited
awaited_next Nothing e = Nothing
awaited_next Block e = cond (is_passed e.name) Block (cond (enters Definition e) DefinitionEnd (cond (enters Paragraph e) Text Nothing))
awaited_next DefinitionEnd e = cond (exits Definition e) Block DefinitionEnd
awaited_next Text e = cond (same_name e.name SpaceOrTab) Text Nothing

-- Behind the prefix of an item its first block is awaited
abbrev pub awaited_behind : Awaited → Event → Awaited
awaited_behind a e = cond (exits ListItemPrefix e) Block (awaited_next a e)
