-- How the chunk of a line of a paragraph begins.
use Rattle.std.specs.Prelude.{[], ◌∷◌}
use Rattle.markdown_base.specs.declared.event.Name.TheVariants.{Data}
use Rattle.markdown_base.specs.declared.state.State.TheVariants.{Retry}
use Rattle.markdown_base.specs.declared.state.TheConstants.Name.{ParagraphInside}
use Rattle.mdconstructs_tables.specs.Chunks.{chunk_before, connected, is_connected, last_event}
use Rattle.mdconstructs_tables.specs.Rows.{enter_link, links, write, Rows, row, when}
use Rattle.mdconstructs_tables.specs.Paragraphs.{text_link}

-- a chunk is entered, and linked to the one before in its paragraph
abbrev pub chunk_begins : {R D : Type 0} → Rows R D
chunk_begins =
    when is_connected (row (enter_link Data text_link ∷ links chunk_before last_event ∷ write connected ∷ []) (Retry ParagraphInside))
    (row (enter_link Data text_link ∷ write connected ∷ []) (Retry ParagraphInside))
