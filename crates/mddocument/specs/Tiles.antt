-- The innermost spans of a document's events stand end to end, so their byte ranges tile the document.
use Rattle.std.specs.Prelude.{◌≡◌, ℕ, Bool, List, [], ◌∷◌}
use Rattle.markdown_base.specs.declared.configuration.ParseOptions.{ParseOptions}
use Rattle.markdown_base.specs.declared.event.Event.{Event}
use Rattle.markdown_base.specs.declared.event.Point.{Point}
use Rattle.markdown_base.specs.Virtual.{point, document_end, virtual}
use Rattle.markdown_tokenizer.specs.Text.{IsDocument}
use Rattle.mdconstructs_machines.specs.Innermost.{AccountFor, innermost_spans}
use Rattle.mddocument.specs.Documents.{document, AreEventsOf}
use Rattle.mddocument.specs.declared.choice.Which.{Which}

-- Spans, each by its two places, stand end to end from a place to another: the first begins at the one, each other where the span before
-- it ends, and the last ends at the other
abbrev pub StandEndToEnd : (from : Point) → List (Point × Point) → (to : Point) → Type 0
StandEndToEnd from [] to = from ≡ to
StandEndToEnd from (span ∷ spans) to = (span.0 ≡ from) × StandEndToEnd span.1 spans to

-- The innermost spans of events tile a document
pub record Tile (t : ℕ) (bytes : List ℕ) (events : List Event) : Type 0 where
  -- they stand end to end, from the first byte to the end
  pub end_to_end : StandEndToEnd (point 1 1 0 0) (innermost_spans events) (document_end t bytes)
  -- each virtual byte is in exactly one of them
  pub account : AccountFor events bytes (virtual t bytes)

-- what is printed of a document by this machine, flat or deep, has innermost spans that tile it
abbrev pub TilesDocuments : Which → Type 0
TilesDocuments which = (options : ParseOptions) (bytes : List ℕ) (deep : Bool) (events : List Event) → IsDocument (document options bytes)
    → AreEventsOf deep which options bytes events → Tile options.tab_size bytes events
