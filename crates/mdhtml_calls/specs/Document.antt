-- HTML of a document.
use Rattle.std.specs.Prelude.{ℕ, List}
use Rattle.markdown_base.specs.declared.configuration.Options.{Options}
use Rattle.mdgfm_documents.specs.Documents.{gfm_events}
use Rattle.mdhtml_depth.specs.Depth.{within}
use Rattle.mdhtml_document.specs.Html.{html_of_events}

-- of the document's events, with tables, footnotes, checks of task list items and autolink literals, if these are on
abbrev pub html_of_document : Options → List ℕ → List ℕ
html_of_document options bytes = html_of_events options.compile bytes options.parse.tab_size (gfm_events options.parse bytes)

-- HTML within a limit of depth: of the events without the enters and exits of spans that so many are around
abbrev pub html_within : (limit : ℕ) → Options → List ℕ → List ℕ
html_within limit options bytes = html_of_events options.compile bytes options.parse.tab_size (within limit 0 (gfm_events options.parse bytes))
