-- References that nothing defines, of bytes.
use Rattle.std.specs.Prelude.{ℕ, Bool, List}
use Rattle.markdown_base.specs.declared.configuration.ParseOptions.{ParseOptions}
use Rattle.mddocument.specs.DocumentEvents.{document_events_by}
use Rattle.mddocument.specs.Documents.{document}
use Rattle.mdgfm_documents.specs.Documents.{with_gfm}
use Rattle.mddocument_references.specs.References.{undefined_in}
use Rattle.mddocument_references.specs.declared.references.Reference.{Reference}

-- The references in a document that nothing defines, by which labels are defined: those among its events by these, with what GFM adds. Checks, calls of footnotes
-- and literals are none, as their brackets were not left
abbrev pub undefined_by : ParseOptions → (defined : List ℕ → Bool) → (bytes : List ℕ) → List Reference
undefined_by options defined bytes = undefined_in options.constructs bytes defined (with_gfm options bytes (document_events_by defined (document options bytes)))
