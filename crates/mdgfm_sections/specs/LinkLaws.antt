-- Links of documents.
use Rattle.std.specs.Prelude.{ℕ, List, []}
use Rattle.markdown_base.specs.declared.configuration.ParseOptions.{ParseOptions}
use Rattle.markdown_tokenizer.specs.Text.{IsDocument}
use Rattle.mddocument.specs.Documents.{document}
use Rattle.mdgfm_documents.specs.Documents.{gfm_events}
use Rattle.mdgfm_documents.specs.LinkLaws.{AreInNoLink, further_links}

-- No call of a footnote and no autolink literal of a document is in a link
abbrev pub NoneIsInLinks : Type 0
NoneIsInLinks = (options : ParseOptions) (bytes : List ℕ) → IsDocument (document options bytes) → AreInNoLink further_links [] (gfm_events options bytes)
