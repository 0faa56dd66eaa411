-- What is promised of the definitions among the events of documents.
use Rattle.std.specs.Prelude.{◌*◌, ◌≤◌, length}
use Rattle.markdown_tokenizer.specs.Text.{Given, IsDocument}
use Rattle.mddocument.specs.DocumentEvents.{document_events}
use Rattle.mddocument_link_targets.specs.Costs.{DefinitionsHoldNone, definitions_cost}

-- No link reference definition is in another one (4.7): so it is of each document
abbrev pub NoDefinitionInADefinition : Type 0
NoDefinitionInADefinition = (g : Given) → IsDocument g → DefinitionsHoldNone (document_events g)

-- So finding all definitions of a document takes at most four turns for each of its events
abbrev pub DefinitionsOfDocumentsAreLinear : Type 0
DefinitionsOfDocumentsAreLinear = (g : Given) → IsDocument g → definitions_cost (document_events g) ≤ 4 * length (document_events g)
