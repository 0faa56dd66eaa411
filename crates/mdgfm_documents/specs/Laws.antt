-- Laws of the events of whole documents with checks, calls and literals.
use Rattle.std.specs.Prelude.{◌≡◌, ℕ, Bool, true, false, List, ◌∷◌, ◌++◌}
use Rattle.std.specs.List.{AllByRecursion}
use Rattle.markdown_base.specs.declared.configuration.ParseOptions.{ParseOptions}
use Rattle.markdown_base.specs.declared.event.Event.{Event}
use Rattle.markdown_base.specs.declared.event.Name.{Name}
use Rattle.markdown_base.specs.declared.event.Name.TheVariants.{Data}
use Rattle.markdown_base.specs.Events.{IsBalanced, IsInOrder}
use Rattle.markdown_tokenizer.specs.Text.{IsDocument}
use Rattle.mddocument.specs.DocumentEvents.{document_events}
use Rattle.mddocument.specs.Documents.{document}
use Rattle.mdgfm_footnotes.specs.Laws.{call_names}
use Rattle.mdgfm_literals.specs.Laws.{literal_names}
use Rattle.mdgfm_tasks.specs.Laws.{check_names}
use Rattle.mdgfm_documents.specs.Documents.{gfm_events, with_gfm}

-- Without these options the events are the document's
abbrev pub OffIsDocument : Type 0
OffIsDocument =
    (options : ParseOptions) (bytes : List ℕ) → options.constructs.gfm_task_list_item ≡ false
    → options.constructs.gfm_label_start_footnote ≡ false → options.constructs.gfm_autolink_literal ≡ false → gfm_events options bytes ≡ document_events (document options bytes)

-- The events of each document are balanced
abbrev pub GfmIsBalanced : Type 0
GfmIsBalanced = (options : ParseOptions) (bytes : List ℕ) → IsDocument (document options bytes) → IsBalanced (gfm_events options bytes)

-- Events in order of place stay so
abbrev pub OrderIsKept : Type 0
OrderIsKept = (options : ParseOptions) (bytes : List ℕ) (events : List Event) → IsInOrder bytes events → IsInOrder bytes (with_gfm options bytes events)

-- So the events of each document are in order
abbrev pub GfmIsInOrder : Type 0
GfmIsInOrder = (options : ParseOptions) (bytes : List ℕ) → IsDocument (document options bytes) → IsInOrder bytes (gfm_events options bytes)

-- A test of names that the document's events pass, and the names of checks, calls and literals, is passed by all events: these bring no other new
-- names
abbrev pub GfmIsNamed : Type 0
GfmIsNamed = (test : Name → Bool) (options : ParseOptions) (bytes : List ℕ) → AllByRecursion (λ n. test n ≡ true) (check_names ++ (call_names ++ Data ∷ literal_names))
    → AllByRecursion (λ e. test e.name ≡ true) (document_events (document options bytes)) → AllByRecursion (λ e. test e.name ≡ true) (gfm_events options bytes)
