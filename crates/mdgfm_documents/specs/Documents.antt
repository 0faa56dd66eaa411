-- The events of a document with what GFM adds by rewriting events: checks, calls of footnotes and literals. Tables and footnote definitions are in the document's own.
use Rattle.std.specs.Prelude.{ℕ, Bool, List}
use Rattle.markdown_base.specs.declared.configuration.ParseOptions.{ParseOptions}
use Rattle.markdown_base.specs.declared.event.Event.{Event}
use Rattle.mddocument.specs.DocumentEvents.{document_events}
use Rattle.mddocument.specs.Documents.{document}
use Rattle.mdgfm_footnotes.specs.CallEvents.{call_events_by, is_one_of, labels_in}
use Rattle.mdgfm_literals.specs.LiteralEvents.{literal_events}
use Rattle.mdgfm_tasks.specs.TaskEvents.{task_events}

-- events with checks of task list items, then with calls of the footnotes that are noted, and then with autolink literals, if these are on (GFM 0.29, 5.3 and 6.9)
abbrev pub with_gfm_by : (noted : (label : List ℕ) → Bool) → ParseOptions → List ℕ → List Event → List Event
with_gfm_by noted options bytes events = literal_events options bytes (call_events_by noted options bytes (task_events options bytes events))

-- noted are the labels of their own footnote definitions
abbrev pub with_gfm : ParseOptions → List ℕ → List Event → List Event
with_gfm options bytes events = with_gfm_by (is_one_of (labels_in bytes events)) options bytes events

-- the document's events with them
abbrev pub gfm_events : ParseOptions → List ℕ → List Event
gfm_events options bytes = with_gfm options bytes (document_events (document options bytes))
