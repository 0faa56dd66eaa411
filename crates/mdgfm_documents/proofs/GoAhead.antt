-- The events of a document go ahead, with checks, calls and literals too: in order, at places of the document, and over line endings.
use Rattle.std.proofs.Common.{ℕ, ◌≤◌, List, length, Bool, true, false, cond, refl, arith}
use Rattle.std.specs.List.{AllByRecursion}
use Rattle.markdown_base.proofs.Common.{every-map}
use Rattle.markdown_base.specs.declared.configuration.ParseOptions.{ParseOptions}
use Rattle.markdown_base.specs.declared.event.Event.{Event}
use Rattle.markdown_base.specs.declared.event.Point.{Point}
use Rattle.markdown_base.specs.Virtual.{point}
use Rattle.markdown_tokenizer.specs.Text.{IsDocument}
use Rattle.mddocument.specs.Documents.{document}
use Rattle.mdgfm_documents.specs.Documents.{gfm_events}
use Rattle.mdgfm_footnotes.specs.CallEvents.{call_events_by, with_calls}
use Rattle.mdgfm_footnotes.proofs.Ordered.{calls-go}
use Rattle.mdgfm_literals.proofs.Order.{Goes, pairs-go-all}
use Rattle.mdgfm_literals.specs.LiteralEvents.{events_with as with_literals, literal_events}
use Rattle.mdgfm_literals.specs.Stretches.{literals_of}
use Rattle.mdgfm_tasks.specs.declared.awaited.Awaited.TheVariants.{Nothing}
use Rattle.mdgfm_tasks.specs.TaskEvents.{events_with as with_tasks, task_events}
use Rattle.mdgfm_documents.proofs.CallsAhead.{calls-ended, calls-inside}
use Rattle.mdgfm_documents.proofs.Ended.{AreEnded}
use Rattle.mdgfm_documents.proofs.LiteralsAhead.{literals-ended, literals-go, literals-inside, others-found, places-found}
use Rattle.mdgfm_documents.proofs.DocumentAhead.{document-ended, document-inside}
use Rattle.mdgfm_documents.proofs.Whole.{own, well-formed}
use Rattle.mddocument.specs.DocumentEvents.{document_events, is_defined_in}
use Rattle.markdown_tokenizer.specs.Text.{Given}
use Rattle.mdgfm_documents.proofs.CheckOrder.{tasks-go}
use Rattle.mdgfm_documents.proofs.TasksAhead.{AreInside, IsInside, tasks-ended, tasks-inside}

abbrev pub start : Point
start = point 1 1 0 0

-- events go ahead: in order, within a document, and over line endings
pub record IsAhead (tab most : ℕ) (es : List Event) : Type 0 where
  pub goes : Goes start es
  pub inside : AreInside tab most es
  pub ended : AreEnded es

tasks-ahead : (options : ParseOptions) (bytes : List ℕ) (es : List Event) → IsAhead options.tab_size (length bytes) es → IsAhead options.tab_size (length bytes) (task_events options bytes es)
tasks-ahead options bytes es h = by options.constructs.gfm_task_list_item
  where
    by : (t : Bool) → IsAhead options.tab_size (length bytes) (cond t (with_tasks options.tab_size bytes 0 Nothing es) es)
    by true = record {
      goes = tasks-go options.tab_size bytes start 0 Nothing es h.goes;
      inside = tasks-inside options.tab_size bytes (length bytes) 0 Nothing es h.inside;
      ended = tasks-ended options.tab_size bytes 0 Nothing es h.ended;
    }
    by false = h

-- events that are ahead are within the document
up-to : (tab : ℕ) (bytes : List ℕ) (es : List Event) → IsAhead tab (length bytes) es → AllByRecursion (λ (e : Event). e.point.index ≤ length bytes) es
up-to tab bytes es h = every-map (λ (e : Event). IsInside tab (length bytes) e.point) (λ (e : Event). e.point.index ≤ length bytes) (λ e k. k.0) es h.inside

calls-ahead : (noted : (label : List ℕ) → Bool) (options : ParseOptions) (bytes : List ℕ) (es : List Event) → IsAhead options.tab_size (length bytes) es
    → IsAhead options.tab_size (length bytes) (call_events_by noted options bytes es)
calls-ahead noted options bytes es h = by options.constructs.gfm_label_start_footnote
  where
    by : (t : Bool) → IsAhead options.tab_size (length bytes) (cond t (with_calls noted options.tab_size bytes es) es)
    by true = record {
      goes = calls-go options.tab_size bytes noted es h.goes;
      inside = calls-inside options.tab_size (length bytes) bytes noted es (up-to options.tab_size bytes es h) h.inside;
      ended = calls-ended options.tab_size bytes noted es h.ended;
    }
    by false = h

literals-ahead : (options : ParseOptions) (bytes : List ℕ) (es : List Event) → IsAhead options.tab_size (length bytes) es → IsAhead options.tab_size (length bytes) (literal_events options bytes es)
literals-ahead options bytes es h = by options.constructs.gfm_autolink_literal
  where
    by : (t : Bool) → IsAhead options.tab_size (length bytes) (cond t (with_literals options.tab_size bytes 0 0 start (literals_of bytes true 0 0 es) es) es)
    by true = record {
      goes = literals-go options.tab_size bytes start es refl refl h.goes;
      inside = literals-inside options.tab_size (length bytes) bytes 0 0 start (literals_of bytes true 0 0 es) es (omega arith, omega arith) (places-found (length bytes) bytes es (up-to options.tab_size bytes es h)) h.inside;
      ended = literals-ended options.tab_size bytes 0 0 start (literals_of bytes true 0 0 es) es (others-found bytes options.tab_size es) h.ended;
    }
    by false = h

module _ (options : ParseOptions) (bytes : List ℕ) (is : IsDocument (document options bytes)) where
  abbrev g : Given
  g = document options bytes

  document-ahead : IsAhead options.tab_size (length bytes) (document_events g)
  document-ahead = record {
    goes = pairs-go-all start (document_events g) refl refl (well-formed options bytes is).in_order.0;
    inside = document-inside g is (is_defined_in g);
    ended = document-ended g is (is_defined_in g);
  }

  pub gfm-ahead : IsAhead options.tab_size (length bytes) (gfm_events options bytes)
  gfm-ahead =
      let tasks = task_events options bytes (document_events g) in
      let noted = own bytes (document_events g) in
      literals-ahead options bytes (call_events_by noted options bytes tasks) (calls-ahead noted options bytes tasks (tasks-ahead options bytes (document_events g) document-ahead))
