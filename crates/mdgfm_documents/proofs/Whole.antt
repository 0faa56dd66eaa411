-- What holds of checks, of calls and of literals holds of all three, and so of whole documents.
use Rattle.std.proofs.Common.{◌≡◌, ◌∙◌, ◌++◌, ℕ, Bool, true, false, cond, List, ◌∷◌, ap, refl}
use Rattle.markdown_base.specs.declared.configuration.ParseOptions.{ParseOptions}
use Rattle.markdown_base.specs.declared.event.Event.{Event}
use Rattle.markdown_base.specs.declared.event.Name.{Name}
use Rattle.markdown_base.specs.declared.event.Name.TheVariants.{Data}
use Rattle.markdown_base.specs.Events.{IsBalanced, IsInOrder}
use Rattle.markdown_tokenizer.proofs.Positions.Order.{every-back, every-front}
use Rattle.markdown_tokenizer.specs.Engine.{IsWellFormed}
use Rattle.markdown_tokenizer.specs.Text.{IsDocument}
use Rattle.mddocument.proofs.InContainers.InlineHolds.{inlines-hold-text}
use Rattle.mddocument.proofs.InContainers.Skeletons.{skeleton-laws}
use Rattle.mddocument.proofs.InContainers.TextsFormed.{events-formed}
use Rattle.mddocument.proofs.InContainers.Tight.{events-tight}
use Rattle.mddocument.specs.DocumentEvents.{document_events}
use Rattle.mddocument.specs.Documents.{document}
use Rattle.mdgfm_footnotes.specs.CallEvents.{call_events_by, is_one_of, labels_in, with_calls}
use Rattle.mdgfm_footnotes.specs.Laws.{call_names}
use Rattle.mdgfm_footnotes.proofs.Named.{names-by as calls-named}
use Rattle.mdgfm_footnotes.proofs.Ordered.{order-by as calls-in-order}
use Rattle.mdgfm_footnotes.proofs.Unchanged.{balance-by as calls-balanced, off-by as calls-off}
use Rattle.mdgfm_literals.proofs.Names.{names-kept as literals-named}
use Rattle.mdgfm_literals.proofs.OrderLaw.{order-kept as literals-in-order}
use Rattle.mdgfm_literals.proofs.Unchanged.{balance-kept as literals-balanced, off-changes-nothing as literals-off}
use Rattle.mdgfm_literals.specs.LiteralEvents.{literal_events}
use Rattle.mdgfm_literals.specs.Laws.{literal_names}
use Rattle.mdgfm_tasks.proofs.Balance.{balance-kept as checks-balanced}
use Rattle.mdgfm_tasks.proofs.Names.{names-kept as checks-named}
use Rattle.mdgfm_tasks.proofs.Unchanged.{off-changes-nothing as checks-off}
use Rattle.mdgfm_tasks.specs.declared.awaited.Awaited.TheVariants.{Nothing}
use Rattle.mdgfm_tasks.specs.Laws.{check_names}
use Rattle.mdgfm_tasks.specs.TaskEvents.{events_with, task_events}
use Rattle.mdgfm_documents.proofs.CheckOrder.{check-order-kept}
use Rattle.mdgfm_documents.specs.Documents.{gfm_events, with_gfm, with_gfm_by}
use Rattle.mdgfm_documents.specs.Laws.{GfmIsBalanced, GfmIsInOrder, GfmIsNamed, OffIsDocument, OrderIsKept}

-- the labels of footnote definitions among events, as they are noted
abbrev pub own : List ℕ → List Event → (label : List ℕ) → Bool
own bytes events = is_one_of (labels_in bytes events)

pub off-is-document : OffIsDocument
off-is-document options bytes no_checks no_calls no_literals =
    let events = document_events (document options bytes) in
    let tasks = task_events options bytes events in
    literals-off options bytes (call_events_by (own bytes events) options bytes tasks) no_literals ∙ calls-off (own bytes events) options bytes tasks no_calls ∙ checks-off options bytes events no_checks

-- if there are no calls, it does not matter what is noted
pub noted-decides : (known : (label : List ℕ) → Bool) (options : ParseOptions) (bytes : List ℕ) (events seen all : List Event) → seen ≡ events
    → (options.constructs.gfm_label_start_footnote ≡ true → (label : List ℕ) → known label ≡ own bytes seen label) → all ≡ with_gfm_by known options bytes events → all ≡ with_gfm options bytes events
noted-decides known options bytes events seen all one same is = is ∙ ap (literal_events options bytes) (by options.constructs.gfm_label_start_footnote same)
  where
    tasks : List Event
    tasks = task_events options bytes events

    called : ((label : List ℕ) → Bool) → List Event
    called noted = with_calls noted options.tab_size bytes tasks

    by : (t : Bool) → (t ≡ true → (label : List ℕ) → known label ≡ own bytes seen label) → cond t (called known) tasks ≡ cond t (called (own bytes events)) tasks
    by true h = let noted : known ≡ own bytes seen = λ k. λ label. h refl label k in ap called (noted ∙ ap (own bytes) one)
    by false h = refl

-- ---- of any events

pub balance-by : (noted : (label : List ℕ) → Bool) (options : ParseOptions) (bytes : List ℕ) (events : List Event) → IsBalanced events → IsBalanced (with_gfm_by noted options bytes events)
balance-by noted options bytes events b =
    let tasks = task_events options bytes events in
    literals-balanced options bytes (call_events_by noted options bytes tasks) (calls-balanced noted options bytes tasks (checks-balanced options bytes events b))

pub balance-kept : (options : ParseOptions) (bytes : List ℕ) (events : List Event) → IsBalanced events → IsBalanced (with_gfm options bytes events)
balance-kept options bytes events = balance-by (own bytes events) options bytes events

pub checks-in-order : (options : ParseOptions) (bytes : List ℕ) (events : List Event) → IsInOrder bytes events → IsInOrder bytes (task_events options bytes events)
checks-in-order options bytes events order = by options.constructs.gfm_task_list_item
  where
    by : (t : Bool) → IsInOrder bytes (cond t (events_with options.tab_size bytes 0 Nothing events) events)
    by true = check-order-kept options.tab_size bytes events order
    by false = order

pub order-kept : OrderIsKept
order-kept options bytes events order =
    let tasks = task_events options bytes events in
    let noted = own bytes events in
    literals-in-order options bytes (call_events_by noted options bytes tasks) (calls-in-order noted options bytes tasks (checks-in-order options bytes events order))

-- ---- of documents

-- a document's events are well formed
pub well-formed : (options : ParseOptions) (bytes : List ℕ) → IsDocument (document options bytes) → IsWellFormed (document options bytes) (document_events (document options bytes))
well-formed options bytes is = let g = document options bytes in events-formed skeleton-laws g is (events-tight skeleton-laws inlines-hold-text g is)

pub of-document : (options : ParseOptions) (bytes : List ℕ) (read all : List Event) → read ≡ document_events (document options bytes) → all ≡ with_gfm options bytes read → all ≡ gfm_events options bytes
of-document options bytes read all are is = is ∙ ap (with_gfm options bytes) are

pub gfm-is-balanced : GfmIsBalanced
gfm-is-balanced options bytes is = balance-kept options bytes (document_events (document options bytes)) (well-formed options bytes is).balanced

pub gfm-is-in-order : GfmIsInOrder
gfm-is-in-order options bytes is = order-kept options bytes (document_events (document options bytes)) (well-formed options bytes is).in_order

pub gfm-is-named : GfmIsNamed
gfm-is-named test options bytes all h =
    let events = document_events (document options bytes) in
    let tasks = task_events options bytes events in
    let of_calls = every-back (λ (n : Name). test n ≡ true) check_names (call_names ++ Data ∷ literal_names) all in
    literals-named test options bytes (call_events_by (own bytes events) options bytes tasks) (every-back (λ (n : Name). test n ≡ true) call_names (Data ∷ literal_names) of_calls)
    (calls-named (own bytes events) test options bytes tasks (every-front (λ (n : Name). test n ≡ true) call_names (Data ∷ literal_names) of_calls) (checks-named test options bytes events (every-front (λ (n : Name). test n ≡ true) check_names (call_names ++ Data ∷ literal_names) all) h))
