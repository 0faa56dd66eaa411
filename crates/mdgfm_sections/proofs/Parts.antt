-- What GFM adds to a document whose events are those of two parts.
use Rattle.std.proofs.Common.{◌≡◌, ℕ, ◌++◌, Bool, true, false, cond, List, [], ◌∷◌, drop, length, refl, ap, subst, ◌∙◌}
use Rattle.std.proofs.Math.Bool.{and-false}
use Rattle.std.proofs.lemmas.Bool.{not-true}
use Rattle.std.specs.Prelude.{◌&&◌, map, not}
use Rattle.markdown_base.proofs.Common.{and-right, every-map}
use Rattle.markdown_base.specs.declared.configuration.ParseOptions.{ParseOptions}
use Rattle.markdown_base.specs.declared.event.Event.{Event}
use Rattle.markdown_base.specs.declared.event.Name.{Name}
use Rattle.markdown_base.specs.declared.event.Name.TheVariants.{GfmFootnoteCall}
use Rattle.markdown_base.specs.Events.{IsInOrder, is_enter, same_name}
use Rattle.markdown_base.specs.Virtual.{point}
use Rattle.mdgfm_events.specs.Spans.{span_end}
use Rattle.mdgfm_footnotes.specs.CallEvents.{call_events_by, inside_call, is_bare, with_calls, with_insides}
use Rattle.mdgfm_footnotes.specs.Calls.{calls_of}
use Rattle.mdgfm_footnotes.specs.Laws.{HaveNoCalls}
use Rattle.mdgfm_footnotes.proofs.Ordered.{order-by}
use Rattle.mdgfm_footnotes.proofs.Parts.{of-parts as calls-of-parts}
use Rattle.mdgfm_footnotes.proofs.Unchanged.{balance-by}
use Rattle.mdgfm_literals.proofs.Balance.{with-other}
use Rattle.mdgfm_literals.proofs.Parts.{of-parts as literals-of-parts}
use Rattle.mdgfm_literals.specs.declared.texts.Literal.{Literal}
use Rattle.mdgfm_literals.specs.Laws.{begins_block, further_event}
use Rattle.mdgfm_literals.specs.LiteralEvents.{events_with as literals_with, literal_events}
use Rattle.mdgfm_literals.specs.Stretches.{is_plain, is_text}
use Rattle.mdgfm_tasks.specs.declared.awaited.Awaited.TheVariants.{Nothing}
use Rattle.mdgfm_tasks.specs.TaskEvents.{events_with, task_events}
use Rattle.mdgfm_tasks.proofs.Balance.{balance-kept}
use Rattle.mdgfm_tasks.proofs.Names.{names-kept}
use Rattle.mdgfm_documents.proofs.CallsAhead.{calls-inside}
use Rattle.mdgfm_documents.proofs.Whole.{checks-in-order}
use Rattle.mdgfm_documents.proofs.TasksAhead.{AreInside, tasks-inside}
use Rattle.mdgfm_sections.proofs.Tasks.{tasks-of-parts, up-to}
use Rattle.mdgfm_sections.specs.Parts.{GfmOfParts}

-- ---- what is known of events with checks

begins-tasks : (options : ParseOptions) (bytes : List ℕ) (es : List Event) → begins_block es ≡ true → begins_block (task_events options bytes es) ≡ true
begins-tasks options bytes es h = by options.constructs.gfm_task_list_item
  where
    with : (es : List Event) → begins_block es ≡ true → begins_block (events_with options.tab_size bytes 0 Nothing es) ≡ true
    with [] h = refl
    with (e ∷ es) h = h

    by : (t : Bool) → begins_block (cond t (events_with options.tab_size bytes 0 Nothing es) es) ≡ true
    by true = with es h
    by false = h

tasks-within : (options : ParseOptions) (bytes : List ℕ) (most : ℕ) (es : List Event) → AreInside options.tab_size most es → AreInside options.tab_size most (task_events options bytes es)
tasks-within options bytes most es h = by options.constructs.gfm_task_list_item
  where
    by : (t : Bool) → AreInside options.tab_size most (cond t (events_with options.tab_size bytes 0 Nothing es) es)
    by true = tasks-inside options.tab_size bytes most 0 Nothing es h
    by false = h

-- no check is a call
tasks-uncalled : (options : ParseOptions) (bytes : List ℕ) (es : List Event) → HaveNoCalls es → HaveNoCalls (task_events options bytes es)
tasks-uncalled options bytes es h =
    let other : Name → Bool = λ n. not (same_name n GfmFootnoteCall) in
    let passed = every-map (λ (e : Event). same_name e.name GfmFootnoteCall ≡ false) (λ (e : Event). other e.name ≡ true) (λ e k. ap not k) es h in
    let all = names-kept other options bytes es (refl, (refl, (refl, (refl, (refl, (refl, tt)))))) passed in
    every-map (λ (e : Event). other e.name ≡ true) (λ (e : Event). same_name e.name GfmFootnoteCall ≡ false) (λ e k. not-true (same_name e.name GfmFootnoteCall) k) (task_events options bytes es) all

-- ---- and of events with calls

module _ (noted : (label : List ℕ) → Bool) (options : ParseOptions) (bytes : List ℕ) where
  begins-calls : (es : List Event) → begins_block es ≡ true → begins_block (call_events_by noted options bytes es) ≡ true
  begins-calls es h = by options.constructs.gfm_label_start_footnote
    where
      put : (calls : List Literal) (e : Event) (es : List Event) → begins_block (e ∷ []) ≡ true → begins_block (with_insides options.tab_size bytes calls (e ∷ es)) ≡ true
      put calls e es h = one (is_bare calls e es)
        where
          one : (t : Bool)
              → begins_block (cond t (e ∷ (inside_call options.tab_size bytes e.point (span_end e.point 0 es) ++ with_insides options.tab_size bytes (drop 1 calls) es)) (e ∷ with_insides options.tab_size bytes calls es)) ≡ true
          one true = h
          one false = h

      with : (calls : List Literal) (es : List Event) → begins_block es ≡ true → begins_block (with_insides options.tab_size bytes calls (literals_with options.tab_size bytes 0 0 (point 1 1 0 0) calls es)) ≡ true
      with calls [] h = refl
      with calls (e ∷ es) h =
          let isnt : is_text 0 e ≡ false = ap (λ t. is_enter e.kind && t) (not-true (is_plain e.name) (and-right (is_enter e.kind) (not (is_plain e.name)) h)) ∙ and-false (is_enter e.kind) in
          ap (λ (ts : List Event). begins_block (with_insides options.tab_size bytes calls ts)) (with-other options.tab_size bytes 0 (point 1 1 0 0) calls e es isnt)
          ∙ put calls e (literals_with options.tab_size bytes 0 _ (point 1 1 0 0) calls es) h

      by : (t : Bool) → begins_block (cond t (with_calls noted options.tab_size bytes es) es) ≡ true
      by true = with (calls_of noted bytes 0 0 es) es h
      by false = h

  calls-within : (most : ℕ) (es : List Event) → AreInside options.tab_size most es → AreInside options.tab_size most (call_events_by noted options bytes es)
  calls-within most es h = by options.constructs.gfm_label_start_footnote
    where
      by : (t : Bool) → AreInside options.tab_size most (cond t (with_calls noted options.tab_size bytes es) es)
      by true = calls-inside options.tab_size most bytes noted es (up-to options.tab_size most es h) h
      by false = h

-- ---- checks, calls and literals

pub gfm-of-parts : GfmOfParts
gfm-of-parts noted options lines first second links xs ys no_link apart order =
    let tab = options.tab_size in
    let there = map (further_event links lines (length first)) ys in
    let both = first ++ second in
    let checked = task_events options first xs in
    let checked_behind = task_events options second ys in
    let called = call_events_by noted options first checked in
    let called_behind = call_events_by noted options second checked_behind in
    let tasks = tasks-of-parts options lines first second links xs ys no_link apart in
    let tasks_order = subst (IsInOrder both) tasks (checks-in-order options both (xs ++ there) order) in
    let checked_balanced = balance-kept options first xs apart.balanced in
    let checked_within = tasks-within options first (length first) xs apart.within in
    let checked_begins = begins-tasks options second ys apart.begins in
    let calls = calls-of-parts noted options lines first second links checked checked_behind no_link checked_balanced (tasks-uncalled options first xs apart.uncalled) (up-to tab (length first) checked checked_within) checked_begins tasks_order in
    let calls_order = subst (IsInOrder both) calls (order-by noted options both (checked ++ map (further_event links lines (length first)) checked_behind) tasks_order) in
    ap (λ (ts : List Event). literal_events options both (call_events_by noted options both ts)) tasks
    ∙ ap (literal_events options both) calls
    ∙ literals-of-parts options lines first second links called called_behind apart.lines no_link (balance-by noted options first checked checked_balanced)
    (up-to tab (length first) called (calls-within noted options first (length first) checked checked_within)) (begins-calls noted options second checked_behind checked_begins) calls_order
