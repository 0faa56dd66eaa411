-- The events of leaf blocks with inline text are well formed: balanced, void spans empty, at places, and in order of these.
use Rattle.mddocument.proofs.Prelude.{ℕ, Bool, List, ◌++◌, sym, subst, AllByRecursion, flat_map, Constructs, ParseOptions, Event, Seat, end_after, names_after_balanced, every-back, every-front, IsWellFormed, IsDocument, lines_in, events_of, string_seat_events, shown, whole_text, whole-is-text, AcrossGap, Course, Place, across-none, course-every, text-course, Formed, FormsOver, over-kept, text-formed, IsKeptBySpans, leaf_blocks, Mark, AreFlowInlines, document, InlinesAreFormed, block_texts, inline_seat_events, read_marks}
use Rattle.mddocument.proofs.Emphasis.InlineReads.{balanced-of, course-ends, read-bytewise, read_of}
use Rattle.mddocument.proofs.FlowTexts.Accounts.{bare-marks}
use Rattle.mddocument.proofs.FlowTexts.Forms.{Ordered, ordered-atoms, string-forms}
use Rattle.mddocument.proofs.Emphasis.InlineRuns.{inline-cut}
use Rattle.mddocument.proofs.FlowTexts.InlineSteps.{Steps, steps-virtual}
use Rattle.mddocument.proofs.FlowTexts.InlineTight.{inline-tight}
use Rattle.mddocument.proofs.FlowTexts.Spans.{texts-keep}
use Rattle.mdinline_machine.specs.InlineRules.{no_labels}
use Rattle.mdinline_links.proofs.Leaves.{links-balanced}
use Rattle.mdinline_links.proofs.LinkOrder.{links-ordered}

-- ---- inline text
module _ (t : ℕ) (bytes : List ℕ) (options : ParseOptions) where
  abbrev on : Constructs
  on = options.constructs

  -- what holds of marks over virtual bytes whose delimiters go byte by byte
  abbrev pub Formed_so : List Mark → List Seat → Type 0
  Formed_so marks seats = AllByRecursion (Steps bytes) seats → FormsOver AcrossGap t bytes marks seats

  kept : IsKeptBySpans bytes Formed_so
  kept =
      let k = over-kept AcrossGap across-none t bytes in
      record {
        none = λ h. k.none;
        both = λ {xs} {ys} {a} {b} f g h. k.both (f (every-front (Steps bytes) a b h)) (g (every-back (Steps bytes) a b h));
        leaf = λ n s ss w h. k.leaf n s ss w;
        datum = λ c s ss w h. k.datum c s ss w;
        text = λ lines starts w h. k.text lines starts w;
        around = λ n s ss inside other f h. k.around n s ss inside other (f h);
      }

  pub inline-forms : (defined : List ℕ → Bool) (seats : List Seat) → Formed_so (read_marks (inline_seat_events defined options bytes) bytes seats) seats
  inline-forms defined seats steps p rest course =
      let es = read_of t bytes defined on seats in
      let balanced = balanced-of t bytes defined on seats in
      let cut = inline-cut bytes on defined seats in
      let q = end_after p seats in
      let ordered = ordered-atoms t bytes p cut.atoms rest (subst (λ l. Course AcrossGap t bytes p (l ++ rest)) cut.all course) in
      let placed = subst (λ l. Ordered t bytes p l q) (sym cut.are) (subst (λ l. Ordered t bytes p (events_of bytes cut.atoms) (end_after p l)) (sym cut.all) ordered) in
      let bytewise = read-bytewise t bytes defined on seats p rest course steps (Place t bytes) (course-ends t bytes p seats rest course) in
      let whole = links-ordered (Place t bytes) options.gfm_strikethrough_single_tilde bytes es p q balanced bytewise (record { order = placed.order; places = placed.places }) in
      subst (λ l. Formed t bytes p l q) (sym (bare-marks (inline_seat_events defined options bytes seats)))
      (record { balanced = λ st. names_after_balanced (links-balanced options.gfm_strikethrough_single_tilde bytes es balanced) st; tight = inline-tight defined options bytes seats; order = whole.order; places = whole.places })

pub inlines-formed : InlinesAreFormed
inlines-formed g text is =
    let on = g.options.constructs in
    let texts = inline_seat_events no_labels g.options g.bytes in
    let strings = string_seat_events on g.bytes in
    let steps = course-every AcrossGap g.tab g.bytes (Steps g.bytes) (steps-virtual g.bytes g.tab) (shown g.bytes text.start) text.seats (text-course g text is) in
    text-formed g text is (flat_map (block_texts texts strings g.bytes) (leaf_blocks on (lines_in text.seats)))
    (texts-keep on texts strings g.bytes (Formed_so g.tab g.bytes g.options) (kept g.tab g.bytes g.options) (inline-forms g.tab g.bytes g.options no_labels) (λ l steps. string-forms g.tab g.bytes on l) text.seats steps)

-- so what is read of a document is well formed
pub inlines-well-formed : (options : ParseOptions) (bytes : List ℕ) → IsDocument (document options bytes) → (events : List Event) → AreFlowInlines options bytes events → IsWellFormed (document options bytes) events
inlines-well-formed options bytes is events are =
    let g = document options bytes in subst (IsWellFormed g) (sym are) (inlines-formed g (whole_text g) (whole-is-text g is))
