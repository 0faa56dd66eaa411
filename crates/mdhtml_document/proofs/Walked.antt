-- The walk over events writes the pieces of their spans.
use Rattle.std.proofs.Common.{◌≡◌, ℕ, suc, List, [], ◌∷◌, ◌++◌, length, ap, sym, refl, ◌∙◌, append_assoc, arith}
use Rattle.std.specs.Prelude.{⊤, zero, true, cond, drop}
use Rattle.markdown_base.proofs.Facts.Kinds.{exit-is}
use Rattle.markdown_base.specs.declared.configuration.CompileOptions.{CompileOptions}
use Rattle.markdown_base.specs.declared.event.Event.{Event}
use Rattle.markdown_base.specs.declared.event.Kind.{Kind}
use Rattle.markdown_base.specs.declared.event.Kind.TheVariants.{Enter, Exit}
use Rattle.markdown_base.specs.Events.{IsBalanced, is_enter}
use Rattle.mdblock_containers.specs.Lists.{is_loose, list_start}
use Rattle.mdhtml_document.specs.declared.shapes.End.{End}
use Rattle.mdhtml_document.specs.declared.shapes.End.TheVariants as end
use Rattle.mdhtml_document.specs.declared.shapes.Mode.{Mode}
use Rattle.mdhtml_document.specs.declared.shapes.Mode.TheVariants as mode
use Rattle.mdhtml_document.specs.Frames.{Open, closed_by, closed_of, columns_at, events_past, is_over, mode_of, past_by}
use Rattle.mdhtml_document.specs.Html.{Known, Shape, columns_behind, columns_in, lacking, pieces, shape, shape_by}
use Rattle.mdhtml_document.specs.Names.{block_of}
use Rattle.mdhtml_document.specs.Spans.{Nothing, Span, Spans, events_of, spans_of}
use Rattle.mdhtml_document.specs.Values.{said}
use Rattle.mdhtml_document.specs.Walks.{alt_from, entered, said_at, shape_at, walked}
use Rattle.mdhtml_document.proofs.AltFacts.{alt-of}
use Rattle.mdhtml_document.proofs.Both.{keep-events}
use Rattle.mdhtml_document.proofs.ListFacts.{loose-of, start-of}
use Rattle.mdhtml_document.proofs.SpanFacts.{AreKinded, inside-of, opened-kinded, said-of, span-append}
use Rattle.mdhtml_markup.specs.Pieces.{Piece}
use Rattle.mddocument_link_targets.specs.Spans.{inside}

-- ---- the walk

module _ (options : CompileOptions) (bytes : List ℕ) (known : Known) (tab : ℕ) where
  -- the shape of a span by the events behind its enter
  shape-of : (m : Mode) (columns : List Event) (e f : Event) (s : Spans) (ys : List Event) → e.kind ≡ Enter → f.kind ≡ Exit → AreKinded s
      → shape_at options bytes known tab m columns e (events_of s ++ f ∷ ys) ≡ shape options bytes known tab m columns e f s
  shape-of m columns e f s ys enters exits h =
      let es = events_of s ++ f ∷ ys in
      let by = shape_by options bytes known tab m columns e.name in
      let given = said_at bytes e es in
      ap (λ (x : List Event). by x (is_loose es) (list_start bytes es) given (alt_from bytes 0 x)) (inside-of s f ys h exits)
      ∙ ap (λ b. by (events_of s) b (list_start bytes es) given (alt_from bytes 0 (events_of s))) (loose-of s f ys h exits)
      ∙ ap (λ o. by (events_of s) (is_loose (events_of s)) o given (alt_from bytes 0 (events_of s))) (start-of bytes s f ys h exits)
      ∙ ap (λ (t : List ℕ). by (events_of s) (is_loose (events_of s)) (list_start bytes (events_of s)) t (alt_from bytes 0 (events_of s))) (said-of bytes e f s ys enters exits h)
      ∙ ap (by (events_of s) (is_loose (events_of s)) (list_start bytes (events_of s)) (said bytes e f s)) (alt-of bytes s h)

  -- a step, by what an event is
  abbrev step : Kind → List Open → Event → List Event → List Piece
  step k os e es =
      cond (is_enter k) (entered options bytes known tab os e (inside es) (shape_at options bytes known tab (mode_of os) (columns_at os) e es) (λ next. walked options bytes known tab next es))
      (lacking (mode_of os) (columns_at os) ++ (closed_of os ++ walked options bytes known tab (drop 1 os) es))

  pub enter-walked : (os : List Open) (e : Event) (es : List Event) → e.kind ≡ Enter
      → walked options bytes known tab os (e ∷ es)
      ≡ entered options bytes known tab os e (inside es) (shape_at options bytes known tab (mode_of os) (columns_at os) e es) (λ next. walked options bytes known tab next es)
  enter-walked os e es h = ap (λ k. step k os e es) h

  pub exit-walked : (os : List Open) (e : Event) (es : List Event) → e.kind ≡ Exit
      → walked options bytes known tab os (e ∷ es) ≡ lacking (mode_of os) (columns_at os) ++ (closed_of os ++ walked options bytes known tab (drop 1 os) es)
  exit-walked os e es h = ap (λ k. step k os e es) h

  -- an enter, by the spans in its span
  span-walked : (os : List Open) (e f : Event) (s : Spans) (rest : List Event) → e.kind ≡ Enter → f.kind ≡ Exit → AreKinded s
      → walked options bytes known tab os (e ∷ (events_of s ++ f ∷ rest))
      ≡ entered options bytes known tab os e (events_of s) (shape options bytes known tab (mode_of os) (columns_at os) e f s) (λ next. walked options bytes known tab next (events_of s ++ f ∷ rest))
  span-walked os e f s rest enters exits h =
      let es = events_of s ++ f ∷ rest in
      let go = λ (inner : List Event) (whole : Shape). entered options bytes known tab os e inner whole (λ next. walked options bytes known tab next es) in
      enter-walked os e es enters ∙ ap (λ (x : List Event). go x (shape_at options bytes known tab (mode_of os) (columns_at os) e es)) (inside-of s f rest h exits)
      ∙ ap (go (events_of s)) (shape-of (mode_of os) (columns_at os) e f s rest enters exits h)

  -- four parts, of which the last two are joined
  pub joined : (a b c d k : List Piece) → a ++ (b ++ (c ++ (d ++ k))) ≡ (a ++ (b ++ (c ++ d))) ++ k
  joined a b c d k =
      sym (append_assoc a (b ++ (c ++ d)) k ∙ ap (λ (x : List Piece). a ++ x) (append_assoc b (c ++ d) k ∙ ap (λ (x : List Piece). b ++ x) (append_assoc c d k)))

  -- the spans in a span that is open, up to its exit
  walked-spans : (o : Open) (os : List Open) (s : Spans) (f : Event) (zs : List Event) → AreKinded s → f.kind ≡ Exit
      → walked options bytes known tab (o ∷ os) (events_of s ++ f ∷ zs) ≡ pieces options bytes known tab o.mode o.columns s ++ (o.closed ++ walked options bytes known tab os zs)
  walked-spans o os Nothing f zs h exits = exit-walked (o ∷ os) f zs exits
  walked-spans o os (Span e g s behind) f zs h exits =
      let rest = events_of behind ++ f ∷ zs in
      let b = block_of e.name in
      let whole = shape options bytes known tab o.mode o.columns e g s in
      let inner = pieces options bytes known tab whole.inside (columns_in b o.columns (events_of s)) s in
      let next : Open = record o { columns = columns_behind b o.columns } in
      let outer = pieces options bytes known tab o.mode (columns_behind b o.columns) behind in
      let end = o.closed ++ walked options bytes known tab os zs in
      let first : Open = record { mode = whole.inside; columns = columns_in b o.columns (events_of s); closed = whole.closed } in
      ap (walked options bytes known tab (o ∷ os)) (span-append e g s behind (f ∷ zs)) ∙ span-walked (o ∷ os) e g s rest h.0 h.1 h.2
      ∙ ap (λ (x : List Piece). whole.opened ++ x)
      (walked-spans first (next ∷ os) s g rest h.2 h.1 ∙ ap (λ (x : List Piece). inner ++ (whole.closed ++ x)) (walked-spans next os behind f zs h.3 exits))
      ∙ joined whole.opened inner whole.closed outer end

  -- and those in no span
  walked-flow : (s : Spans) → AreKinded s → walked options bytes known tab [] (events_of s) ≡ pieces options bytes known tab mode.Flow [] s
  walked-flow Nothing h = refl
  walked-flow (Span e g s behind) h =
      let b = block_of e.name in
      let whole = shape options bytes known tab mode.Flow [] e g s in
      let inner = pieces options bytes known tab whole.inside (columns_in b [] (events_of s)) s in
      let first : Open = record { mode = whole.inside; columns = columns_in b [] (events_of s); closed = whole.closed } in
      span-walked [] e g s (events_of behind) h.0 h.1 h.2
      ∙ ap (λ (x : List Piece). whole.opened ++ x) (walked-spans first [] s g (events_of behind) h.2 h.1 ∙ ap (λ (x : List Piece). inner ++ (whole.closed ++ x)) (walked-flow behind h.3))

  -- and those in one that ends nowhere, of a mode in which nothing is lacking
  pub walked-open : (o : Open) → ((columns : List Event) → lacking o.mode columns ≡ []) → (s : Spans) → AreKinded s
      → walked options bytes known tab (o ∷ []) (events_of s) ≡ pieces options bytes known tab o.mode o.columns s
  walked-open o none Nothing h = sym (none o.columns)
  walked-open o none (Span e g s behind) h =
      let b = block_of e.name in
      let whole = shape options bytes known tab o.mode o.columns e g s in
      let inner = pieces options bytes known tab whole.inside (columns_in b o.columns (events_of s)) s in
      let first : Open = record { mode = whole.inside; columns = columns_in b o.columns (events_of s); closed = whole.closed } in
      let next : Open = record o { columns = columns_behind b o.columns } in
      span-walked (o ∷ []) e g s (events_of behind) h.0 h.1 h.2
      ∙ ap (λ (x : List Piece). whole.opened ++ x)
      (walked-spans first (next ∷ []) s g (events_of behind) h.2 h.1 ∙ ap (λ (x : List Piece). inner ++ (whole.closed ++ x)) (walked-open next none behind h.3))

  pub walked-all : (es : List Event) → IsBalanced es → walked options bytes known tab [] es ≡ pieces options bytes known tab mode.Flow [] (spans_of es)
  walked-all es balanced = ap (walked options bytes known tab []) (sym (keep-events es balanced)) ∙ walked-flow (spans_of es) (opened-kinded es).0

  -- ---- spans of which nothing more is written

  -- open spans of which nothing more is written
  abbrev AreSilent : List Open → Type 0
  AreSilent [] = ⊤
  AreSilent (o ∷ os) = (o.mode ≡ mode.Nothing) × (o.closed ≡ []) × AreSilent os

  -- the exit of a span behind which nothing is written
  silent-exit : (o : Open) (os : List Open) (e : Event) (es : List Event) → e.kind ≡ Exit → lacking o.mode o.columns ≡ [] → o.closed ≡ []
      → walked options bytes known tab (o ∷ os) (e ∷ es) ≡ walked options bytes known tab os es
  silent-exit o os e es exits none closed =
      let rest = walked options bytes known tab os es in
      exit-walked (o ∷ os) e es exits ∙ ap (λ (x : List Piece). x ++ (o.closed ++ rest)) none ∙ ap (λ (x : List Piece). x ++ rest) closed

  none-lacks : (m : Mode) (columns : List Event) → m ≡ mode.Nothing → lacking m columns ≡ []
  none-lacks m columns h = ap (λ x. lacking x columns) h

  silent-step : (k : Kind) (e : Event) (es : List Event) → e.kind ≡ k
      → ((n : ℕ) (qs os : List Open) → length qs ≡ suc n → AreSilent qs → walked options bytes known tab (qs ++ os) es ≡ walked options bytes known tab os (events_past n es))
      → (n : ℕ) (qs os : List Open) → length qs ≡ suc n → AreSilent qs
      → walked options bytes known tab (qs ++ os) (e ∷ es) ≡ walked options bytes known tab os (past_by k n es (λ d. events_past d es))
  silent-step k e es kind next n [] os long h = absurd (omega (arith, long))
  silent-step Enter e es kind next n (q ∷ qs) os long h =
      let b = block_of e.name in
      let first : Open = record { mode = mode.Nothing; columns = columns_in b q.columns (inside es); closed = [] } in
      let second : Open = record q { columns = columns_behind b q.columns } in
      enter-walked (q ∷ (qs ++ os)) e es kind
      ∙ ap (λ m. entered options bytes known tab (q ∷ (qs ++ os)) e (inside es) (shape_at options bytes known tab m q.columns e es) (λ x. walked options bytes known tab x es)) h.0
      ∙ next (suc n) (first ∷ (second ∷ qs)) os (ap suc long) ((refl, refl, h))
  silent-step Exit e es kind next zero (q ∷ []) os long h = silent-exit q os e es kind (none-lacks q.mode q.columns h.0) h.1
  silent-step Exit e es kind next zero (q ∷ (r ∷ rs)) os long h = absurd (omega (arith, long))
  silent-step Exit e es kind next (suc n) (q ∷ qs) os long h =
      let few : length qs ≡ suc n = omega (arith, long) in
      silent-exit q (qs ++ os) e es kind (none-lacks q.mode q.columns h.0) h.1 ∙ next n qs os few h.2

  silent-walked : (es : List Event) (n : ℕ) (qs os : List Open) → length qs ≡ suc n → AreSilent qs
      → walked options bytes known tab (qs ++ os) es ≡ walked options bytes known tab os (events_past n es)
  silent-walked [] n [] os long h = absurd (omega (arith, long))
  silent-walked [] n (q ∷ qs) os long h = ended os
    where
      ended : (os : List Open) → [] ≡ walked options bytes known tab os []
      ended os = refl
  silent-walked (e ∷ es) n qs os long h = silent-step e.kind e es refl (silent-walked es) n qs os long h

  -- a span that is over
  pub over-walked : (en : End) (m : Mode) (o : Open) (os : List Open) (es : List Event) → is_over en m es ≡ true → o.mode ≡ m → o.closed ≡ closed_by en
      → walked options bytes known tab (o ∷ os) es ≡ walked options bytes known tab os (events_past 0 es)
  over-walked end.Nothing mode.Nothing o os es h same closed = silent-walked es 0 (o ∷ []) os refl ((same, closed, tt))
  over-walked end.Nothing mode.Text o os [] h same closed = cc
  over-walked end.Nothing mode.Text o os (e ∷ es) h same closed =
      let exits = exit-is e.kind h in
      silent-exit o os e es exits (ap (λ x. lacking x o.columns) same) closed ∙ ap (λ k. walked options bytes known tab os (past_by k 0 es (λ d. events_past d es))) (sym exits)
  over-walked end.Nothing mode.Flow o os es h same closed = cc
  over-walked end.Nothing mode.Tight o os es h same closed = cc
  over-walked end.Nothing mode.LooseItems o os es h same closed = cc
  over-walked end.Nothing mode.TightItems o os es h same closed = cc
  over-walked end.Nothing mode.Heading o os es h same closed = cc
  over-walked end.Nothing mode.Table o os es h same closed = cc
  over-walked end.Nothing (mode.Rows head) o os es h same closed = cc
  over-walked end.Nothing (mode.Cells head) o os es h same closed = cc
  over-walked end.Nothing mode.Paragraph o os es h same closed = cc
  over-walked (end.WithinLine x) m o os es h same closed = cc
  over-walked (end.Line x) m o os es h same closed = cc
  over-walked (end.Lines x) m o os es h same closed = cc
