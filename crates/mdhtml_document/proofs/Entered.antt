-- Spans that are entered: the lists of a document go with its events, and each event is one step of the walk.
use Rattle.std.proofs.Common.{◌≡◌, ℕ, suc, ◌≤◌, List, [], ◌∷◌, ◌++◌, arith, drop, length, ap, sym, subst, refl, ◌∙◌, length-drop, Option, None, Some}
use Rattle.std.proofs.lemmas.Bool.{and_parts, or_parts}
use Rattle.std.specs.List.{list_any}
use Rattle.std.specs.Prelude.{⊤, ◌&&◌, ◌||◌, Bool, zero, true, false, cond}
use denote.Enum.Bare.{same_true}
use Rattle.markdown_base.proofs.Facts.Kinds.{exit-is}
use Rattle.markdown_base.specs.contracts.event.Name.{the_type}
use Rattle.markdown_base.specs.declared.configuration.CompileOptions.{CompileOptions}
use Rattle.markdown_base.specs.declared.event.Event.{Event}
use Rattle.markdown_base.specs.declared.event.Kind.{Kind}
use Rattle.markdown_base.specs.declared.event.Kind.TheVariants.{Enter, Exit}
use Rattle.markdown_base.specs.declared.event.Name.{Name}
use Rattle.markdown_base.specs.declared.event.Name.TheVariants as name
use Rattle.markdown_base.specs.Events.{is_enter, same_name}
use Rattle.markdown_edits.specs.SpanWalks.{is_wanted}
use Rattle.mdblock_containers.specs.declared.list_shapes.ListShape.{ListShape}
use Rattle.mdblock_containers.specs.Lists.{is_loose, list_names, list_start}
use Rattle.mdblock_containers.specs.ListShapes.{shape_of, shapes_from}
use Rattle.mdhtml_document.specs.declared.links.Whole.{Whole}
use Rattle.mdhtml_document.specs.declared.names.Block.{Block}
use Rattle.mdhtml_document.specs.declared.names.Block.TheVariants as block
use Rattle.mdhtml_document.specs.declared.names.Inline.TheVariants as inline
use Rattle.mdhtml_document.specs.declared.shapes.End.TheVariants as end
use Rattle.mdhtml_document.specs.declared.shapes.Frame.{Frame}
use Rattle.mdhtml_document.specs.declared.shapes.Mode.{Mode}
use Rattle.mdhtml_document.specs.declared.shapes.Mode.TheVariants as mode
use Rattle.mdhtml_document.specs.Frames.{AreListsOf, Open, Opens, closed_by, closed_of, columns_at, ends, events_past, from_list, is_list, is_over, left_by, list_at, lists_behind, lists_past, known_of, loose_of, mode_of, moved, past_by, start_of}
use Rattle.mdhtml_document.specs.Written.{after}
use Rattle.mdhtml_document.specs.Html.{Known, Shape, block_shape, columns_behind, columns_in, inline_shape, is_in_cell, lacking, paragraph_shape, shape_by, told}
use Rattle.mdhtml_document.specs.Names.{block_of, blocks_by_name, inline_of, named}
use Rattle.mdhtml_document.specs.Walks.{Entered, alt_from, inner_bytes, is_bytes, is_inline, said_at, says_bytes, shape_at, shape_in, walked_in}
use Rattle.mdhtml_document.proofs.SpanFacts.{said_bytes}
use Rattle.mdhtml_document.proofs.Walked.{enter-walked, exit-walked, over-walked}
use Rattle.mdhtml_document.proofs.Written.{after-append}
use Rattle.mddocument_link_targets.specs.Spans.{inside}
use Rattle.mdhtml_markup.specs.Escapes.{escaped}
use Rattle.mdhtml_markup.specs.Pieces.{Piece}

-- ---- the list that is entered

abbrev at_by : Bool → List ListShape → Option ListShape
at_by c [] = None
at_by c (l ∷ ls) = cond c (Some l) None

abbrev behind_by : Bool → List ListShape → List ListShape
behind_by c [] = []
behind_by c (l ∷ ls) = cond c ls (l ∷ ls)

at-is : (lists : List ListShape) (e : Event) → list_at lists e ≡ at_by (is_list e) lists
at-is [] e = refl
at-is (l ∷ ls) e = refl

behind-is : (lists : List ListShape) (e : Event) → lists_behind lists e ≡ behind_by (is_list e) lists
behind-is [] e = refl
behind-is (l ∷ ls) e = refl

-- the lists from an event on, if it enters one or not
abbrev lists_by : Bool → (first : ListShape) → (rest : List ListShape) → List ListShape
lists_by c first rest = cond c (first ∷ rest) rest

none-behind : (rest : List ListShape) → behind_by false rest ≡ rest
none-behind [] = refl
none-behind (l ∷ ls) = refl

none-at : (rest : List ListShape) → at_by false rest ≡ None
none-at [] = refl
none-at (l ∷ ls) = refl

behind-of : (c : Bool) (first : ListShape) (rest : List ListShape) → behind_by c (lists_by c first rest) ≡ rest
behind-of true first rest = refl
behind-of false first rest = none-behind rest

at-of : (c : Bool) (first : ListShape) (rest : List ListShape) → at_by c (lists_by c first rest) ≡ cond c (Some first) None
at-of true first rest = refl
at-of false first rest = none-at rest

step-by : (c : Bool) (bytes : List ℕ) (at : ℕ) (es : List Event) (rest : List ListShape)
    → elim (cond c (Some es) None) as (λ (_ : Option (List Event)). List ListShape) [ None ↦ rest | Some inner ↦ shape_of bytes at inner ∷ rest ] ≡ lists_by c (shape_of bytes at es) rest
step-by true bytes at es rest = refl
step-by false bytes at es rest = refl

shapes-step : (bytes : List ℕ) (at : ℕ) (e : Event) (es : List Event) → shapes_from bytes at (e ∷ es) ≡ lists_by (is_list e) (shape_of bytes at es) (shapes_from bytes (suc at) es)
shapes-step bytes at e es = step-by (is_list e) bytes at es (shapes_from bytes (suc at) es)

-- the first of some events enters a list
abbrev first_is : List Event → Bool
first_is [] = false
first_is (e ∷ es) = is_list e

-- an event in front of these lists
front-step : (bytes : List ℕ) (lists : List ListShape) (at : ℕ) (e f : Event) (es fs rest : List Event) → list_any is_list (f ∷ fs) ≡ false → e ∷ es ≡ f ∷ (fs ++ rest)
    → lists ≡ shapes_from bytes at rest → (is_list e ≡ false) × AreListsOf bytes (lists_behind lists e) es
front-step bytes lists at e f es fs rest none whole are =
    let parts = or_parts (is_list f) (list_any is_list fs) none in
    let first : is_list e ≡ false = ap first_is whole ∙ parts.0 in (
      first,
      record {
        front = fs;
        none = parts.1;
        rest = rest;
        whole = ap (λ (x : List Event). drop 1 x) whole;
        at = at;
        are = behind-is lists e ∙ ap (λ c. behind_by c lists) first ∙ none-behind lists ∙ are;
      },
    )

step-from : (bytes : List ℕ) (lists : List ListShape) (at : ℕ) (e : Event) (es front rest : List Event) → list_any is_list front ≡ false → e ∷ es ≡ front ++ rest
    → lists ≡ shapes_from bytes at rest → AreListsOf bytes (lists_behind lists e) es
step-from bytes lists at e es [] rest none whole are =
    record {
      front = [];
      none = refl;
      rest = es;
      whole = refl;
      at = suc at;
      are = behind-is lists e ∙ ap (behind_by (is_list e)) (are ∙ ap (shapes_from bytes at) (sym whole) ∙ shapes-step bytes at e es)
          ∙ behind-of (is_list e) (shape_of bytes at es) (shapes_from bytes (suc at) es);
    }
step-from bytes lists at e es (f ∷ fs) rest none whole are = (front-step bytes lists at e f es fs rest none whole are).1

pub lists-step : (bytes : List ℕ) (lists : List ListShape) (e : Event) (es : List Event) → AreListsOf bytes lists (e ∷ es) → AreListsOf bytes (lists_behind lists e) es
lists-step bytes lists e es h = step-from bytes lists h.at e es h.front h.rest h.none h.whole h.are

at-from : (bytes : List ℕ) (lists : List ListShape) (at : ℕ) (e : Event) (es front rest : List Event) → list_any is_list front ≡ false → e ∷ es ≡ front ++ rest
    → lists ≡ shapes_from bytes at rest → list_at lists e ≡ cond (is_list e) (Some (shape_of bytes at es)) None
at-from bytes lists at e es [] rest none whole are =
    at-is lists e ∙ ap (at_by (is_list e)) (are ∙ ap (shapes_from bytes at) (sym whole) ∙ shapes-step bytes at e es) ∙ at-of (is_list e) (shape_of bytes at es) (shapes_from bytes (suc at) es)
at-from bytes lists at e es (f ∷ fs) rest none whole are =
    let first = (front-step bytes lists at e f es fs rest none whole are).0 in
    at-is lists e ∙ ap (λ c. at_by c lists) first ∙ none-at lists ∙ sym (ap (λ c. cond c (Some (shape_of bytes at es)) None) first)

list-at : (bytes : List ℕ) (lists : List ListShape) (e : Event) (es : List Event) (h : AreListsOf bytes lists (e ∷ es)) → list_at lists e ≡ cond (is_list e) (Some (shape_of bytes h.at es)) None
list-at bytes lists e es h = at-from bytes lists h.at e es h.front h.rest h.none h.whole h.are

pub exit-lists : (bytes : List ℕ) (lists : List ListShape) (e : Event) (es : List Event) → e.kind ≡ Exit → AreListsOf bytes lists (e ∷ es) → AreListsOf bytes lists es
exit-lists bytes lists e es exits h =
    subst (λ (x : List ListShape). AreListsOf bytes x es)
    (behind-is lists e ∙ ap (λ k. behind_by (is_enter k && is_wanted list_names e.name) lists) exits ∙ none-behind lists) (lists-step bytes lists e es h)

-- the lists from the first on are those of all
front-lists : (bytes : List ℕ) (e : Event) (es : List Event) (c : Bool) → is_list e ≡ c → AreListsOf bytes (shapes_from bytes 0 (from_list es)) es
    → AreListsOf bytes (shapes_from bytes 0 (cond c (e ∷ es) (from_list es))) (e ∷ es)
front-lists bytes e es true is h = record { front = []; none = refl; rest = e ∷ es; whole = refl; at = 0; are = refl }
front-lists bytes e es false is h =
    record {
      front = e ∷ h.front;
      none = ap (λ b. b || list_any is_list h.front) is ∙ h.none;
      rest = h.rest;
      whole = ap (λ (x : List Event). e ∷ x) h.whole;
      at = h.at;
      are = h.are;
    }

pub lists-from : (bytes : List ℕ) (es : List Event) → AreListsOf bytes (shapes_from bytes 0 (from_list es)) es
lists-from bytes [] = record { front = []; none = refl; rest = []; whole = refl; at = 0; are = refl }
lists-from bytes (e ∷ es) = front-lists bytes e es (is_list e) refl (lists-from bytes es)

-- behind a span
past-step : (k : Kind) (bytes : List ℕ) (e : Event) (es : List Event) → e.kind ≡ k
    → ((d : ℕ) (ls : List ListShape) → AreListsOf bytes ls es → AreListsOf bytes (lists_past d ls es) (events_past d es)) → (d : ℕ) (ls : List ListShape)
    → AreListsOf bytes ls (e ∷ es) → AreListsOf bytes (left_by k d e ls (λ n l. lists_past n l es)) (past_by k d es (λ n. events_past n es))
past-step Enter bytes e es kind next d ls h = next (suc d) (lists_behind ls e) (lists-step bytes ls e es h)
past-step Exit bytes e es kind next zero ls h = exit-lists bytes ls e es kind h
past-step Exit bytes e es kind next (suc d) ls h = next d ls (exit-lists bytes ls e es kind h)

pub past-lists : (bytes : List ℕ) (es : List Event) (d : ℕ) (ls : List ListShape) → AreListsOf bytes ls es → AreListsOf bytes (lists_past d ls es) (events_past d es)
past-lists bytes [] d ls h = h
past-lists bytes (e ∷ es) d ls h = past-step e.kind bytes e es refl (past-lists bytes es) d ls h

shorter : (k : Kind) (es : List Event) → ((d : ℕ) → length (events_past d es) ≤ length es) → (d : ℕ) → length (past_by k d es (λ n. events_past n es)) ≤ length es
shorter Enter es next d = next (suc d)
shorter Exit es next zero = omega arith
shorter Exit es next (suc d) = next d

pub past-short : (es : List Event) (d : ℕ) → length (events_past d es) ≤ length es
past-short [] d = omega arith
past-short (e ∷ es) d =
    let less = shorter e.kind es (past-short es) d in
    omega (arith, less)

pub over-lists : (bytes : List ℕ) (lists others passed : List ListShape) (e : Event) (es rest : List Event) → AreListsOf bytes lists (e ∷ es)
    → others ≡ lists_behind lists e → passed ≡ lists_past 0 others es → rest ≡ events_past 0 es → AreListsOf bytes passed rest
over-lists bytes lists others passed e es rest h is past left =
    let behind = lists_behind lists e in
    subst (λ (x : List ListShape). AreListsOf bytes x rest) (sym (past ∙ ap (λ (x : List ListShape). lists_past 0 x es) is))
    (subst (λ (x : List Event). AreListsOf bytes (lists_past 0 behind es) x) (sym left) (past-lists bytes es 0 behind (lists-step bytes lists e es h)))

pub over-short : (es rest : List Event) → rest ≡ events_past 0 es → length rest ≤ length es
over-short es rest is =
    let less = past-short es 0 in
    let same = ap (λ (x : List Event). length x) is in
    omega (arith, less, same)

-- ---- what is said of a list matters of lists alone

abbrev pub EachNamed : {A : Type 0} → (P : A → Type 0) → Name → List (Name × A) → Type 0
EachNamed P n [] = ⊤
EachNamed P n (p ∷ ps) = (same_name n p.0 ≡ true → P p.1) × EachNamed P n ps

named-by : {A : Type 0} (P : A → Type 0) (c : Bool) (x y : A) → (c ≡ true → P x) → P y → P (cond c x y)
named-by P true x y h k = h refl
named-by P false x y h k = k

pub named-each : {A : Type 0} (P : A → Type 0) (ps : List (Name × A)) (other : A) (n : Name) → EachNamed P n ps → P other → P (named ps other n)
named-each P [] other n h k = k
named-each P (p ∷ ps) other n h k = named-by P (same_name n p.0) p.1 (named ps other n) h.0 (named-each P ps other n h.1 k)

no-list : {A : Type 0} (n m : Name) → is_wanted list_names n ≡ false → is_wanted list_names m ≡ true → same_name n m ≡ true → A
no-list n m h k same = absurd (no (sym k ∙ ap (is_wanted list_names) (sym (same_true the_type tt n m same)) ∙ h))
  where
    no : true ≡ false → ⊥
    no e = cc

module _ (options : CompileOptions) (bytes : List ℕ) (known : Known) (tab : ℕ) where
  block-unlisted : (tight : Bool) (n : Name) (es : List Event) (l m : Bool) (s t : Option ℕ) → is_wanted list_names n ≡ false
      → block_shape options bytes known tab tight (block_of n) es l s ≡ block_shape options bytes known tab tight (block_of n) es m t
  block-unlisted tight n es l m s t h =
      named-each (λ b. block_shape options bytes known tab tight b es l s ≡ block_shape options bytes known tab tight b es m t) blocks_by_name block.Other n
      (λ _. refl, (λ _. refl, (λ _. refl, (λ _. refl, (λ _. refl, (λ _. refl, (λ e. no-list n name.ListUnordered h refl e, (λ e. no-list n name.ListOrdered h refl e, (λ _. refl, (λ _. refl, (λ _. refl, (λ _. refl, (λ _. refl, (λ _. refl, (λ _. refl, (λ _. refl, (λ _. refl, (λ _. refl, (λ _. refl, tt)))))))))))))))))))
      refl

  unlisted : (w : Mode) (columns : List Event) (n : Name) (es : List Event) (l m : Bool) (s t : Option ℕ) (said alt : List ℕ) → is_wanted list_names n ≡ false
      → shape_by options bytes known tab w columns n es l s said alt ≡ shape_by options bytes known tab w columns n es m t said alt
  unlisted mode.Flow columns n es l m s t said alt h = block-unlisted false n es l m s t h
  unlisted mode.Tight columns n es l m s t said alt h = block-unlisted true n es l m s t h
  unlisted mode.LooseItems columns n es l m s t said alt h = refl
  unlisted mode.TightItems columns n es l m s t said alt h = refl
  unlisted mode.Heading columns n es l m s t said alt h = refl
  unlisted mode.Table columns n es l m s t said alt h = refl
  unlisted (mode.Rows head) columns n es l m s t said alt h = refl
  unlisted (mode.Cells head) columns n es l m s t said alt h = refl
  unlisted mode.Paragraph columns n es l m s t said alt h = refl
  unlisted mode.Text columns n es l m s t said alt h = refl
  unlisted mode.Nothing columns n es l m s t said alt h = refl

  listed-by : (c : Bool) (w : Mode) (columns : List Event) (n : Name) (at : ℕ) (es inner : List Event) (said alt : List ℕ) → is_wanted list_names n ≡ c
      → shape_by options bytes known tab w columns n inner (loose_of (cond c (Some (shape_of bytes at es)) None)) (start_of (cond c (Some (shape_of bytes at es)) None)) said alt
      ≡ shape_by options bytes known tab w columns n inner (is_loose es) (list_start bytes es) said alt
  listed-by true w columns n at es inner said alt h = refl
  listed-by false w columns n at es inner said alt h = unlisted w columns n inner false (is_loose es) None (list_start bytes es) said alt h

-- ---- steps

pub enter-step : (w : Whole) (os next : List Open) (lists : List ListShape) (e : Event) (es : List Event) (old new : List ℕ) → e.kind ≡ Enter → AreListsOf w.bytes.now lists (e ∷ es)
    → Entered (shape_in w (mode_of os) (columns_at os) (list_at lists e) e es) e (inside es) old new os next
    → after new (walked_in w next es) ≡ after old (walked_in w os (e ∷ es))
enter-step w os next lists e es old new enters h entered =
    let known = known_of w in
    let by = λ (list : Option ListShape). shape_by w.options.now w.bytes.now known w.tab (mode_of os) (columns_at os) e.name (inside es) (loose_of list) (start_of list) (said_at w.bytes.now e es) (alt_from w.bytes.now 0 (inside es)) in
    let here = shape_at w.options.now w.bytes.now known w.tab (mode_of os) (columns_at os) e es in
    let b = block_of e.name in
    let stack : Shape → List Open = λ s. record { mode = s.inside; columns = columns_in b (columns_at os) (inside es); closed = s.closed } ∷ moved b os in
    let listed : is_list e ≡ is_wanted list_names e.name = ap (λ k. is_enter k && is_wanted list_names e.name) enters in
    let same : by (list_at lists e) ≡ here =
    ap by (list-at w.bytes.now lists e es h ∙ ap (λ c. cond c (Some (shape_of w.bytes.now h.at es)) None) listed)
    ∙ listed-by w.options.now w.bytes.now known w.tab (is_wanted list_names e.name) (mode_of os) (columns_at os) e.name h.at es (inside es) (said_at w.bytes.now e es) (alt_from w.bytes.now 0 (inside es)) refl
    in
    let go = λ (s : Shape). after (after old s.opened) (walked_in w (stack s) es) in
    ap (λ (out : List ℕ). after out (walked_in w next es)) entered.written
    ∙ ap (λ (o : List Open). after (after old (by (list_at lists e)).opened) (walked_in w o es)) entered.stack
    ∙ ap go same
    ∙ sym (after-append old here.opened (walked_in w (stack here) es))
    ∙ ap (after old) (sym (enter-walked w.options.now w.bytes.now known w.tab os e es enters))

-- outside of columns nothing moves
unmoved-by : (b : Block) (o : Open) (os : List Open) (columns : List Event) → o.columns ≡ columns → is_in_cell columns ≡ false → moved b (o ∷ os) ≡ o ∷ os
unmoved-by b o os [] h none =
    ap (λ (x : List Event). record o { columns = columns_behind b x } ∷ os) h ∙ ap (λ (x : List Event). record o { columns = x } ∷ os) (sym h)
unmoved-by b o os (e ∷ es) h none = cc

pub unmoved : (b : Block) (os : List Open) → is_in_cell (columns_at os) ≡ false → moved b os ≡ os
unmoved b [] none = refl
unmoved b (o ∷ os) none = unmoved-by b o os o.columns refl none

-- a span of which nothing more is written is passed over
pub over-step : (w : Whole) (os next : List Open) (lists : List ListShape) (list : Option ListShape) (e : Event) (es rest : List Event) (f : Frame) (old new : List ℕ) → e.kind ≡ Enter
    → AreListsOf w.bytes.now lists (e ∷ es) → list ≡ list_at lists e → Opens (shape_in w (mode_of os) (columns_at os) list e es) old new f → next ≡ moved (block_of e.name) os
    → is_over f.end f.mode es ≡ true → rest ≡ events_past 0 es → after new (walked_in w next rest) ≡ after old (walked_in w os (e ∷ es))
over-step w os next lists list e es rest f old new enters h listed begun behind over passed =
    let opened = subst (λ (l : Option ListShape). Opens (shape_in w (mode_of os) (columns_at os) l e es) old new f) listed begun in
    let s = shape_in w (mode_of os) (columns_at os) (list_at lists e) e es in
    let o : Open = record { mode = s.inside; columns = columns_in (block_of e.name) (columns_at os) (inside es); closed = s.closed } in
    ap (λ (x : List Open). after new (walked_in w x rest)) behind ∙ ap (λ (x : List Event). after new (walked_in w (moved (block_of e.name) os) x)) passed
    ∙ ap (after new) (sym (over-walked w.options.now w.bytes.now (known_of w) w.tab f.end f.mode o (moved (block_of e.name) os) es over (sym opened.mode) (sym opened.closed)))
    ∙ enter-step w os (o ∷ moved (block_of e.name) os) lists e es old new enters h (record { written = opened.written; stack = refl })

-- and another one is open
pub open-step : (w : Whole) (os next middle : List Open) (lists : List ListShape) (list : Option ListShape) (e : Event) (es columns : List Event) (f : Frame) (old new : List ℕ) → e.kind ≡ Enter
    → AreListsOf w.bytes.now lists (e ∷ es) → list ≡ list_at lists e → Opens (shape_in w (mode_of os) (columns_at os) list e es) old new f → middle ≡ moved (block_of e.name) os
    → columns ≡ columns_in (block_of e.name) (columns_at os) (inside es) → next ≡ record { mode = f.mode; columns = columns; closed = closed_by f.end } ∷ middle
    → after new (walked_in w next es) ≡ after old (walked_in w os (e ∷ es))
open-step w os next middle lists list e es columns f old new enters h listed begun behind within pushed =
    let opened = subst (λ (l : Option ListShape). Opens (shape_in w (mode_of os) (columns_at os) l e es) old new f) listed begun in
    let s = shape_in w (mode_of os) (columns_at os) (list_at lists e) e es in
    let stack : (m : Mode) (c : List Event) (ps : List Piece) (os : List Open) → List Open = λ m c ps x. record { mode = m; columns = c; closed = ps } ∷ x in
    enter-step w os next lists e es old new enters h
    (record {
      written = opened.written;
      stack = pushed ∙ ap (λ m. stack m columns (closed_by f.end) middle) opened.mode ∙ ap (λ c. stack s.inside c (closed_by f.end) middle) within
          ∙ ap (λ ps. stack s.inside (columns_in (block_of e.name) (columns_at os) (inside es)) ps middle) opened.closed
          ∙ ap (stack s.inside (columns_in (block_of e.name) (columns_at os) (inside es)) s.closed) behind;
    })

pub exit-step : (w : Whole) (os next : List Open) (e : Event) (es : List Event) (old new : List ℕ) → e.kind ≡ Exit → new ≡ after (after old (lacking (mode_of os) (columns_at os))) (closed_of os)
    → next ≡ drop 1 os → after new (walked_in w next es) ≡ after old (walked_in w os (e ∷ es))
exit-step w os next e es old new exits written rest =
    let behind = lacking (mode_of os) (columns_at os) in
    ap (λ (out : List ℕ). after out (walked_in w next es)) written ∙ ap (λ (o : List Open). after (after (after old behind) (closed_of os)) (walked_in w o es)) rest
    ∙ sym (after-append old behind (closed_of os ++ walked_in w (drop 1 os) es) ∙ after-append (after old behind) (closed_of os) (walked_in w (drop 1 os) es))
    ∙ ap (after old) (sym (exit-walked w.options.now w.bytes.now (known_of w) w.tab os e es exits))

-- ---- a span that says its bytes

says-by : (P : Name → Type 0) (n : Name) (b c : Bool) → P name.Data → P name.CharacterEscapeValue → same_name n name.Data ≡ b → same_name n name.CharacterEscapeValue ≡ c → b || c ≡ true → P n
says-by P n true c own value is escaped h = subst P (sym (same_true the_type tt n name.Data is)) own
says-by P n false true own value is escaped h = subst P (sym (same_true the_type tt n name.CharacterEscapeValue escaped)) value
says-by P n false false own value is escaped h = cc

says-each : (P : Name → Type 0) (n : Name) → P name.Data → P name.CharacterEscapeValue → says_bytes n ≡ true → P n
says-each P n own value h = says-by P n (same_name n name.Data) (same_name n name.CharacterEscapeValue) own value refl refl h

-- behind it is what is behind its exit
pub behind-exit : (es : List Event) → ends es ≡ true → drop 1 es ≡ events_past 0 es
behind-exit [] h = cc
behind-exit (f ∷ fs) h = sym (ap (λ k. past_by k 0 fs (λ d. events_past d fs)) (exit-is f.kind h))

lists-behind-exit : (lists : List ListShape) (es : List Event) → ends es ≡ true → lists_past 0 lists es ≡ lists
lists-behind-exit lists [] h = cc
lists-behind-exit lists (f ∷ fs) h = ap (λ k. left_by k 0 f lists (λ n l. lists_past n l fs)) (exit-is f.kind h)

-- it is no list
unlisted-bytes : (lists : List ListShape) (e : Event) → e.kind ≡ Enter → says_bytes e.name ≡ true → lists_behind lists e ≡ lists
unlisted-bytes lists e enters h =
    behind-is lists e
    ∙ ap (λ c. behind_by c lists) (ap (λ k. is_enter k && is_wanted list_names e.name) enters ∙ says-each (λ n. is_wanted list_names n ≡ false) e.name refl refl h)
    ∙ none-behind lists

abbrev IsBytes : Mode → Event → List Event → Type 0
IsBytes m e es = (is_inline m ≡ true) × (says_bytes e.name ≡ true) × (ends es ≡ true)

is-bytes : (m : Mode) (e : Event) (es : List Event) → is_bytes m e es ≡ true → IsBytes m e es
is-bytes m e es h =
    let first = and_parts (is_inline m) (says_bytes e.name && ends es) h in
    let others = and_parts (says_bytes e.name) (ends es) first.1 in
    (first.0, others.0, others.1)

pub bytes-lists : (bytes : List ℕ) (lists : List ListShape) (m : Mode) (e : Event) (es rest : List Event) → e.kind ≡ Enter → is_bytes m e es ≡ true → AreListsOf bytes lists (e ∷ es)
    → rest ≡ drop 1 es → AreListsOf bytes lists rest
bytes-lists bytes lists m e es rest enters is h left =
    let parts = is-bytes m e es is in
    over-lists bytes lists lists lists e es rest h (sym (unlisted-bytes lists e enters parts.1)) (sym (lists-behind-exit lists es parts.2)) (left ∙ behind-exit es parts.2)

pub bytes-short : (es rest : List Event) → rest ≡ drop 1 es → length rest ≤ length es
bytes-short es rest left =
    let less = length-drop 1 es in
    let same = ap (λ (x : List Event). length x) left in
    omega (arith, less, same)

-- no cell is left behind it
unmoved-columns : (columns : List Event) → columns_behind block.Other columns ≡ columns
unmoved-columns [] = refl
unmoved-columns (e ∷ es) = refl

unmoved-other : (os : List Open) → moved block.Other os ≡ os
unmoved-other [] = refl
unmoved-other (o ∷ os) = ap (λ (x : List Event). record o { columns = x } ∷ os) (unmoved-columns o.columns)

-- it is told
told-in : (w : Whole) (m : Mode) (columns : List Event) (list : Option ListShape) (e : Event) (es : List Event) → is_inline m ≡ true → inline_of e.name ≡ inline.Other
    → shape_in w m columns list e es ≡ told (said_at w.bytes.now e es)
told-in w mode.Text columns list e es h other =
    ap (λ i. inline_shape w.options.now w.bytes.now (known_of w) w.tab (is_in_cell columns) i (inside es) (said_at w.bytes.now e es) (alt_from w.bytes.now 0 (inside es))) other
told-in w mode.Paragraph columns list e es h other =
    ap (λ i. paragraph_shape w.options.now w.bytes.now (known_of w) w.tab (is_in_cell columns) i (inside es) (said_at w.bytes.now e es) (alt_from w.bytes.now 0 (inside es))) other
told-in w mode.Flow columns list e es h other = cc
told-in w mode.Tight columns list e es h other = cc
told-in w mode.LooseItems columns list e es h other = cc
told-in w mode.TightItems columns list e es h other = cc
told-in w mode.Heading columns list e es h other = cc
told-in w mode.Table columns list e es h other = cc
told-in w (mode.Rows is_head) columns list e es h other = cc
told-in w (mode.Cells is_head) columns list e es h other = cc
told-in w mode.Nothing columns list e es h other = cc

pub bytes-step : (w : Whole) (os : List Open) (lists : List ListShape) (m : Mode) (e : Event) (es rest : List Event) (old new : List ℕ) → e.kind ≡ Enter
    → AreListsOf w.bytes.now lists (e ∷ es) → m ≡ mode_of os → is_bytes m e es ≡ true → rest ≡ drop 1 es → new ≡ old ++ escaped (inner_bytes w.bytes.now e es)
    → after new (walked_in w os rest) ≡ after old (walked_in w os (e ∷ es))
bytes-step w os lists m e es rest old new enters h here is left added =
    let parts = is-bytes (mode_of os) e es (sym (ap (λ x. is_bytes x e es) here) ∙ is) in
    let f : Frame = record { mode = mode.Text; end = end.Nothing } in
    let begun : Opens (shape_in w (mode_of os) (columns_at os) (list_at lists e) e es) old new f =
    subst (λ (s : Shape). Opens s old new f)
    (sym (told-in w (mode_of os) (columns_at os) (list_at lists e) e es parts.0 (says-each (λ n. inline_of n ≡ inline.Other) e.name refl refl parts.1)))
    (record { written = added ∙ ap (λ (t : List ℕ). old ++ escaped t) (said_bytes w.bytes.now e es parts.1); mode = refl; closed = refl })
    in
    over-step w os os lists (list_at lists e) e es rest f old new enters h refl begun
    (sym (ap (λ b. moved b os) (says-each (λ n. block_of n ≡ block.Other) e.name refl refl parts.1) ∙ unmoved-other os)) parts.2 (left ∙ behind-exit es parts.2)
