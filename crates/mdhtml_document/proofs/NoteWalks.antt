-- The walk over events finds the footnote definitions of their spans.
use Rattle.std.proofs.Common.{◌≡◌, ℕ, suc, List, [], ◌∷◌, ◌++◌, length, map, take, drop, ap, sym, refl, ◌∙◌, append_assoc, append-nil, length-append, Some, arith}
use Rattle.std.proofs.lemmas.Bool.{cond_both}
use Rattle.std.specs.Option.{unwrap_or}
use Rattle.std.specs.Prelude.{⊤, zero, ◌&&◌, not, Bool, true, false, bytes_eq, cond}
use Rattle.markdown_base.specs.declared.event.Event.{Event}
use Rattle.markdown_base.specs.declared.event.Kind.{Kind}
use Rattle.markdown_base.specs.declared.event.Kind.TheVariants.{Enter, Exit}
use Rattle.markdown_base.specs.Events.{IsBalanced, is_enter}
use Rattle.mddocument_link_targets.specs.Spans.{inside}
use Rattle.mdhtml_document.specs.Notes.{is_container, is_note, label_in, note_of, notes_in, own}
use Rattle.mdhtml_document.specs.Spans.{AreKinded, Nothing, Span, Spans, events_of, spans_of}
use Rattle.mdhtml_document.specs.Walks.{first_note, noted, with_event}
use Rattle.mdhtml_document.proofs.Both.{AreNamed, balanced-named, keep-events}
use Rattle.mdhtml_document.proofs.SpanFacts.{inside-of, opened-kinded, span-append}

-- a definition by its label and events
abbrev Noted : Type 0
Noted = List ℕ × List Event

abbrev pub noted_of : List (List ℕ × Spans) → List Noted
noted_of ns = map (λ n. (n.0, events_of n.1)) ns

noted-append : (ns ms : List (List ℕ × Spans)) → noted_of (ns ++ ms) ≡ noted_of ns ++ noted_of ms
noted-append [] ms = refl
noted-append (n ∷ ns) ms = ap (λ (x : List Noted). (n.0, events_of n.1) ∷ x) (noted-append ns ms)

-- events go to the innermost definition that is around
abbrev with_events : List Event → List Noted → List Noted
with_events es [] = []
with_events es (n ∷ ns) = (n.0, n.1 ++ es) ∷ ns

with-none : (around : List Noted) → with_events [] around ≡ around
with-none [] = refl
with-none (n ∷ ns) = ap (λ (x : List Event). (n.0, x) ∷ ns) (append-nil n.1)

with-both : (xs ys : List Event) (around : List Noted) → with_events ys (with_events xs around) ≡ with_events (xs ++ ys) around
with-both xs ys [] = refl
with-both xs ys (n ∷ ns) = ap (λ (x : List Event). (n.0, x) ∷ ns) (append_assoc n.1 xs ys)

with-one : (e : Event) (around : List Noted) → with_event e around ≡ with_events (e ∷ []) around
with-one e [] = refl
with-one e (n ∷ ns) = refl

module _ (bytes : List ℕ) where
  -- events that are passed
  pass : (xs zs : List Event) (around : List Noted) → noted bytes (length xs) around (xs ++ zs) ≡ noted bytes 0 (with_events xs around) zs
  pass [] zs around = ap (λ (o : List Noted). noted bytes 0 o zs) (sym (with-none around))
  pass (x ∷ xs) zs around =
      pass xs zs (with_event x around)
      ∙ ap (λ (o : List Noted). noted bytes 0 o zs) (ap (with_events xs) (with-one x around) ∙ with-both (x ∷ []) xs around)

  -- a step, by what an event is
  abbrev step : (note : Bool) → Kind → (around : List Noted) → Event → List Event → List Noted
  step note k around e es =
      cond note (cond (is_enter k) (noted bytes 0 ((label_in bytes (inside es), []) ∷ around) es) (take 1 around ++ noted bytes 0 (drop 1 around) es))
      (noted bytes (cond (is_enter k && not (is_container e.name)) (suc (length (inside es))) 0) (with_event e around) es)

  stepped : (note : Bool) (k : Kind) (around : List Noted) (e : Event) (es : List Event) → is_note e.name ≡ note → e.kind ≡ k → noted bytes 0 around (e ∷ es) ≡ step note k around e es
  stepped note k around e es n h = ap (λ b. step b e.kind around e es) n ∙ ap (λ x. step note x around e es) h

  -- what is found in spans, and behind them
  abbrev Finds : Spans → Type 0
  Finds s = (around : List Noted) (zs : List Event) → noted bytes 0 around (events_of s ++ zs) ≡ noted_of (notes_in bytes s) ++ noted bytes 0 (with_events (events_of (own s)) around) zs

  -- a definition
  find-note : (e f : Event) (s behind : Spans) → e.kind ≡ Enter → f.kind ≡ Exit → f.name ≡ e.name → AreKinded s → is_note e.name ≡ true → Finds s → Finds behind
      → (around : List Noted) (zs : List Event) → noted bytes 0 around (events_of (Span e f s behind) ++ zs)
      ≡ noted_of (notes_in bytes s ++ (label_in bytes (events_of s), own s) ∷ notes_in bytes behind) ++ noted bytes 0 (with_events (events_of (own behind)) around) zs
  find-note e f s behind enters exits same kinded is inner outer around zs =
      let rest = events_of behind ++ zs in
      let es = events_of s ++ f ∷ rest in
      let label = label_in bytes (events_of s) in
      let first = noted_of (notes_in bytes s) in
      let one : Noted = (label, events_of (own s)) in
      let last = noted_of (notes_in bytes behind) in
      let end = noted bytes 0 (with_events (events_of (own behind)) around) zs in
      ap (noted bytes 0 around) (span-append e f s behind zs) ∙ stepped true Enter around e es is enters
      ∙ ap (λ (x : List Event). noted bytes 0 ((label_in bytes x, []) ∷ around) es) (inside-of s f rest kinded exits)
      ∙ inner ((label, []) ∷ around) (f ∷ rest)
      ∙ ap (λ (x : List Noted). first ++ x) (stepped true Exit (one ∷ around) f rest (ap is_note same ∙ is) exits ∙ ap (λ (x : List Noted). one ∷ x) (outer around zs))
      ∙ sym (append_assoc first (one ∷ last) end) ∙ ap (λ (x : List Noted). x ++ end) (sym (noted-append (notes_in bytes s) ((label, own s) ∷ notes_in bytes behind)))

  -- behind a span that is none
  find-rest : (e f : Event) (behind : Spans) (kept : List Event) (around : List Noted) (zs : List Event) → Finds behind
      → noted bytes 0 (with_events (e ∷ (kept ++ f ∷ [])) around) (events_of behind ++ zs)
      ≡ noted_of (notes_in bytes behind) ++ noted bytes 0 (with_events (e ∷ (kept ++ f ∷ events_of (own behind))) around) zs
  find-rest e f behind kept around zs outer =
      outer (with_events (e ∷ (kept ++ f ∷ [])) around) zs
      ∙ ap (λ (o : List Noted). noted_of (notes_in bytes behind) ++ noted bytes 0 o zs)
      (with-both (e ∷ (kept ++ f ∷ [])) (events_of (own behind)) around
      ∙ ap (λ (x : List Event). with_events (e ∷ x) around) (append_assoc kept (f ∷ []) (events_of (own behind))))

  -- a container
  find-container : (e f : Event) (s behind : Spans) → e.kind ≡ Enter → f.kind ≡ Exit → f.name ≡ e.name → is_note e.name ≡ false → is_container e.name ≡ true → Finds s → Finds behind
      → (around : List Noted) (zs : List Event) → noted bytes 0 around (events_of (Span e f s behind) ++ zs)
      ≡ noted_of (notes_in bytes s ++ notes_in bytes behind) ++ noted bytes 0 (with_events (e ∷ (events_of (own s) ++ f ∷ events_of (own behind))) around) zs
  find-container e f s behind enters exits same none holds inner outer around zs =
      let rest = events_of behind ++ zs in
      let es = events_of s ++ f ∷ rest in
      let first = noted_of (notes_in bytes s) in
      let kept = events_of (own s) in
      let end = noted bytes 0 (with_events (e ∷ (kept ++ f ∷ events_of (own behind))) around) zs in
      ap (noted bytes 0 around) (span-append e f s behind zs) ∙ stepped false Enter around e es none enters
      ∙ ap (λ b. noted bytes (cond (true && not b) (suc (length (inside es))) 0) (with_event e around) es) holds
      ∙ ap (λ (o : List Noted). noted bytes 0 o es) (with-one e around)
      ∙ inner (with_events (e ∷ []) around) (f ∷ rest)
      ∙ ap (λ (o : List Noted). first ++ noted bytes 0 o (f ∷ rest)) (with-both (e ∷ []) kept around)
      ∙ ap (λ (x : List Noted). first ++ x)
      (stepped false Exit (with_events (e ∷ kept) around) f rest (ap is_note same ∙ none) exits
      ∙ ap (λ (o : List Noted). noted bytes 0 o rest) (with-one f (with_events (e ∷ kept) around) ∙ with-both (e ∷ kept) (f ∷ []) around)
      ∙ find-rest e f behind kept around zs outer)
      ∙ sym (append_assoc first (noted_of (notes_in bytes behind)) end) ∙ ap (λ (x : List Noted). x ++ end) (sym (noted-append (notes_in bytes s) (notes_in bytes behind)))

  -- another span
  find-leaf : (e f : Event) (s behind : Spans) → e.kind ≡ Enter → f.kind ≡ Exit → AreKinded s → is_note e.name ≡ false → is_container e.name ≡ false → Finds behind
      → (around : List Noted) (zs : List Event) → noted bytes 0 around (events_of (Span e f s behind) ++ zs)
      ≡ noted_of (notes_in bytes behind) ++ noted bytes 0 (with_events (e ∷ (events_of s ++ f ∷ events_of (own behind))) around) zs
  find-leaf e f s behind enters exits kinded none leaf outer around zs =
      let rest = events_of behind ++ zs in
      let es = events_of s ++ f ∷ rest in
      let whole = events_of s ++ f ∷ [] in
      let size : suc (length (inside es)) ≡ length whole =
      let a = ap (λ (x : List Event). length x) (inside-of s f rest kinded exits) in
      let b = length-append (events_of s) (f ∷ []) in
      omega (arith, a, b)
      in
      ap (noted bytes 0 around) (span-append e f s behind zs) ∙ stepped false Enter around e es none enters
      ∙ ap (λ b. noted bytes (cond (true && not b) (suc (length (inside es))) 0) (with_event e around) es) leaf
      ∙ ap (λ n. noted bytes n (with_event e around) es) size
      ∙ ap (noted bytes (length whole) (with_event e around)) (sym (append_assoc (events_of s) (f ∷ []) rest))
      ∙ pass whole rest (with_event e around)
      ∙ ap (λ (o : List Noted). noted bytes 0 o rest) (ap (with_events whole) (with-one e around) ∙ with-both (e ∷ []) whole around)
      ∙ find-rest e f behind (events_of s) around zs outer

  find-by : (note container : Bool) (e f : Event) (s behind : Spans) → is_note e.name ≡ note → is_container e.name ≡ container → e.kind ≡ Enter → f.kind ≡ Exit → f.name ≡ e.name → AreKinded s
      → Finds s → Finds behind → (around : List Noted) (zs : List Event) → noted bytes 0 around (events_of (Span e f s behind) ++ zs)
      ≡ noted_of (cond note (notes_in bytes s ++ (label_in bytes (events_of s), own s) ∷ notes_in bytes behind) (cond container (notes_in bytes s) [] ++ notes_in bytes behind))
      ++ noted bytes 0 (with_events (events_of (cond note (own behind) (Span e f (cond container (own s) s) (own behind)))) around) zs
  find-by true c e f s behind is holds enters exits same kinded inner outer around zs = find-note e f s behind enters exits same kinded is inner outer around zs
  find-by false true e f s behind is holds enters exits same kinded inner outer around zs = find-container e f s behind enters exits same is holds inner outer around zs
  find-by false false e f s behind is holds enters exits same kinded inner outer around zs = find-leaf e f s behind enters exits kinded is holds outer around zs

  finds : (s : Spans) → AreKinded s → AreNamed s → Finds s
  finds Nothing h n around zs = ap (λ (o : List Noted). noted bytes 0 o zs) (sym (with-none around))
  finds (Span e f s behind) h n around zs =
      find-by (is_note e.name) (is_container e.name) e f s behind refl refl h.0 h.1 n.0 h.2 (finds s h.2 n.1) (finds behind h.3 n.2) around zs

  -- all of them
  noted-none : (skip : ℕ) (around : List Noted) → noted bytes skip around [] ≡ []
  noted-none zero around = refl
  noted-none (suc n) around = refl

  pub noted-all : (events : List Event) → IsBalanced events → noted bytes 0 [] events ≡ noted_of (notes_in bytes (spans_of events))
  noted-all events balanced =
      let s = spans_of events in
      let found = noted_of (notes_in bytes s) in
      ap (noted bytes 0 []) (sym (append-nil (events_of s) ∙ keep-events events balanced)) ∙ finds s (opened-kinded events).0 (balanced-named events balanced) [] []
      ∙ append-nil found

-- ---- the first one of a label

first-by : (c : Bool) (label : List ℕ) (n : List ℕ × Spans) (ns : List (List ℕ × Spans)) → unwrap_or (first_note label (noted_of ns)) [] ≡ events_of (note_of label ns)
    → unwrap_or (cond c (Some (events_of n.1)) (first_note label (noted_of ns))) [] ≡ events_of (cond c n.1 (note_of label ns))
first-by true label n ns h = refl
first-by false label n ns h = h

pub first-is : (label : List ℕ) (ns : List (List ℕ × Spans)) → unwrap_or (first_note label (noted_of ns)) [] ≡ events_of (note_of label ns)
first-is label [] = refl
first-is label (n ∷ ns) = first-by (bytes_eq label n.0) label n ns (first-is label ns)

-- ---- kinds

own-by : (note container : Bool) (e f : Event) (s t b : Spans) → e.kind ≡ Enter → f.kind ≡ Exit → AreKinded s → AreKinded t → AreKinded b → AreKinded (cond note b (Span e f (cond container t s) b))
own-by true c e f s t b h k a o r = r
own-by false true e f s t b h k a o r = (h, k, o, r)
own-by false false e f s t b h k a o r = (h, k, a, r)

own-kinded : (s : Spans) → AreKinded s → AreKinded (own s)
own-kinded Nothing h = tt
own-kinded (Span e f s behind) h = own-by (is_note e.name) (is_container e.name) e f s (own s) (own behind) h.0 h.1 h.2 (own-kinded s h.2) (own-kinded behind h.3)

abbrev EachKinded : List (List ℕ × Spans) → Type 0
EachKinded [] = ⊤
EachKinded (n ∷ ns) = AreKinded n.1 × EachKinded ns

each-both : (ns ms : List (List ℕ × Spans)) → EachKinded ns → EachKinded ms → EachKinded (ns ++ ms)
each-both [] ms h k = k
each-both (n ∷ ns) ms h k = (h.0, each-both ns ms h.1 k)

each-by : (note container : Bool) (label : List ℕ) (t : Spans) (inner rest : List (List ℕ × Spans)) → AreKinded t → EachKinded inner → EachKinded rest
    → EachKinded (cond note (inner ++ (label, t) ∷ rest) (cond container inner [] ++ rest))
each-by true c label t inner rest a h k = each-both inner ((label, t) ∷ rest) h (a, k)
each-by false true label t inner rest a h k = each-both inner rest h k
each-by false false label t inner rest a h k = k

notes-kinded : (bytes : List ℕ) (s : Spans) → AreKinded s → EachKinded (notes_in bytes s)
notes-kinded bytes Nothing h = tt
notes-kinded bytes (Span e f s behind) h =
    each-by (is_note e.name) (is_container e.name) (label_in bytes (events_of s)) (own s) (notes_in bytes s) (notes_in bytes behind) (own-kinded s h.2) (notes-kinded bytes s h.2)
    (notes-kinded bytes behind h.3)

pub note-kinded : (label : List ℕ) (ns : List (List ℕ × Spans)) → EachKinded ns → AreKinded (note_of label ns)
note-kinded label [] h = tt
note-kinded label (n ∷ ns) h = cond_both (bytes_eq label n.0) n.1 (note_of label ns) AreKinded (λ e. h.0) (λ e. note-kinded label ns h.1)

pub all-kinded : (bytes : List ℕ) (events : List Event) (label : List ℕ) → AreKinded (note_of label (notes_in bytes (spans_of events)))
all-kinded bytes events label = note-kinded label (notes_in bytes (spans_of events)) (notes-kinded bytes (spans_of events) (opened-kinded events).0)
