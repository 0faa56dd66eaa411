-- Descriptions and references by spans are those by events.
use Rattle.std.proofs.Common.{◌≡◌, ℕ, suc, ◌+◌, List, [], ◌∷◌, ◌++◌, drop, length, ap, sym, refl, ◌∙◌, append_assoc, append-nil, arith}
use Rattle.std.specs.Prelude.{zero, true, false, cond}
use Rattle.markdown_base.specs.declared.event.Event.{Event}
use Rattle.markdown_base.specs.declared.event.Kind.TheVariants.{Enter, Exit}
use Rattle.markdown_base.specs.Events.{is_enter}
use Rattle.mdhtml_document.specs.declared.names.Inline.{Inline}
use Rattle.mdhtml_document.specs.declared.names.Inline.TheVariants as inline
use Rattle.mdhtml_document.specs.Html.{referred, references}
use Rattle.mdhtml_document.specs.Names.{inline_of}
use Rattle.mdhtml_document.specs.Spans.{Nothing, Span, Spans, events_of}
use Rattle.mdhtml_document.specs.Values.{alt_by, alt_of, said}
use Rattle.mdhtml_document.specs.Walks.{alt_from, is_left, is_passed, left, passed, references_from, said_at}
use Rattle.mdhtml_document.proofs.SpanFacts.{AreKinded, inside-of, said-of, span-append}
use Rattle.mddocument_link_targets.specs.Spans.{inside}

module _ (bytes : List ℕ) where
  -- events that are passed over
  alt-skip : (xs ys : List Event) → alt_from bytes (length xs) (xs ++ ys) ≡ alt_from bytes 0 ys
  alt-skip [] ys = refl
  alt-skip (x ∷ xs) ys = alt-skip xs ys

  -- what is said of a span by itself, and with what is in it
  alt-parts : (i : Inline) (es : List Event) (own alt : List ℕ) → alt_by bytes i es own alt ≡ alt_by bytes i es own [] ++ cond (is_passed i) [] alt
  alt-parts inline.Ending es own alt = refl
  alt-parts inline.Break es own alt = sym (ap (λ x. x ++ alt) (append-nil own))
  alt-parts inline.Emphasis es own alt = sym (ap (λ x. x ++ alt) (append-nil own))
  alt-parts inline.Strong es own alt = sym (ap (λ x. x ++ alt) (append-nil own))
  alt-parts inline.Struck es own alt = sym (ap (λ x. x ++ alt) (append-nil own))
  alt-parts inline.Code es own alt = sym (append-nil (alt_by bytes inline.Code es own []))
  alt-parts inline.Html es own alt = sym (append-nil (alt_by bytes inline.Html es own []))
  alt-parts inline.Autolink es own alt = sym (append-nil (alt_by bytes inline.Autolink es own []))
  alt-parts inline.Www es own alt = sym (ap (λ x. x ++ alt) (append-nil own))
  alt-parts inline.Email es own alt = sym (ap (λ x. x ++ alt) (append-nil own))
  alt-parts inline.Address es own alt = sym (ap (λ x. x ++ alt) (append-nil own))
  alt-parts inline.Check es own alt = sym (ap (λ x. x ++ alt) (append-nil own))
  alt-parts inline.Call es own alt = sym (ap (λ x. x ++ alt) (append-nil own))
  alt-parts inline.Link es own alt = sym (ap (λ x. x ++ alt) (append-nil own))
  alt-parts inline.Image es own alt = sym (ap (λ x. x ++ alt) (append-nil own))
  alt-parts inline.Tail es own alt = refl
  alt-parts inline.Other es own alt = sym (ap (λ x. x ++ alt) (append-nil own))

  enter-alt : (e : Event) (es : List Event) → e.kind ≡ Enter
      → alt_from bytes 0 (e ∷ es) ≡ alt_by bytes (inline_of e.name) (inside es) (said_at bytes e es) [] ++ alt_from bytes (passed (inline_of e.name) es) es
  enter-alt e es h =
      ap (λ k. cond (is_enter k) (alt_by bytes (inline_of e.name) (inside es) (said_at bytes e es) [] ++ alt_from bytes (passed (inline_of e.name) es) es) (alt_from bytes 0 es)) h

  exit-alt : (e : Event) (es : List Event) → e.kind ≡ Exit → alt_from bytes 0 (e ∷ es) ≡ alt_from bytes 0 es
  exit-alt e es h =
      ap (λ k. cond (is_enter k) (alt_by bytes (inline_of e.name) (inside es) (said_at bytes e es) [] ++ alt_from bytes (passed (inline_of e.name) es) es) (alt_from bytes 0 es)) h

  -- what is in a span is passed over, or is not
  inner-alt : (i : Inline) (s : Spans) (f : Event) (ys : List Event) → AreKinded s → f.kind ≡ Exit
      → ((zs : List Event) → alt_from bytes 0 (events_of s ++ zs) ≡ alt_of bytes s ++ alt_from bytes 0 zs)
      → alt_from bytes (cond (is_passed i) (length (inside (events_of s ++ f ∷ ys))) 0) (events_of s ++ f ∷ ys) ≡ cond (is_passed i) [] (alt_of bytes s) ++ alt_from bytes 0 ys
  inner-alt i s f ys h exits inner =
      elim (is_passed i) as (λ b. alt_from bytes (cond b (length (inside (events_of s ++ f ∷ ys))) 0) (events_of s ++ f ∷ ys) ≡ cond b [] (alt_of bytes s) ++ alt_from bytes 0 ys) [
        | true ↦ ap (λ (x : List Event). alt_from bytes (length x) (events_of s ++ f ∷ ys)) (inside-of s f ys h exits) ∙ alt-skip (events_of s) (f ∷ ys) ∙ exit-alt f ys exits
        | false ↦ inner (f ∷ ys) ∙ ap (λ x. alt_of bytes s ++ x) (exit-alt f ys exits)
      ]

  pub alt-spans : (s : Spans) → AreKinded s → (zs : List Event) → alt_from bytes 0 (events_of s ++ zs) ≡ alt_of bytes s ++ alt_from bytes 0 zs
  alt-spans Nothing h zs = refl
  alt-spans (Span e f s behind) h zs =
      let i = inline_of e.name in
      let rest = events_of behind ++ zs in
      let es = events_of s ++ f ∷ rest in
      let own = alt_by bytes i (events_of s) (said bytes e f s) [] in
      let inner = cond (is_passed i) [] (alt_of bytes s) in
      ap (alt_from bytes 0) (span-append e f s behind zs) ∙ enter-alt e es h.0
      ∙ ap (λ (x : List Event). alt_by bytes i x (said_at bytes e es) [] ++ alt_from bytes (passed i es) es) (inside-of s f rest h.2 h.1)
      ∙ ap (λ (x : List ℕ). alt_by bytes i (events_of s) x [] ++ alt_from bytes (passed i es) es) (said-of bytes e f s rest h.0 h.1 h.2)
      ∙ ap (λ (x : List ℕ). own ++ x) (inner-alt i s f rest h.2 h.1 (alt-spans s h.2) ∙ ap (λ (x : List ℕ). inner ++ x) (alt-spans behind h.3 zs))
      ∙ sym (append_assoc own inner (alt_of bytes behind ++ alt_from bytes 0 zs)) ∙ ap (λ (x : List ℕ). x ++ (alt_of bytes behind ++ alt_from bytes 0 zs)) (sym (alt-parts i (events_of s) (said bytes e f s) (alt_of bytes s)))
      ∙ sym (append_assoc (alt_by bytes i (events_of s) (said bytes e f s) (alt_of bytes s)) (alt_of bytes behind) (alt_from bytes 0 zs))

  pub alt-of : (s : Spans) → AreKinded s → alt_from bytes 0 (events_of s) ≡ alt_of bytes s
  alt-of s h = ap (alt_from bytes 0) (sym (append-nil (events_of s))) ∙ alt-spans s h [] ∙ append-nil (alt_of bytes s)

  -- one event on, by what its span is
  pub entered-alt : (i : Inline) (n : ℕ) (e : Event) (es : List Event) (old new : List ℕ) → e.kind ≡ Enter → inline_of e.name ≡ i
      → new ≡ old ++ alt_by bytes i (inside es) (said_at bytes e es) [] → n ≡ passed i es → new ++ alt_from bytes n es ≡ old ++ alt_from bytes 0 (e ∷ es)
  entered-alt i n e es old new enters is added few =
      let own = λ (j : Inline). alt_by bytes j (inside es) (said_at bytes e es) [] in
      ap (λ (x : List ℕ). x ++ alt_from bytes n es) added ∙ ap (λ m. (old ++ own i) ++ alt_from bytes m es) few ∙ append_assoc old (own i) (alt_from bytes (passed i es) es)
      ∙ ap (λ j. old ++ (own j ++ alt_from bytes (passed j es) es)) (sym is) ∙ ap (λ (x : List ℕ). old ++ x) (sym (enter-alt e es enters))

  -- what is passed over
  pub alt-drop : (n : ℕ) (es : List Event) → alt_from bytes n es ≡ alt_from bytes 0 (drop n es)
  alt-drop zero es = refl
  alt-drop (suc n) [] = refl
  alt-drop (suc n) (e ∷ es) = alt-drop n es

  -- a span that is not passed over
  pub other-alt : (i : Inline) (es : List Event) (own : List ℕ) → is_passed i ≡ false → alt_by bytes i es own [] ≡ own ++ []
  other-alt inline.Ending es own h = cc
  other-alt inline.Break es own h = refl
  other-alt inline.Emphasis es own h = refl
  other-alt inline.Strong es own h = refl
  other-alt inline.Struck es own h = refl
  other-alt inline.Code es own h = cc
  other-alt inline.Html es own h = cc
  other-alt inline.Autolink es own h = cc
  other-alt inline.Www es own h = refl
  other-alt inline.Email es own h = refl
  other-alt inline.Address es own h = refl
  other-alt inline.Check es own h = refl
  other-alt inline.Call es own h = refl
  other-alt inline.Link es own h = refl
  other-alt inline.Image es own h = refl
  other-alt inline.Tail es own h = cc
  other-alt inline.Other es own h = refl

  -- a span that is none of those that are passed over
  pub none-passed : (i : Inline) → (i ≡ inline.Ending → ⊥) → (i ≡ inline.Code → ⊥) → (i ≡ inline.Html → ⊥) → (i ≡ inline.Autolink → ⊥) → (i ≡ inline.Tail → ⊥) → is_passed i ≡ false
  none-passed inline.Ending a b c d e = absurd (a refl)
  none-passed inline.Break a b c d e = refl
  none-passed inline.Emphasis a b c d e = refl
  none-passed inline.Strong a b c d e = refl
  none-passed inline.Struck a b c d e = refl
  none-passed inline.Code a b c d e = absurd (b refl)
  none-passed inline.Html a b c d e = absurd (c refl)
  none-passed inline.Autolink a b c d e = absurd (d refl)
  none-passed inline.Www a b c d e = refl
  none-passed inline.Email a b c d e = refl
  none-passed inline.Address a b c d e = refl
  none-passed inline.Check a b c d e = refl
  none-passed inline.Call a b c d e = refl
  none-passed inline.Link a b c d e = refl
  none-passed inline.Image a b c d e = refl
  none-passed inline.Tail a b c d e = absurd (e refl)
  none-passed inline.Other a b c d e = refl

  pub default-alt : (i : Inline) (e : Event) (es : List Event) (old new : List ℕ) → e.kind ≡ Enter → inline_of e.name ≡ i → is_passed i ≡ false
      → new ≡ old ++ said_at bytes e es → new ++ alt_from bytes 0 es ≡ old ++ alt_from bytes 0 (e ∷ es)
  default-alt i e es old new enters is passing added =
      let own = said_at bytes e es in
      entered-alt i 0 e es old new enters is (added ∙ ap (λ (x : List ℕ). old ++ x) (sym (append-nil own) ∙ sym (other-alt i (inside es) own passing)))
      (sym (ap (λ b. cond b (length (inside es)) 0) passing))

module _ (bytes : List ℕ) (size : (label : List ℕ) → ℕ) where
  references-skip : (xs ys : List Event) → references_from bytes size (length xs) (xs ++ ys) ≡ references_from bytes size 0 ys
  references-skip [] ys = refl
  references-skip (x ∷ xs) ys = references-skip xs ys

  pub enter-references : (e : Event) (es : List Event) → e.kind ≡ Enter
      → references_from bytes size 0 (e ∷ es) ≡ referred bytes size (inline_of e.name) (inside es) 0 + references_from bytes size (left (inline_of e.name) es) es
  enter-references e es h =
      ap (λ k. cond (is_enter k) (referred bytes size (inline_of e.name) (inside es) 0 + references_from bytes size (left (inline_of e.name) es) es) (references_from bytes size 0 es)) h

  pub exit-references : (e : Event) (es : List Event) → e.kind ≡ Exit → references_from bytes size 0 (e ∷ es) ≡ references_from bytes size 0 es
  exit-references e es h =
      ap (λ k. cond (is_enter k) (referred bytes size (inline_of e.name) (inside es) 0 + references_from bytes size (left (inline_of e.name) es) es) (references_from bytes size 0 es)) h

  parts-of-references : (i : Inline) (es : List Event) (inner : ℕ) → referred bytes size i es inner ≡ referred bytes size i es 0 + cond (is_left i) 0 inner
  parts-of-references inline.Ending es inner = omega arith
  parts-of-references inline.Break es inner = omega arith
  parts-of-references inline.Emphasis es inner = omega arith
  parts-of-references inline.Strong es inner = omega arith
  parts-of-references inline.Struck es inner = omega arith
  parts-of-references inline.Code es inner = omega arith
  parts-of-references inline.Html es inner = omega arith
  parts-of-references inline.Autolink es inner = omega arith
  parts-of-references inline.Www es inner = omega arith
  parts-of-references inline.Email es inner = omega arith
  parts-of-references inline.Address es inner = omega arith
  parts-of-references inline.Check es inner = omega arith
  parts-of-references inline.Call es inner = omega arith
  parts-of-references inline.Link es inner = omega arith
  parts-of-references inline.Image es inner = omega arith
  parts-of-references inline.Tail es inner = omega arith
  parts-of-references inline.Other es inner = omega arith

  inner-references : (i : Inline) (s : Spans) (f : Event) (ys : List Event) → AreKinded s → f.kind ≡ Exit
      → ((zs : List Event) → references_from bytes size 0 (events_of s ++ zs) ≡ references bytes size s + references_from bytes size 0 zs)
      → references_from bytes size (cond (is_left i) (length (inside (events_of s ++ f ∷ ys))) 0) (events_of s ++ f ∷ ys) ≡ cond (is_left i) 0 (references bytes size s) + references_from bytes size 0 ys
  inner-references i s f ys h exits inner =
      elim (is_left i) as (λ b. references_from bytes size (cond b (length (inside (events_of s ++ f ∷ ys))) 0) (events_of s ++ f ∷ ys) ≡ cond b 0 (references bytes size s) + references_from bytes size 0 ys) [
        | true ↦
            let skipped = ap (λ (x : List Event). references_from bytes size (length x) (events_of s ++ f ∷ ys)) (inside-of s f ys h exits) ∙ references-skip (events_of s) (f ∷ ys) ∙ exit-references f ys exits in
            omega (arith, skipped)
        | false ↦ inner (f ∷ ys) ∙ ap (λ x. references bytes size s + x) (exit-references f ys exits)
      ]

  pub references-spans : (s : Spans) → AreKinded s → (zs : List Event) → references_from bytes size 0 (events_of s ++ zs) ≡ references bytes size s + references_from bytes size 0 zs
  references-spans Nothing h zs = omega arith
  references-spans (Span e f s behind) h zs =
      let i = inline_of e.name in
      let rest = events_of behind ++ zs in
      let es = events_of s ++ f ∷ rest in
      let first = ap (references_from bytes size 0) (span-append e f s behind zs) ∙ enter-references e es h.0
      ∙ ap (λ (x : List Event). referred bytes size i x 0 + references_from bytes size (left i es) es) (inside-of s f rest h.2 h.1) in
      let inner = inner-references i s f rest h.2 h.1 (references-spans s h.2) in
      let outer = references-spans behind h.3 zs in
      let parts = parts-of-references i (events_of s) (references bytes size s) in
      omega (arith, first, inner, outer, parts)

  pub references-of : (s : Spans) → AreKinded s → references_from bytes size 0 (events_of s) ≡ references bytes size s
  references-of s h =
      let e = ap (references_from bytes size 0) (sym (append-nil (events_of s))) ∙ references-spans s h [] in
      omega (arith, e)

  pub references-drop : (n : ℕ) (es : List Event) → references_from bytes size n es ≡ references_from bytes size 0 (drop n es)
  references-drop zero es = refl
  references-drop (suc n) [] = refl
  references-drop (suc n) (e ∷ es) = references-drop n es
