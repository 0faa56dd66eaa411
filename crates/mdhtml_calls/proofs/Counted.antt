-- There are no more spans that are calls of footnotes than calls among events.
use Rattle.std.proofs.Common.{◌≡◌, ◌∙◌, ℕ, ◌+◌, ◌≤◌, ◌++◌, Bool, true, false, cond, List, [], ◌∷◌, ap, length, refl, sym, arith}
use Rattle.std.proofs.lemmas.Bool.{false≢true}
use Rattle.std.proofs.lemmas.List.{append-nil}
use Rattle.std.specs.List.{AllByRecursion}
use Rattle.std.specs.Prelude.{◌&&◌}
use Rattle.markdown_base.specs.declared.event.Event.{Event}
use Rattle.markdown_base.specs.declared.event.Kind.{Kind}
use Rattle.markdown_base.specs.declared.event.Kind.TheVariants.{Enter}
use Rattle.markdown_base.specs.declared.event.Name.{Name}
use Rattle.markdown_base.specs.declared.event.Name.TheVariants as name
use Rattle.markdown_base.specs.Events.{IsBalanced, is_enter, same_name}
use Rattle.mddocument_link_targets.specs.Spans.{enters, inside}
use Rattle.mdhtml_document.proofs.Both.{keep-events}
use Rattle.mdhtml_document.proofs.SpanFacts.{AreKinded, opened-kinded, span-append}
use Rattle.mdhtml_document.specs.declared.names.Inline.{Inline}
use Rattle.mdhtml_document.specs.declared.names.Inline.TheVariants as inline
use Rattle.mdhtml_document.specs.HtmlLaws.{calls, is_call}
use Rattle.mdhtml_document.specs.Names.{inline_of, inlines_by_name, named}
use Rattle.mdhtml_document.specs.Notes.{calls_in, label_in, place_of_first}
use Rattle.mdhtml_document.specs.Spans.{Nothing, Span, Spans, events_of, spans_of}

-- ---- names

by-name : (c : Bool) (i j : Inline) → (c ≡ true → is_call i ≡ false) → is_call j ≡ false → is_call (cond c i j) ≡ false
by-name true i j h k = h refl
by-name false i j h k = k

in-table : (n : Name) (ps : List (Name × Inline)) → AllByRecursion (λ (p : Name × Inline). same_name n p.0 ≡ true → is_call p.1 ≡ false) ps → is_call (named ps inline.Other n) ≡ false
in-table n [] h = refl
in-table n (p ∷ ps) h = by-name (same_name n p.0) p.1 (named ps inline.Other n) h.0 (in-table n ps h.1)

-- a span of another name is no call
no-call : (n : Name) → same_name n name.GfmFootnoteCall ≡ false → is_call (inline_of n) ≡ false
no-call n h = in-table n inlines_by_name (λ e. refl, (λ e. refl, (λ e. refl, (λ e. refl, (λ e. refl, (λ e. refl, (λ e. refl, (λ e. refl, (λ e. refl, (λ e. refl, (λ e. refl, (λ e. refl, (λ e. refl, (λ e. refl, (λ e. refl, (λ e. refl, (λ e. refl, (λ e. absurd (false≢true (sym h ∙ e)), (λ e. refl, (λ e. refl, tt))))))))))))))))))))

-- ---- counts

enters-by : (k : Kind) (e : Event) → e.kind ≡ k → is_enter k ≡ true → enters name.GfmFootnoteCall e ≡ false → same_name e.name name.GfmFootnoteCall ≡ false
enters-by k e is enter h = ap (λ b. b && same_name e.name name.GfmFootnoteCall) (sym enter ∙ ap is_enter (sym is)) ∙ h

one-counted : (c d : Bool) (x : ℕ × List ℕ) (xs : List (ℕ × List ℕ)) → (c ≡ false → d ≡ false) → cond d 1 0 + length xs ≤ length (cond c (x ∷ xs) xs)
one-counted true true x xs h = omega arith
one-counted true false x xs h = omega arith
one-counted false d x xs h = let none = ap (λ b. cond b 1 0 + length xs) (h refl) in omega (arith, none)

left-counted : (c : Bool) (x : ℕ × List ℕ) (xs : List (ℕ × List ℕ)) → length xs ≤ length (cond c (x ∷ xs) xs)
left-counted true x xs = omega arith
left-counted false x xs = omega arith

counted : (bytes : List ℕ) (s : Spans) (zs : List Event) → AreKinded s → calls s + length (calls_in bytes zs) ≤ length (calls_in bytes (events_of s ++ zs))
counted bytes Nothing zs k = omega arith
counted bytes (Span e f s behind) zs k =
    let ys = events_of behind ++ zs in
    let xs = events_of s ++ f ∷ ys in
    let all = ap (λ es. length (calls_in bytes es)) (span-append e f s behind zs) in
    let here =
    one-counted (enters name.GfmFootnoteCall e) (is_call (inline_of e.name)) (place_of_first (inside xs), label_in bytes (inside xs)) (calls_in bytes xs)
    (λ h. no-call e.name (enters-by Enter e k.0 refl h))
    in
    let inner = counted bytes s (f ∷ ys) k.2 in
    let last = left-counted (enters name.GfmFootnoteCall f) (place_of_first (inside ys), label_in bytes (inside ys)) (calls_in bytes ys) in
    let outer = counted bytes behind zs k.3 in
    omega (arith, all, here, inner, last, outer)

pub calls-counted : (bytes : List ℕ) (events : List Event) → IsBalanced events → calls (spans_of events) ≤ length (calls_in bytes events)
calls-counted bytes events balanced =
    let s = spans_of events in
    let all = counted bytes s [] (opened-kinded events).0 in
    let same = ap (λ es. length (calls_in bytes es)) (append-nil (events_of s) ∙ keep-events events balanced) in
    omega (arith, all, same)
