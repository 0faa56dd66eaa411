-- The events of a document go ahead: its innermost spans are over some virtual byte each, and all are at places of the document, in order.
use Rattle.std.proofs.Common.{◌≡◌, ℕ, ◌<◌, List, [], ◌∷◌, ◌++◌, length, ap, sym, refl, subst, ◌∙◌, arith, Some}
use Rattle.std.proofs.lemmas.Bool.{and_parts}
use Rattle.std.proofs.lemmas.Bool.Decides.{nat_tests}
use Rattle.std.proofs.lemmas.List.Elements.{recursion_from_All}
use Rattle.std.proofs.lemmas.Option.{same_Some}
use Rattle.std.specs.List.{AllByRecursion, flat_map}
use Rattle.std.specs.Prelude.{Bool, true, false, cond, map, slice_get}
use Rattle.markdown_base.proofs.Common.{every-map}
use Rattle.markdown_base.proofs.Facts.Kinds.{enter-is}
use Rattle.markdown_base.specs.declared.event.Event.{Event}
use Rattle.markdown_base.specs.declared.event.Kind.{Kind}
use Rattle.markdown_base.specs.declared.event.Kind.TheVariants.{Exit}
use Rattle.markdown_base.specs.declared.event.Name.TheVariants as name
use Rattle.markdown_base.specs.declared.event.Point.{Point}
use Rattle.markdown_base.specs.Events.{IsVoidTight, is_enter, is_void, same_name}
use Rattle.markdown_base.specs.Places.{IsPointOf, shown, stands_before}
use Rattle.markdown_base.specs.Virtual.{Seat, end_after, point, virtual}
use Rattle.markdown_base.proofs.Balanced.{same_name-true}
use Rattle.markdown_tokenizer.proofs.Positions.Chains.{IsChain, whole-chain}
use Rattle.markdown_tokenizer.proofs.Positions.Order.{every-back}
use Rattle.markdown_tokenizer.proofs.Positions.Standing.{chain-at, chain-split, chain-upto, place-of-point}
use Rattle.markdown_tokenizer.proofs.Readings.Formed.{tight-behind}
use Rattle.markdown_tokenizer.specs.AtPlaces.{AreAtPlaces}
use Rattle.markdown_tokenizer.specs.Text.{Given, IsDocument}
use Rattle.mdconstructs_machines.specs.Innermost.{AccountFor, ended_next, innermost_spans, span_over, stretch_bytes}
use Rattle.mdinline_link_strings.proofs.Accounts.{keep_innermost}
use Rattle.mdinline_link_strings.proofs.Kept.{strings_keep}
use Rattle.mdinline_link_strings.proofs.Places.{stand_at_places}
use Rattle.mddocument.proofs.InContainers.InlineHolds.{inlines-hold-text}
use Rattle.mddocument.proofs.InContainers.Skeletons.{skeleton-laws}
use Rattle.mddocument.proofs.InContainers.TextsFormed.{texts-orderly}
use Rattle.mddocument.proofs.InContainers.Tight.{texts-tight}
use Rattle.mddocument.proofs.Innermost.Texts.{texts-account}
use Rattle.mddocument.specs.DocumentEvents.{document_events_by, document_texts_by}
use Rattle.mdgfm_documents.proofs.Ended.{AreEnded, IsEnded, IsNext}
use Rattle.mdgfm_documents.proofs.TasksAhead.{AreInside, IsInside}

-- a span from a place to one behind it
abbrev GoesOn : Point × Point → Type 0
GoesOn span = stands_before span.0 span.1 ≡ true

-- ---- stretches of virtual bytes

over-byte : (p a b q : Point) → stands_before a p ≡ false → stands_before a b ≡ true → stands_before q b ≡ false → stands_before p q ≡ true
over-byte p a b q h k l = grind (arith, nat_tests)

module _ (t : ℕ) (bytes : List ℕ) where
  stretches-go-on : (stretches : List (Seat × List Seat)) (p : Point) → IsChain t bytes p (flat_map stretch_bytes stretches) → AllByRecursion GoesOn (map (span_over bytes) stretches)
  stretches-go-on [] p c = tt
  stretches-go-on (stretch ∷ stretches) p c =
      let s = stretch.0 in
      let rest = flat_map stretch_bytes stretches in
      let end = end_after s.end stretch.1 in
      let split : IsChain t bytes end rest = chain-split t bytes s.end stretch.1 rest c.2 in
      let one : stands_before p end ≡ true = over-byte p s.point s.end end c.1.later c.1.ends (chain-upto t bytes s.end stretch.1 rest c.2) in
      let from = ap (λ x. stands_before x (shown bytes end)) c.1.shown_is in
      let to = ap (stands_before p) (chain-at t bytes end rest split).shown in
      (from ∙ to ∙ one, stretches-go-on stretches end split)

-- ---- events

first-of : (P : Point × Point → Type 0) (enter other : Bool) (span : Point × Point) (rest : List (Point × Point)) → enter ≡ true → other ≡ false
    → AllByRecursion P (cond enter (cond other [] (span ∷ [])) [] ++ rest) → P span
first-of P true false span rest h k all = all.0
first-of P true true span rest h k all = absurd (cc)
first-of P false other span rest h k all = absurd (cc)

not-enter : (k : Kind) → k ≡ Exit → is_enter k ≡ false
not-enter k h = ap is_enter h

-- the exit of a line ending is next, and behind its enter
ends-next : (e : Event) (es : List Event) → IsVoidTight (e ∷ es) → AllByRecursion GoesOn (innermost_spans (e ∷ es)) → IsEnded e es
ends-next e es tight spans enter = by es next.1 spans
  where
    both : (is_enter e.kind ≡ true) × (same_name e.name name.LineEnding ≡ true)
    both = and_parts (is_enter e.kind) (same_name e.name name.LineEnding) enter

    void : is_void e.name ≡ true
    void = subst (λ n. is_void n ≡ true) (sym (same_name-true e.name name.LineEnding both.1)) refl

    next : (f : Event) × (slice_get (e ∷ es) 1 ≡ Some f) × (f.kind ≡ Exit) × (f.name ≡ e.name)
    next = tight 0 e refl (enter-is e.kind both.0) void

    by : (es : List Event) → slice_get (e ∷ es) 1 ≡ Some next.0 → AllByRecursion GoesOn (innermost_spans (e ∷ es)) → IsNext e es
    by [] is all = absurd (cc)
    by (f ∷ fs) is all =
        let same : f ≡ next.0 = same_Some f next.0 is in
        let exit = not-enter f.kind (ap (λ (x : Event). x.kind) same ∙ next.2) in
        (exit, first-of GoesOn (is_enter e.kind) (is_enter f.kind) (e.point, f.point) (innermost_spans (f ∷ fs)) both.0 exit all)

all-end : (es : List Event) → IsVoidTight es → AllByRecursion GoesOn (innermost_spans es) → AreEnded es
all-end [] tight spans = tt
all-end (e ∷ es) tight spans =
    (ends-next e es tight spans, all-end es (tight-behind e es tight) (every-back GoesOn (cond (is_enter e.kind) (ended_next e es) []) (innermost_spans es) spans))

-- ---- documents

module _ (g : Given) (is : IsDocument g) where
  wide : 0 < g.tab
  wide = let tab = is.tab.0 in omega (arith, tab)

  within : (e : Event) → IsPointOf g.tab g.bytes e.point → IsInside g.tab (length g.bytes) e.point
  within e at =
      let place = place-of-point g.tab g.bytes wide e.point at in
      let spaces = place.bounds.spaces in
      (place.bounds.inside, omega (arith, spaces))

  -- events at places of the document
  pub places-inside : (events : List Event) → AreAtPlaces g.tab g.bytes events → AreInside g.tab (length g.bytes) events
  places-inside events at =
      let At : Event → Type 0 = λ e. IsPointOf g.tab g.bytes e.point in
      every-map At (λ (e : Event). IsInside g.tab (length g.bytes) e.point) within events (recursion_from_All At events at)

  -- events that account for the document, with empty void spans
  pub account-ended : (events : List Event) → IsVoidTight events → AccountFor events g.bytes (virtual g.tab g.bytes) → AreEnded events
  account-ended events tight account =
      let start = point 1 1 0 0 in
      let chain = subst (IsChain g.tab g.bytes start) (sym account.are_all) (whole-chain g.tab g.bytes wide) in
      all-end events tight (subst (AllByRecursion GoesOn) (sym account.are_innermost) (stretches-go-on g.tab g.bytes account.stretches start chain))

  -- those of the document, by which labels are defined
  module _ (defined : List ℕ → Bool) where
    abbrev texts : List Event
    texts = document_texts_by defined g

    pub document-inside : AreInside g.tab (length g.bytes) (document_events_by defined g)
    document-inside = places-inside (document_events_by defined g) (stand_at_places g.options.constructs g.tab g.bytes texts is.tab.0 (texts-orderly skeleton-laws g is defined).at_places)

    pub document-ended : AreEnded (document_events_by defined g)
    document-ended =
        account-ended (document_events_by defined g) ((strings_keep g.options.constructs g.tab g.bytes texts).2 (texts-tight skeleton-laws g is defined inlines-hold-text))
        (keep_innermost g.options.constructs g.tab g.bytes texts wide (texts-account skeleton-laws g is defined))
