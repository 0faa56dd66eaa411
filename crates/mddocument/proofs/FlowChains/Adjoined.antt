use Rattle.mddocument.proofs.Prelude.{◌≡◌, ℕ, ◌+◌, ◌<◌, List, Option, Some, None, length, ◌⊎◌, inl, inr, refl, sym, ◌∙◌, subst, arith, get_or_from_slice_get, slice_get_within, slice_get, option_and_then, AllByRecursion, every-get, Content, Event, IsBalanced, empty, IsVoidTight, IsInOrder, IsPointOf, AreMutual, IsChunk, IsLinkedEnter, content_of, next_of, IsReady, place_at, AreAtPlaces, place-at-event, AcrossGap, ChunksMeet}
-- Lists of events in which each chunk stands directly before the one that it is linked to, with a gap between their places at most: their chains
-- can be read.
use Rattle.markdown_base.specs.declared.event.Content.TheVariants.{Flow}
use Rattle.markdown_edits.specs.Links.{content_at}
use Rattle.mdinline_text_machine.proofs.Paragraphs.ChainEvents.{is-content}
use Rattle.mdinline_text_machine.proofs.Paragraphs.ChunkPairs.{stands-shown, stand-in-order}
use Rattle.mdinline_text_machine.proofs.Paragraphs.ChunksReady.{between-none}

-- the event is in no chain, or begins a chunk
abbrev pub MayBegin : Event → Type 0
MayBegin e = (e.link ≡ None) ⊎ IsLinkedEnter e

-- The chunk at k stands directly before the one at d, which has the same content
pub record IsDirectlyBefore (es : List Event) (k d : ℕ) : Type 0 where
  pub next : d ≡ k + 2
  pub within : d < length es
  pub place : AcrossGap (place_at es (k + 1)) (place_at es d)
  pub content : content_at es d ≡ content_at es k

-- Each chunk that is linked to another stands directly before it
pub record AreAdjoined (es : List Event) : Type 0 where
  pub each : AllByRecursion MayBegin es
  pub pairs : (k d : ℕ) → next_of es k ≡ Some d → IsDirectlyBefore es k d

-- chunks that meet are so
pub met-adjoined : (es : List Event) → ChunksMeet AcrossGap es → AreAdjoined es
met-adjoined es h = record {
  each = h.each;
  pairs = λ k d is. let next = h.next k d is in record {
    next = next.is;
    within = slice_get_within es d next.behind next.behind_at;
    place = subst (AcrossGap (place_at es (k + 1))) (sym (place-at-event es d next.behind next.behind_at)) (subst (λ p. AcrossGap p next.behind.point) (sym (place-at-event es (k + 1) next.exit next.exit_at)) next.place);
    content = next.content;
  };
}

-- ---- such a list is ready, and no chunks of it tear a span
module _ (t : ℕ) (bytes : List ℕ) (es : List Event) (h : AreAdjoined es) (balanced : IsBalanced es) (tight : IsVoidTight es) (at_places : AreAtPlaces t bytes es) (order : IsInOrder bytes es)
    (joined : AreMutual es) where
  -- where an event has a content a chunk begins
  chunk-of : (k : ℕ) (o : Option Event) (c : Content) → slice_get es k ≡ o → option_and_then content_of o ≡ Some c → IsChunk es k
  chunk-of k None c at is = absurd (cc)
  chunk-of k (Some e) c at is = elim (every-get MayBegin es k e h.each at) [
    | inl alone ↦ (let none : content_of e ≡ None = rw alone refl in let no : Some c ≡ None = sym is ∙ none in absurd (cc))
    | inr begins ↦
        (let exit = tight k e at begins.enter begins.void in
        record { enter = e; exit = exit.0; enter_at = at; exit_at = exit.1; linked = begins; ended = record { exits = exit.2; same = exit.3 } })
  ]

  chunk-at : (k : ℕ) (c : Content) → content_at es k ≡ Some c → IsChunk es k
  chunk-at k c is = chunk-of k (slice_get es k) c refl is

  placed : (k : ℕ) (e : Event) → slice_get es k ≡ Some e → IsPointOf t bytes e.point
  placed k e at = subst (λ (x : Event). IsPointOf t bytes x.point) (get_or_from_slice_get es k e e at) (at_places k e (slice_get_within es k e at))

  pub adjoined-ready : (wanted : Content) → ¬ (wanted ≡ Flow) → IsReady t bytes (Some wanted) es
  adjoined-ready wanted other = record {
    balanced = balanced;
    chunks = chunk-at;
    joined = joined;
    forward = λ k d is. let next = (h.pairs k d is).next in omega (arith, next);
    one_content = λ k d is. sym (h.pairs k d is).content;
    readable = λ k fit.
        let at = is-content wanted (content_at es k) fit in
        let c = chunk-at k wanted at in
        record {
          content = λ flow. let no : Some wanted ≡ Some Flow = sym at ∙ flow in other (cc);
          from = stands-shown t bytes es order k c.enter c.enter_at (placed k c.enter c.enter_at);
          to = stands-shown t bytes es order (k + 1) c.exit c.exit_at (placed (k + 1) c.exit c.exit_at);
          forward = stand-in-order bytes es order k (k + 1) c.enter c.exit (omega arith) c.enter_at c.exit_at;
        };
    gaps = λ k d fit is.
        let at = is-content wanted (content_at es k) fit in
        let pair = h.pairs k d is in
        let next = pair.next in
        record {
          forward = pair.place.forward;
          in_line = pair.place.in_line;
          balanced = subst IsBalanced (sym (between-none es (k + 2) d next)) empty;
          no_link = λ m least most. absurd (omega (arith, next, least, most));
        };
  }
