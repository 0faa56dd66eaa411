-- A string of leaf blocks is one chunk: no chunk of it is linked to a next one.
use Rattle.mddocument.proofs.Prelude.{◌≡◌, ℕ, ◌+◌, List, [], ◌∷◌, Bool, true, false, cond, Some, None, refl, sym, ap, ◌∙◌, subst, none-some, same_Some, slice_get, AllByRecursion, flat_map, option_and_then, every-append, every-get, every-map, Content, StringContent, TextContent, Event, Link, Constructs, Seat, by_option, content_at, content_of, first-linked, mark_at, Mark, flow_events, linked_from}
use Rattle.markdown_children.proofs.Parts.TextGaps.{HasLoneChunks}
use Rattle.mdinline_text_machine.proofs.Paragraphs.ChainEvents.{is-content}
use Rattle.mddocument.proofs.FlowTexts.BlockSegments.{text-segments}
use Rattle.mddocument.proofs.FlowTexts.Segments.{HasByte, IsGood, IsKept, Segment, chain, chain_marks, flat_of, kept}

-- a mark without a chunk, or with one that has no next one if it is of a string
abbrev IsLone : Mark → Type 0
IsLone (e, None) = e.link ≡ None
IsLone (e, Some chunk) = chunk.content ≡ StringContent → chunk.has_next ≡ false

of-kept : (m : Mark) → IsKept (Some TextContent) m → IsLone m
of-kept (e, None) h = h
of-kept (e, Some chunk) h = λ s. h.2

other-content : (c : Content) → c ≡ TextContent → (b : Bool) → c ≡ StringContent → b ≡ false
other-content c t b s = absurd (let no : TextContent ≡ StringContent = sym t ∙ s in cc)

of-chain : (bytes : List ℕ) (c : Content) → c ≡ TextContent → (p : Bool) (chunks : List (List Seat)) → AllByRecursion HasByte chunks → AllByRecursion IsLone (chain_marks c bytes p chunks)
of-chain bytes c t p [] h = tt
of-chain bytes c t p ([] ∷ chunks) h = absurd h.0
of-chain bytes c t p ((s ∷ ss) ∷ []) h = (other-content c t false, (refl, tt))
of-chain bytes c t p ((s ∷ ss) ∷ d ∷ chunks) h = (other-content c t true, (refl, of-chain bytes c t true (d ∷ chunks) h.1))

of-segments : (bytes : List ℕ) (segments : List Segment) → AllByRecursion (IsGood (Some TextContent)) segments → AllByRecursion IsLone (flat_map (flat_of bytes) segments)
of-segments bytes [] good = tt
of-segments bytes (kept marks seats ∷ segments) good =
    every-append IsLone marks (flat_map (flat_of bytes) segments) (every-map (IsKept (Some TextContent)) IsLone of-kept marks good.0) (of-segments bytes segments good.1)
of-segments bytes (chain c chunks ∷ segments) good =
    let text : c ≡ TextContent = same_Some c TextContent (is-content TextContent (Some c) good.0.0) in
    every-append IsLone (chain_marks c bytes false chunks) (flat_map (flat_of bytes) segments) (of-chain bytes c text false chunks good.0.2) (of-segments bytes segments good.1)

-- a string has no next chunk
abbrev EndsString : Event → Type 0
EndsString e = (d : ℕ) → content_of e ≡ Some StringContent → option_and_then (λ (l : Link). l.next) e.link ≡ Some d → ⊥

at-mark : (i : ℕ) (m : Mark) → IsLone m → EndsString (mark_at i m)
at-mark i (e, None) h d is n = none-some d (sym (ap (option_and_then (λ (l : Link). l.next)) h) ∙ n)
at-mark i (e, Some chunk) h d is n =
    let last = h (same_Some chunk.content StringContent is) in
    none-some d (sym (ap (λ b. cond b (Some (i + 2)) None) last) ∙ n)

all-linked : (i : ℕ) (marks : List Mark) → AllByRecursion IsLone marks → AllByRecursion EndsString (linked_from i marks)
all-linked i [] h = tt
all-linked i (m ∷ marks) h = subst (AllByRecursion EndsString) (sym (first-linked i m marks)) (at-mark i m h.0, all-linked (i + 1) marks h.1)

pub flow-lone : (on : Constructs) (bytes : List ℕ) (seats : List Seat) → HasLoneChunks (Some StringContent) (flow_events on bytes seats)
flow-lone on bytes seats k d fit next =
    let flat = flow_events on bytes seats in
    let h = text-segments bytes (λ seats. []) (λ seats. []) on seats in
    let all = subst (λ (marks : List Mark). AllByRecursion EndsString (linked_from 0 marks)) (sym h.flat_is) (all-linked 0 (flat_map (flat_of bytes) h.segments) (of-segments bytes h.segments h.good)) in
    let is = is-content StringContent (content_at flat k) fit in
    by_option (slice_get flat k)
    (λ n. none-some StringContent (sym (ap (option_and_then content_of) n) ∙ is))
    (λ e at. every-get EndsString flat k e all at d (sym (ap (option_and_then content_of) at) ∙ is) (sym (ap (option_and_then (λ (x : Event). option_and_then (λ (l : Link). l.next) x.link)) at) ∙ next))
