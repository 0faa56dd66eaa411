-- Each chunk of leaf blocks is of texts or of strings: so all their chains can be read, and a machine that may start with both may start with each.
use Rattle.mddocument.proofs.Prelude.{◌≡◌, ℕ, ◌+◌, List, [], ◌∷◌, Bool, true, false, Some, None, inl, inr, refl, sym, ap, ◌∙◌, subst, none-some, same_Some, Contains, option_map, slice_get, AllByRecursion, flat_map, option_and_then, every-append, every-get, every-map, Content, StringContent, TextContent, Event, Link, Name, StringStart, TextStart, Seat, by_option, content_at, fits, some_fits, IsReady, StartAmong, start_name, content_of, Given, IsText, Text, first-linked, mark_at, Mark, flow_events, linked_from}
use Rattle.mddocument.proofs.FlowChains.Ready.{flow-ready}
use Rattle.mddocument.proofs.FlowTexts.BlockSegments.{all-segments}
use Rattle.mddocument.specs.Runs.{HasOnlyTexts}
use Rattle.mddocument.proofs.FlowTexts.Segments.{HasByte, IsGood, IsKept, IsTextual, Segment, chain, chain_marks, flat_of, kept}

-- a mark without a chunk, or with one of texts or strings
abbrev IsOfText : Mark → Type 0
IsOfText (e, None) = e.link ≡ None
IsOfText (e, Some chunk) = IsTextual chunk.content

of-kept : (m : Mark) → IsKept None m → IsOfText m
of-kept (e, None) h = h
of-kept (e, Some chunk) h = absurd (let no : true ≡ false = h.0 in cc)

of-chain : (bytes : List ℕ) (c : Content) → IsTextual c → (p : Bool) (chunks : List (List Seat)) → AllByRecursion HasByte chunks → AllByRecursion IsOfText (chain_marks c bytes p chunks)
of-chain bytes c t p [] h = tt
of-chain bytes c t p ([] ∷ chunks) h = absurd h.0
of-chain bytes c t p ((s ∷ ss) ∷ []) h = (t, (refl, tt))
of-chain bytes c t p ((s ∷ ss) ∷ d ∷ chunks) h = (t, (refl, of-chain bytes c t true (d ∷ chunks) h.1))

of-segments : (bytes : List ℕ) (segments : List Segment) → AllByRecursion (IsGood None) segments → AllByRecursion IsOfText (flat_map (flat_of bytes) segments)
of-segments bytes [] good = tt
of-segments bytes (kept marks seats ∷ segments) good =
    every-append IsOfText marks (flat_map (flat_of bytes) segments) (every-map (IsKept None) IsOfText of-kept marks good.0) (of-segments bytes segments good.1)
of-segments bytes (chain c chunks ∷ segments) good =
    every-append IsOfText (chain_marks c bytes false chunks) (flat_map (flat_of bytes) segments) (of-chain bytes c good.0.1 false chunks good.0.2) (of-segments bytes segments good.1)

-- a link of the event is of texts or strings
abbrev HasTextual : Event → Type 0
HasTextual e = (c : Content) → content_of e ≡ Some c → IsTextual c

at-mark : (i : ℕ) (m : Mark) → IsOfText m → HasTextual (mark_at i m)
at-mark i (e, None) h c is = absurd (none-some c (sym (ap (option_map (λ (l : Link). l.content)) h) ∙ is))
at-mark i (e, Some chunk) h c is = subst IsTextual (same_Some chunk.content c is) h

all-linked : (i : ℕ) (marks : List Mark) → AllByRecursion IsOfText marks → AllByRecursion HasTextual (linked_from i marks)
all-linked i [] h = tt
all-linked i (m ∷ marks) h = subst (AllByRecursion HasTextual) (sym (first-linked i m marks)) (at-mark i m h.0, all-linked (i + 1) marks h.1)

-- what is linked in such a list is one of both
pub by-content : (events : List Event) → HasOnlyTexts events → {P : Type 0} (k : ℕ) → fits None events k ≡ true → (content_at events k ≡ Some TextContent → P) → (content_at events k ≡ Some StringContent → P) → P
by-content events are k fit text string = by_option (content_at events k)
    (λ n. absurd (let no : false ≡ true = sym (ap (some_fits None) n) ∙ fit in cc))
    (λ c at. elim (are k c at) [
      | inl e ↦ text (at ∙ ap Some e)
      | inr e ↦ string (at ∙ ap Some e)
    ])

module _ (g : Given) (text : Text) where
  abbrev flat : List Event
  flat = flow_events g.options.constructs g.bytes text.seats

  pub flow-textual : HasOnlyTexts flat
  flow-textual k c is =
      let h = all-segments g.bytes (λ seats. []) (λ seats. []) g.options.constructs text.seats in
      let all = subst (λ (marks : List Mark). AllByRecursion HasTextual (linked_from 0 marks)) (sym h.flat_is) (all-linked 0 (flat_map (flat_of g.bytes) h.segments) (of-segments g.bytes h.segments h.good)) in
      by_option (slice_get flat k)
      (λ n. absurd (none-some c (sym (ap (option_and_then content_of) n) ∙ is)))
      (λ e at. every-get HasTextual flat k e all at c (sym (ap (option_and_then content_of) at) ∙ is))

  pub each-ready : IsText g text → IsReady g.tab g.bytes None flat
  each-ready is =
      let texts = flow-ready g text is TextContent (λ e. absurd (cc)) in
      let string = flow-ready g text is StringContent (λ e. absurd (cc)) in
      record {
        balanced = texts.balanced;
        chunks = texts.chunks;
        joined = texts.joined;
        forward = texts.forward;
        one_content = texts.one_content;
        readable = λ k fit. by-content flat flow-textual k fit (λ e. texts.readable k (ap (some_fits (Some TextContent)) e)) (λ e. string.readable k (ap (some_fits (Some StringContent)) e));
        gaps = λ k d fit next. by-content flat flow-textual k fit (λ e. texts.gaps k d (ap (some_fits (Some TextContent)) e) next) (λ e. string.gaps k d (ap (some_fits (Some StringContent)) e) next);
      }

-- a machine that may start with texts and with strings may start with each chain
pub may-start-each : (starts : List Name) → Contains starts TextStart → Contains starts StringStart → (events : List Event) → HasOnlyTexts events → StartAmong starts None events
may-start-each starts text string events are c name begin is = by_option (content_at events c)
    (λ n. absurd (none-some name (sym (ap (option_and_then start_name) n) ∙ is)))
    (λ k at. elim (are c k at) [
      | inl e ↦ subst (Contains starts) (same_Some TextStart name (sym (ap (option_and_then start_name) (at ∙ ap Some e)) ∙ is)) text
      | inr e ↦ subst (Contains starts) (same_Some StringStart name (sym (ap (option_and_then start_name) (at ∙ ap Some e)) ∙ is)) string
    ])
