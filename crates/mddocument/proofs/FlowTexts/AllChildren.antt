-- What the machine of inline text reads of all chains of a list at once: of each text its inline text, and of each string its events. So it reads
-- those of leaf blocks.
use Rattle.mddocument.proofs.Prelude.{Bool, ◌≡◌, ℕ, List, [], ◌∷◌, true, Option, Some, None, length, map, refl, sym, ap, ◌∙◌, ◌&&◌, is_none, AllByRecursion, range_with_len, and_parts, Content, StringContent, TextContent, Event, StringStart, TextStart, begins, content_at, fits, fitting_starts, some_fits, with_children, IsReady, AreChildren, Child, IsChild, IsSubtokenized, lists, previous_of, every-all, every-kept, Subresult, Given, IsDocument, IsText, Text, flow_events, reads-texts, reads-strings-of, inline_events, inlines_rules, string_events, string_seat_events, children-events, chain_text, inline_seat_events}
use Rattle.mddocument.specs.Runs.{HasOnlyTexts}
use Rattle.mddocument.proofs.FlowChains.Ready.{flow-ready}
use Rattle.mddocument.proofs.FlowTexts.BlockSegments.{by_content}
use Rattle.mddocument.proofs.FlowTexts.Textual.{by-content, flow-textual}
use Rattle.mddocument.proofs.FlowTexts.Whole.{all-inlines-are-read, inlines_by}

module _ (g : Given) (document : IsDocument g) (list : List Event) (textual : HasOnlyTexts list) (texts : IsReady g.tab g.bytes (Some TextContent) list) (strings : IsReady g.tab g.bytes (Some StringContent) list) where
  -- what begins some chain
  abbrev Begins : ℕ → Type 0
  Begins c = begins None list c ≡ true

  -- what begins some chain begins one of its content
  begins-one : (wanted : Content) (c : ℕ) → content_at list c ≡ Some wanted → some_fits (Some wanted) (Some wanted) ≡ true → Begins c → begins (Some wanted) list c ≡ true
  begins-one wanted c at self b =
      let first = (and_parts (fits None list c) (is_none (previous_of list c)) b).1 in
      let fit : fits (Some wanted) list c ≡ true = ap (some_fits (Some wanted)) at ∙ self in
      λ j. fit j && first j

  all-begin : AllByRecursion Begins (fitting_starts None list)
  all-begin =
      let indices = range_with_len 0 (length list) in
      every-kept (λ k. Unit {0}) Begins (begins None list) (λ k u e. e) indices (every-all (λ k. Unit {0}) (λ k. tt) indices)

  -- by which labels are defined
  module _ (defined : List ℕ → Bool) where
    -- what a chain of a content is read as, which begins at an index
    abbrev pub read_as : Option Content → ℕ → List Event
    read_as o c = by_content g.bytes (inline_seat_events defined g.options g.bytes) (string_seat_events g.options.constructs g.bytes) o (chain_text g list c).seats

    -- what the chain that begins at an index is read as
    abbrev pub read_at : ℕ → List Event
    read_at c = read_as (content_at list c) c

    pub read-text : (c : ℕ) → content_at list c ≡ Some TextContent → read_at c ≡ inline_events defined g (chain_text g list c)
    read-text c at = ap (λ o. read_as o c) at

    pub read-string : (c : ℕ) → content_at list c ≡ Some StringContent → read_at c ≡ string_events g (chain_text g list c)
    read-string c at = ap (λ o. read_as o c) at

    one-child : (c : ℕ) (child : Child) → IsChild g (inlines_rules defined) list c child → Begins c → child.events ≡ read_at c
    one-child c child one b =
        by-content list textual c (and_parts (fits None list c) (is_none (previous_of list c)) b).0
        (λ at.
        let all = children-events g list document TextContent texts TextStart refl (inlines_rules defined) (inline_events defined g) (reads-texts defined g) (c ∷ []) (child ∷ []) (begins-one TextContent c at refl b, tt) (one, tt) in
        let here : child.events ≡ inline_events defined g (chain_text g list c) = cc in
        here ∙ sym (read-text c at))
        (λ at.
        let all = children-events g list document StringContent strings StringStart refl (inlines_rules defined) (string_events g) (reads-strings-of defined g) (c ∷ []) (child ∷ []) (begins-one StringContent c at refl b, tt) (one, tt) in
        let here : child.events ≡ string_events g (chain_text g list c) = cc in
        here ∙ sym (read-string c at))

    each-child : (cs : List ℕ) (children : List Child) → AllByRecursion Begins cs → AreChildren g (inlines_rules defined) list cs children → lists children ≡ map read_at cs
    each-child [] [] b h = refl
    each-child [] (child ∷ children) b h = absurd h
    each-child (c ∷ cs) [] b h = absurd h
    each-child (c ∷ cs) (child ∷ children) b h = λ j. one-child c child h.0 b.0 j ∷ each-child cs children b.1 h.1 j

    -- the list with all children
    pub read-at-once : (new : List Event) (sub : Subresult) → IsSubtokenized g (inlines_rules defined) None list new sub → new ≡ with_children None list (map read_at (fitting_starts None list))
    read-at-once new sub h = h.events ∙ ap (with_children None list) (each-child (fitting_starts None list) h.children all-begin h.read)

-- with all children leaf blocks are what is read of the text
pub all-children : (defined : List ℕ → Bool) (g : Given) (text : Text) → IsText g text → (new : List Event) (sub : Subresult) → IsSubtokenized g (inlines_rules defined) None (flow_events g.options.constructs g.bytes text.seats) new sub
    → new ≡ inlines_by defined g text
all-children defined g text is new sub h =
    let texts = flow-ready g text is TextContent (λ e. absurd (cc)) in
    let strings = flow-ready g text is StringContent (λ e. absurd (cc)) in
    read-at-once g is.document (flow_events g.options.constructs g.bytes text.seats) (flow-textual g text) texts strings defined new sub h ∙ all-inlines-are-read g text is defined
