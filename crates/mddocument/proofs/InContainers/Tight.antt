-- Void spans of the events of a document are empty: there is text where something is between two chunks of a text, and strings are one chunk.
use Rattle.mddocument.proofs.Prelude.{◌⊎◌, inr, subst, sym, ◌≡◌, ℕ, Bool, ◌<◌, List, [], ◌∷◌, Option, Some, true, map, inl, arith, AllByRecursion, Content, StringContent, TextContent, Event, IsVoidTight, begins, content_at, some_fits, fitting_starts, IsReady, Given, IsDocument, IsText, Text, chain_text, flow_events, blocks-meet, inline_events, string_events, inline-alone, tight-at}
use Rattle.std.specs.List.{AllZip}
use Rattle.markdown_base.specs.declared.event.Content.TheVariants as content
use Rattle.markdown_children.proofs.Parts.InShape.{children_fit}
use Rattle.markdown_children.proofs.Parts.Staying.{alone-ready, each-ready}
use Rattle.markdown_children.proofs.Parts.TextGaps.{HasLoneChunks, alone-lone, lone-untorn, stay-lone, text-in-gaps}
use Rattle.markdown_children.proofs.Parts.Untorn.{none-cut, none-torn}
use Rattle.markdown_children.specs.LawStatements.{NoneTorn}
use Rattle.markdown_children.specs.NextContent.{CanBeReadNext, HasTextInGaps, HoldsOnlyText}
use Rattle.mddocument.proofs.InContainers.Skeletons.{SkeletonLaws}
use Rattle.mdblock_text_lines.specs.DocumentBlocks.{document_blocks}
use Rattle.mdinline_machine.specs.LawStatements.{with_inlines, with_strings as with_string_chunks}
use Rattle.mdinline_text_machine.proofs.Paragraphs.ChainEvents.{all-begin, is-content, is-text}
use Rattle.mdinline_link_strings.proofs.Kept.{strings_keep}
use Rattle.mddocument.specs.DocumentEvents.{DocumentEventsAreTight, document_texts, is_defined_in}
use Rattle.mddocument.proofs.FlowChains.Blocks.{blocks-read-next}
use Rattle.mddocument.proofs.FlowTexts.InlineTight.{inline-tight}
use Rattle.mddocument.proofs.InContainers.Blocks.{bare, blocks-are-celled, blocks-next, blocks_at, celled_blocks, content-ready, shown, shown-is, shown-ready}
use Rattle.mddocument.proofs.InContainers.BlocksFormed.{blocks-well}
use Rattle.mddocument.proofs.InContainers.LoneStrings.{flow-lone}
use Rattle.mddocument.proofs.InContainers.TextsFormed.{content-ready as blocks-ready-for, inline-orderly, string-tight, strings-ready}

-- Void spans of inline text hold bytes of the text alone
abbrev pub InlinesHoldOnlyText : Type 0
InlinesHoldOnlyText = (defined : List ℕ → Bool) (g : Given) (text : Text) → IsText g text → HoldsOnlyText g text (inline_events defined g text)

module _ (laws : SkeletonLaws) (g : Given) (is : IsDocument g) where
  -- ---- the blocks
  abbrev s : Given
  s = shown laws g is

  abbrev sk : List Event
  sk = bare laws g is

  abbrev of_content : Option Content
  of_content = Some content.Content

  abbrev blocks_of : ℕ → List Event
  blocks_of c = blocks_at laws g is c

  abbrev pub leaves : List (List Event)
  leaves = map blocks_of (fitting_starts of_content sk)

  sk-ready : IsReady g.tab s.bytes of_content sk
  sk-ready = content-ready laws g is

  pub all-start : AllByRecursion (λ c. begins of_content sk c ≡ true) (fitting_starts of_content sk)
  all-start = all-begin s sk (shown-is laws g is) content.Content sk-ready

  for-content : (next : Content) → IsReady g.tab g.bytes (Some next) sk
  for-content next = each-ready g.tab g.bytes sk (laws.all_ready g is) next

  pub each-leaf : (P : List Event → Type 0) → ((text : Text) → IsText s text → P (flow_events g.options.constructs s.bytes text.seats)) → (cs : List ℕ) → AllByRecursion (λ c. begins of_content sk c ≡ true) cs
      → AllByRecursion P (map blocks_of cs)
  each-leaf P holds [] b = tt
  each-leaf P holds (c ∷ cs) b = (holds (chain_text s sk c) (is-text s sk (shown-is laws g is) content.Content sk-ready c b.0), each-leaf P holds cs b.1)

  leaves-ready : (next : Content) → AllByRecursion (IsReady g.tab s.bytes (Some next)) leaves
  leaves-ready next = each-leaf (IsReady g.tab s.bytes (Some next)) (λ text one. (blocks-read-next s text (Some next) one).ready) (fitting_starts of_content sk) all-start

  leaves-torn : (next : Content) → NoneTorn of_content sk leaves
  leaves-torn next = (blocks-next laws g is (Some next) (for-content next)).none_torn

  -- all chunks of a skeleton are of content, or of text
  of-skeleton : (k : ℕ) (next : Content) → some_fits (Some next) (content_at sk k) ≡ true → (next ≡ content.Content) ⊎ (next ≡ TextContent)
  of-skeleton k next fit = laws.of_contents g is k next (is-content next (content_at sk k) fit)

  celled-gaps : (next : Content) → HasTextInGaps (Some next) (celled_blocks laws g is)
  celled-gaps next =
      text-in-gaps g.tab s.bytes of_content sk sk-ready leaves (Some next) (shown-ready laws g is (Some next) (for-content next)) (leaves-ready next) (none-cut of_content sk leaves (leaves-torn next))
      (laws.gaps g is (Some next)) (each-leaf (HasTextInGaps (Some next)) (λ text one k d fit e. inl ((blocks-meet s text one).next k d e).is) (fitting_starts of_content sk) all-start)

  pub blocks-gaps : (next : Content) → HasTextInGaps (Some next) (document_blocks g)
  blocks-gaps next = subst (HasTextInGaps (Some next)) (sym (blocks-are-celled laws g is)) (celled-gaps next)

  skeleton-lone : HasLoneChunks (Some StringContent) sk
  skeleton-lone k d fit e = elim (of-skeleton k StringContent fit) [ inl same ↦ absurd (cc) | inr same ↦ absurd (cc) ]

  celled-lone : HasLoneChunks (Some StringContent) (celled_blocks laws g is)
  celled-lone =
      stay-lone g.tab s.bytes of_content sk sk-ready leaves (Some StringContent) (shown-ready laws g is (Some StringContent) (for-content StringContent)) (leaves-ready StringContent) (none-cut of_content sk leaves (leaves-torn StringContent))
      skeleton-lone (each-leaf (HasLoneChunks (Some StringContent)) (λ text one. flow-lone g.options.constructs s.bytes text.seats) (fitting_starts of_content sk) all-start)

  pub blocks-lone : HasLoneChunks (Some StringContent) (document_blocks g)
  blocks-lone = subst (HasLoneChunks (Some StringContent)) (sym (blocks-are-celled laws g is)) celled-lone

  -- ---- their texts
  abbrev blocks : List Event
  blocks = document_blocks g

  text-ready : IsReady g.tab g.bytes (Some TextContent) blocks
  text-ready = blocks-ready-for laws g is TextContent

  -- by which labels are defined
  module _ (defined : List ℕ → Bool) where
    abbrev texts : List (List Event)
    texts = map (λ c. inline_events defined g (chain_text g blocks c)) (fitting_starts (Some TextContent) blocks)

    abbrev inlines : List Event
    inlines = with_inlines defined g blocks

    each-text : (P : List Event → Type 0) → ((text : Text) → IsText g text → P (inline_events defined g text)) → (cs : List ℕ) → AllByRecursion (λ c. begins (Some TextContent) blocks c ≡ true) cs
        → AllByRecursion P (map (λ c. inline_events defined g (chain_text g blocks c)) cs)
    each-text P holds [] b = tt
    each-text P holds (c ∷ cs) b = (holds (chain_text g blocks c) (is-text g blocks is TextContent text-ready c b.0), each-text P holds cs b.1)

    pub all-texts : (P : List Event → Type 0) → ((text : Text) → IsText g text → P (inline_events defined g text)) → AllByRecursion P texts
    all-texts P holds = each-text P holds (fitting_starts (Some TextContent) blocks) (all-begin g blocks is TextContent text-ready)

    text-alone : (text : Text) → IsText g text → IsReady g.tab g.bytes (Some StringContent) (inline_events defined g text)
    text-alone text one = alone-ready g.tab g.bytes (Some StringContent) (inline_events defined g text) (inline-orderly defined g text one).balanced (inline-alone defined g text)

    module _ (hold : InlinesHoldOnlyText) where
      can : (cs : List ℕ) → AllByRecursion (λ c. begins (Some TextContent) blocks c ≡ true) cs
          → AllZip (λ c child. CanBeReadNext g (Some StringContent) (chain_text g blocks c) child) cs (map (λ c. inline_events defined g (chain_text g blocks c)) cs)
      can [] b = tt
      can (c ∷ cs) b =
          let text = chain_text g blocks c in
          let one = is-text g blocks is TextContent text-ready c b.0 in
          let orderly = inline-orderly defined g text one in (
            record {
              ready = text-alone text one;
              shown = λ i e within. (orderly.at_places i e within, orderly.in_order.1 i e within);
              tight = tight-at (inline_events defined g text) (inline-tight defined g.options g.bytes text.seats);
              whole = hold defined g text one;
            },
            can cs b.1,
          )

      pub texts-torn : NoneTorn (Some TextContent) blocks texts
      texts-torn =
          let tab = is.tab.0 in
          let some : 0 < g.tab = omega (arith, tab) in
          none-torn g some (Some TextContent) blocks text-ready (Some StringContent) texts (blocks-gaps TextContent) (can (fitting_starts (Some TextContent) blocks) (all-begin g blocks is TextContent text-ready))

      inlines-tight : IsVoidTight inlines
      inlines-tight =
          (children_fit g.tab g.bytes (Some TextContent) blocks text-ready texts).tight (blocks-well laws g is).void_tight
          (all-texts IsVoidTight (λ text one. tight-at (inline_events defined g text) (inline-tight defined g.options g.bytes text.seats))) texts-torn

      pub inlines-lone : HasLoneChunks (Some StringContent) inlines
      inlines-lone =
          stay-lone g.tab g.bytes (Some TextContent) blocks text-ready texts (Some StringContent) (blocks-ready-for laws g is StringContent) (all-texts (IsReady g.tab g.bytes (Some StringContent)) text-alone)
          (none-cut (Some TextContent) blocks texts texts-torn) blocks-lone
          (all-texts (HasLoneChunks (Some StringContent)) (λ text one. alone-lone (Some StringContent) (inline_events defined g text) (inline-alone defined g text)))

      -- ---- and their strings
      string-ready : IsReady g.tab g.bytes (Some StringContent) inlines
      string-ready = strings-ready laws g is defined

      each-string : (cs : List ℕ) → AllByRecursion (λ c. begins (Some StringContent) inlines c ≡ true) cs → AllByRecursion IsVoidTight (map (λ c. string_events g (chain_text g inlines c)) cs)
      each-string [] b = tt
      each-string (c ∷ cs) b = (string-tight g (chain_text g inlines c) (is-text g inlines is StringContent string-ready c b.0), each-string cs b.1)

      pub texts-tight : IsVoidTight (with_string_chunks g inlines)
      texts-tight =
          let starts = fitting_starts (Some StringContent) inlines in
          let strings = map (λ c. string_events g (chain_text g inlines c)) starts in
          (children_fit g.tab g.bytes (Some StringContent) inlines string-ready strings).tight inlines-tight
          (each-string starts (all-begin g inlines is StringContent string-ready)) (lone-untorn g.tab g.bytes (Some StringContent) inlines string-ready inlines-lone strings)

pub events-tight : SkeletonLaws → InlinesHoldOnlyText → DocumentEventsAreTight
events-tight laws hold g is = (strings_keep g.options.constructs g.tab g.bytes (document_texts g)).2 (texts-tight laws g is (is_defined_in g) hold)
