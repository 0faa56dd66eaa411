-- The events of a document account for it: its blocks do, and so do the texts and strings of these.
use Rattle.mddocument.proofs.Prelude.{◌≡◌, ℕ, Bool, ◌<◌, List, [], ◌∷◌, Some, false, true, sym, subst, append-nil, arith, AllByRecursion, StringContent, TextContent, Event, shown, virtual, begins, fitting_starts, IsReady, Given, IsDocument, IsText, Text, AccountFor, AcrossGap, Course, course-every, text-course, chain_text, inline_events, string_events, document, AreEventsOf, TilesDocuments, Tile}
use Rattle.markdown_children.specs.NextContent.{HasTextInGaps}
use Rattle.mdblock_text_lines.specs.DocumentBlocks.{document_blocks}
use Rattle.mdinline_machine.specs.LawStatements.{with_inlines, with_strings as with_string_chunks}
use Rattle.mdinline_text_machine.proofs.Paragraphs.ChainEvents.{all-begin, is-text}
use Rattle.mddocument.proofs.Emphasis.InlineAccounts.{inline-lined}
use Rattle.mddocument.proofs.FlowTexts.InlineSteps.{Steps, steps-virtual}
use Rattle.mdinline_link_strings.proofs.Cuts.{string-cut}
use Rattle.mddocument.proofs.InContainers.InlineHolds.{inlines-hold-text}
use Rattle.mddocument.proofs.InContainers.Skeletons.{SkeletonLaws, skeleton-laws}
use Rattle.mddocument.proofs.InContainers.TextsFormed.{content-ready, inline-orderly, string-orderly, strings-ready}
use Rattle.mddocument.proofs.InContainers.Tight.{blocks-gaps, inlines-lone}
use Rattle.mddocument.proofs.Innermost.Blocks.{blocks-account}
use Rattle.mddocument.proofs.Innermost.Chains.{IsReadWell, ReadsChain, children-account}
use Rattle.mddocument.proofs.Innermost.Lined.{lined-cut}
use Rattle.mddocument.proofs.Tiled.{tiled}
use Rattle.mdinline_link_strings.proofs.Accounts.{keep_innermost}
use Rattle.mddocument.specs.DocumentEvents.{document_events, document_texts, is_defined_in}
use Rattle.mddocument.specs.declared.choice.Which.TheVariants.{Document}

-- ---- what any text and any string is read as
module _ (g : Given) (text : Text) (is : IsText g text) where
  inline-well : (defined : List ℕ → Bool) → IsReadWell g.bytes (inline_events defined g text) text.seats
  inline-well defined =
      let on = g.options.constructs in
      let p = shown g.bytes text.start in
      let course = text-course g text is in
      let steps = course-every AcrossGap g.tab g.bytes (Steps g.bytes) (steps-virtual g.bytes g.tab) p text.seats course in
      let orderly = inline-orderly defined g text is in
      record {
        lined = inline-lined g.tab g.bytes g.options defined text.seats steps p [] (subst (Course AcrossGap g.tab g.bytes p) (sym (append-nil text.seats)) course);
        balanced = orderly.balanced;
        in_order = orderly.in_order.0;
      }

  string-well : IsReadWell g.bytes (string_events g text) text.seats
  string-well =
      let orderly = string-orderly g text is in
      record { lined = lined-cut g.bytes (string_events g text) text.seats (string-cut g.options.constructs g.bytes text.seats); balanced = orderly.balanced; in_order = orderly.in_order.0 }

-- ---- a document, by the labels that are defined
module _ (laws : SkeletonLaws) (g : Given) (is : IsDocument g) (defined : List ℕ → Bool) where
  abbrev blocks : List Event
  blocks = document_blocks g

  abbrev inlines : List Event
  inlines = with_inlines defined g blocks

  wide : 0 < g.tab
  wide = let tab = is.tab.0 in omega (arith, tab)

  texts-ready : IsReady g.tab g.bytes (Some TextContent) blocks
  texts-ready = content-ready laws g is TextContent

  read-texts : (cs : List ℕ) → AllByRecursion (λ c. begins (Some TextContent) blocks c ≡ true) cs
      → AllByRecursion (ReadsChain g wide (Some TextContent) blocks texts-ready (blocks-gaps laws g is TextContent) (λ c. inline_events defined g (chain_text g blocks c))) cs
  read-texts [] b = tt
  read-texts (c ∷ cs) b = (inline-well g (chain_text g blocks c) (is-text g blocks is TextContent texts-ready c b.0) defined, read-texts cs b.1)

  inlines-account : AccountFor inlines g.bytes (virtual g.tab g.bytes)
  inlines-account =
      let begin = all-begin g blocks is TextContent texts-ready in
      children-account g wide (Some TextContent) blocks texts-ready (blocks-gaps laws g is TextContent) (λ c. inline_events defined g (chain_text g blocks c)) (read-texts (fitting_starts (Some TextContent) blocks) begin) (blocks-account laws g is)

  lone-ready : IsReady g.tab g.bytes (Some StringContent) inlines
  lone-ready = strings-ready laws g is defined

  -- a string is one chunk
  lone-gaps : HasTextInGaps (Some StringContent) inlines
  lone-gaps k d fit next = absurd (inlines-lone laws g is defined inlines-hold-text k d fit next)

  read-strings : (cs : List ℕ) → AllByRecursion (λ c. begins (Some StringContent) inlines c ≡ true) cs
      → AllByRecursion (ReadsChain g wide (Some StringContent) inlines lone-ready lone-gaps (λ c. string_events g (chain_text g inlines c))) cs
  read-strings [] b = tt
  read-strings (c ∷ cs) b = (string-well g (chain_text g inlines c) (is-text g inlines is StringContent lone-ready c b.0), read-strings cs b.1)

  pub texts-account : AccountFor (with_string_chunks g inlines) g.bytes (virtual g.tab g.bytes)
  texts-account =
      let begin = all-begin g inlines is StringContent lone-ready in
      children-account g wide (Some StringContent) inlines lone-ready lone-gaps (λ c. string_events g (chain_text g inlines c)) (read-strings (fitting_starts (Some StringContent) inlines) begin) inlines-account

-- Each virtual byte of a document is in one innermost span of its events
pub events-account : (laws : SkeletonLaws) (g : Given) → IsDocument g → AccountFor (document_events g) g.bytes (virtual g.tab g.bytes)
events-account laws g is =
    let tab = is.tab.0 in
    let wide : 0 < g.tab = omega (arith, tab) in
    keep_innermost g.options.constructs g.tab g.bytes (document_texts g) wide (texts-account laws g is (is_defined_in g))

-- So they tile the document, flat and deep
pub document-tiles : TilesDocuments Document
document-tiles options bytes deep events d =
    let g = document options bytes in
    elim deep as (λ is_deep. AreEventsOf is_deep Document options bytes events → Tile options.tab_size bytes events) [
      | false ↦ λ are. subst (Tile options.tab_size bytes) (sym are) (tiled options.tab_size bytes d.tab.0 (document_blocks g) (blocks-account skeleton-laws g d))
      | true ↦ λ are. subst (Tile options.tab_size bytes) (sym are) (tiled options.tab_size bytes d.tab.0 (document_events g) (events-account skeleton-laws g d))
    ]
