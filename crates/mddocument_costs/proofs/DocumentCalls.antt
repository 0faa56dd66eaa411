-- Documents are read in linear time.
use Rattle.mddocument_costs.proofs.Prelude.{Some, None, [], ap, arith, false, inl, inr, length, refl, subst, sym, ℕ, ◌*◌, ◌+◌, ◌-◌, ◌<◌, ◌^◌, ◌≡◌, ◌≤◌, ◌∙◌, ◌∷◌, length-map, Content, Event, Given, IsDocument, IsReady, content_at, AccountFor, virtual, AreOf, ReadsWithin, chain_bytes, chain_count, List, Bool}
use Rattle.markdown_base.specs.declared.event.Content.TheVariants as content
use Rattle.mdblock_containers.proofs.LetterPlaces.{virtual_kept}
use Rattle.mdblock_containers.specs.Letters.{lettered_seat, with_letters}
use Rattle.mdblock_definitions.proofs.SectionsReady.{skeletons-are-formed, skeletons-are-ready, skeletons-have-one-content}
use Rattle.mdblock_table_marks.specs.Cells.{with_cells}
use Rattle.mdblock_definitions.specs.Blocks.{document_skeleton, shown_as_text}
use Rattle.mdblock_definitions.specs.Skeleton.{letters}
use Rattle.mdblock_definitions.specs.SkeletonLaws.{SkeletonsAccount}
use Rattle.mdblock_text_lines.specs.DocumentBlocks.{document_blocks, document_leaf_blocks}
use Rattle.mddocument.proofs.InContainers.Blocks.{leaf-blocks-are, shown-is}
use Rattle.mddocument.proofs.InContainers.BlocksFormed.{blocks-well}
use Rattle.mddocument.proofs.InContainers.Letters.{ready-there}
use Rattle.mddocument.proofs.InContainers.Skeletons.{skeleton-laws}
use Rattle.mddocument.proofs.InContainers.Texts.{all-ready, blocks-textual}
use Rattle.mddocument.specs.Documents.{document}
use Rattle.mddocument.specs.Runs.{HasOnlyTexts}
use Rattle.mddocument.specs.Tiles.{TilesDocuments}
use Rattle.mddocument.specs.declared.choice.Which.TheVariants.{Document}
use Rattle.markdown_children.specs.Reads.{IsSubtokenized}
use Rattle.markdown_tokenizer.specs.Engine.{IsWellFormed}
use Rattle.mdblock_leaf_rows.specs.FlowKnows.{flow_rules}
use Rattle.mdinline_machine.specs.InlineRules.{inlines_rules}
use Rattle.mddocument_costs.proofs.ChainBytes.{bytes-within}
use Rattle.mddocument_costs.proofs.ChainCount.{count-within}
use Rattle.mddocument_costs.specs.Documents.{DocumentsAreLinear, Passes, calls_of_blocks, calls_of_texts}

-- each chunk is of content, or each of a text or a string
only-content : (events : List Event) → ((k : ℕ) (c : Content) → content_at events k ≡ Some c → c ≡ content.Content) → AreOf (content.Content ∷ []) None events
only-content events only k c fit at = (0, omega arith, sym (only k c at))

only-texts : (events : List Event) → HasOnlyTexts events → AreOf (content.Text ∷ content.String ∷ []) None events
only-texts events only k c fit at =
    elim (only k c at) [
      | inl is ↦ (0, omega arith, sym is)
      | inr is ↦ (1, omega arith, sym is)
    ]

module _ (g : Given) (is : IsDocument g) where
  abbrev n : ℕ
  n = length (virtual g.tab g.bytes)

  -- ---- leaf blocks
  abbrev s : Given
  s = shown_as_text g

  abbrev bare : List Event
  bare = document_skeleton g

  bare-ready : IsReady s.tab s.bytes None bare
  bare-ready = ready-there (letters g.options.constructs (virtual g.tab g.bytes)) g (skeleton-laws.plain g is) None bare (skeletons-are-ready g is None)

  -- letters add no byte
  same-bytes : length (virtual s.tab s.bytes) ≡ n
  same-bytes =
      let at = letters g.options.constructs (virtual g.tab g.bytes) in
      ap length (virtual_kept at g.tab 1 1 0 g.bytes (skeleton-laws.plain g is)) ∙ length-map (virtual g.tab g.bytes) (lettered_seat at)

  bare-bytes : chain_bytes s None bare ≤ n
  bare-bytes = let few = bytes-within s None bare bare-ready (skeletons-are-formed g is).in_order.0 in omega (arith, few, same-bytes)

  bare-chains : SkeletonsAccount → chain_count None bare ≤ n
  bare-chains account = count-within s.tab s.bytes None bare bare-ready g.bytes (virtual g.tab g.bytes) (account g is)

  module _ (defined : List ℕ → Bool) (passes : Passes g defined) where
    blocks-linear : SkeletonsAccount → ReadsWithin flow_rules (content.Content ∷ []) 9 10 → 9 * n + 10 < 2 ^ 64 - 1 → calls_of_blocks g defined passes ≤ 19 * n
    blocks-linear account linear few =
        let all : calls_of_blocks g defined passes ≤ 9 * chain_bytes s None bare + 10 * chain_count None bare =
        linear s None bare passes.blocks passes.found (shown-is skeleton-laws g is) bare-ready (only-content bare (skeletons-have-one-content g is)) (omega (arith, few, bare-bytes)) passes.leaf_blocks in
        omega (arith, all, bare-bytes, bare-chains account)

    -- ---- texts and strings
    -- a document is read by its options
    by-options : g ≡ document g.options g.bytes
    by-options j = record { bytes = g.bytes; options = g.options; tab = is.one_size j }

    -- what the first pass makes
    are-leaf-blocks : passes.blocks ≡ document_leaf_blocks g
    are-leaf-blocks =
        let d = document g.options g.bytes in
        let there : IsDocument d = subst IsDocument by-options is in
        let made = subst (λ (d : Given). IsSubtokenized (shown_as_text d) flow_rules None (document_skeleton d) passes.blocks passes.found) by-options passes.leaf_blocks in
        let at = letters g.options.constructs (virtual d.tab g.bytes) in
        let ready = ready-there at d (skeleton-laws.plain d there) None (document_skeleton d) (skeletons-are-ready d there None) in
        let are : passes.blocks ≡ document_leaf_blocks d = leaf-blocks-are g.options g.bytes there (with_letters at g.bytes) refl (document_skeleton d) passes.blocks refl (ready, (passes.found, made)) in
        are ∙ sym (ap document_leaf_blocks by-options)

    -- and with the texts of cells as chains
    abbrev pub blocks : List Event
    blocks = with_cells g.options.constructs passes.blocks

    pub are-blocks : blocks ≡ document_blocks g
    are-blocks = ap (with_cells g.options.constructs) are-leaf-blocks

    blocks-ready : IsReady g.tab g.bytes None blocks
    blocks-ready = subst (IsReady g.tab g.bytes None) (sym are-blocks) (all-ready skeleton-laws g is)

    blocks-bytes : chain_bytes g None blocks ≤ n
    blocks-bytes = bytes-within g None blocks blocks-ready (subst (IsWellFormed g) (sym are-blocks) (blocks-well skeleton-laws g is)).in_order.0

    blocks-account : TilesDocuments Document → AccountFor blocks g.bytes (virtual g.tab g.bytes)
    blocks-account tiles =
        let there =
        subst (λ (d : Given). AccountFor (document_blocks d) d.bytes (virtual d.tab d.bytes)) (sym by-options)
        (tiles g.options g.bytes false (document_blocks (document g.options g.bytes)) (subst IsDocument by-options is) refl).account in
        subst (λ es. AccountFor es g.bytes (virtual g.tab g.bytes)) (sym are-blocks) there

    blocks-chains : TilesDocuments Document → chain_count None blocks ≤ n
    blocks-chains tiles = count-within g.tab g.bytes None blocks blocks-ready g.bytes (virtual g.tab g.bytes) (blocks-account tiles)

    texts-linear : TilesDocuments Document → ReadsWithin (inlines_rules defined) (content.Text ∷ content.String ∷ []) 374 4 → 374 * n + 4 < 2 ^ 64 - 1 → calls_of_texts g defined passes ≤ 378 * n
    texts-linear tiles linear few =
        let textual = subst HasOnlyTexts (sym are-blocks) (blocks-textual skeleton-laws g is) in
        let all : calls_of_texts g defined passes ≤ 374 * chain_bytes g None blocks + 4 * chain_count None blocks =
        linear g None blocks passes.events passes.more is blocks-ready (only-texts blocks textual) (omega (arith, few, blocks-bytes)) passes.texts in
        omega (arith, all, blocks-bytes, blocks-chains tiles)

pub documents-linear : SkeletonsAccount → TilesDocuments Document → ReadsWithin flow_rules (content.Content ∷ []) 9 10 → ((defined : List ℕ → Bool) → ReadsWithin (inlines_rules defined) (content.Text ∷ content.String ∷ []) 374 4) → DocumentsAreLinear
documents-linear account tiles flow inline g defined passes is few =
    let blocks = blocks-linear g is defined passes account flow (omega (arith, few)) in
    let texts = texts-linear g is defined passes tiles (inline defined) few in
    record { blocks = blocks; texts = texts; all = omega (arith, blocks, texts) }
