-- The blocks of a document account for it: its skeleton does, and so do the leaf blocks of each chain.
use Rattle.mddocument.proofs.Prelude.{◌≡◌, ℕ, ◌<◌, List, [], ◌∷◌, Some, true, map, sym, subst, arith, AllByRecursion, Event, virtual, begins, fitting_starts, Given, IsDocument, AccountFor, blocks-are-formed, chain_text}
use Rattle.markdown_base.specs.declared.event.Content.TheVariants as content
use Rattle.mdblock_definitions.proofs.SectionSpans.{skeletons-account}
use Rattle.mdblock_containers.proofs.LetterPlaces.{places_kept}
use Rattle.mdblock_definitions.specs.Blocks.{document_skeleton}
use Rattle.mdblock_text_lines.specs.DocumentBlocks.{document_blocks}
use Rattle.mdblock_containers.specs.Letters.{LettersKeepPlaces, lettered_seat}
use Rattle.mdinline_text_machine.proofs.Paragraphs.ChainEvents.{all-begin, is-text}
use Rattle.mddocument.proofs.InContainers.Blocks.{at, bare, blocks-are-celled, blocks_at, celled_blocks, content-gaps, content-ready, shown, shown-is}
use Rattle.mddocument.proofs.InContainers.CellsKeep.{cells-account}
use Rattle.mddocument.proofs.InContainers.Skeletons.{SkeletonLaws}
use Rattle.mddocument.proofs.Innermost.Chains.{ReadsChain, children-account}
use Rattle.mddocument.proofs.Innermost.FlowLined.{flow-lined}
use Rattle.mddocument.proofs.Innermost.Moved.{account-moved, lettered-back, lettered-there}

module _ (laws : SkeletonLaws) (g : Given) (is : IsDocument g) where
  abbrev s : Given
  s = shown laws g is

  abbrev sk : List Event
  sk = bare laws g is

  wide : 0 < s.tab
  wide = let tab = is.tab.0 in omega (arith, tab)

  kept : LettersKeepPlaces g.tab (at laws g is) g.bytes
  kept = places_kept g.tab (at laws g is) g.bytes (laws.plain g is)

  -- the skeleton, over the document with letters
  skeleton-there : AccountFor sk s.bytes (virtual s.tab s.bytes)
  skeleton-there =
      subst (AccountFor sk s.bytes) (sym kept.seats)
      (account-moved g.bytes s.bytes (λ p. sym (kept.shown_at p)) sk (virtual g.tab g.bytes) (map (lettered_seat (at laws g is)) (virtual g.tab g.bytes)) (lettered-there (at laws g is) (virtual g.tab g.bytes))
      (cells-account g.options.constructs (document_skeleton g) g.bytes (virtual g.tab g.bytes) (skeletons-account g is)))

  reads : (cs : List ℕ) → AllByRecursion (λ c. begins (Some content.Content) sk c ≡ true) cs → AllByRecursion (ReadsChain s wide (Some content.Content) sk (content-ready laws g is) (content-gaps laws g is) (blocks_at laws g is)) cs
  reads [] b = tt
  reads (c ∷ cs) b =
      let text = chain_text s sk c in
      let formed = blocks-are-formed.blocks s text (is-text s sk (shown-is laws g is) content.Content (content-ready laws g is) c b.0) in
      (record { lined = flow-lined g.options.constructs s.bytes text.seats; balanced = formed.balanced; in_order = formed.in_order.0 }, reads cs b.1)

  celled-account : AccountFor (celled_blocks laws g is) g.bytes (virtual g.tab g.bytes)
  celled-account =
      let cs = fitting_starts (Some content.Content) sk in
      let begin = all-begin s sk (shown-is laws g is) content.Content (content-ready laws g is) in
      let there = children-account s wide (Some content.Content) sk (content-ready laws g is) (content-gaps laws g is) (blocks_at laws g is) (reads cs begin) skeleton-there in
      account-moved s.bytes g.bytes kept.shown_at (celled_blocks laws g is) (map (lettered_seat (at laws g is)) (virtual g.tab g.bytes)) (virtual g.tab g.bytes) (lettered-back (at laws g is) (virtual g.tab g.bytes))
      (subst (AccountFor (celled_blocks laws g is) s.bytes) kept.seats there)

  -- Each virtual byte of a document is in one innermost span of its blocks
  pub blocks-account : AccountFor (document_blocks g) g.bytes (virtual g.tab g.bytes)
  blocks-account = subst (λ es. AccountFor es g.bytes (virtual g.tab g.bytes)) (sym (blocks-are-celled laws g is)) celled-account
