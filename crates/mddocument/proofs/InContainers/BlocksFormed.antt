-- The blocks of a document are well formed.
use Rattle.mddocument.proofs.Prelude.{subst, sym, ◌≡◌, ℕ, List, [], ◌∷◌, Option, Some, None, true, length, map, range_with_len, AllByRecursion, Content, Event, IsVoidTight, AreAtPlaces, begins, chain_of, fitting_starts, IsWellFormed, Given, IsDocument, IsText, chain_text, blocks-are-formed}
use Rattle.std.specs.List.{AllZip}
use Rattle.markdown_base.specs.declared.event.Content.TheVariants as content
use Rattle.markdown_children.proofs.ChainOrder.Following.{Fits, follow_one_another, starts_fit}
use Rattle.markdown_children.proofs.Parts.AtPlaces.{with_children_at_places}
use Rattle.markdown_children.proofs.Parts.InShape.{children_fit}
use Rattle.markdown_children.specs.LawStatements.{IsWholeFrom}
use Rattle.mddocument.proofs.InContainers.Skeletons.{SkeletonLaws}
use Rattle.mdblock_text_lines.specs.DocumentBlocks.{document_blocks}
use Rattle.mdinline_text_machine.proofs.Paragraphs.ChainEvents.{all-begin, is-text}
use Rattle.mddocument.proofs.InContainers.Blocks.{at, bare, blocks-are-celled, blocks-next, blocks_at, celled_blocks, content-ready, shown, shown-is}
use Rattle.mddocument.proofs.InContainers.Letters.{formed-back, formed-there}
use Rattle.mddocument.proofs.InContainers.Ordered.{IsPutWell, ordered-children}
use Rattle.mddocument.proofs.InContainers.Parts.{InChunks}
use Rattle.mddocument.proofs.InContainers.Places.{flow-at}
use Rattle.mddocument.proofs.InContainers.Ranges.{chain-seats-in}

module _ (laws : SkeletonLaws) (g : Given) (is : IsDocument g) where
  -- over the document that leaf blocks are read of
  abbrev s : Given
  s = shown laws g is

  abbrev sk : List Event
  sk = bare laws g is

  abbrev blocks_of : ℕ → List Event
  blocks_of c = blocks_at laws g is c

  abbrev wanted : Option Content
  wanted = Some content.Content

  abbrev starts : List ℕ
  starts = fitting_starts wanted sk

  whole-text-is : (c : ℕ) → begins wanted sk c ≡ true → IsText s (chain_text s sk c)
  whole-text-is c b = is-text s sk (shown-is laws g is) content.Content (content-ready laws g is) c b

  each-well : (c : ℕ) → begins wanted sk c ≡ true → IsWellFormed s (blocks_of c)
  each-well c b = blocks-are-formed.blocks s (chain_text s sk c) (whole-text-is c b)

  each-put : (cs : List ℕ) → AllByRecursion (λ c. begins wanted sk c ≡ true) cs → AllByRecursion (Fits wanted sk) cs → AllByRecursion (IsWholeFrom sk) cs → AllZip (IsPutWell s.tab s.bytes wanted sk (content-ready laws g is)) cs (map blocks_of cs)
  each-put [] b fit whole = tt
  each-put (c ∷ cs) b fit whole =
      let seats = chain-seats-in s (shown-is laws g is) wanted sk (content-ready laws g is) c fit.0 whole.0 in
      (((each-well c b.0).in_order, flow-at (InChunks sk (chain_of sk c)) s.bytes s.options.constructs (chain_text s sk c).seats seats), each-put cs b.1 fit.1 whole.1)

  each-of : (P : List Event → Type 0) → ((events : List Event) → IsWellFormed s events → P events) → (cs : List ℕ) → AllByRecursion (λ c. begins wanted sk c ≡ true) cs → AllByRecursion P (map blocks_of cs)
  each-of P holds [] b = tt
  each-of P holds (c ∷ cs) b = (holds (blocks_of c) (each-well c b.0), each-of P holds cs b.1)

  celled-well : IsWellFormed g (celled_blocks laws g is)
  celled-well =
      let ready = content-ready laws g is in
      let begin = all-begin s sk (shown-is laws g is) content.Content ready in
      let fit = starts_fit s.tab s.bytes wanted sk ready (range_with_len 0 (length sk)) in
      let whole = (follow_one_another s.tab s.bytes wanted sk ready).whole in
      let old : IsWellFormed s sk = formed-there (at laws g is) g (laws.plain g is) sk (laws.formed g is) in
      let children = map blocks_of starts in
      let next = blocks-next laws g is None (laws.all_ready g is) in
      formed-back (at laws g is) g (laws.plain g is) (celled_blocks laws g is) (record {
        balanced = next.ready.balanced;
        void_tight = (children_fit s.tab s.bytes wanted sk ready children).tight old.void_tight (each-of IsVoidTight (λ es h. h.void_tight) starts begin) next.none_torn;
        at_places = with_children_at_places s.tab s.bytes wanted sk children old.at_places (each-of (AreAtPlaces s.tab s.bytes) (λ es h. h.at_places) starts begin);
        in_order = ordered-children s.tab s.bytes wanted sk ready old.in_order children (each-put starts begin fit whole);
      })

  pub blocks-well : IsWellFormed g (document_blocks g)
  blocks-well = subst (IsWellFormed g) (sym (blocks-are-celled laws g is)) celled-well
