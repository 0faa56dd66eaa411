-- The texts and strings of a document's blocks: what the machine of inline text makes of them, all at once.
use Rattle.mddocument.proofs.Prelude.{Bool, inl, inr, ◌≡◌, ℕ, [], false, true, List, Option, Some, None, refl, sym, ap, ◌∙◌, subst, none-some, not, slice_get_within, Content, StringContent, TextContent, Event, IsBalanced, content_at, fits, fitting_starts, some_fits, IsReady, IsSubtokenized, Subresult, ParseOptions, HasChildren, Given, IsDocument, document, inline-alone, inline_events, string-alone, string_events, inlines_rules}
use Rattle.std.proofs.lemmas.List.{length-map}
use Rattle.std.specs.Prelude.{is_some}
use Rattle.markdown_base.specs.declared.event.Content.TheVariants as content
use Rattle.markdown_children.proofs.ChainOrder.Spaced.{changes_are_apart}
use Rattle.markdown_children.proofs.Parts.InShape.{child-all}
use Rattle.markdown_children.proofs.Parts.Staying.{ts}
use Rattle.markdown_children.specs.Children.{child_changes}
use Rattle.markdown_edits.proofs.Edits.Survivors.{stays_unless_removed}
use Rattle.markdown_edits.specs.Woven.{of_list, place_in}
use Rattle.mdblock_text_lines.specs.DocumentBlocks.{document_blocks}
use Rattle.mdinline_machine.specs.LawStatements.{with_inlines, with_strings as with_string_chunks}
use Rattle.mddocument.specs.DocumentEvents.{document_texts_by}
use Rattle.mddocument.specs.Documents.{AreDocumentBlocks}
use Rattle.mddocument.specs.Runs.{HasOnlyTexts}
use Rattle.mddocument.proofs.FlowTexts.AllChildren.{read-at-once, read-string, read-text, read_at}
use Rattle.mddocument.proofs.FlowTexts.Textual.{flow-textual}
use Rattle.mddocument.proofs.InContainers.AtOnce.{all-at-once}
use Rattle.mddocument.proofs.InContainers.Blocks.{bare, blocks-are-celled, blocks-ready, celled_blocks, content-ready, shown}
use Rattle.mddocument.proofs.InContainers.InlineHolds.{inlines-hold-text}
use Rattle.mddocument.proofs.InContainers.Removed.{listed, of_kid, origin-of, removed-fits}
use Rattle.mddocument.proofs.InContainers.Skeletons.{SkeletonLaws}
use Rattle.mddocument.proofs.InContainers.TextsFormed.{content-ready as ready-for, inline-orderly}
use Rattle.mddocument.proofs.InContainers.Tight.{all-start, all-texts, each-leaf, leaves, texts-torn}

module _ (laws : SkeletonLaws) (g : Given) (is : IsDocument g) where
  abbrev blocks : List Event
  blocks = document_blocks g

  -- ---- all chains can be read at once
  pub all-ready : IsReady g.tab g.bytes None blocks
  all-ready = blocks-ready laws g is None (laws.all_ready g is)

  abbrev of_content : Option Content
  of_content = Some content.Content

  abbrev sk : List Event
  sk = bare laws g is

  abbrev s : Given
  s = shown laws g is

  sk-ready : IsReady g.tab s.bytes of_content sk
  sk-ready = content-ready laws g is

  -- no chunk of content is left of the skeleton
  none-left : (n p : ℕ) (c : Content) → content_at sk n ≡ Some c → c ≡ content.Content → place_in (of_list n) (ts g.tab s.bytes of_content sk sk-ready (leaves laws g is)) ≡ Some p → ⊥
  none-left n p c at same place =
      let fit : fits of_content sk n ≡ true = ap (some_fits of_content) (at ∙ ap Some same) in
      let long = sym (length-map (fitting_starts of_content sk) _) in
      let gone = removed-fits g.tab s.bytes of_content sk sk-ready (leaves laws g is) long n fit in
      let chunk = sk-ready.chunks n c at in
      let stays = stays_unless_removed (child_changes of_content sk (leaves laws g is)) sk (changes_are_apart g.tab s.bytes of_content sk (leaves laws g is) sk-ready).fresh n (slice_get_within sk n chunk.enter chunk.enter_at) in
      let no : true ≡ false = sym (ap is_some place) ∙ stays ∙ ap not gone in
      cc

  -- chunks of leaf blocks are of texts and of strings
  celled-textual : HasOnlyTexts (celled_blocks laws g is)
  celled-textual p c at = elim (origin-of g.tab s.bytes of_content sk sk-ready (leaves laws g is) p c at) [
    | listed n place old ↦ elim (laws.of_contents g is n c old) [
      | inl same ↦ absurd (none-left n p c old same place)
      | inr text ↦ inl text
    ]
    | of_kid d n own ↦
        (let none : HasOnlyTexts [] = λ k o e. absurd (none-some o e) in
        let textual = child-all HasOnlyTexts none (fitting_starts of_content sk) (leaves laws g is) (each-leaf laws g is HasOnlyTexts (λ text one. flow-textual s text) (fitting_starts of_content sk) (all-start laws g is)) d in
        textual n c own)
  ]

  pub blocks-textual : HasOnlyTexts blocks
  blocks-textual = subst HasOnlyTexts (sym (blocks-are-celled laws g is)) celled-textual

  -- ---- and are read as texts, and then as strings
  abbrev reads : (defined : List ℕ → Bool) → ℕ → List Event
  reads defined c = read_at g is blocks blocks-textual (ready-for laws g is TextContent) (ready-for laws g is StringContent) defined c

  pub texts-at-once : (defined : List ℕ → Bool) (new : List Event) (sub : Subresult) → IsSubtokenized g (inlines_rules defined) None blocks new sub → new ≡ with_string_chunks g (with_inlines defined g blocks)
  texts-at-once defined new sub h =
      read-at-once g is blocks blocks-textual (ready-for laws g is TextContent) (ready-for laws g is StringContent) defined new sub h
      ∙ all-at-once g blocks all-ready TextContent StringContent refl refl refl refl blocks-textual (inline_events defined g) (string_events g) (inline-alone defined g) (string-alone g) (reads defined)
      (read-text g is blocks blocks-textual (ready-for laws g is TextContent) (ready-for laws g is StringContent) defined)
      (read-string g is blocks blocks-textual (ready-for laws g is TextContent) (ready-for laws g is StringContent) defined)
      (all-texts laws g is defined IsBalanced (λ text one. (inline-orderly defined g text one).balanced)) (texts-torn laws g is defined inlines-hold-text)

-- what is made of the blocks of a document
module _ (laws : SkeletonLaws) (options : ParseOptions) (bytes : List ℕ) (is : IsDocument (document options bytes)) (blocks : List Event) (are : AreDocumentBlocks options bytes blocks) where
  pub blocks-can-be-read : IsReady options.tab_size bytes None blocks
  blocks-can-be-read = subst (IsReady options.tab_size bytes None) (sym are) (all-ready laws (document options bytes) is)

  pub blocks-have-texts : HasOnlyTexts blocks
  blocks-have-texts = subst HasOnlyTexts (sym are) (blocks-textual laws (document options bytes) is)

  -- by any labels
  pub texts-by : (defined : List ℕ → Bool) (new : List Event) → HasChildren (inlines_rules defined) options bytes None blocks new → new ≡ document_texts_by defined (document options bytes)
  texts-by defined new h = texts-at-once laws (document options bytes) is defined new h.1.0 (subst (λ (es : List Event). IsSubtokenized (document options bytes) (inlines_rules defined) None es new h.1.0) are h.1.1)
