-- The blocks of a document: what the machine of leaf blocks makes of its skeleton, with the texts of cells as chains, and that their texts and strings
-- can be read.
use Rattle.markdown_children.specs.Children.{with_children}
use Rattle.mddocument.proofs.Prelude.{Bool, false, cond, ◌≡◌, ◌↔◌, ◌&&◌, ◌∙◌, ℕ, List, [], ◌∷◌, Option, Some, None, true, length, map, refl, sym, ap, subst, flat_map, is_none, range_with_len, AllByRecursion, Content, Event, ParseOptions, by_option, begins, fits, some_fits, content_at, previous_of, fitting_starts, chain_changes, divided_over, AreChildren, IsSubtokenized, lists, IsReady, HasChildren, Given, IsDocument, Rules, Subresult, document, flow_events, flow_rules, virtual, chain_text}
use Rattle.std.specs.List.{AllZip}
use Rattle.markdown_base.specs.declared.event.Content.TheVariants as content
use Rattle.markdown_children.proofs.Parts.GoingOn.{goes-on}
use Rattle.markdown_children.specs.LawStatements.{IsTornNowhere}
use Rattle.markdown_children.specs.Parts.{Divided}
use Rattle.markdown_edits.specs.Survivors.{KeepsLinks, StaysUnlessRemoved}
use Rattle.markdown_edits.specs.Woven.{changed}
use Rattle.markdown_children.specs.NextContent.{CanBeReadNext, HasTextInGaps, IsReadyNext}
use Rattle.mdblock_definitions.proofs.PlainLetters.{letters-are-plain}
use Rattle.mdblock_definitions.proofs.SectionsReady.{skeletons-are-ready, skeletons-have-one-content}
use Rattle.mdblock_table_marks.specs.CellPlaces.{CellsAreFree}
use Rattle.mdblock_table_marks.specs.Cells.{celled, with_cells}
use Rattle.mddocument.proofs.InContainers.CellLinks.{starts-same, text-same}
use Rattle.mddocument.proofs.InContainers.CellsWoven.{ArePlain, celled-children}
use Rattle.mddocument.proofs.InContainers.FlowPlain.{flow-plain}
use Rattle.mddocument.proofs.InContainers.SkeletonCells.{skeleton-free}
use Rattle.mddocument.proofs.InContainers.Skeletons.{SkeletonLaws, skeleton_chains}
use Rattle.mdblock_definitions.specs.Blocks.{document_skeleton, shown_as_text}
use Rattle.mdblock_text_lines.proofs.BlocksAreThose.{blocks-are-those}
use Rattle.mdblock_text_lines.specs.DocumentBlocks.{document_blocks}
use Rattle.mdblock_containers.specs.Letters.{with_letters}
use Rattle.mdblock_definitions.specs.Skeleton.{letters}
use Rattle.mdinline_text_machine.proofs.Paragraphs.ChainEvents.{all-begin, is-text}
use Rattle.mddocument.specs.Documents.{AreDocumentLeafBlocks}
use Rattle.mddocument.proofs.FlowChains.Blocks.{blocks-read-next, chains-read-blocks}
use Rattle.mddocument.proofs.InContainers.Letters.{lettered-document, ready-back, ready-there}
use Rattle.mddocument.proofs.InContainers.Rising.{filter-same}

module _ (laws : SkeletonLaws) (g : Given) (is : IsDocument g) where
  -- where letters stand
  abbrev pub at : List ℕ
  at = letters g.options.constructs (virtual g.tab g.bytes)

  -- the document that leaf blocks are read of, and the skeleton, with the texts of cells as chains
  abbrev pub shown : Given
  shown = shown_as_text g

  abbrev pub bare : List Event
  bare = skeleton_chains g

  -- chains of content are those of the skeleton itself, and so are their texts
  pub starts-are : fitting_starts (Some content.Content) bare ≡ fitting_starts (Some content.Content) (document_skeleton g)
  starts-are = by g.options.constructs.gfm_table
    where
      by : (b : Bool) → fitting_starts (Some content.Content) (cond b (celled false (document_skeleton g)) (document_skeleton g)) ≡ fitting_starts (Some content.Content) (document_skeleton g)
      by true = starts-same (document_skeleton g) (skeleton-free g is)
      by false = refl

  pub texts-are : (d : Given) (c : ℕ) → chain_text d bare c ≡ chain_text d (document_skeleton g) c
  texts-are d c = by g.options.constructs.gfm_table
    where
      by : (b : Bool) → chain_text d (cond b (celled false (document_skeleton g)) (document_skeleton g)) c ≡ chain_text d (document_skeleton g) c
      by true = text-same (document_skeleton g) (skeleton-free g is) d c
      by false = refl

  pub shown-is : IsDocument shown
  shown-is = lettered-document at g (laws.plain g is) is

  pub shown-ready : (wanted : Option Content) → IsReady g.tab g.bytes wanted bare → IsReady g.tab shown.bytes wanted bare
  shown-ready wanted h = ready-there at g (laws.plain g is) wanted bare h

  pub content-ready : IsReady g.tab shown.bytes (Some content.Content) bare
  content-ready = shown-ready (Some content.Content) (laws.ready g is)

  -- so can the skeleton itself
  pub skeleton-ready : IsReady g.tab shown.bytes (Some content.Content) (document_skeleton g)
  skeleton-ready = shown-ready-of (document_skeleton g) (skeletons-are-ready g is (Some content.Content))
    where
      shown-ready-of : (es : List Event) → IsReady g.tab g.bytes (Some content.Content) es → IsReady g.tab shown.bytes (Some content.Content) es
      shown-ready-of es h = ready-there at g (laws.plain g is) (Some content.Content) es h

  pub content-gaps : HasTextInGaps (Some content.Content) bare
  content-gaps = laws.gaps g is (Some content.Content)

  -- the leaf blocks of the chain that begins at an index
  abbrev pub blocks_at : ℕ → List Event
  blocks_at c = flow_events g.options.constructs shown.bytes (chain_text shown bare c).seats

  each-can : (next : Option Content) (cs : List ℕ) → AllByRecursion (λ c. begins (Some content.Content) bare c ≡ true) cs → AllZip (λ c child. CanBeReadNext shown next (chain_text shown bare c) child) cs (map blocks_at cs)
  each-can next [] b = tt
  each-can next (c ∷ cs) b =
      (blocks-read-next shown (chain_text shown bare c) next (is-text shown bare shown-is content.Content content-ready c b.0), each-can next cs b.1)

  pub all-can : (next : Option Content) → let cs = fitting_starts (Some content.Content) bare in AllZip (λ c child. CanBeReadNext shown next (chain_text shown bare c) child) cs (map blocks_at cs)
  all-can next = each-can next (fitting_starts (Some content.Content) bare) (all-begin shown bare shown-is content.Content content-ready)

  pub blocks-next : (next : Option Content) → IsReady g.tab g.bytes next bare → IsReadyNext shown (Some content.Content) next bare (map blocks_at (fitting_starts (Some content.Content) bare))
  blocks-next next h = goes-on shown (Some content.Content) next bare shown-is content-ready (shown-ready next h) content-gaps (map blocks_at (fitting_starts (Some content.Content) bare)) (all-can next)

  -- The blocks, by these chains: so it does not matter that the texts of cells come to be chains at the end
  abbrev pub celled_blocks : List Event
  celled_blocks = with_children (Some content.Content) bare (map blocks_at (fitting_starts (Some content.Content) bare))

  pub blocks-are-celled : document_blocks g ≡ celled_blocks
  blocks-are-celled = ap (with_cells g.options.constructs) (blocks-are-those g is) ∙ by g.options.constructs.gfm_table
    where
      sk : List Event
      sk = document_skeleton g

      free : CellsAreFree false sk
      free = skeleton-free g is

      leaf : List Event → ℕ → List Event
      leaf es c = flow_events g.options.constructs shown.bytes (chain_text shown es c).seats

      leaves : List Event → List (List Event)
      leaves es = map (leaf es) (fitting_starts (Some content.Content) es)

      each-plain : (cs : List ℕ) → AllByRecursion ArePlain (map (leaf sk) cs)
      each-plain [] = tt
      each-plain (c ∷ cs) = (flow-plain g.options.constructs shown.bytes (chain_text shown sk c).seats, each-plain cs)

      same-each : (cs : List ℕ) → map (leaf sk) cs ≡ map (leaf (celled false sk)) cs
      same-each [] = refl
      same-each (c ∷ cs) = λ i. flow_events g.options.constructs shown.bytes (sym (text-same sk free shown c) i).seats ∷ same-each cs i

      same-leaves : leaves sk ≡ leaves (celled false sk)
      same-leaves = same-each (fitting_starts (Some content.Content) sk) ∙ ap (map (leaf (celled false sk))) (sym (starts-same sk free))

      sk-ready : IsReady g.tab g.bytes (Some content.Content) sk
      sk-ready = skeletons-are-ready g is (Some content.Content)

      by : (b : Bool) → cond b (celled false (with_children (Some content.Content) sk (leaves sk))) (with_children (Some content.Content) sk (leaves sk))
          ≡ with_children (Some content.Content) (cond b (celled false sk) sk) (leaves (cond b (celled false sk) sk))
      by true = sym (celled-children g.tab g.bytes sk sk-ready free (leaves sk) (each-plain (fitting_starts (Some content.Content) sk))) ∙ ap (with_children (Some content.Content) (celled false sk)) same-leaves
      by false = refl

  -- the blocks are ready for whatever the skeleton is ready for
  pub blocks-ready : (next : Option Content) → IsReady g.tab g.bytes next bare → IsReady g.tab g.bytes next (document_blocks g)
  blocks-ready next h = subst (IsReady g.tab g.bytes next) (sym blocks-are-celled) (ready-back at g (laws.plain g is) next celled_blocks (blocks-next next h).ready)

-- if all chains are of a content, those that fit it are all
module _ {R D : Type 0} (g : Given) (rules : Given → Rules R D) (old new : List Event) (sub : Subresult) (w : Content) (self : some_fits (Some w) (Some w) ≡ true) (only : (k : ℕ) (c : Content) → content_at old k ≡ Some c → c ≡ w) where
  same-fit : (k : ℕ) → fits None old k ≡ fits (Some w) old k
  same-fit k = by_option (content_at old k)
      (λ n. ap (some_fits None) n ∙ sym (ap (some_fits (Some w)) n))
      (λ c at. ap (some_fits None) at ∙ sym (ap (some_fits (Some w)) (at ∙ ap Some (only k c at)) ∙ self))

  same-starts : fitting_starts None old ≡ fitting_starts (Some w) old
  same-starts = filter-same (begins None old) (begins (Some w) old) (λ k j. same-fit k j && is_none (previous_of old k)) (range_with_len 0 (length old))

  pub one-content : IsSubtokenized g rules None old new sub → IsSubtokenized g rules (Some w) old new sub
  one-content h =
      let kids = lists h.children in
      record {
        children = h.children;
        read = subst (λ cs. AreChildren g rules old cs h.children) same-starts h.read;
        events = h.events ∙ ap (λ cs. changed (flat_map chain_changes (divided_over old cs kids)) old) same-starts;
        in_shape = h.in_shape;
        tight = λ before each torn. h.tight before each (subst (λ cs. AllByRecursion (λ (d : Divided). IsTornNowhere d.chunks d.parts) (divided_over old cs kids)) (sym same-starts) torn);
        at_places = h.at_places;
        stays = subst (λ cs. StaysUnlessRemoved (flat_map chain_changes (divided_over old cs kids)) old) same-starts h.stays;
        links = subst (λ cs. KeepsLinks (flat_map chain_changes (divided_over old cs kids)) old) same-starts h.links;
        done = subst (λ (cs : List ℕ). (sub.done ≡ true) ↔ (cs ≡ [])) same-starts h.done;
        definitions = h.definitions;
        footnotes = h.footnotes;
      }

-- what the machine makes of the skeleton itself, over the document with letters
pub leaf-blocks-are : (options : ParseOptions) (bytes : List ℕ) → IsDocument (document options bytes) → (read : List ℕ) → read ≡ with_letters (letters options.constructs (virtual options.tab_size bytes)) bytes
    → (events new : List Event) → events ≡ document_skeleton (document options bytes) → HasChildren flow_rules options read None events new → AreDocumentLeafBlocks options bytes new
leaf-blocks-are options bytes is read same events new from h =
    let g = document options bytes in
    let shown = shown_as_text g in
    let at = letters g.options.constructs (virtual g.tab g.bytes) in
    let plain = letters-are-plain g.options.constructs g.tab g.bytes in
    let bare = document_skeleton g in
    let ready = ready-there at g plain (Some content.Content) bare (skeletons-are-ready g is (Some content.Content)) in
    let k = subst (λ (es : List Event). HasChildren flow_rules options shown.bytes None es new) from (subst (λ (bs : List ℕ). HasChildren flow_rules options bs None events new) same h) in
    let one = one-content shown flow_rules bare new k.1.0 content.Content refl (skeletons-have-one-content g is) k.1.1 in
    chains-read-blocks shown bare new k.1.0 (lettered-document at g plain is) ready one ∙ sym (blocks-are-those g is)
