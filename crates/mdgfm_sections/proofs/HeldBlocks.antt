-- The texts of a document stand in spans: blocks take the place of chunks, and inline text and strings that of theirs.
use Rattle.std.proofs.Common.{◌≡◌, ◌∙◌, ℕ, suc, ◌+◌, Bool, List, [], ◌∷◌, true, false, drop, take, Option, Some, None, map, refl, sym, ap, subst, append_assoc}
use Rattle.std.specs.Prelude.{◌&&◌, option_and_then, option_map}
use Rattle.markdown_base.specs.declared.event.Kind.TheVariants.{Enter, Exit}
use Rattle.markdown_base.specs.Events.{is_enter, same_name, IsBalanced, relinked, with_ends}
use Rattle.std.proofs.lemmas.Bool.{false≢true}
use Rattle.std.specs.List.{AllByRecursion, between}
use Rattle.markdown_tokenizer.proofs.Positions.Order.{every-all}
use Rattle.markdown_base.specs.declared.event.Event.{Event}
use Rattle.markdown_base.specs.declared.event.Kind.{Kind}
use Rattle.markdown_base.specs.declared.event.Name.{Name}
use Rattle.markdown_base.specs.Virtual.{Seat, end_after, virtual}
use Rattle.markdown_edits.specs.Links.{content_at, content_of, next_of}
use Rattle.markdown_tokenizer.specs.Text.{Given, IsDocument}
use Rattle.markdown_base.specs.declared.event.Content.{Content}
use Rattle.markdown_children.proofs.ChainOrder.Following.{Fits, chunk}
use Rattle.markdown_children.specs.Chains.{begins, fitting_starts}
use Rattle.markdown_children.specs.Ready.{IsReady}
use Rattle.mdconstructs_machines.specs.LineEvents.{lines_in}
use Rattle.mdblock_leaf_blocks.specs.LeafEvents.{Mark, span_marks}
use Rattle.mdblock_leaf_blocks.specs.LeafBlocks.{leaf_blocks}
use Rattle.mdblock_containers.specs.Rows.{Row}
use Rattle.mdblock_lines.specs.Containers.{Container, Prefix, footnote, item, quote}
use Rattle.mdblock_containers.specs.Skeleton.{going_marks, prefixes_marks}
use Rattle.mdblock_text_lines.specs.DocumentBlocks.{document_blocks}
use Rattle.mdblock_definitions.specs.Blocks.{document_skeleton}
use Rattle.mdblock_definitions.specs.Rows.{rows}
use Rattle.mdblock_definitions.specs.Sections.{sections}
use Rattle.mdconstructs_machines.specs.Spans.{event}
use Rattle.std.proofs.Common.{inl, inr}
use Rattle.std.specs.Prelude.{slice_get}
use Rattle.markdown_base.specs.declared.event.Content.TheVariants as content
use Rattle.markdown_base.specs.declared.event.Link.{Link}
use Rattle.markdown_base.specs.declared.event.Name.TheVariants as name
use Rattle.markdown_children.specs.Children.{with_children}
use Rattle.mdinline_text_machine.proofs.Paragraphs.ChainEvents.{all-begin, is-content, is-text}
use Rattle.mdinline_text_machine.specs.ChainTexts.{chain_text}
use Rattle.mdblock_leaf_blocks.proofs.Marks.BlocksFormed.{blocks-are-formed}
use Rattle.mdblock_definitions.proofs.Covered.{rows_of}
use Rattle.mdblock_definitions.proofs.SectionsReady.{document-goes, marks}
use Rattle.mdblock_table_marks.specs.Cells.{as_text, celled, enters_cell}
use Rattle.mdgfm_literals.specs.Stretches.{is_plain}
use Rattle.mdinline_machine.specs.InlineChains.{with_inlines}
use Rattle.mdinline_machine.specs.InlineEvents.{inline_events}
use Rattle.mdinline_machine.specs.StringEvents.{string_events}
use Rattle.mddocument.proofs.InContainers.Blocks.{blocks-are-celled, blocks_at, content-ready as bare-text-ready, shown, shown-is}
use Rattle.mddocument.proofs.InContainers.CellLinks.{next-same}
use Rattle.mddocument.proofs.InContainers.CellsKeep.{with-cells-by}
use Rattle.mddocument.proofs.InContainers.SkeletonCells.{skeleton-free, skeleton-gaps}
use Rattle.mddocument.proofs.InContainers.Skeletons.{skeleton-laws, skeleton_chains}
use Rattle.mddocument.proofs.InContainers.Texts.{blocks-textual}
use Rattle.mddocument.proofs.InContainers.TextsFormed.{content-ready, strings-ready}
use Rattle.mddocument.proofs.Walks.InnerTexts.{AnySeat, any-seats}
use Rattle.mddocument.proofs.Walks.MarksWalk.{Walk, whites}
use Rattle.mddocument.proofs.Walks.SkeletonWalk.{goings}
use Rattle.mddocument.specs.DocumentEvents.{document_texts_by}
use Rattle.mddocument_rules.proofs.Blocks.{between-same}
use Rattle.mddocument_rules.proofs.Gaps.{AllOk, BetweenChunks, Gapped, between-both, between-none, gap-ok}
use Rattle.mddocument_rules.proofs.SectionGaps.{sections-gapped}
use Rattle.mddocument_rules.proofs.TextItems.{inline-stands, string-balanced}
use Rattle.mddocument_rules.proofs.Walk.{IfEnter, Stays, Walks, behind_one, free-walks, low-stays, walks-and}
use Rattle.mddocument_rules.proofs.Weave.{IsChild, children-walk}
use Rattle.mddocument_rules.specs.Standing.{is_top}
use Rattle.mdgfm_sections.proofs.HeldMarks.{IsNoText, Under, is_of_text, leaf-blocks-under, linked-under}
use Rattle.mdgfm_sections.proofs.HeldSkeleton.{skeleton-under}

-- some span is around
abbrev pub NotTop : List Name → Type 0
NotTop around = is_top around ≡ false

abbrev Any : List Name → Type 0
Any around = Unit {0}

any-stays : (around : List Name) (es : List Event) → Stays Any around es
any-stays around [] = tt
any-stays around (e ∷ es) = (tt, any-stays (behind_one e.kind e.name around) es)

-- links do not matter
under-relinked : (around : List Name) (f : ℕ → Option ℕ) (e : Event) → Under around e → Under around (relinked f e)
under-relinked around f e h = by e.link h
  where
    by : (l : Option Link) → (is_of_text e.name (option_map (λ (x : Link). x.content) l) ≡ true → NotTop around) → is_of_text e.name (option_map (λ (x : Link). x.content) (option_map (with_ends f) l)) ≡ true → NotTop around
    by None h = h
    by (Some l) h = h

-- ---- the texts of cells

in-cell : (k : Kind) (n : Name) (around : List Name) → (is_enter k && same_name n name.GfmTableCellText) ≡ true → NotTop (behind_one k n around)
in-cell Enter n around h = refl
in-cell Exit n around h = absurd (false≢true h)

as-text-under : (around : List Name) (e : Event) → NotTop around → (k : Kind) → IfEnter k (Under around e) → IfEnter k (Under around (as_text e))
as-text-under around e t Enter h = λ is. t
as-text-under around e t Exit h = h

celled-under : (b : Bool) (around : List Name) (es : List Event) → (b ≡ true → NotTop around) → Walks Under around es → Walks Under around (celled b es)
celled-under b around [] t h = tt
celled-under true around (e ∷ es) t h = (as-text-under around e (t refl) e.kind h.0, celled-under (enters_cell e) (behind_one e.kind e.name around) es (in-cell e.kind e.name around) h.1)
celled-under false around (e ∷ es) t h = (h.0, celled-under (enters_cell e) (behind_one e.kind e.name around) es (in-cell e.kind e.name around) h.1)

-- ---- what is between chunks of blocks

-- an event enters no text
abbrev EntersNoText : Event → List Event → Type 0
EntersNoText e es = is_enter e.kind ≡ true → IsNoText e.name

no-text-walks : (around : List Name) (es : List Event) → AllOk EntersNoText es → Walks Under around es
no-text-walks around [] h = tt
no-text-walks around (e ∷ es) h = (by e.kind h.0.0, no-text-walks (behind_one e.kind e.name around) es h.1)
  where
    alone : content_of e ≡ None
    alone = ap (option_map (λ (x : Link). x.content)) h.0.1

    by : (k : Kind) → (is_enter k ≡ true → IsNoText e.name) → IfEnter k (Under around e)
    by Enter p = λ is. absurd (false≢true (sym (p refl) ∙ sym (ap (is_of_text e.name) alone) ∙ is))
    by Exit p = tt

module _ (bytes : List ℕ) where
  between-span : (n : Name) (seats : List Seat) (inside : List Mark) → IsNoText n → BetweenChunks EntersNoText inside → BetweenChunks EntersNoText (span_marks bytes n seats inside)
  between-span n [] inside f h = h
  between-span n (s ∷ ss) inside f h =
      let exit : Mark = (event bytes Exit n (end_after s.end ss), None) in
      record { go = λ waits ys g. ((λ e is. f), subst (Gapped EntersNoText waits) (sym (append_assoc inside (exit ∷ []) ys)) (h.go waits (exit ∷ ys) ((λ e is. absurd (false≢true is)), g))) }

  between-walk : Walk bytes (BetweenChunks EntersNoText) IsNoText AnySeat
  between-walk = record {
    none = between-none EntersNoText;
    both = between-both EntersNoText;
    over = λ n seats inside f q h. between-span n seats inside f h;
    space = refl;
    line_ending = refl;
    blank_ending = refl;
  }

  going-between : (c : Container) (seats : List Seat) → BetweenChunks EntersNoText (going_marks bytes c seats)
  going-between (quote q) seats = goings between-walk (quote q) seats (refl, refl)
  going-between (item i) seats = whites between-walk seats (any-seats seats)
  going-between (footnote f) seats = whites between-walk seats (any-seats seats)

  prefixes-between : (ps : List Prefix) (seats : List Seat) → BetweenChunks EntersNoText (prefixes_marks bytes ps seats)
  prefixes-between [] seats = between-none EntersNoText
  prefixes-between (p ∷ ps) seats = between-both EntersNoText (going_marks bytes p.container (take p.size seats)) (prefixes_marks bytes ps (drop p.size seats)) (going-between p.container (take p.size seats)) (prefixes-between ps (drop p.size seats))

-- ---- a document

free-under : {es : List Event} → IsBalanced es → (around : List Name) → NotTop around → Walks Under around es
free-under {es} b around ok = free-walks Under NotTop (λ (e : Event). Unit {0}) (λ around e ok u is. ok) (λ around e ok u. refl) b (every-all (λ (e : Event). Unit {0}) (λ e. tt) es) around ok

top-stays : {es : List Event} → IsBalanced es → (around : List Name) → NotTop around → Stays NotTop around es
top-stays {es} b around ok = low-stays NotTop (λ (e : Event). Unit {0}) (λ around e u. refl) b (every-all (λ (e : Event). Unit {0}) (λ e. tt) es) around ok

module _ (g : Given) (is : IsDocument g) where
  abbrev sk : List Event
  sk = document_skeleton g

  abbrev bare : List Event
  bare = skeleton_chains g

  bare-ready : IsReady g.tab g.bytes (Some content.Content) bare
  bare-ready = skeleton-laws.ready g is

  bare-under : Walks Under [] bare
  bare-under = with-cells-by (Walks Under []) g.options.constructs sk (celled-under false [] sk (λ b. absurd (false≢true b)) (skeleton-under g)) (skeleton-under g)

  gap-names : (k d : ℕ) → next_of sk k ≡ Some d → AllOk EntersNoText (between (k + 2) d sk)
  gap-names k d next =
      let on = g.options.constructs in
      let ss = sections on (rows on (lines_in (virtual g.tab g.bytes))) in
      let gapped = sections-gapped g.bytes EntersNoText (λ p es is. absurd (false≢true is)) (λ (row : Row). Unit {0}) (λ row u. prefixes-between g.bytes row.went_on row.line) ss (every-all (λ (row : Row). Unit {0}) (λ row. tt) (rows_of ss)) in
      gap-ok EntersNoText (λ e j i previous ms h. h) (marks g is) (document-goes g is).runs gapped k d next

  bare-gap : (k d : ℕ) → next_of bare k ≡ Some d → AllOk EntersNoText (between (k + 2) d bare)
  bare-gap k d next = with-cells-by (λ es. next_of es k ≡ Some d → AllOk EntersNoText (between (k + 2) d es)) g.options.constructs sk with-cells (gap-names k d) next
    where
      with-cells : next_of (celled false sk) k ≡ Some d → AllOk EntersNoText (between (k + 2) d (celled false sk))
      with-cells h =
          let old : next_of sk k ≡ Some d = sym (next-same false sk k (skeleton-free g is)) ∙ h in
          subst (AllOk EntersNoText) (sym (between-same false sk (k + 2) d (skeleton-gaps g is k d old))) (gap-names k d old)

  gap : (k d : ℕ) → Fits (Some content.Content) bare k → next_of bare k ≡ Some d → (around within : List Name) → Any around → Walks Under around (between (k + 2) d bare) → Any within → Walks Under within (between (k + 2) d bare)
  gap k d at next around within r w ok = no-text-walks within (between (k + 2) d bare) (bare-gap k d next)

  leaf-blocks-are : (cs : List ℕ) → AllByRecursion (λ c. begins (Some content.Content) bare c ≡ true) cs → AllByRecursion (IsChild Under under-relinked Any Any) (map (blocks_at skeleton-laws g is) cs)
  leaf-blocks-are [] b = tt
  leaf-blocks-are (c ∷ cs) b =
      let s = shown skeleton-laws g is in
      let text = chain_text s bare c in
      let balanced = (blocks-are-formed.blocks s text (is-text s bare (shown-is skeleton-laws g is) content.Content (bare-text-ready skeleton-laws g is) c b.0)).balanced in
      let blocks = leaf_blocks g.options.constructs (lines_in text.seats) in (
        record {
          balanced = balanced;
          walks = λ around r. linked-under 0 around _ ((leaf-blocks-under s.bytes blocks).go around);
          stays = λ around r. any-stays around (blocks_at skeleton-laws g is c);
        },
        leaf-blocks-are cs b.1,
      )

  blocks-under : Walks Under [] (document_blocks g)
  blocks-under =
      let cs = fitting_starts (Some content.Content) bare in
      subst (Walks Under []) (sym (blocks-are-celled skeleton-laws g is))
      (children-walk Under under-relinked Any Any g.tab g.bytes (Some content.Content) bare bare-ready (λ k at around h. tt) gap (map (blocks_at skeleton-laws g is) cs)
      (leaf-blocks-are cs (all-begin (shown skeleton-laws g is) bare (shown-is skeleton-laws g is) content.Content (bare-text-ready skeleton-laws g is))) bare-under)

  -- ---- no chunk of blocks is left

  -- text, or any chunk
  abbrev pub is_some_text : Name → Option Content → Bool
  is_some_text n None = is_plain n
  is_some_text n (Some c) = true

  abbrev pub UnderAll : List Name → Event → Type 0
  UnderAll around e = is_some_text e.name (content_of e) ≡ true → NotTop around

  all-relinked : (around : List Name) (f : ℕ → Option ℕ) (e : Event) → UnderAll around e → UnderAll around (relinked f e)
  all-relinked around f e h = by e.link h
    where
      by : (l : Option Link) → (is_some_text e.name (option_map (λ (x : Link). x.content) l) ≡ true → NotTop around) → is_some_text e.name (option_map (λ (x : Link). x.content) (option_map (with_ends f) l)) ≡ true → NotTop around
      by None h = h
      by (Some l) h = h

  abbrev IsLeft : Event → Type 0
  IsLeft e = content_of e ≡ Some content.Content → ⊥

  all-left : (es : List Event) → ((k : ℕ) (e : Event) → slice_get es k ≡ Some e → IsLeft e) → AllByRecursion IsLeft es
  all-left [] h = tt
  all-left (e ∷ es) h = (h 0 e refl, all-left es (λ k. h (suc k)))

  blocks-left : AllByRecursion IsLeft (document_blocks g)
  blocks-left =
      all-left (document_blocks g) (λ k e at linked.
      elim (blocks-textual skeleton-laws g is k content.Content (ap (option_and_then content_of) at ∙ linked)) [
        | inl t ↦ absurd (cc)
        | inr s ↦ absurd (cc)
      ])

  left-under : (around : List Name) (e : Event) → Under around e → IsLeft e → UnderAll around e
  left-under around e h k = by (content_of e) h k
    where
      by : (o : Option Content) → (is_of_text e.name o ≡ true → NotTop around) → (o ≡ Some content.Content → ⊥) → is_some_text e.name o ≡ true → NotTop around
      by None h k is = h is
      by (Some content.Content) h k is = absurd (k refl)
      by (Some content.Flow) h k is = h refl
      by (Some content.String) h k is = h refl
      by (Some content.Text) h k is = h refl

  all-blocks : Walks UnderAll [] (document_blocks g)
  all-blocks = walks-and Under UnderAll IsLeft left-under [] (document_blocks g) blocks-under blocks-left

  -- ---- inline text and strings

  free-all : {es : List Event} → IsBalanced es → (around : List Name) → NotTop around → Walks UnderAll around es
  free-all {es} b around ok = free-walks UnderAll NotTop (λ (e : Event). Unit {0}) (λ around e ok u is. ok) (λ around e ok u. refl) b (every-all (λ (e : Event). Unit {0}) (λ e. tt) es) around ok

  -- chains of a content, each read as balanced events
  module _ (wanted : Content) (events : List Event) (ready : IsReady g.tab g.bytes (Some wanted) events) (reads : ℕ → List Event) (balanced : (c : ℕ) → IsBalanced (reads c)) where
    fits-there : (k : ℕ) (at : Fits (Some wanted) events k) (around : List Name) → UnderAll around (chunk g.tab g.bytes (Some wanted) events ready k at).enter → NotTop around
    fits-there k at around h =
        let c = chunk g.tab g.bytes (Some wanted) events ready k at in
        let linked : content_of c.enter ≡ Some wanted = sym (ap (option_and_then content_of) c.enter_at) ∙ is-content wanted (content_at events k) at in
        h (ap (is_some_text c.enter.name) linked)

    each : (cs : List ℕ) → AllByRecursion (IsChild UnderAll all-relinked NotTop NotTop) (map reads cs)
    each [] = tt
    each (c ∷ cs) = (record { balanced = balanced c; walks = free-all (balanced c); stays = top-stays (balanced c) }, each cs)

    reads-under : Walks UnderAll [] events → Walks UnderAll [] (with_children (Some wanted) events (map reads (fitting_starts (Some wanted) events)))
    reads-under w =
        children-walk UnderAll all-relinked NotTop NotTop g.tab g.bytes (Some wanted) events ready fits-there (λ k d at next around within r v ok. free-all (ready.gaps k d at next).balanced within ok) (map reads (fitting_starts (Some wanted) events))
        (each (fitting_starts (Some wanted) events)) w

  module _ (defined : List ℕ → Bool) where
    abbrev blocks : List Event
    blocks = document_blocks g

    abbrev inlines : List Event
    inlines = with_inlines defined g blocks

    pub texts-under : Walks UnderAll [] (document_texts_by defined g)
    texts-under =
        reads-under content.String inlines (strings-ready skeleton-laws g is defined) (λ c. string_events g (chain_text g inlines c)) (λ c. string-balanced g.bytes g.options.constructs (chain_text g inlines c).seats)
        (reads-under content.Text blocks (content-ready skeleton-laws g is content.Text) (λ c. inline_events defined g (chain_text g blocks c)) (λ c. (inline-stands defined g.options g.bytes (chain_text g blocks c).seats).0) all-blocks)
