-- Where chains are replaced by children: which events and links are left, and where data stands.
use Rattle.std.proofs.Common.{Bool, List, None, Option, Some, [], ap, arith, cond, false, inl, inr, length, map, refl, subst, suc, sym, true, zero, ℕ, ◌++◌, ◌+◌, ◌<◌, ◌==◌, ◌∙◌, ◌∷◌, ◌≡◌, ◌≤◌}
use Rattle.std.proofs.lemmas.Bool.{cases_order, cond_both, eq-eqb, false≢true, le-leb, lt-ltb, or_left, or_right}
use Rattle.std.proofs.lemmas.List.{length-map}
use Rattle.std.proofs.lemmas.Option.{none-some, same_Some, slice_get-map, slice_get_within}
use Rattle.std.specs.Cmp.Derive.{both_true}
use Rattle.std.specs.List.{AllByRecursion, flat_map}
use Rattle.std.specs.Option.{option_and_then, option_map}
use Rattle.std.specs.Prelude.{is_some, nat_le, nat_lt, not, slice_get, ◌&&◌, ◌||◌}
use Rattle.markdown_base.proofs.Common.{every-append, every-get, every-map}
use Rattle.markdown_base.specs.Events.{relinked, same_name}
use Rattle.markdown_base.specs.Virtual.{Seat, virtual}
use Rattle.markdown_base.specs.declared.configuration.Constructs.{Constructs}
use Rattle.markdown_base.specs.declared.event.Content.{Content}
use Rattle.markdown_base.specs.declared.event.Content.TheVariants as content
use Rattle.markdown_base.specs.declared.event.Event.{Event}
use Rattle.markdown_base.specs.declared.event.Kind.{Kind}
use Rattle.markdown_base.specs.declared.event.Link.{Link}
use Rattle.markdown_base.specs.declared.event.Name.{Name}
use Rattle.markdown_base.specs.declared.event.Name.TheVariants as name
use Rattle.markdown_base.specs.declared.event.Name.TheVariants.{Data}
use Rattle.markdown_base.specs.declared.event.Point.{Point}
use Rattle.markdown_edits.proofs.Edits.Survivors.{stays_unless_removed}
use Rattle.markdown_edits.specs.Links.{content_at, content_of}
use Rattle.markdown_edits.specs.Woven.{Change, Identity, Tagged, is_removed, is_same, of_addition, of_child, of_list, place_in, placed_end}
use Rattle.markdown_tokenizer.proofs.Positions.Order.{every-all, every-back, every-front}
use Rattle.markdown_tokenizer.specs.Plain.{HaveNoLinks}
use Rattle.markdown_tokenizer.specs.Text.{Given, IsDocument, Text}
use Rattle.markdown_children.proofs.ChainOrder.Following.{Fits, apart, by_option, by_test}
use Rattle.markdown_children.proofs.ChainOrder.Spaced.{changes_are_apart}
use Rattle.markdown_children.proofs.Parts.InShape.{IsSourced, all-once, all-sourced, child-all, child_of, source}
use Rattle.markdown_children.proofs.Parts.Once.{once-place}
use Rattle.markdown_children.proofs.Parts.Staying.{AtChunk, all-at, ts}
use Rattle.markdown_children.proofs.Parts.Weaves.{content-kept}
use Rattle.markdown_children.specs.Chains.{content_at as chain_content_at, fits, fitting_starts, some_fits}
use Rattle.markdown_children.specs.Children.{child_changes, with_children}
use Rattle.markdown_children.specs.Ready.{IsReady}
use Rattle.mdconstructs_machines.specs.LineEvents.{line_text, lines_in}
use Rattle.mdconstructs_machines.specs.Spans.{event}
use Rattle.mdinline_text_machine.specs.ReadChains.{chain_text}
use Rattle.mdinline_link_strings.proofs.Kept.{strings_keep}
use Rattle.mdinline_machine.proofs.InlineChains.{inline-alone}
use Rattle.mdinline_machine.proofs.StringRuns.{string-alone}
use Rattle.mdinline_machine.specs.InlineChains.{with_inlines, with_strings as with_string_chunks}
use Rattle.mdinline_machine.specs.InlineEvents.{inline_events}
use Rattle.mdinline_machine.specs.StringEvents.{string_events}
use Rattle.mdblock_leaf_blocks.specs.BlockLines.{block_lines}
use Rattle.mdblock_leaf_blocks.specs.LeafBlocks.{LeafBlock, Line, leaf_blocks}
use Rattle.mdblock_leaf_blocks.specs.LeafEvents.{Chunk, Mark, chunk_span, flow_events, leaf_block_marks, leaf_marks, linked_from}
use Rattle.mdblock_lines.specs.Containers.{Container, Prefix, footnote, item, quote}
use Rattle.mdblock_containers.proofs.FrameFacts.{Turn, all_entered, entered}
use Rattle.mdblock_containers.proofs.PartSpans.{RowFits}
use Rattle.mdblock_containers.proofs.SeatFacts.{document_lines}
use Rattle.mdblock_containers.specs.Rows.{Row}
use Rattle.mdblock_containers.specs.Skeleton.{Frame, Part, chained_from, list_name, prefixes_marks}
use Rattle.mdblock_table_marks.proofs.NoCellMarks.{list-named}
use Rattle.mdblock_table_marks.specs.TableMarks.{table_marks}
use Rattle.mdblock_definitions.proofs.Covered.{rows_of}
use Rattle.mdblock_definitions.proofs.SectionTurns.{AreCut, all-of-sections, document-cut, document-lines, rows-fit}
use Rattle.mdblock_text_lines.specs.DocumentBlocks.{document_blocks}
use Rattle.mdblock_definitions.specs.Rows.{rows}
use Rattle.mdblock_definitions.specs.Sections.{Inside, Section, defined, lines as lines_inside, sections, table as table_inside}
use Rattle.mdblock_definitions.specs.Skeleton.{all_rows, sections_marks}
use Rattle.mddocument.proofs.FlowTexts.Segments.{IsTextual}
use Rattle.mddocument.proofs.InContainers.Places.{EndsAt, last-end}
use Rattle.mddocument.proofs.InContainers.Removed.{removed-fits}
use Rattle.mddocument.proofs.InContainers.Skeletons.{skeleton-laws}
use Rattle.mddocument.proofs.InContainers.Texts.{blocks-textual}
use Rattle.mddocument.proofs.InContainers.TextsFormed.{content-ready, strings-ready}
use Rattle.mddocument.specs.DocumentEvents.{document_events, document_texts, is_defined_in}
use Rattle.mddocument.proofs.Walks.BlockWalk.{all-may, block-are, block_names}
use Rattle.mddocument.proofs.Walks.InnerTexts.{AnySeat, any-each}
use Rattle.mddocument.proofs.Walks.MarksWalk.{Walk, walk-of-marks}
use Rattle.mddocument.proofs.InContainers.CellLinks.{no-content}
use Rattle.mddocument.proofs.Walks.SkeletonWalk.{AreOfDefinition, InsideMay, MayHold, PartMay, PrefixesMay, RowAt, SectionMay, are-in-definition, begun-in-text, prefix-may, prefixes, sections-are}
use Rattle.mddocument.proofs.Walks.TableWalk.{AreOfTable, are-in-table, tables-are}
use Rattle.mddocument_parts.proofs.TextLines.{AreInner, AreTextLines, AreTextSeats, lines-of-texts, text-blocks}

-- ==== Where chains are replaced by children, each event is one of the list that no chunk removes, or one of a child, but for the ends of its link.
-- ---- what is said of each event of a list
abbrev pub Each : (Event → Type 0) → List Event → Type 0
Each P es = (k : ℕ) (e : Event) → slice_get es k ≡ Some e → P e

pub each-all : (P : Event → Type 0) (es : List Event) → Each P es → AllByRecursion P es
each-all P [] h = tt
each-all P (e ∷ es) h = (h 0 e refl, each-all P es (λ k f at. h (suc k) f at))

-- the event is linked only to be read as one of these contents
abbrev pub IsOf : (Content → Type 0) → Event → Type 0
IsOf Of e = (c : Content) → content_of e ≡ Some c → Of c

-- data stands at one of these places
abbrev pub AtData : (Point → Type 0) → Event → Type 0
AtData At e = same_name e.name Data ≡ true → At e.point

-- and what is linked is data
pub record StandsAt (At : Point → Type 0) (e : Event) : Type 0 where
  pub named : (c : Content) → content_of e ≡ Some c → e.name ≡ Data
  pub at : AtData At e

-- link ends do not matter
pub of-moved : (Of : Content → Type 0) (f : ℕ → Option ℕ) (e : Event) → IsOf Of e → IsOf Of (relinked f e)
of-moved Of f e h c is = h c (sym (content-kept f e.link) ∙ is)

pub stands-moved : (At : Point → Type 0) (f : ℕ → Option ℕ) (e : Event) → StandsAt At e → StandsAt At (relinked f e)
stands-moved At f e h = record { named = λ c is. h.named c (sym (content-kept f e.link) ∙ is); at = h.at }

-- ---- lists without links
pub none-of : (Of : Content → Type 0) (es : List Event) → HaveNoLinks es → AllByRecursion (IsOf Of) es
none-of Of [] h = tt
none-of Of (e ∷ es) h = ((λ c is. absurd (no-content e c h.0 is)), none-of Of es h.1)

pub none-stand : (At : Point → Type 0) (es : List Event) → HaveNoLinks es → AllByRecursion (λ (e : Event). At e.point) es → AllByRecursion (StandsAt At) es
none-stand At [] h k = tt
none-stand At (e ∷ es) h k = (record { named = λ c is. absurd (no-content e c h.0 is); at = λ data_name. k.0 }, none-stand At es h.1 k.1)

-- a list that is linked to nothing has no links
pub of-none : (es : List Event) → Each (IsOf (λ c. ⊥)) es → HaveNoLinks es
of-none [] h = tt
of-none (e ∷ es) h =
    (by_option e.link (λ is. is) (λ l is. absurd (h 0 e refl l.content (ap (option_map (λ (l : Link). l.content)) is))), of-none es (λ k f at. h (suc k) f at))

-- ---- children
-- what has a new place is not removed
not-removed : (o : Option ℕ) (p : ℕ) (b : Bool) → o ≡ Some p → is_some o ≡ not b → b ≡ false
not-removed o p true e s = let no : true ≡ false = sym (ap is_some e) ∙ s in absurd (cc)
not-removed o p false e s = refl

module _ (tab : ℕ) (bytes : List ℕ) (wanted : Option Content) (events : List Event) (ready : IsReady tab bytes wanted events) (children : List (List Event)) where
  abbrev pub changes : List Change
  changes = child_changes wanted events children

  -- ---- exits of chunks go with their enters
  exit-in : (k : ℕ) (ws : List Change) → Fits wanted events k → AllByRecursion (AtChunk tab bytes wanted events ready children) ws → is_removed ws k ≡ true → is_removed ws (k + 1) ≡ true
  exit-in k [] fit at h = absurd (cc)
  exit-in k (w ∷ ws) fit at h =
      let test : Bool = nat_le w.index (k + 1) && nat_lt (k + 1) (w.index + w.remove) in
      let two = at.0.1 in
      elim (cases_order w.index k) [
        | inl e ↦ or_left test (is_removed ws (k + 1)) (both_true (le-leb w.index (k + 1) (omega (arith, e))) (lt-ltb (k + 1) (w.index + w.remove) (omega (arith, e, two))))
        | inr other ↦
            or_right test (is_removed ws (k + 1))
            (exit-in k ws fit at.1 (behind (is_removed ws k) h (elim other [
              | inl below ↦ (let far = apart tab bytes wanted events ready w.index k at.0.0 fit below in λ l r. omega (arith, far, r, two))
              | inr above ↦ λ l r. omega (arith, above, l)
            ])))
      ]
    where
      behind : (b : Bool) → ((nat_le w.index k && nat_lt k (w.index + w.remove)) || b) ≡ true → (w.index ≤ k → k < w.index + w.remove → ⊥) → b ≡ true
      behind true e never = refl
      behind false e never = absurd (grind (arith, never))

  pub exit-removed : (k : ℕ) → Fits wanted events k → is_removed changes k ≡ true → is_removed changes (k + 1) ≡ true
  exit-removed k fit h = exit-in k changes fit (all-at tab bytes wanted events ready children) h

  -- ---- what holds of all events that are left, and of all events of children
  module _ (P : Event → Type 0) (moved : (f : ℕ → Option ℕ) (e : Event) → P e → P (relinked f e)) (left : (n : ℕ) (e : Event) → slice_get events n ≡ Some e → is_removed changes n ≡ false → P e)
      (kids : AllByRecursion (AllByRecursion P) children) where
    abbrev named : List Tagged
    named = ts tab bytes wanted events ready children

    abbrev placed_event : Tagged → Event
    placed_event u = relinked (placed_end named u.identity) u.event

    of-source : (p : ℕ) (u : Tagged) → slice_get named p ≡ Some u → (b : Identity) → u.identity ≡ b → P u.event
    of-source p u at (of_list n) same =
        let from : slice_get events n ≡ Some u.event = ap (source (child_of tab bytes wanted events ready children) events) (sym same) ∙ every-get (IsSourced (child_of tab bytes wanted events ready children) events) named p u (all-sourced tab bytes wanted events ready children) at in
        let there : place_in (of_list n) named ≡ Some p = ap (λ a. place_in a named) (sym same) ∙ once-place named p u (all-once tab bytes wanted events ready children) (ap (λ a. is_same a a) same ∙ eq-eqb n n refl) at in
        let stays = stays_unless_removed changes events (changes_are_apart tab bytes wanted events children ready).fresh n (slice_get_within events n u.event from) in
        left n u.event from (not-removed (place_in (of_list n) named) p (is_removed changes n) there stays)
    of-source p u at (of_child d j) same =
        let from = ap (source (child_of tab bytes wanted events ready children) events) (sym same) ∙ every-get (IsSourced (child_of tab bytes wanted events ready children) events) named p u (all-sourced tab bytes wanted events ready children) at in
        every-get P (child_of tab bytes wanted events ready children d) j u.event (child-all (AllByRecursion P) tt (fitting_starts wanted events) children kids d) from
    of-source p u at of_addition same =
        absurd (none-some u.event (ap (source (child_of tab bytes wanted events ready children) events) (sym same) ∙ every-get (IsSourced (child_of tab bytes wanted events ready children) events) named p u (all-sourced tab bytes wanted events ready children) at))

    -- holds of all events
    pub all-left : Each P (with_children wanted events children)
    all-left p e h = by_option (slice_get named p)
        (λ f. absurd (none-some e (sym (slice_get-map placed_event named p ∙ ap (option_map placed_event) f) ∙ h)))
        (λ u f.
        let same : placed_event u ≡ e = same_Some (placed_event u) e (sym (slice_get-map placed_event named p ∙ ap (option_map placed_event) f) ∙ h) in
        subst P same (moved (placed_end named u.identity) u.event (of-source p u f u.identity refl)))

  -- of chains of one content: what is left is linked to others
  pub linked-left : (gone : (n : ℕ) → fits wanted events n ≡ true → is_removed changes n ≡ true) (Old New : Content → Type 0)
      → ((c : Content) → Old c → some_fits wanted (Some c) ≡ false → New c) → Each (IsOf Old) events → AllByRecursion (AllByRecursion (IsOf New)) children
      → Each (IsOf New) (with_children wanted events children)
  linked-left gone Old New next old kids =
      all-left (IsOf New) (of-moved New)
      (λ n e at stays c is.
      let here : chain_content_at events n ≡ Some c = ap (option_and_then content_of) at ∙ is in
      by_test (some_fits wanted (Some c))
      (λ fit. absurd (let no : true ≡ false = sym (gone n (ap (some_fits wanted) here ∙ fit)) ∙ stays in cc))
      (λ other. next c (old n e at c is) other)) kids

-- ==== No links are left: of the links of a document's blocks those of texts go with inline text, and those of strings with their events.
-- each chain of a content is read as events without links
module _ (g : Given) (wanted : Content) (events : List Event) (ready : IsReady g.tab g.bytes (Some wanted) events) (reads : Text → List Event) (alone : (text : Text) → HaveNoLinks (reads text)) where
  abbrev children : List (List Event)
  children = map (λ c. reads (chain_text g events c)) (fitting_starts (Some wanted) events)

  kids : (Of : Content → Type 0) (cs : List ℕ) → AllByRecursion (AllByRecursion (IsOf Of)) (map (λ c. reads (chain_text g events c)) cs)
  kids Of [] = tt
  kids Of (c ∷ cs) = (none-of Of (reads (chain_text g events c)) (alone (chain_text g events c)), kids Of cs)

  many : length (fitting_starts (Some wanted) events) ≡ length children
  many = sym (length-map (fitting_starts (Some wanted) events) (λ c. reads (chain_text g events c)))

  read-left : (Old New : Content → Type 0) → ((c : Content) → Old c → some_fits (Some wanted) (Some c) ≡ false → New c) → Each (IsOf Old) events → Each (IsOf New) (with_children (Some wanted) events children)
  read-left Old New next old =
      linked-left g.tab g.bytes (Some wanted) events ready children (removed-fits g.tab g.bytes (Some wanted) events ready children many) Old New next old (kids New (fitting_starts (Some wanted) events))

-- which contents are left
abbrev IsString : Content → Type 0
IsString c = c ≡ content.String

behind-texts : (c : Content) → IsTextual c → some_fits (Some content.Text) (Some c) ≡ false → IsString c
behind-texts c (inl text) other = absurd (let no : true ≡ false = ap (λ d. some_fits (Some content.Text) (Some d)) (sym text) ∙ other in cc)
behind-texts c (inr string) other = string

behind-strings : (c : Content) → IsString c → some_fits (Some content.String) (Some c) ≡ false → ⊥
behind-strings c string other = let no : true ≡ false = ap (λ d. some_fits (Some content.String) (Some d)) (sym string) ∙ other in cc

module _ (g : Given) (is : IsDocument g) where
  blocks-are-textual : Each (IsOf IsTextual) (document_blocks g)
  blocks-are-textual k e at c linked = blocks-textual skeleton-laws g is k c (ap (option_and_then content_of) at ∙ linked)

  module _ (is_defined : List ℕ → Bool) where
    inlines-are-strings : Each (IsOf IsString) (with_inlines is_defined g (document_blocks g))
    inlines-are-strings =
        let blocks = document_blocks g in
        read-left g content.Text blocks (content-ready skeleton-laws g is content.Text) (inline_events is_defined g) (inline-alone is_defined g) IsTextual IsString behind-texts blocks-are-textual

    -- Texts and strings are read, and no links are left
    pub no-links-left : HaveNoLinks (with_string_chunks g (with_inlines is_defined g (document_blocks g)))
    no-links-left =
        let inlines = with_inlines is_defined g (document_blocks g) in
        of-none (with_string_chunks g inlines)
        (read-left g content.String inlines (strings-ready skeleton-laws g is is_defined) (string_events g) (string-alone g) IsString (λ c. ⊥) behind-strings inlines-are-strings)

  pub texts-unlinked : HaveNoLinks (document_texts g)
  texts-unlinked = no-links-left (is_defined_in g)

  -- The events of a document have no links
  pub events-unlinked : HaveNoLinks (document_events g)
  events-unlinked = (strings_keep g.options.constructs g.tab g.bytes (document_texts g)).1 texts-unlinked

-- ==== Where data of leaf blocks stands: chunks are data, and if the virtual bytes of texts stand at some places, so does data.
abbrev IsNoData : Name → Type 0
IsNoData n = same_name n name.Data ≡ false

no-data-names : AllByRecursion IsNoData block_names
no-data-names = (refl, (refl, (refl, (refl, (refl, (refl, (refl, (refl, (refl, (refl, (refl, (refl, (refl, (refl, (refl, (refl, (refl, (refl, (refl, tt)))))))))))))))))))

module _ (At : Point → Type 0) (bytes : List ℕ) where
  -- a mark without a link, or of a chunk that is data, and where data may stand
  abbrev IsPlaced : Mark → Type 0
  IsPlaced (e, None) = (e.link ≡ None) × AtData At e
  IsPlaced (e, Some chunk) = (e.name ≡ name.Data) × AtData At e

  record ArePlaced (marks : List Mark) : Type 0 where
    all : AllByRecursion IsPlaced marks

  -- data stands where its virtual bytes do, and other spans anywhere
  placed-walk : Walk bytes ArePlaced IsNoData AnySeat
  placed-walk =
      walk-of-marks bytes ArePlaced IsNoData (record { all = tt }) (λ xs ys h k. record { all = every-append IsPlaced xs ys h.all k.all })
      (λ k n place other. record { all = ((refl, λ e. absurd (false≢true (sym other ∙ e))), tt) }) refl refl refl

  placed-chunk : (c : Chunk) (seats : List Seat) → AllByRecursion AnySeat seats → AreInner (EndsAt At bytes) seats → ArePlaced (chunk_span bytes (Some c) name.Data seats [])
  placed-chunk c [] q i = record { all = tt }
  placed-chunk c (s ∷ ss) q i = record { all = ((refl, λ e. i.0.0), ((refl, λ e. last-end At bytes s ss i), tt)) }

  -- ---- blocks
  block-placed : (block : LeafBlock) → AreTextLines (EndsAt At bytes) (block_lines block) → ArePlaced (leaf_block_marks bytes block)
  block-placed block i = block-are bytes ArePlaced IsNoData AnySeat (EndsAt At bytes) placed-walk placed-chunk block (all-may IsNoData no-data-names block) (any-each (block_lines block)) i

  blocks-placed : (blocks : List LeafBlock) → AllByRecursion (λ b. AreTextLines (EndsAt At bytes) (block_lines b)) blocks → ArePlaced (flat_map (leaf_block_marks bytes) blocks)
  blocks-placed [] h = placed-walk.none
  blocks-placed (b ∷ blocks) h = placed-walk.both _ _ (block-placed b h.0) (blocks-placed blocks h.1)

  linked-stand : (i : ℕ) (marks : List Mark) → AllByRecursion IsPlaced marks → AllByRecursion (StandsAt At) (linked_from i marks)
  linked-stand i [] h = tt
  linked-stand i ((e, None) ∷ marks) h =
      (record { named = λ c is. absurd (no-content e c h.0.0 is); at = h.0.1 }, linked-stand (i + 1) marks h.1)
  linked-stand i ((e, Some chunk) ∷ marks) h = (record { named = λ c is. h.0.0; at = h.0.1 }, linked-stand (i + 1) marks h.1)

  -- of virtual bytes of texts
  pub flow-stands : (on : Constructs) (seats : List Seat) → AreTextSeats (EndsAt At bytes) seats → AllByRecursion (StandsAt At) (flow_events on bytes seats)
  flow-stands on seats h =
      let lines = lines_in seats in
      let placed = blocks-placed (leaf_blocks on lines) (text-blocks (EndsAt At bytes) on lines (lines-of-texts (EndsAt At bytes) seats h)) in
      linked-stand 0 (flat_map (leaf_block_marks bytes) (leaf_blocks on lines)) placed.all

-- ==== Where data of a skeleton stands: that of definitions before the ending of its line; other data is chunks.
-- ---- lists of marks, with what is put in place of chunks left out
module _ (At : Point → Type 0) where
  -- data that is no chunk stands at one of these places; a chunk is an enter and an exit
  abbrev pub Stand : List Mark → Type 0
  Stand [] = Unit {0}
  Stand ((e, None) ∷ ms) = AtData At e × Stand ms
  Stand ((e, Some chunk) ∷ []) = ⊥
  Stand ((e, Some chunk) ∷ (f, None) ∷ ms) = Stand ms
  Stand ((e, Some chunk) ∷ (f, Some other) ∷ ms) = ⊥

  stand-both : (xs ys : List Mark) → Stand xs → Stand ys → Stand (xs ++ ys)
  stand-both [] ys h k = k
  stand-both ((e, None) ∷ xs) ys h k = (h.0, stand-both xs ys h.1 k)
  stand-both ((e, Some chunk) ∷ []) ys h k = absurd h
  stand-both ((e, Some chunk) ∷ (f, None) ∷ xs) ys h k = stand-both xs ys h k
  stand-both ((e, Some chunk) ∷ (f, Some other) ∷ xs) ys h k = absurd h

  -- in the list of their events, each event that is left is so: chunks are removed
  module _ (events : List Event) (ws : List Change) (gone : (k : ℕ) (c : Content) → content_at events k ≡ Some c → (is_removed ws k ≡ true) × (is_removed ws (k + 1) ≡ true)) where
    left-from : (i : ℕ) (previous : Option ℕ) (ms : List Mark) → Stand ms → ((k : ℕ) → slice_get events (i + k) ≡ slice_get (chained_from i previous ms) k)
        → (k : ℕ) (e : Event) → slice_get (chained_from i previous ms) k ≡ Some e → is_removed ws (i + k) ≡ false → AtData At e
    left-from i previous [] h at k e is stays = absurd (none-some e is)
    left-from i previous ((x, None) ∷ ms) h at zero e is stays = subst (AtData At) (same_Some x e is) h.0
    left-from i previous ((x, None) ∷ ms) h at (suc k) e is stays =
        left-from (suc i) previous ms h.1 (λ j. let z : suc i + j ≡ i + suc j = omega arith in ap (slice_get events) z ∙ at (suc j)) k e is (let z : suc i + k ≡ i + suc k = omega arith in ap (is_removed ws) z ∙ stays)
    left-from i previous ((x, Some chunk) ∷ []) h at k e is stays = absurd h
    left-from i previous ((x, Some chunk) ∷ (f, None) ∷ ms) h at zero e is stays =
        let both = gone (i + 0) chunk.content (ap (option_and_then content_of) (at 0)) in
        absurd (false≢true (sym stays ∙ both.0))
    left-from i previous ((x, Some chunk) ∷ (f, None) ∷ ms) h at (suc zero) e is stays =
        let both = gone (i + 0) chunk.content (ap (option_and_then content_of) (at 0)) in
        let z : i + 1 ≡ i + 0 + 1 = omega arith in
        absurd (false≢true (sym stays ∙ ap (is_removed ws) z ∙ both.1))
    left-from i previous ((x, Some chunk) ∷ (f, None) ∷ ms) h at (suc (suc k)) e is stays =
        left-from (suc (suc i)) (Some i) ms h (λ j. let z : suc (suc i) + j ≡ i + suc (suc j) = omega arith in ap (slice_get events) z ∙ at (suc (suc j))) k e is
        (let z : suc (suc i) + k ≡ i + suc (suc k) = omega arith in ap (is_removed ws) z ∙ stays)
    left-from i previous ((x, Some chunk) ∷ (f, Some other) ∷ ms) h at k e is stays = absurd h

  pub chained-left : (ms : List Mark) → Stand ms → let events = chained_from 0 None ms in
      (ws : List Change) → ((k : ℕ) (c : Content) → content_at events k ≡ Some c → (is_removed ws k ≡ true) × (is_removed ws (k + 1) ≡ true))
      → (k : ℕ) (e : Event) → slice_get events k ≡ Some e → is_removed ws k ≡ false → AtData At e
  chained-left ms h ws gone k e is stays =
      let events = chained_from 0 None ms in
      left-from events ws gone 0 None ms h (λ j. let z : 0 + j ≡ j = omega arith in ap (slice_get events) z) k e is (let z : 0 + k ≡ k = omega arith in ap (is_removed ws) z ∙ stays)

-- ---- spans of containers are no data
abbrev AreNoData : List Frame → Type 0
AreNoData fs = AllByRecursion (λ (f : Frame). IsNoData f.name) fs

entered-no-data : (c : Container) → AreNoData (entered c)
entered-no-data (quote q) = (refl, tt)
entered-no-data (footnote f) = (refl, tt)
entered-no-data (item i) =
    every-append (λ (f : Frame). IsNoData f.name) (cond (i.list == i.line) (record { name = list_name i; line = i.list } ∷ []) []) (record { name = name.ListItem; line = i.line } ∷ [])
    (cond_both (i.list == i.line) (record { name = list_name i; line = i.list } ∷ []) [] AreNoData (λ e. (list-named IsNoData refl refl i, tt)) (λ e. tt)) (refl, tt)

all-no-data : (ps : List Prefix) → AreNoData (all_entered ps)
all-no-data [] = tt
all-no-data (p ∷ ps) = every-append (λ (f : Frame). IsNoData f.name) (entered p.container) (all_entered ps) (entered-no-data p.container) (all-no-data ps)

turned-no-data : (fs gs : List Frame) (ps : List Prefix) → Turn fs gs ps → AreNoData fs → AreNoData gs
turned-no-data fs gs ps turn h =
    subst AreNoData (sym turn.after_are)
    (every-append (λ (f : Frame). IsNoData f.name) turn.kept (all_entered ps) (every-front (λ (f : Frame). IsNoData f.name) turn.kept turn.ended (subst AreNoData turn.before_are h)) (all-no-data ps))

-- neither are their prefixes
holds-no-data : (c : Container) → MayHold IsNoData c
holds-no-data (quote q) = (refl, refl, refl)
holds-no-data (item i) = (list-named IsNoData refl refl i, refl, refl, refl, refl)
holds-no-data (footnote f) = (refl, (refl, refl, refl, refl, refl, refl))

all-hold : (ps : List Prefix) → PrefixesMay IsNoData ps
all-hold ps = every-all (λ (p : Prefix). MayHold IsNoData p.container) (λ p. holds-no-data p.container) ps

of-definition : AreOfDefinition IsNoData
of-definition = record { definition = refl; inside = are-in-definition IsNoData (refl, (refl, (refl, (refl, (refl, (refl, (refl, (refl, (refl, (refl, (refl, (refl, tt)))))))))))) }

of-table : AreOfTable IsNoData
of-table = record { table = refl; inside = are-in-table IsNoData (refl, (refl, (refl, (refl, (refl, (refl, (refl, (refl, (refl, (refl, (refl, tt))))))))))) }

module _ (At : Point → Type 0) (bytes : List ℕ) where
  abbrev Ends : Seat → Type 0
  Ends = EndsAt At bytes

  record Are (marks : List Mark) : Type 0 where
    all : Stand At marks

  mark : (k : Kind) (n : Name) (place : Point) → IsNoData n → Are ((event bytes k n place, None) ∷ [])
  mark k n place other = record { all = ((λ e. absurd (false≢true (sym other ∙ e))), tt) }

  walk : Walk bytes Are IsNoData AnySeat
  walk = walk-of-marks bytes Are IsNoData (record { all = tt }) (λ xs ys h k. record { all = stand-both At xs ys h.all k.all }) mark refl refl refl

  some-data : (seats : List Seat) → AllByRecursion Ends seats → Are (leaf_marks bytes name.Data seats)
  some-data [] i = record { all = tt }
  some-data (s ∷ ss) i = record { all = ((λ e. i.0.0), ((λ e. last-end At bytes s ss i), tt)) }

  chunk : (c : Chunk) (seats : List Seat) → Are (chunk_span bytes (Some c) name.Data seats [])
  chunk c [] = record { all = tt }
  chunk c (s ∷ ss) = record { all = tt }

  -- ---- sections
  -- the texts of a table's lines stand there
  abbrev Table : Part → Type 0
  Table part = AllByRecursion (RowAt Ends) (all_rows part)

  row-prefixes : (r : Row) → PrefixesMay IsNoData r.went_on → Are (prefixes_marks bytes r.went_on r.line)
  row-prefixes r h = prefixes walk (MayHold IsNoData) (prefix-may IsNoData) r.went_on r.line h

  tabled : (part : Part) → PartMay IsNoData part → Table part → Are (table_marks bytes part)
  tabled part m h =
      tables-are walk Ends some-data of-table part.first part.more (every-map (λ (r : Row). PrefixesMay IsNoData r.went_on) (λ (r : Row). Are (prefixes_marks bytes r.went_on r.line)) row-prefixes part.more m.rows.1) h

  inside-may : (part : Part) (inside : Inside) → AllByRecursion (RowAt Ends) (all_rows part) → InsideMay IsNoData Ends Table part inside
  inside-may part (lines_inside is_behind) h = tt
  inside-may part table_inside h = h
  inside-may part (defined ds) h = (of-definition, h)

  section-may : (s : Section) → AreNoData s.part.frames → RowFits s.part.first → AllByRecursion (RowAt Ends) (all_rows s.part) → SectionMay IsNoData Ends Table s
  section-may s fs fits h = record {
    part = record { rows = every-all (λ (r : Row). PrefixesMay IsNoData r.went_on) (λ r. all-hold r.went_on) (all_rows s.part); begun = all-hold s.part.first.begun; frames = fs };
    begun = begun-in-text Ends s.part.first fits h.0;
    inside = inside-may s.part s.inside h;
  }

  sections-may : (fs : List Frame) (ss : List Section) → AreNoData fs → AreCut bytes fs ss → AllByRecursion RowFits (rows_of ss) → AllByRecursion (RowAt Ends) (rows_of ss) → AllByRecursion (SectionMay IsNoData Ends Table) ss
  sections-may fs [] other cut fit h = tt
  sections-may fs (s ∷ more) other cut fit h =
      let turned = turned-no-data fs s.part.frames s.part.first.begun cut.0 other in
      (section-may s turned fit.0 (every-front (RowAt Ends) (all_rows s.part) (rows_of more) h), sections-may s.part.frames more turned cut.2 (every-back RowFits (all_rows s.part) (rows_of more) fit) (every-back (RowAt Ends) (all_rows s.part) (rows_of more) h))

  rows-at : (rs : List Row) → AllByRecursion (λ (line : Line). AllByRecursion Ends (line_text line)) (map (λ (r : Row). r.line) rs) → AllByRecursion (RowAt Ends) rs
  rows-at [] h = tt
  rows-at (r ∷ rs) h = (h.0, rows-at rs h.1)

  -- of a document whose lines' texts stand there
  pub skeleton-stands : (on : Constructs) (t : ℕ) → let ls = lines_in (virtual t bytes) in
      AllByRecursion (λ (line : Line). AllByRecursion Ends (line_text line)) ls → Stand At (sections_marks bytes (sections on (rows on ls)))
  skeleton-stands on t h =
      let ls = lines_in (virtual t bytes) in
      let at = rows-at (rows_of (sections on (rows on ls))) (subst (AllByRecursion (λ (line : Line). AllByRecursion Ends (line_text line))) (sym (all-of-sections bytes on ls)) h) in
      let ss = sections on (rows on ls) in
      (sections-are bytes Are IsNoData walk mark Ends some-data chunk Table tabled ss (sections-may [] ss tt (document-cut bytes on ls (document_lines t bytes)) (rows-fit (rows_of ss) (document-lines bytes on ls (document_lines t bytes))) at)).all
