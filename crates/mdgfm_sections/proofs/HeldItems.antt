-- Prefixes of items of a document stand in items: neither leaf blocks nor inline text have any, so they are those of its skeleton.
use Rattle.std.proofs.Common.{◌≡◌, ◌∙◌, ℕ, ◌+◌, ◌-◌, List, [], ◌∷◌, ◌++◌, Bool, true, false, cond, not, Some, refl, sym, ap, subst, inl, inr}
use Rattle.std.proofs.lemmas.Bool.{and_parts, cases_Bool, or_cases, false_from_ne_true, false≢true}
use Rattle.std.specs.Prelude.{◌&&◌, ◌||◌, nat_lt}
use Rattle.markdown_base.specs.declared.configuration.Constructs.{Constructs}
use Rattle.markdown_base.specs.declared.event.Event.{Event}
use Rattle.markdown_base.specs.declared.event.Name.{Name}
use Rattle.markdown_base.specs.Virtual.{Seat}
use Rattle.markdown_base.specs.Events.{same_name}
use Rattle.markdown_base.proofs.Balanced.{same_name-true}
use Rattle.markdown_tokenizer.specs.Text.{Given, IsDocument}
use Rattle.mdblock_text_lines.specs.DocumentBlocks.{document_blocks}
use Rattle.mdblock_definitions.specs.Blocks.{document_skeleton}
use Rattle.mdblock_leaf_blocks.specs.LeafEvents.{flow_events}
use Rattle.markdown_base.specs.declared.event.Content.TheVariants as content
use Rattle.markdown_base.specs.declared.event.Name.TheVariants as name
use Rattle.markdown_base.specs.Events.{is_enter, is_void}
use Rattle.mdinline_link_strings.specs.StringItems.{string_seat_events}
use Rattle.mdinline_link_strings.specs.Strings.{in_string_after, is_data, line_as_string, seats_between, with_strings_from}
use Rattle.mdinline_machine.specs.InlineChains.{with_inlines}
use Rattle.mdinline_machine.specs.InlineEvents.{inline_events}
use Rattle.mdinline_machine.specs.StringEvents.{string_events}
use Rattle.mdinline_text_machine.specs.ChainTexts.{chain_text}
use Rattle.mdblock_table_marks.specs.Cells.{celled, enters_cell}
use Rattle.mddocument.proofs.InContainers.Blocks.{blocks-are-celled, blocks_at, shown}
use Rattle.mddocument.proofs.InContainers.CellsKeep.{with-cells-by}
use Rattle.mddocument.proofs.InContainers.Skeletons.{skeleton-laws, skeleton_chains}
use Rattle.mddocument.proofs.InContainers.TextsFormed.{content-ready, strings-ready}
use Rattle.mddocument.specs.DocumentEvents.{document_events_by, document_texts_by}
use Rattle.mddocument_laws.proofs.Chosen.{AreOther, bare, chosen, chosen-behind, chosen-kept}
use Rattle.mddocument_laws.proofs.DocumentNames.{chain-in, inline-inside}
use Rattle.mddocument_laws.proofs.FlowNames.{flow-named-by}
use Rattle.mddocument_laws.proofs.Inside.{inside-may}
use Rattle.mddocument_laws.proofs.ItemNames.{strings-named}
use Rattle.mddocument_laws.proofs.Named.{weaker}
use Rattle.mddocument_laws.proofs.PlainNames.{plain-may}
use Rattle.mddocument_laws.specs.Names.{may_be_named}
use Rattle.mddocument_laws.specs.NamesOff.{AreDefinedIfOn}
use Rattle.mdgfm_tasks.specs.Awaits.{enters}
use Rattle.mdgfm_sections.proofs.HeldMarks.{no-prefix}
use Rattle.mdgfm_sections.proofs.HeldSkeleton.{skeleton-items}
use Rattle.mdgfm_sections.proofs.Items.{in_items, items_behind}

-- an item, or its prefix
abbrev of_item : Name → Bool
of_item n = same_name n name.ListItem || same_name n name.ListItemPrefix

-- other events do not matter
in-chosen : (d : ℕ) (es : List Event) → in_items d (chosen of_item es) ≡ in_items d es
in-chosen d [] = refl
in-chosen d (e ∷ es) = by (same_name e.name name.ListItem) (same_name e.name name.ListItemPrefix) refl refl (in-chosen (items_behind d e) es) (in-chosen d es)
  where
    first : Bool
    first = not (enters name.ListItemPrefix e) || nat_lt 0 d

    chosen-one : (t : Bool) → of_item e.name ≡ t → in_items d (cond t (bare e ∷ chosen of_item es) (chosen of_item es)) ≡ in_items d (chosen of_item (e ∷ es))
    chosen-one t is = sym (ap (λ b. in_items d (cond b (bare e ∷ chosen of_item es) (chosen of_item es))) is)

    by : (t u : Bool) → same_name e.name name.ListItem ≡ t → same_name e.name name.ListItemPrefix ≡ u → in_items (items_behind d e) (chosen of_item es) ≡ in_items (items_behind d e) es → in_items d (chosen of_item es) ≡ in_items d es
        → in_items d (chosen of_item (e ∷ es)) ≡ first && in_items (items_behind d e) es
    by true u p q more other = sym (chosen-one true (ap (λ b. b || same_name e.name name.ListItemPrefix) p)) ∙ ap (λ b. first && b) more
    by false true p q more other = sym (chosen-one true ((λ i. p i || q i))) ∙ ap (λ b. first && b) more
    by false false p q more other =
        let passes : first ≡ true = no-prefix e d q in
        let flat : items_behind d e ≡ d = ap (λ t. cond t (cond (is_enter e.kind) (d + 1) (d - 1)) d) p in
        sym (chosen-one false ((λ i. p i || q i))) ∙ other ∙ sym (λ i. passes i && in_items (flat i) es)

-- no void span is one
void-other : (n : Name) → is_void n ≡ true → of_item n ≡ false
void-other n void =
    false_from_ne_true (of_item n) (λ e.
    elim (or_cases (same_name n name.ListItem) (same_name n name.ListItemPrefix) e) [
      | inl a ↦ false≢true (subst (λ m. is_void m ≡ true) (same_name-true n name.ListItem a) void)
      | inr b ↦ false≢true (subst (λ m. is_void m ≡ true) (same_name-true n name.ListItemPrefix b) void)
    ])

-- ---- what leaf blocks, strings and inline text have does not depend on whether items are on
module _ (on : Constructs) where
  abbrev without : Constructs
  without = record on { list_item = false }

  other-name : (n : Name) → may_be_named without n ≡ true → of_item n ≡ false
  other-name n may =
      false_from_ne_true (of_item n) (λ e.
      elim (or_cases (same_name n name.ListItem) (same_name n name.ListItemPrefix) e) [
        | inl a ↦ false≢true (subst (λ m. may_be_named without m ≡ true) (same_name-true n name.ListItem a) may)
        | inr b ↦ false≢true (subst (λ m. may_be_named without m ≡ true) (same_name-true n name.ListItemPrefix b) may)
      ])

  flow-other : (bytes : List ℕ) (seats : List Seat) → AreOther of_item (flow_events on bytes seats)
  flow-other bytes seats = (weaker other-name (flow_events on bytes seats) (flow-named-by on without (λ block h. h) bytes seats)).all

  string-other : (bytes : List ℕ) (seats : List Seat) → AreOther of_item (string_seat_events on bytes seats)
  string-other bytes seats = (weaker (λ n h. other-name n (plain-may without n h)) (string_seat_events without bytes seats) (strings-named without bytes seats).named).all

inline-other : (defined : List ℕ → Bool) (g : Given) (c : ℕ) → AreDefinedIfOn defined g.options.constructs → AreOther of_item (inline_events defined g (chain_text g (document_blocks g) c))
inline-other defined g c if_on =
    let text = chain_text g (document_blocks g) c in
    let off : Given = record g { options = record g.options { constructs = without g.options.constructs } } in
    (weaker (λ n h. other-name g.options.constructs n (inside-may (without g.options.constructs) n h)) (inline_events defined off text) (inline-inside defined off text if_on (chain-in g (document_blocks g) c))).all

-- where strings are read, items stay
data-other : (e f : Event) → is_data e f ≡ true → AreOther of_item (e ∷ f ∷ [])
data-other e f h =
    let both = and_parts (is_enter e.kind && same_name e.name name.Data) (not (is_enter f.kind) && same_name f.name name.Data) h in
    let first = and_parts (is_enter e.kind) (same_name e.name name.Data) both.0 in
    let second = and_parts (not (is_enter f.kind)) (same_name f.name name.Data) both.1 in
    (ap of_item (same_name-true e.name name.Data first.1), (ap of_item (same_name-true f.name name.Data second.1), tt))

module _ (on : Constructs) (t : ℕ) (bytes : List ℕ) where
  strings-stay : (inside : Bool) (es : List Event) → chosen of_item (with_strings_from on t bytes inside es) ≡ chosen of_item es
  strings-stay inside [] = refl
  strings-stay inside (e ∷ []) = refl
  strings-stay inside (e ∷ f ∷ es) =
      let line = line_as_string on t bytes e.point f.point in
      let read = with_strings_from on t bytes inside es in
      let other = with_strings_from on t bytes (in_string_after inside e) (f ∷ es) in
      elim (cases_Bool (inside && is_data e f)) [
        | inl a ↦
            let none = data-other e f (and_parts inside (is_data e f) a).1 in
            ap (λ b. chosen of_item (cond b (line ++ read) (e ∷ other))) a
            ∙ chosen-behind of_item line read (string-other on bytes (seats_between t bytes e.point f.point))
            ∙ strings-stay inside es
            ∙ sym (chosen-behind of_item (e ∷ f ∷ []) es none)
        | inr a ↦
            ap (λ b. chosen of_item (cond b (line ++ read) (e ∷ other))) a
            ∙ ap (λ l. cond (of_item e.name) (bare e ∷ l) l) (strings-stay (in_string_after inside e) (f ∷ es))
      ]

-- the texts of cells are chains of their own
celled-stay : (b : Bool) (es : List Event) → chosen of_item (celled b es) ≡ chosen of_item es
celled-stay b [] = refl
celled-stay true (e ∷ es) = ap (λ l. cond (of_item e.name) (bare e ∷ l) l) (celled-stay (enters_cell e) es)
celled-stay false (e ∷ es) = ap (λ l. cond (of_item e.name) (bare e ∷ l) l) (celled-stay (enters_cell e) es)

module _ (g : Given) (is : IsDocument g) where
  abbrev chains : List Event
  chains = skeleton_chains g

  blocks-stay : chosen of_item (document_blocks g) ≡ chosen of_item (document_skeleton g)
  blocks-stay =
      let s = shown skeleton-laws g is in
      ap (chosen of_item) (blocks-are-celled skeleton-laws g is)
      ∙ chosen-kept of_item g.tab g.bytes (Some content.Content) chains (skeleton-laws.ready g is) (blocks_at skeleton-laws g is) void-other (λ c. flow-other g.options.constructs s.bytes (chain_text s chains c).seats)
      ∙ with-cells-by (λ es. chosen of_item es ≡ chosen of_item (document_skeleton g)) g.options.constructs (document_skeleton g) (celled-stay false (document_skeleton g)) refl

  module _ (defined : List ℕ → Bool) (if_on : AreDefinedIfOn defined g.options.constructs) where
    abbrev blocks : List Event
    blocks = document_blocks g

    abbrev inlines : List Event
    inlines = with_inlines defined g blocks

    pub document-items : in_items 0 (document_events_by defined g) ≡ true
    document-items =
        let on = g.options.constructs in
        sym (in-chosen 0 (document_events_by defined g))
        ∙ ap (in_items 0) (
        strings-stay on g.tab g.bytes false (document_texts_by defined g)
        ∙ chosen-kept of_item g.tab g.bytes (Some content.String) inlines (strings-ready skeleton-laws g is defined) (λ c. string_events g (chain_text g inlines c)) void-other (λ c. string-other on g.bytes (chain_text g inlines c).seats)
        ∙ chosen-kept of_item g.tab g.bytes (Some content.Text) blocks (content-ready skeleton-laws g is content.Text) (λ c. inline_events defined g (chain_text g blocks c)) void-other (λ c. inline-other defined g c if_on)
        ∙ blocks-stay)
        ∙ in-chosen 0 (document_skeleton g)
        ∙ skeleton-items g
