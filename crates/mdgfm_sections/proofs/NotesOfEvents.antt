-- Footnote definitions of a document are those of its skeleton: neither leaf blocks nor inline text nor strings bring a label of one, and none goes.
use Rattle.std.proofs.Common.{◌≡◌, ◌∙◌, ◌++◌, ℕ, Bool, true, false, cond, not, List, [], ◌∷◌, Some, ap, refl, sym, subst, inl, inr}
use Rattle.std.proofs.lemmas.Bool.{and_parts, cases_Bool, false_from_ne_true, false≢true}
use Rattle.std.specs.Prelude.{◌&&◌}
use Rattle.markdown_base.specs.declared.configuration.Constructs.{Constructs}
use Rattle.markdown_base.specs.declared.configuration.ParseOptions.{ParseOptions}
use Rattle.markdown_base.specs.declared.event.Content.TheVariants.{Content, String, Text}
use Rattle.markdown_base.specs.declared.event.Event.{Event}
use Rattle.markdown_base.specs.declared.event.Name.{Name}
use Rattle.markdown_base.specs.declared.event.Name.TheVariants.{Data, GfmFootnoteDefinitionLabelString}
use Rattle.markdown_base.specs.Events.{IsBalanced, is_enter, is_void, same_name}
use Rattle.markdown_base.specs.Virtual.{Seat}
use Rattle.markdown_base.proofs.Balanced.{same_name-true}
use Rattle.markdown_tokenizer.specs.Text.{Given, IsDocument}
use Rattle.mdinline_text_machine.specs.ChainTexts.{chain_text}
use Rattle.mdinline_machine.specs.InlineChains.{with_inlines}
use Rattle.mdinline_machine.specs.InlineEvents.{inline_events}
use Rattle.mdinline_machine.specs.StringEvents.{string_events, string_seat_events}
use Rattle.mdinline_link_strings.proofs.Kept.{strings_keep}
use Rattle.mdinline_link_strings.specs.Strings.{in_string_after, is_data, line_as_string, seats_between, with_strings_from}
use Rattle.mdblock_table_marks.specs.Cells.{celled, enters_cell, with_cells}
use Rattle.mdblock_definitions.specs.Blocks.{document_skeleton as skeleton_of}
use Rattle.mdblock_definitions.proofs.SectionsReady.{skeletons-are-formed}
use Rattle.mdblock_text_lines.proofs.SectionsAreThose.{skeleton-is-that}
use Rattle.mdblock_text_lines.specs.DocumentBlocks.{document_blocks}
use Rattle.mdblock_text_lines.specs.DocumentSections.{document_skeleton}
use Rattle.mddocument.proofs.InContainers.Blocks.{blocks-are-celled, blocks_at, content-ready as leaf-ready, shown}
use Rattle.mddocument.proofs.InContainers.CellsKeep.{with-cells-by}
use Rattle.mddocument.proofs.InContainers.Skeletons.{skeleton-laws, skeleton_chains}
use Rattle.mddocument.proofs.InContainers.TextsFormed.{content-ready, strings-ready, texts-orderly}
use Rattle.mddocument.specs.DocumentEvents.{document_events, document_texts_by, is_defined_in}
use Rattle.mddocument.specs.Documents.{document}
use Rattle.mddocument_laws.proofs.Chosen.{AreOther, bare, chosen, chosen-behind, chosen-kept}
use Rattle.mddocument_laws.proofs.DocumentNames.{chain-in, inline-inside, string-inside}
use Rattle.mddocument_laws.proofs.FlowNames.{flow-named-by}
use Rattle.mddocument_laws.proofs.Inside.{inside-may}
use Rattle.mddocument_laws.proofs.Named.{weaker}
use Rattle.mddocument_laws.specs.Names.{may_be_named}
use Rattle.mddocument_parts.specs.BothDocuments.{events_by}
use Rattle.mdblock_leaf_blocks.specs.LeafEvents.{flow_events}
use Rattle.mdgfm_documents.specs.Documents.{with_gfm_by}
use Rattle.mdgfm_footnotes.specs.CallEvents.{is_one_of}
use Rattle.mdgfm_sections.proofs.NotesLabels.{is_note, notes-alike}
use Rattle.mdgfm_sections.specs.Notes.{NotesGiveEvents, NotesOfEvents}

-- ---- names
-- footnote definitions are off, and others on. What is read in place of chunks does not depend on either
abbrev pub without : Constructs → Constructs
without on = record on { gfm_footnote_definition = false; definition = true }

other-name : (on : Constructs) (n : Name) → may_be_named (without on) n ≡ true → is_note n ≡ false
other-name on n may = false_from_ne_true (is_note n) (λ e. false≢true (subst (λ m. may_be_named (without on) m ≡ true) (same_name-true n GfmFootnoteDefinitionLabelString e) may))

void-other : (n : Name) → is_void n ≡ true → is_note n ≡ false
void-other n void = false_from_ne_true (is_note n) (λ e. false≢true (subst (λ m. is_void m ≡ true) (same_name-true n GfmFootnoteDefinitionLabelString e) void))

flow-other : (on : Constructs) (bytes : List ℕ) (seats : List Seat) → AreOther is_note (flow_events on bytes seats)
flow-other on bytes seats = (weaker (other-name on) (flow_events on bytes seats) (flow-named-by on (without on) (λ block h. h) bytes seats)).all

string-other : (on : Constructs) (bytes : List ℕ) (seats : List Seat) → AreOther is_note (string_seat_events on bytes seats)
string-other on bytes seats = (weaker (λ n h. other-name on n (inside-may (without on) n h)) (string_seat_events (without on) bytes seats) (string-inside (without on) bytes seats)).all

-- a document, read so
abbrev elsewhere : Given → Given
elsewhere g = record g { options = record g.options { constructs = without g.options.constructs } }

inline-other : (defined : List ℕ → Bool) (g : Given) (events : List Event) (c : ℕ) → AreOther is_note (inline_events defined g (chain_text g events c))
inline-other defined g events c =
    let on = g.options.constructs in
    let text = chain_text g events c in
    (weaker (λ n h. other-name on n (inside-may (without on) n h)) (inline_events defined (elsewhere g) text) (inline-inside defined (elsewhere g) text (λ label h. refl) (chain-in g events c))).all

-- ---- what keeps events of labels
cells-kept : (on : Constructs) (es : List Event) → chosen is_note (with_cells on es) ≡ chosen is_note es
cells-kept on es = with-cells-by (λ l. chosen is_note l ≡ chosen is_note es) on es (each false es) refl
  where
    each : (b : Bool) (es : List Event) → chosen is_note (celled b es) ≡ chosen is_note es
    each b [] = refl
    each true (e ∷ es) = ap (λ l. cond (is_note e.name) (bare e ∷ l) l) (each (enters_cell e) es)
    each false (e ∷ es) = ap (λ l. cond (is_note e.name) (bare e ∷ l) l) (each (enters_cell e) es)

named-data : (n : Name) → same_name n Data ≡ true → is_note n ≡ false
named-data n h = ap is_note (same_name-true n Data h)

data-other : (e f : Event) → is_data e f ≡ true → AreOther is_note (e ∷ f ∷ [])
data-other e f h =
    let both = and_parts (is_enter e.kind && same_name e.name Data) (not (is_enter f.kind) && same_name f.name Data) h in
    let first = and_parts (is_enter e.kind) (same_name e.name Data) both.0 in
    let second = and_parts (not (is_enter f.kind)) (same_name f.name Data) both.1 in
    (named-data e.name first.1, (named-data f.name second.1, tt))

module _ (on : Constructs) (t : ℕ) (bytes : List ℕ) where
  strings-kept : (inside : Bool) (es : List Event) → chosen is_note (with_strings_from on t bytes inside es) ≡ chosen is_note es
  strings-kept inside [] = refl
  strings-kept inside (e ∷ []) = refl
  strings-kept inside (e ∷ f ∷ es) =
      let line = line_as_string on t bytes e.point f.point in
      let read = with_strings_from on t bytes inside es in
      let other = with_strings_from on t bytes (in_string_after inside e) (f ∷ es) in
      elim (cases_Bool (inside && is_data e f)) [
        | inl a ↦
            ap (λ b. chosen is_note (cond b (line ++ read) (e ∷ other))) a
            ∙ chosen-behind is_note line read (string-other on bytes (seats_between t bytes e.point f.point))
            ∙ strings-kept inside es
            ∙ sym (chosen-behind is_note (e ∷ f ∷ []) es (data-other e f (and_parts inside (is_data e f) a).1))
        | inr a ↦
            ap (λ b. chosen is_note (cond b (line ++ read) (e ∷ other))) a
            ∙ ap (λ l. cond (is_note e.name) (bare e ∷ l) l) (strings-kept (in_string_after inside e) (f ∷ es))
      ]

-- ---- a document, by which labels are defined
module _ (defined : List ℕ → Bool) (g : Given) (is : IsDocument g) where
  abbrev on : Constructs
  on = g.options.constructs

  abbrev blocks : List Event
  blocks = document_blocks g

  abbrev inlines : List Event
  inlines = with_inlines defined g blocks

  blocks-kept : chosen is_note blocks ≡ chosen is_note (document_skeleton g)
  blocks-kept =
      let s = shown skeleton-laws g is in
      let sk = skeleton_chains g in
      ap (chosen is_note) (blocks-are-celled skeleton-laws g is)
      ∙ chosen-kept is_note g.tab s.bytes (Some Content) sk (leaf-ready skeleton-laws g is) (blocks_at skeleton-laws g is) void-other (λ c. flow-other on s.bytes (chain_text s sk c).seats)
      ∙ cells-kept on (skeleton_of g)
      ∙ ap (chosen is_note) (sym (skeleton-is-that g))

  texts-kept : chosen is_note (document_texts_by defined g) ≡ chosen is_note blocks
  texts-kept =
      chosen-kept is_note g.tab g.bytes (Some String) inlines (strings-ready skeleton-laws g is defined) (λ c. string_events g (chain_text g inlines c)) void-other (λ c. string-other on g.bytes (chain_text g inlines c).seats)
      ∙ chosen-kept is_note g.tab g.bytes (Some Text) blocks (content-ready skeleton-laws g is Text) (λ c. inline_events defined g (chain_text g blocks c)) void-other (inline-other defined g blocks)

  skeleton-balanced : IsBalanced (document_skeleton g)
  skeleton-balanced = subst IsBalanced (sym (skeleton-is-that g)) (skeletons-are-formed g is).balanced

pub events-balanced : (options : ParseOptions) (defined : List ℕ → Bool) (bytes : List ℕ) → IsDocument (document options bytes) → IsBalanced (events_by options defined bytes)
events-balanced options defined bytes is =
    let g = document options bytes in
    (strings_keep options.constructs options.tab_size bytes (document_texts_by defined g)).0 (texts-orderly skeleton-laws g is defined).balanced

pub notes-of-events : NotesOfEvents
notes-of-events options defined bytes is =
    let g = document options bytes in
    notes-alike bytes (events_by options defined bytes) (document_skeleton g) (events-balanced options defined bytes is) (skeleton-balanced defined g is)
    (strings-kept options.constructs options.tab_size bytes false (document_texts_by defined g) ∙ texts-kept defined g is ∙ blocks-kept defined g is)

pub notes-give-events : NotesGiveEvents
notes-give-events options bytes is =
    let g = document options bytes in
    let events = document_events g in
    ap (λ labels. with_gfm_by (is_one_of labels) options bytes events) (notes-of-events options (is_defined_in g) bytes is)
