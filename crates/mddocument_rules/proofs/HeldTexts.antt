-- What is in the definitions of a document's texts is what is in those of its skeleton: no leaf block and no inline text has a definition, and in one
-- is no chunk.
use Rattle.mddocument_rules.proofs.Prelude.{◌≡◌, ◌∙◌, ℕ, List, [], ◌∷◌, Bool, true, false, not, Some, and_parts, is_enter, refl, sym, ap, subst, false_from_ne_true, false≢true, every-append, Constructs, Event, Name, IsBalanced, empty, same_name, same_name-true, span, Seat, Given, IsDocument, IsReady, is_wanted, block_names, document_blocks, document_skeleton, flow_events, may_stand}
use Rattle.markdown_base.specs.declared.event.Content.TheVariants.{Content, String, Text}
use Rattle.markdown_base.specs.declared.event.Name.TheVariants as name
use Rattle.markdown_base.specs.Events.{is_void}
use Rattle.mdinline_constructs.specs.StringItems.{string_seat_events}
use Rattle.mdinline_machine.specs.InlineChains.{with_inlines}
use Rattle.mdinline_machine.specs.InlineEvents.{inline_events}
use Rattle.mdinline_machine.specs.StringEvents.{string_events}
use Rattle.mdinline_text_machine.specs.ChainTexts.{chain_text}
use Rattle.mdblock_definitions.specs.Blocks.{shown_as_text}
use Rattle.mdblock_table_marks.specs.Cells.{BeginsWithData, CellsHaveData, as_text, celled, enters_cell}
use Rattle.mddocument.proofs.InContainers.Blocks.{blocks-are-celled, content-ready as shown-ready}
use Rattle.mddocument.proofs.InContainers.CellsKeep.{with-cells-by}
use Rattle.mddocument.proofs.InContainers.SkeletonCells.{skeleton-data}
use Rattle.mddocument.proofs.InContainers.Skeletons.{skeleton-laws, skeleton_chains}
use Rattle.mddocument.proofs.InContainers.TextsFormed.{content-ready, strings-ready}
use Rattle.mddocument.specs.DocumentEvents.{document_texts, is_defined_in}
use Rattle.mddocument_laws.proofs.Chosen.{AreOther}
use Rattle.mddocument_laws.proofs.FlowNames.{flow-named-by}
use Rattle.mddocument_laws.proofs.Named.{weaker}
use Rattle.mddocument_laws.specs.Names.{may_be_named}
use Rattle.mddocument_rules.proofs.DefinitionsApart.{Bare, Low, bare, low}
use Rattle.mddocument_rules.proofs.Held.{AreAlone, held, held-stay, held_one}
use Rattle.mddocument_rules.proofs.TextItems.{inline-stands, string-balanced, string-stands}
use Rattle.mddocument_rules.proofs.Walk.{MayBe, Walks, all-walks, span-walks}

abbrev pub is_definition : Name → Bool
is_definition n = same_name n name.Definition

pub void-other : (n : Name) → is_void n ≡ true → is_definition n ≡ false
void-other n void = false_from_ne_true (is_definition n) (λ e. false≢true (subst (λ m. is_void m ≡ true) (same_name-true n name.Definition e) void))

-- ---- the texts of cells stand apart from definitions
abbrev pub is_cell : Name → Bool
is_cell n = same_name n name.GfmTableCellText

no-cell : (e : Event) → is_cell e.name ≡ false → enters_cell e ≡ true → ⊥
no-cell e other h = false≢true (sym other ∙ (and_parts (is_enter e.kind) (is_cell e.name) h).1)

abbrev from : Bool → List Event → List Event
from inside es = held is_definition inside es

skipped : (ends inside : Bool) (e f : Event) (rest more : Bool → List Event) → ends ≡ false → inside ≡ false → rest false ≡ more false → held_one ends inside e rest ≡ held_one ends inside f more
skipped ends inside e f rest more h k same = (λ i. held_one (h i) (k i) e rest) ∙ same ∙ sym (λ i. held_one (h i) (k i) f more)

-- what is in definitions stays, with the text of each cell as a chain
held-celled : (b inside : Bool) (es : List Event) → (b ≡ true → (inside ≡ false) × BeginsWithData es) → CellsHaveData es → AreOther is_cell (from inside es) → from inside (celled b es) ≡ from inside es
held-celled b inside [] at d o = refl
held-celled true inside (e ∷ []) at d o = absurd ((at refl).1)
held-celled true inside (e ∷ f ∷ es) at d o =
    let here = at refl in
    let other : is_definition e.name ≡ false = ap is_definition here.1.1 in
    let behind : AreOther is_cell (from false (f ∷ es)) = subst (AreOther is_cell) (λ i. held_one (other i) (here.0 i) e (λ x. from x (f ∷ es))) o in
    skipped (is_definition e.name) inside (as_text e) e (λ x. from x (celled (enters_cell e) (f ∷ es))) (λ x. from x (f ∷ es)) other here.0 (held-celled (enters_cell e) false (f ∷ es) (λ h. (refl, d.0 h)) d.1 behind)
held-celled false inside (e ∷ es) at d o = by (λ b x h k. held-celled b x es h d.1 k) (is_definition e.name) inside o
  where
    by : ((b x : Bool) → (b ≡ true → (x ≡ false) × BeginsWithData es) → AreOther is_cell (from x es) → from x (celled b es) ≡ from x es) → (ends inside : Bool) → AreOther is_cell (held_one ends inside e (λ x. from x es))
        → held_one ends inside e (λ x. from x (celled (enters_cell e) es)) ≡ held_one ends inside e (λ x. from x es)
    by more true inside o = ap (λ l. e ∷ l) (more (enters_cell e) (not inside) (λ h. absurd (no-cell e o.0 h)) o.1)
    by more false true o = ap (λ l. e ∷ l) (more (enters_cell e) true (λ h. absurd (no-cell e o.0 h)) o.1)
    by more false false o = more (enters_cell e) false (λ h. (refl, d.0 h)) o

-- ---- what stands in a span without blocks has no definition
low-other : (n : Name) → Low n → is_definition n ≡ false
low-other n l = false_from_ne_true (is_definition n) (λ e. false≢true (sym (subst (λ m. is_wanted block_names m ≡ false) (same_name-true n name.Definition e) l.1)))

abbrev May : List Name → Event → Type 0
May = MayBe may_stand

pub inside-other : {es : List Event} → IsBalanced es → (n : Name) (around : List Name) → Bare n → Walks May (n ∷ around) es → AreOther is_definition es
inside-other empty n around b w = tt
inside-other (span e f xs ys are enters exits same within rest) n around b w =
    let parts = span-walks May e f xs ys are enters exits within (n ∷ around) w in
    let is-low = low n e.name around b parts.0 in
    let first = low-other e.name is-low in
    let inner = inside-other within e.name (n ∷ around) (bare e.name is-low) parts.1 in
    let outer = inside-other rest n around b parts.2 in
    subst (AreOther is_definition) (sym are) (first, every-append (λ (x : Event). is_definition x.name ≡ false) xs (f ∷ ys) inner (ap is_definition same ∙ first, outer))

-- inline text, and strings
abbrev in_text : List Name
in_text = name.Paragraph ∷ []

inline-other : (defined : List ℕ → Bool) (g : Given) (c : ℕ) (es : List Event) → AreOther is_definition (inline_events defined g (chain_text g es c))
inline-other defined g c es =
    let seats = (chain_text g es c).seats in
    let h = inline-stands defined g.options g.bytes seats in
    inside-other h.0 name.Paragraph [] (refl, refl) (all-walks may_stand in_text (inline_events defined g (chain_text g es c)) (h.1 in_text refl))

pub string-other : (on : Constructs) (bytes : List ℕ) (seats : List Seat) → AreOther is_definition (string_seat_events on bytes seats)
string-other on bytes seats = inside-other (string-balanced bytes on seats) name.Paragraph [] (refl, refl) (string-stands bytes on seats in_text refl)

-- leaf blocks
module _ (on : Constructs) where
  abbrev without : Constructs
  without = record on { definition = false }

  flow-other : (bytes : List ℕ) (seats : List Seat) → AreOther is_definition (flow_events on bytes seats)
  flow-other bytes seats =
      (weaker (λ n may. false_from_ne_true (is_definition n) (λ e. false≢true (subst (λ m. may_be_named without m ≡ true) (same_name-true n name.Definition e) may))) (flow_events on bytes seats)
      (flow-named-by on without (λ block h. h) bytes seats)).all

-- ---- a document
module _ (g : Given) (is : IsDocument g) where
  abbrev bare_list : List Event
  bare_list = document_skeleton g

  abbrev shown : Given
  shown = shown_as_text g

  abbrev blocks : List Event
  blocks = document_blocks g

  abbrev inlines : List Event
  inlines = with_inlines (is_defined_in g) g blocks

  -- with the texts of cells as chains
  abbrev chains : List Event
  chains = skeleton_chains g

  chains-held : AreOther is_cell (held is_definition false bare_list) → held is_definition false chains ≡ held is_definition false bare_list
  chains-held celless =
      with-cells-by (λ es. held is_definition false es ≡ held is_definition false bare_list) g.options.constructs bare_list (held-celled false false bare_list (λ h. absurd (false≢true h)) (skeleton-data g) celless) refl

  blocks-held : AreAlone (held is_definition false bare_list) → AreOther is_cell (held is_definition false bare_list) → held is_definition false blocks ≡ held is_definition false bare_list
  blocks-held alone celless =
      let same = chains-held celless in
      ap (held is_definition false) (blocks-are-celled skeleton-laws g is)
      ∙ held-stay is_definition g.tab shown.bytes (Some Content) chains (shown-ready skeleton-laws g is) (λ c. flow_events g.options.constructs shown.bytes (chain_text shown chains c).seats) void-other
      (λ c. flow-other g.options.constructs shown.bytes (chain_text shown chains c).seats) (subst AreAlone (sym same) alone)
      ∙ same

  texts-ready : IsReady g.tab g.bytes (Some Text) blocks
  texts-ready = content-ready skeleton-laws g is Text

  all-ready : IsReady g.tab g.bytes (Some String) inlines
  all-ready = strings-ready skeleton-laws g is (is_defined_in g)

  inlines-held : AreAlone (held is_definition false blocks) → held is_definition false inlines ≡ held is_definition false blocks
  inlines-held alone =
      held-stay is_definition g.tab g.bytes (Some Text) blocks texts-ready (λ c. inline_events (is_defined_in g) g (chain_text g blocks c)) void-other
      (λ c. inline-other (is_defined_in g) g c blocks) alone

  strings-held : AreAlone (held is_definition false inlines) → held is_definition false (document_texts g) ≡ held is_definition false inlines
  strings-held alone =
      held-stay is_definition g.tab g.bytes (Some String) inlines all-ready (λ c. string_events g (chain_text g inlines c)) void-other
      (λ c. string-other g.options.constructs g.bytes (chain_text g inlines c).seats) alone

  pub texts-held : AreAlone (held is_definition false bare_list) → AreOther is_cell (held is_definition false bare_list) → held is_definition false (document_texts g) ≡ held is_definition false bare_list
  texts-held alone celless =
      let one = blocks-held alone celless in
      let in-blocks : AreAlone (held is_definition false blocks) = subst AreAlone (sym one) alone in
      let two = inlines-held in-blocks in
      let in-inlines : AreAlone (held is_definition false inlines) = subst AreAlone (sym two) in-blocks in
      strings-held in-inlines ∙ two ∙ one
