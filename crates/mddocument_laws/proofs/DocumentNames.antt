-- Documents have names of the constructs that are on: so do their containers and definitions, and what is put in place of chunks and strings.
use Rattle.mddocument_laws.proofs.Prelude.{chain_text, document_blocks, rows, Inside, Section, defined, lines, text_in, all_rows, labels_in, labels_of_section, sections_in_seats, skeleton, inline_events, with_inlines, string_events, lines_in}
use Rattle.std.proofs.Common.{◌≡◌, ℕ, List, [], ◌∷◌, ◌++◌, Bool, ap, true, false, Some, inl, inr, sym, ◌∙◌, subst}
use Rattle.std.proofs.lemmas.Bool.{cond_both, false_from_ne_true, false≢true, or_cases, or_left, or_right}
use Rattle.std.proofs.lemmas.List.Elements.{All-contains, All-contains_itself, All-from_recursion, All-weaker, recursion_from_All}
use Rattle.std.specs.List.{AllByRecursion, filter, flat_map}
use Rattle.std.specs.Prelude.{All, Contains}
use Rattle.markdown_base.proofs.Common.{every-append, every-filter, every-map}
use Rattle.markdown_base.specs.declared.configuration.Constructs.{Constructs}
use Rattle.markdown_base.specs.declared.event.Content.TheVariants.{Content, String, Text}
use Rattle.markdown_base.specs.declared.event.Event.{Event}
use Rattle.markdown_base.specs.declared.event.Name.{Name}
use Rattle.markdown_base.specs.Events.{same_name}
use Rattle.markdown_base.specs.Places.{denotes_same, in_range}
use Rattle.markdown_base.specs.Virtual.{Seat, virtual}
use Rattle.markdown_base.proofs.Balanced.{same_name-true}
use Rattle.markdown_tokenizer.specs.Text.{Given, Piece, Text as TextOf, empty_text, followed_by, followed_by_all, passed, pushed}
use Rattle.markdown_children.specs.Chains.{chain_of}
use Rattle.markdown_children.specs.Children.{first_chunk}
use Rattle.markdown_children.specs.Reads.{pieces_of, text_from}
use Rattle.markdown_children.specs.Ready.{place_at}
use Rattle.mdinline_labels.specs.Defined.{is_same}
use Rattle.mdblock_definitions.specs.Labelled.{is_one_of}
use Rattle.mdinline_link_strings.specs.StringItems.{string_seat_events}
use Rattle.mdblock_text_lines.proofs.SectionsAreThose.{skeleton-is-that}
use Rattle.mdblock_text_lines.specs.DocumentBlocks.{document_leaf_blocks, has_number, text_lines}
use Rattle.mdblock_text_lines.specs.DocumentSections.{document_skeleton}
use Rattle.mdblock_text_lines.specs.TextLines as told
use Rattle.mdblock_definitions.specs.Sections.{table}
use Rattle.mddocument.proofs.DefinedLabels.{labels-are-defined}
use Rattle.mddocument.proofs.InContainers.CellsKeep.{cells-each}
use Rattle.mddocument.proofs.FlowTexts.InlineSteps.{Steps, steps-virtual}
use Rattle.mddocument.specs.DocumentEvents.{document_events, document_events_by, document_texts_by, is_defined_in}
use Rattle.mddocument_laws.specs.Names.{may_be_named}
use Rattle.mddocument_laws.specs.NamesOff.{AreDefinedIfOn, AreOfDocument, DocumentsAreNamed, InlinesAreNamed, LeafBlocksAreNamed, OffIsLeftOut, SkeletonsAreNamed, StringsAreNamed}
use Rattle.mddocument_laws.proofs.ChildNames.{children-named, with-strings-named}
use Rattle.mddocument_laws.proofs.FlowNames.{flow-named, told-named-by}
use Rattle.mddocument_laws.proofs.ItemNames.{read-outer, read-runs, strings-named}
use Rattle.mddocument_laws.proofs.LinkNames.{links-named}
use Rattle.mddocument_laws.proofs.Inside.{StandsAround, StandsInside, around-inside, inside-may}
use Rattle.mddocument_laws.proofs.Named.{Named, weaker}
use Rattle.mddocument_laws.proofs.PlainNames.{bare-around, plain-inside}
use Rattle.mddocument_laws.proofs.RowNames.{InsideIsOn, SectionsAreOn, own, rows-on, sections-on}
use Rattle.mddocument_laws.proofs.SkeletonNames.{skeleton-named}

abbrev May : Constructs → Name → Type 0
May on n = may_be_named on n ≡ true

all-named : (on : Constructs) (events : List Event) → Named (May on) events → All (λ e. may_be_named on e.name ≡ true) events
all-named on events h = All-from_recursion (λ (e : Event). may_be_named on e.name ≡ true) events h.all

pub leaf-blocks-named : LeafBlocksAreNamed
leaf-blocks-named on bytes seats = all-named on _ (flow-named on bytes seats)

-- strings, containers and definitions, and inline text have none of the names that tell of headings
pub string-inside : (on : Constructs) (bytes : List ℕ) (seats : List Seat) → Named (StandsInside on) (string_seat_events on bytes seats)
string-inside on bytes seats = weaker (plain-inside on) (string_seat_events on bytes seats) (strings-named on bytes seats).named

pub skeleton-around : (on : Constructs) (bytes : List ℕ) (seats : List Seat) → Named (StandsAround on) (skeleton on bytes seats)
skeleton-around on bytes seats = weaker (bare-around on) (skeleton on bytes seats) (skeleton-named on bytes seats)

pub skeleton-inside : (on : Constructs) (bytes : List ℕ) (seats : List Seat) → Named (StandsInside on) (skeleton on bytes seats)
skeleton-inside on bytes seats = weaker (around-inside on) (skeleton on bytes seats) (skeleton-around on bytes seats)

-- markers among virtual bytes of a document are its bytes
of-document : (g : Given) (seats : List Seat) → AreOfDocument g seats → AllByRecursion (Steps g.bytes) seats
of-document g seats h =
    let all = virtual g.tab g.bytes in
    let steps = All-from_recursion (Steps g.bytes) all (steps-virtual g.bytes g.tab) in
    every-map (Contains all) (Steps g.bytes) (λ s in_it. All-contains (Steps g.bytes) all s steps in_it) seats (recursion_from_All (Contains all) seats h)

pub inline-inside : (labels : List ℕ → Bool) (g : Given) (text : TextOf) → AreDefinedIfOn labels g.options.constructs → AreOfDocument g text.seats → Named (StandsInside g.options.constructs) (inline_events labels g text)
inline-inside labels g text h of =
    let on = g.options.constructs in
    links-named on g.options.gfm_strikethrough_single_tilde g.bytes _ (read-outer on labels g.bytes h text.seats) (read-runs on labels g.bytes h text.seats (of-document g text.seats of))

string-named : (on : Constructs) (bytes : List ℕ) (seats : List Seat) → Named (May on) (string_seat_events on bytes seats)
string-named on bytes seats = weaker (inside-may on) (string_seat_events on bytes seats) (string-inside on bytes seats)

bare-named : (on : Constructs) (bytes : List ℕ) (seats : List Seat) → Named (May on) (skeleton on bytes seats)
bare-named on bytes seats = weaker (inside-may on) (skeleton on bytes seats) (skeleton-inside on bytes seats)

inline-named : (labels : List ℕ → Bool) (g : Given) (text : TextOf) → AreDefinedIfOn labels g.options.constructs → AreOfDocument g text.seats → Named (May g.options.constructs) (inline_events labels g text)
inline-named labels g text h of = weaker (inside-may g.options.constructs) (inline_events labels g text) (inline-inside labels g text h of)

pub strings-are-named : StringsAreNamed
strings-are-named on bytes seats = all-named on _ (string-named on bytes seats)

pub skeletons-named : SkeletonsAreNamed
skeletons-named on bytes seats = all-named on _ (bare-named on bytes seats)

pub inlines-named : InlinesAreNamed
inlines-named labels g text h of = all-named g.options.constructs _ (inline-named labels g text h of)

-- ---- labels of a document are defined only where definitions are on
module _ (on : Constructs) (label : List ℕ) where
  one-of-both : (xs ys : List (List ℕ)) → (is_one_of xs label ≡ true → on.definition ≡ true) → (is_one_of ys label ≡ true → on.definition ≡ true) → is_one_of (xs ++ ys) label ≡ true → on.definition ≡ true
  one-of-both [] ys h k e = k e
  one-of-both (x ∷ xs) ys h k e = elim (or_cases (is_same label x) (is_one_of (xs ++ ys) label) e) [
    | inl same ↦ h (or_left (is_same label x) (is_one_of xs label) same)
    | inr more ↦ one-of-both xs ys (λ m. h (or_right (is_same label x) (is_one_of xs label) m)) k more
  ]

  of-inside : (s : Section) (inside : Inside) → InsideIsOn on inside → is_one_of (elim inside [ lines is_behind ↦ [] | defined ds ↦ labels_in ds (text_in (all_rows s.part)) | table ↦ [] ]) label ≡ true → on.definition ≡ true
  of-inside s (lines is_behind) h e = absurd (false≢true e)
  of-inside s (defined ds) h e = h
  of-inside s table h e = absurd (false≢true e)

  of-sections : (ss : List Section) → SectionsAreOn on ss → is_one_of (flat_map labels_of_section ss) label ≡ true → on.definition ≡ true
  of-sections [] h e = absurd (false≢true e)
  of-sections (s ∷ ss) h e = one-of-both (labels_of_section s) (flat_map labels_of_section ss) (of-inside s s.inside h.0.inside) (of-sections ss h.1) e

pub defined-if-on : (g : Given) → AreDefinedIfOn (is_defined_in g) g.options.constructs
defined-if-on g label e =
    let on = g.options.constructs in
    let seats = virtual g.tab g.bytes in
    of-sections on label (sections_in_seats on seats) (sections-on on on (own on) (rows on (lines_in seats)) (rows-on on on (own on) (lines_in seats))) (ap (λ (is : List ℕ → Bool). is label) (sym (labels-are-defined g)) ∙ e)

-- ---- the virtual bytes of chains of chunks are some of the document's
module _ (g : Given) where
  abbrev In : Seat → Type 0
  In = Contains (virtual g.tab g.bytes)

  pieces-in : (pieces : List Piece) (text : TextOf) → AllByRecursion In text.seats → AllByRecursion In (followed_by_all g text pieces).seats
  pieces-in [] text h = h
  pieces-in (pushed from to ∷ rest) text h =
      let all = virtual g.tab g.bytes in
      let whole = recursion_from_All In all (All-contains_itself all) in
      pieces-in rest (followed_by g text (pushed from to)) (every-append In text.seats (filter (in_range from to) all) h (every-filter In (in_range from to) all whole))
  pieces-in (passed p ∷ rest) text h =
      pieces-in rest (followed_by g text (passed p)) (cond_both (denotes_same g.tab g.bytes p text.end) text (record text { end = p }) (λ (t : TextOf). AllByRecursion In t.seats) (λ e. h) (λ e. h))

  pub chain-in : (events : List Event) (c : ℕ) → AreOfDocument g (chain_text g events c).seats
  chain-in events c =
      let ks = chain_of events c in
      let text = empty_text (place_at events (first_chunk ks)) in
      All-from_recursion In (chain_text g events c).seats (pieces-in (pieces_of events ks) text tt)

-- ---- documents
leaf-blocks-are-named : (g : Given) → Named (May g.options.constructs) (document_leaf_blocks g)
leaf-blocks-are-named g =
    let on = g.options.constructs in
    let is_text = has_number (text_lines on (virtual g.tab g.bytes)) in
    let bare = document_skeleton g in
    children-named (May on) (Some Content) bare (λ c. told.flow_events on is_text g.bytes (text_from g bare c).seats) (subst (Named (May on)) (sym (skeleton-is-that g)) (bare-named on g.bytes (virtual g.tab g.bytes)))
    (λ c. told-named-by on on (λ block h. h) is_text g.bytes (text_from g bare c).seats)

blocks-named : (g : Given) → Named (May g.options.constructs) (document_blocks g)
blocks-named g =
    let on = g.options.constructs in
    record { all = cells-each (λ (e : Event). may_be_named on e.name ≡ true) (λ e h. h) on (document_leaf_blocks g) (leaf-blocks-are-named g).all }

-- by which labels are defined
module _ (defined : List ℕ → Bool) (g : Given) (if_on : AreDefinedIfOn defined g.options.constructs) where
  texts-named-by : Named (May g.options.constructs) (document_texts_by defined g)
  texts-named-by =
      let on = g.options.constructs in
      let blocks = document_blocks g in
      let inlines = with_inlines defined g blocks in
      children-named (May on) (Some String) inlines (λ c. string_events g (chain_text g inlines c))
      (children-named (May on) (Some Text) blocks (λ c. inline_events defined g (chain_text g blocks c)) (blocks-named g) (λ c. inline-named defined g (chain_text g blocks c) if_on (chain-in g blocks c)))
      (λ c. string-named on g.bytes (chain_text g inlines c).seats)

  pub document-named-by : Named (May g.options.constructs) (document_events_by defined g)
  document-named-by = with-strings-named g.options.constructs g.tab g.bytes (document_texts_by defined g) texts-named-by

document-named : (g : Given) → Named (May g.options.constructs) (document_events g)
document-named g = document-named-by (is_defined_in g) g (defined-if-on g)

pub documents-named : DocumentsAreNamed
documents-named g = all-named g.options.constructs (document_events g) (document-named g)

other-name : (on : Constructs) (n name : Name) → may_be_named on name ≡ false → may_be_named on n ≡ true → same_name n name ≡ false
other-name on n name off is = false_from_ne_true (same_name n name) (λ e. false≢true (sym off ∙ subst (May on) (same_name-true n name e) is))

pub off-left-out : OffIsLeftOut
off-left-out g name off =
    let on = g.options.constructs in
    All-weaker (λ (e : Event). may_be_named on e.name ≡ true) (λ (e : Event). same_name e.name name ≡ false) (λ e h. other-name on e.name name off h) (document_events g) (documents-named g)
