-- The HTML of a document is read as the tree that it is written as, where no link is in a link: each tag stands where its element may.
use Rattle.std.proofs.Common.{◌≡◌, ℕ, List, [], ◌∷◌, ◌++◌, ap, sym, refl, subst, Option, None, Some, append_assoc, append-nil}
use Rattle.std.proofs.lemmas.Bool.{and_parts, false≢true, not-true, or_parts}
use Rattle.std.specs.Char.{is_ascii_whitespace}
use Rattle.std.specs.Fmt.{decimal}
use Rattle.std.specs.List.{flat_map, list_any, take_while}
use Rattle.std.specs.Prelude.{zero, suc, ◌&&◌, ◌||◌, ◌==◌, ⊤, Bool, true, false, cond, codes, not}
use Rattle.markdown_base.specs.declared.configuration.CompileOptions.{CompileOptions}
use Rattle.markdown_base.specs.declared.event.Event.{Event}
use Rattle.markdown_base.specs.declared.event.Name.{Name}
use Rattle.markdown_base.specs.declared.event.Name.TheVariants as name
use Rattle.mdblock_containers.specs.Lists.{is_loose, list_start}
use Rattle.mdhtml_document.specs.declared.names.Block.{Block}
use Rattle.mdhtml_document.specs.declared.names.Block.TheVariants as block
use Rattle.mdhtml_document.specs.declared.names.Inline.{Inline}
use Rattle.mdhtml_document.specs.declared.names.Inline.TheVariants as inline
use Rattle.mdhtml_document.specs.declared.shapes.Mode.{Mode}
use Rattle.mdhtml_document.specs.declared.shapes.Mode.TheVariants as mode
use Rattle.mdhtml_document.specs.Html.{Known, Shape, address_at, address_link, aligned, alignment_of, alone, autolink, behind_column, block_shape, blocks, call_shape, cell, cell_element, cell_shape, check, code, columns_behind, columns_in, container, empty_cell, empty_cells, heading, heading_shape, image_of, inline_shape, is_check, is_checked, is_in_cell, item_shape, items, language, lacking, length_of_first, line, link_to, literal, ordered, paragraph_shape, parts_in_link, pieces, raw, raw_or, row_shape, setext_rank, shape, shape_by, table_shape, through, titled, within_line}
use Rattle.mdhtml_document.specs.declared.notes.Called.{Called}
use Rattle.mdhtml_document.specs.Notes.{call_id, classed, note_id, place_of_first}
use Rattle.mdhtml_document.proofs.NoteIds.{call-id}
use Rattle.mdhtml_document.specs.HtmlLaws.{AreSafeOptions, HtmlIsFlow, are_apart, has_links, has_links_by, is_linked}
use Rattle.mdhtml_document.specs.Names.{block_of, inline_of}
use Rattle.mdhtml_document.specs.Spans.{Nothing, Span, Spans, events_of, spans_of}
use Rattle.mdhtml_document.specs.Values.{alt_of, autolink_address, cell_text, code_text, html_flow, html_text, is_email, said}
use Rattle.mdhtml_document.proofs.Safe.{email-is, href-is, language-is, moved, src-is}
use Rattle.mdhtml_markup.specs.declared.addresses.Place.TheVariants as place
use Rattle.mdhtml_markup.specs.declared.elements.Alignment.{Alignment}
use Rattle.mdhtml_markup.specs.declared.elements.AttributeName.{AttributeName}
use Rattle.mdhtml_markup.specs.declared.elements.Element.{Element}
use Rattle.mdhtml_markup.specs.declared.elements.Element.TheVariants.{Anchor, BlockQuote, Break, Checkbox, Code, Deleted, Emphasis, Image, ListItem, OrderedList, Paragraph, Preformatted, Strong, Superscript, Table, TableBody, TableHead, TableRow, ThematicBreak, UnorderedList}
use Rattle.mdhtml_markup.specs.Escapes.{escaped}
use Rattle.mdhtml_markup.specs.Flow as flow
use Rattle.mdhtml_markup.specs.Flow.{AreGiven, BeforeCode, BehindCode, Blocks, Cells, IsContent, Items, Model, Parts, Phrases, Rows, Words, after, inside, may_be_missing, may_end, may_say, may_stand}
use Rattle.mdhtml_markup.specs.Pieces.{Aligned, Alt, Attribute, Checked, Classed, Close, Disabled, Feed, FootnoteCall, Fresh, Href, Id, InputType, Kept, Language, Open, Piece, Src, Start, Text, Title, Void, attribute, html_from, is_fresh}
use Rattle.mdhtml_markup.specs.SafeHtml.{attributes_of, is_allowed, is_text, is_text_byte, is_void, open_tag}
use Rattle.mdhtml_markup.specs.SafePieces.{IsAllowed, name_of_attribute}
use Rattle.mdhtml_markup.specs.TagFilter.{filtered, first_filtered}
use Rattle.mdhtml_markup.proofs.FlowSafe.{text-more}
use Rattle.mdhtml_markup.proofs.Orders.{written-in-order}
use Rattle.mdhtml_markup.proofs.SafeLemmas.{attribute-quoted, value-is, value_of}
use Rattle.mdhtml_markup.proofs.Texts.{escaped-text}
use Rattle.mddocument_link_targets.specs.declared.targets.Parts.{Parts as TargetParts}
use Rattle.mddocument_link_targets.specs.Spans.{enters, first_in}
use Rattle.mddocument_link_targets.specs.Strings.{decoded}

-- ---- content, by pieces

-- pieces, whether a line has just begun or not
abbrev pub IsOf : Model → List Piece → Type 0
IsOf m ps = (fresh : Bool) → IsContent m (html_from fresh ps)

-- where any text may stand
abbrev pub Speaks : Model → Type 0
Speaks m = (b : ℕ) → may_say m b ≡ true

text-first : (m : Model) (w h : List ℕ) → Speaks m → is_text w ≡ true → IsContent m h → IsContent m (w ++ h)
text-first m [] h s t c = c
text-first m (b ∷ bs) h s t c =
    flow.IsContent.text m b (bs ++ h) refl (s b) (text-more b bs h ((and_parts (is_text_byte b bs) (is_text bs) t).0)) (text-first m bs h s ((and_parts (is_text_byte b bs) (is_text bs) t).1) c)

pub text-of : (m : Model) (t : List ℕ) (k : List Piece) → Speaks m → IsOf m k → IsOf m (Text t ∷ k)
text-of m t k s rest fresh = text-first m (escaped t) _ s (escaped-text t) (rest _)

-- line feeds may stand wherever text may, and in lists
abbrev pub Breaks : Model → Type 0
Breaks m = may_say m 10 ≡ true

pub feed-of : (m : Model) (k : List Piece) → Breaks m → IsOf m k → IsOf m (Feed ∷ k)
feed-of m k s rest fresh = flow.IsContent.text m 10 _ refl s refl (rest _)

fresh-by : (m : Model) (fresh : Bool) (h : List ℕ) → Breaks m → IsContent m h → IsContent m (cond fresh [] (10 ∷ []) ++ h)
fresh-by m true h s c = c
fresh-by m false h s c = flow.IsContent.text m 10 h refl s refl c

pub fresh-of : (m : Model) (k : List Piece) → Breaks m → IsOf m k → IsOf m (Fresh ∷ k)
fresh-of m k s rest fresh = fresh-by m fresh _ s (rest _)

-- an element with its content
pub element-of : (m : Model) (e : Element) (attributes : List Attribute) (inner k : List Piece) → is_void e ≡ false → may_stand m e ≡ true
    → AreGiven (attributes_of e) (flat_map attribute attributes) → IsOf (inside m e) inner → IsOf (after m) k → IsOf m (Open e attributes ∷ (inner ++ (Close e ∷ k)))
element-of m e attributes inner k kind stands its content rest fresh =
    let w = flat_map attribute attributes in
    let begun = is_fresh fresh (open_tag e w) in
    flow.IsContent.element m e w (html_from begun inner) _ (ap (λ (x : List ℕ). open_tag e w ++ x) (written-in-order begun inner (Close e ∷ k))) kind stands its (content begun) (rest _)

void-of : (m : Model) (e : Element) (attributes : List Attribute) (k : List Piece) → is_void e ≡ true → may_stand m e ≡ true
    → AreGiven (attributes_of e) (flat_map attribute attributes) → IsOf (after m) k → IsOf m (Void e attributes ∷ k)
void-of m e attributes k kind stands its rest fresh = flow.IsContent.void m e (flat_map attribute attributes) _ refl kind stands its (rest _)

-- ---- attributes

all-missing : (a : AttributeName) (names : List AttributeName) → may_be_missing a ≡ true → AreGiven names [] → AreGiven (a ∷ names) []
all-missing a names m h = flow.AreGiven.missing a names m h

pub first-given : (a : Attribute) (names : List AttributeName) (more : List ℕ) → IsAllowed a → AreGiven names more → AreGiven (name_of_attribute a ∷ names) (attribute a ++ more)
first-given a names more allowed rest =
    flow.AreGiven.given (name_of_attribute a) names (value_of a) more (ap (λ (x : List ℕ). x ++ more) (attribute-quoted a)) (value-is a allowed) rest

titles-given : (title : Option (List ℕ)) (names : List AttributeName) → AreGiven names [] → AreGiven (name_of_attribute (Title []) ∷ names) (flat_map attribute (titled title))
titles-given None names h = flow.AreGiven.missing _ names refl h
titles-given (Some t) names h = first-given (Title t) names [] tt h

link-given : (url : List ℕ) (title : Option (List ℕ)) → is_allowed place.Href url ≡ true → AreGiven (attributes_of Anchor) (flat_map attribute (Href url ∷ titled title))
link-given url title h =
    first-given (Href url) _ _ h
    (titles-given title _
    (flow.AreGiven.missing _ _ refl
    (flow.AreGiven.missing _ _ refl (flow.AreGiven.missing _ _ refl (flow.AreGiven.missing _ _ refl (flow.AreGiven.missing _ [] refl flow.AreGiven.none))))))

image-given : (url alt : List ℕ) (title : Option (List ℕ)) → is_allowed place.Src url ≡ true → AreGiven (attributes_of Image) (flat_map attribute (Src url ∷ (Alt alt ∷ titled title)))
image-given url alt title h = first-given (Src url) _ _ h (first-given (Alt alt) _ _ tt (titles-given title [] flow.AreGiven.none))

language-given : (bytes : List ℕ) (info : Option (List Event)) → AreGiven (attributes_of Code) (flat_map attribute (language bytes info))
language-given bytes None = flow.AreGiven.missing _ [] refl flow.AreGiven.none
language-given bytes (Some info) = first-given (Language (take_while (λ b. not (is_ascii_whitespace b)) (decoded bytes info))) [] [] (language-is bytes (Some info)).0 flow.AreGiven.none

start-given : (one : Bool) (n : ℕ) → AreGiven (attributes_of OrderedList) (flat_map attribute (cond one [] (Start n ∷ [])))
start-given true n = flow.AreGiven.missing _ [] refl flow.AreGiven.none
start-given false n = first-given (Start n) [] [] tt flow.AreGiven.none

ordered-given : (n : Option ℕ) → AreGiven (attributes_of OrderedList) (flat_map attribute (ordered n))
ordered-given None = flow.AreGiven.missing _ [] refl flow.AreGiven.none
ordered-given (Some n) = start-given (n == 1) n

-- ---- shapes

-- pieces in front of content
pub record Flows (m : Model) (ps : List Piece) : Type 0 where
  pub front : (k : List Piece) → IsOf m k → IsOf m (ps ++ k)

pub ended : (m : Model) → may_end m ≡ true → IsOf m []
ended m e fresh = flow.IsContent.end m e

pub whole-of : (m : Model) (ps : List Piece) → may_end m ≡ true → Flows m ps → IsOf m ps
whole-of m ps e kept = subst (IsOf m) (append-nil ps) (kept.front [] (ended m e))

-- text stands among blocks and among text
abbrev pub IsText : Model → Type 0
IsText Blocks = ⊤
IsText (Phrases in_link) = ⊤
IsText m = ⊥

-- and in no link
abbrev pub IsFree : Model → Type 0
IsFree Blocks = ⊤
IsFree (Phrases true) = ⊥
IsFree (Phrases false) = ⊤
IsFree m = ⊥

-- where spans of a mode stand
abbrev pub Suits : Mode → Model → Type 0
Suits mode.Flow m = m ≡ Blocks
Suits mode.Tight m = m ≡ Blocks
Suits mode.LooseItems m = m ≡ Items
Suits mode.TightItems m = m ≡ Items
Suits mode.Heading m = m ≡ Phrases false
Suits mode.Table m = m ≡ Parts
Suits (mode.Rows head) m = m ≡ Rows
Suits (mode.Cells head) m = m ≡ Cells
Suits mode.Paragraph m = IsFree m
Suits mode.Text m = IsText m
Suits mode.Nothing m = ⊤

abbrev pub in_link : Model → Bool
in_link (Phrases linked) = linked
in_link m = false

-- there is no link among spans that are written in a link
abbrev pub IsApart : Mode → Model → (linked : Bool) → Type 0
IsApart mode.Flow m linked = in_link m ≡ true → linked ≡ false
IsApart mode.Tight m linked = in_link m ≡ true → linked ≡ false
IsApart mode.LooseItems m linked = in_link m ≡ true → linked ≡ false
IsApart mode.TightItems m linked = in_link m ≡ true → linked ≡ false
IsApart mode.Heading m linked = in_link m ≡ true → linked ≡ false
IsApart mode.Table m linked = in_link m ≡ true → linked ≡ false
IsApart (mode.Rows head) m linked = in_link m ≡ true → linked ≡ false
IsApart (mode.Cells head) m linked = in_link m ≡ true → linked ≡ false
IsApart mode.Paragraph m linked = in_link m ≡ true → linked ≡ false
IsApart mode.Text m linked = in_link m ≡ true → linked ≡ false
IsApart mode.Nothing m linked = ⊤

apart-first : (w : Mode) (m : Model) (a b : Bool) → IsApart w m (a || b) → IsApart w m a
apart-first mode.Flow m a b h = λ e. (or_parts a b (h e)).0
apart-first mode.Tight m a b h = λ e. (or_parts a b (h e)).0
apart-first mode.LooseItems m a b h = λ e. (or_parts a b (h e)).0
apart-first mode.TightItems m a b h = λ e. (or_parts a b (h e)).0
apart-first mode.Heading m a b h = λ e. (or_parts a b (h e)).0
apart-first mode.Table m a b h = λ e. (or_parts a b (h e)).0
apart-first (mode.Rows head) m a b h = λ e. (or_parts a b (h e)).0
apart-first (mode.Cells head) m a b h = λ e. (or_parts a b (h e)).0
apart-first mode.Paragraph m a b h = λ e. (or_parts a b (h e)).0
apart-first mode.Text m a b h = λ e. (or_parts a b (h e)).0
apart-first mode.Nothing m a b h = tt

apart-rest : (w : Mode) (m : Model) (a b : Bool) → IsApart w m (a || b) → IsApart w m b
apart-rest mode.Flow m a b h = λ e. (or_parts a b (h e)).1
apart-rest mode.Tight m a b h = λ e. (or_parts a b (h e)).1
apart-rest mode.LooseItems m a b h = λ e. (or_parts a b (h e)).1
apart-rest mode.TightItems m a b h = λ e. (or_parts a b (h e)).1
apart-rest mode.Heading m a b h = λ e. (or_parts a b (h e)).1
apart-rest mode.Table m a b h = λ e. (or_parts a b (h e)).1
apart-rest (mode.Rows head) m a b h = λ e. (or_parts a b (h e)).1
apart-rest (mode.Cells head) m a b h = λ e. (or_parts a b (h e)).1
apart-rest mode.Paragraph m a b h = λ e. (or_parts a b (h e)).1
apart-rest mode.Text m a b h = λ e. (or_parts a b (h e)).1
apart-rest mode.Nothing m a b h = tt

-- A shape is content around what is written of the spans in it, which are linked if a link is among them
record Around (m : Model) (s : Shape) (linked : Bool) : Type 0 where
  model : Model
  suits : Suits s.inside model
  apart : IsApart s.inside model linked
  around : (inner k : List Piece) → Flows model inner → IsOf m k → IsOf m (s.opened ++ (inner ++ (s.closed ++ k)))

alone-around : (m : Model) (ps : List Piece) (linked : Bool) → Flows m ps → Around m (alone ps) linked
alone-around m ps linked kept =
    record { model = m; suits = tt; apart = tt; around = λ inner k fronted rest. kept.front (inner ++ k) (fronted.front k rest) }

nothing-around : (m : Model) (linked : Bool) → Around m (alone []) linked
nothing-around m linked = alone-around m [] linked (record { front = λ k rest. rest })

through-around : (m : Model) (w : Mode) (linked : Bool) → Suits w m → IsApart w m linked → Around m (through w) linked
through-around m w linked s a = record { model = m; suits = s; apart = a; around = λ inner k fronted rest. fronted.front k rest }

-- blocks among blocks: what they hold, and that text in them is in no link
line-around : (e : Element) (w : Mode) (n : Model) (linked : Bool) → is_void e ≡ false → may_stand Blocks e ≡ true → attributes_of e ≡ [] → inside Blocks e ≡ n → may_end n ≡ true
    → Suits w n → IsApart w n linked → Around Blocks (line e w) linked
line-around e w n linked kind stands none holds ends suits apart =
    record {
      model = n;
      suits = suits;
      apart = apart;
      around = λ inner k fronted rest.
          fresh-of Blocks (Open e [] ∷ (inner ++ (Close e ∷ Feed ∷ k))) refl
          (element-of Blocks e [] inner (Feed ∷ k) kind stands (subst (λ (names : List AttributeName). AreGiven names []) (sym none) flow.AreGiven.none)
          (subst (λ x. IsOf x inner) (sym holds) (whole-of n inner ends fronted)) (feed-of Blocks k refl rest));
    }

container-in : (m : Model) (e : Element) (attributes : List Attribute) (w : Mode) (n : Model) (linked : Bool) → after m ≡ m → Breaks m → is_void e ≡ false → may_stand m e ≡ true
    → AreGiven (attributes_of e) (flat_map attribute attributes) → inside m e ≡ n → may_end n ≡ true → Breaks n → Suits w n → IsApart w n linked
    → Around m (container e attributes w) linked
container-in m e attributes w n linked same feeds kind stands its holds ends breaks suits apart =
    record {
      model = n;
      suits = suits;
      apart = apart;
      around = λ inner k fronted rest.
          let content : IsOf n (Feed ∷ (inner ++ (Fresh ∷ []))) = feed-of n (inner ++ (Fresh ∷ [])) breaks (fronted.front (Fresh ∷ []) (fresh-of n [] breaks (ended n ends))) in
          let whole = element-of m e attributes (Feed ∷ (inner ++ (Fresh ∷ []))) (Feed ∷ k) kind stands its (subst (λ x. IsOf x (Feed ∷ (inner ++ (Fresh ∷ [])))) (sym holds) content)
          (subst (λ x. IsOf x (Feed ∷ k)) (sym same) (feed-of m k feeds rest)) in
          fresh-of m (Open e attributes ∷ Feed ∷ (inner ++ (Fresh ∷ Close e ∷ Feed ∷ k))) feeds (subst (λ (x : List Piece). IsOf m (Open e attributes ∷ Feed ∷ x)) (append_assoc inner (Fresh ∷ []) (Close e ∷ Feed ∷ k)) whole);
    }

container-around : (e : Element) (attributes : List Attribute) (w : Mode) (n : Model) (linked : Bool) → is_void e ≡ false → may_stand Blocks e ≡ true
    → AreGiven (attributes_of e) (flat_map attribute attributes) → inside Blocks e ≡ n → may_end n ≡ true → Breaks n → Suits w n → IsApart w n linked
    → Around Blocks (container e attributes w) linked
container-around e attributes w n linked kind stands its holds ends breaks suits apart =
    container-in Blocks e attributes w n linked refl refl kind stands its holds ends breaks suits apart

code-around : (attributes : List Attribute) (t : List ℕ) (linked : Bool) → AreGiven (attributes_of Code) (flat_map attribute attributes) → Around Blocks (code attributes t) linked
code-around attributes t linked its =
    let inner : IsOf BeforeCode (Open Code attributes ∷ Text t ∷ Close Code ∷ []) =
    element-of BeforeCode Code attributes (Text t ∷ []) [] refl refl its (text-of Words t [] (λ b. refl) (ended Words refl)) (ended BehindCode refl) in
    alone-around Blocks _ linked
    (record {
      front = λ k rest.
          fresh-of Blocks (Open Preformatted [] ∷ Open Code attributes ∷ Text t ∷ Close Code ∷ Close Preformatted ∷ Feed ∷ k) refl
          (element-of Blocks Preformatted [] (Open Code attributes ∷ Text t ∷ Close Code ∷ []) (Feed ∷ k) refl refl flow.AreGiven.none inner (feed-of Blocks k refl rest));
    })

-- ---- headings

record IsHeading (e : Element) : Type 0 where
  kind : is_void e ≡ false
  stands : may_stand Blocks e ≡ true
  none : attributes_of e ≡ []
  holds : inside Blocks e ≡ Phrases false

heading-by : (c : Bool) (d e : Element) → IsHeading d → IsHeading e → IsHeading (cond c d e)
heading-by true d e p q = p
heading-by false d e p q = q

heading-is : (rank : ℕ) → IsHeading (heading rank)
heading-is rank =
    heading-by (rank == 1) _ _ (record { kind = refl; stands = refl; none = refl; holds = refl })
    (heading-by (rank == 2) _ _ (record { kind = refl; stands = refl; none = refl; holds = refl })
    (heading-by (rank == 3) _ _ (record { kind = refl; stands = refl; none = refl; holds = refl })
    (heading-by (rank == 4) _ _ (record { kind = refl; stands = refl; none = refl; holds = refl })
    (heading-by (rank == 5) _ _ (record { kind = refl; stands = refl; none = refl; holds = refl }) (record { kind = refl; stands = refl; none = refl; holds = refl })))))

heading-around : (rank : ℕ) (linked : Bool) → Around Blocks (line (heading rank) mode.Heading) linked
heading-around rank linked =
    let h = heading-is rank in
    line-around (heading rank) mode.Heading (Phrases false) linked h.kind h.stands h.none h.holds refl refl (λ e. absurd (false≢true e))

-- ---- tables

cell-given : (head : Bool) (a : Option Alignment) → AreGiven (attributes_of (cell_element head)) (flat_map attribute (aligned a))
cell-given true None = flow.AreGiven.missing _ [] refl flow.AreGiven.none
cell-given true (Some a) = first-given (Aligned a) [] [] tt flow.AreGiven.none
cell-given false None = flow.AreGiven.missing _ [] refl flow.AreGiven.none
cell-given false (Some a) = first-given (Aligned a) [] [] tt flow.AreGiven.none

record IsCell (e : Element) : Type 0 where
  kind : is_void e ≡ false
  stands : may_stand Cells e ≡ true
  holds : inside Cells e ≡ Phrases false

cell-is : (head : Bool) → IsCell (cell_element head)
cell-is true = record { kind = refl; stands = refl; holds = refl }
cell-is false = record { kind = refl; stands = refl; holds = refl }

cell-piece : (head : Bool) (a : Option Alignment) (inner k : List Piece) → IsOf (Phrases false) inner → IsOf Cells k
    → IsOf Cells (Open (cell_element head) (aligned a) ∷ (inner ++ (Close (cell_element head) ∷ k)))
cell-piece head a inner k content rest =
    let h = cell-is head in
    element-of Cells (cell_element head) (aligned a) inner k h.kind h.stands (cell-given head a) (subst (λ x. IsOf x inner) (sym h.holds) content) rest

cell-around : (head : Bool) (a : Option Alignment) (linked : Bool) → Around Cells (cell head a) linked
cell-around head a linked =
    record {
      model = Phrases false;
      suits = refl;
      apart = λ e. absurd (false≢true e);
      around = λ inner k fronted rest.
          fresh-of Cells (Open (cell_element head) (aligned a) ∷ (inner ++ (Close (cell_element head) ∷ Feed ∷ k))) refl
          (cell-piece head a inner (Feed ∷ k) (whole-of (Phrases false) inner refl fronted) (feed-of Cells k refl rest));
    }

cell-by : (head : Bool) (o : Option (List Event)) (linked : Bool)
    → Around Cells (elim o as (λ (_ : Option (List Event)). Shape) [ None ↦ alone [] | Some column ↦ cell head (alignment_of column) ]) linked
cell-by head None linked = nothing-around Cells linked
cell-by head (Some column) linked = cell-around head (alignment_of column) linked

cells-around : (head : Bool) (columns : List Event) (b : Block) (linked : Bool) → Around Cells (cell_shape head columns b) linked
cells-around head columns block.TableCell linked = cell-by head (first_in name.GfmTableDelimiterCell columns) linked
cells-around head columns block.Paragraph linked = nothing-around Cells linked
cells-around head columns block.HeadingAtx linked = nothing-around Cells linked
cells-around head columns block.HeadingSetext linked = nothing-around Cells linked
cells-around head columns block.HeadingText linked = nothing-around Cells linked
cells-around head columns block.Quote linked = nothing-around Cells linked
cells-around head columns block.Bullets linked = nothing-around Cells linked
cells-around head columns block.Numbers linked = nothing-around Cells linked
cells-around head columns block.Item linked = nothing-around Cells linked
cells-around head columns block.Fenced linked = nothing-around Cells linked
cells-around head columns block.Indented linked = nothing-around Cells linked
cells-around head columns block.Html linked = nothing-around Cells linked
cells-around head columns block.Rule linked = nothing-around Cells linked
cells-around head columns block.Table linked = nothing-around Cells linked
cells-around head columns block.TableHead linked = nothing-around Cells linked
cells-around head columns block.TableBody linked = nothing-around Cells linked
cells-around head columns block.TableRow linked = nothing-around Cells linked
cells-around head columns block.Other linked = nothing-around Cells linked

rows-around : (head : Bool) (b : Block) (linked : Bool) → Around Rows (row_shape head b) linked
rows-around head block.TableRow linked =
    container-in Rows TableRow [] (mode.Cells head) Cells linked refl refl refl refl flow.AreGiven.none refl refl refl refl (λ e. absurd (false≢true e))
rows-around head block.Paragraph linked = nothing-around Rows linked
rows-around head block.HeadingAtx linked = nothing-around Rows linked
rows-around head block.HeadingSetext linked = nothing-around Rows linked
rows-around head block.HeadingText linked = nothing-around Rows linked
rows-around head block.Quote linked = nothing-around Rows linked
rows-around head block.Bullets linked = nothing-around Rows linked
rows-around head block.Numbers linked = nothing-around Rows linked
rows-around head block.Item linked = nothing-around Rows linked
rows-around head block.Fenced linked = nothing-around Rows linked
rows-around head block.Indented linked = nothing-around Rows linked
rows-around head block.Html linked = nothing-around Rows linked
rows-around head block.Rule linked = nothing-around Rows linked
rows-around head block.Table linked = nothing-around Rows linked
rows-around head block.TableHead linked = nothing-around Rows linked
rows-around head block.TableBody linked = nothing-around Rows linked
rows-around head block.TableCell linked = nothing-around Rows linked
rows-around head block.Other linked = nothing-around Rows linked

body-around : (some linked : Bool) → Around Parts (cond some (container TableBody [] (mode.Rows false)) (alone [])) linked
body-around true linked = container-in Parts TableBody [] (mode.Rows false) Rows linked refl refl refl refl flow.AreGiven.none refl refl refl refl (λ e. absurd (false≢true e))
body-around false linked = nothing-around Parts linked

table-around : (b : Block) (es : List Event) (linked : Bool) → Around Parts (table_shape b es) linked
table-around block.TableHead es linked =
    container-in Parts TableHead [] (mode.Rows true) Rows linked refl refl refl refl flow.AreGiven.none refl refl refl refl (λ e. absurd (false≢true e))
table-around block.TableBody es linked = body-around (list_any (enters name.GfmTableRow) es) linked
table-around block.Paragraph es linked = nothing-around Parts linked
table-around block.HeadingAtx es linked = nothing-around Parts linked
table-around block.HeadingSetext es linked = nothing-around Parts linked
table-around block.HeadingText es linked = nothing-around Parts linked
table-around block.Quote es linked = nothing-around Parts linked
table-around block.Bullets es linked = nothing-around Parts linked
table-around block.Numbers es linked = nothing-around Parts linked
table-around block.Item es linked = nothing-around Parts linked
table-around block.Fenced es linked = nothing-around Parts linked
table-around block.Indented es linked = nothing-around Parts linked
table-around block.Html es linked = nothing-around Parts linked
table-around block.Rule es linked = nothing-around Parts linked
table-around block.Table es linked = nothing-around Parts linked
table-around block.TableRow es linked = nothing-around Parts linked
table-around block.TableCell es linked = nothing-around Parts linked
table-around block.Other es linked = nothing-around Parts linked

-- the cells that a row lacks
empty-by : (head : Bool) (o : Option (List Event)) (more : List Piece) → Flows Cells more
    → Flows Cells (elim o as (λ (_ : Option (List Event)). List Piece) [ None ↦ [] | Some column ↦ empty_cell head (alignment_of column) ++ more ])
empty-by head None more kept = record { front = λ k rest. rest }
empty-by head (Some column) more kept =
    record { front = λ k rest. cell-piece head (alignment_of column) [] (Feed ∷ (more ++ k)) (ended (Phrases false) refl) (feed-of Cells (more ++ k) refl (kept.front k rest)) }

empty-flows : (most : ℕ) (head : Bool) (columns : List Event) → Flows Cells (empty_cells most head columns)
empty-flows zero head columns = record { front = λ k rest. rest }
empty-flows (suc n) head columns = empty-by head (first_in name.GfmTableDelimiterCell columns) (empty_cells n head (behind_column columns)) (empty-flows n head (behind_column columns))

left-flows : (w : Mode) (m : Model) (columns : List Event) → Suits w m → Flows m (lacking w columns)
left-flows (mode.Cells head) m columns s = subst (λ x. Flows x (empty_cells 100 head columns)) (sym s) (empty-flows 100 head columns)
left-flows mode.Flow m columns s = record { front = λ k rest. rest }
left-flows mode.Tight m columns s = record { front = λ k rest. rest }
left-flows mode.LooseItems m columns s = record { front = λ k rest. rest }
left-flows mode.TightItems m columns s = record { front = λ k rest. rest }
left-flows mode.Heading m columns s = record { front = λ k rest. rest }
left-flows mode.Table m columns s = record { front = λ k rest. rest }
left-flows (mode.Rows head) m columns s = record { front = λ k rest. rest }
left-flows mode.Paragraph m columns s = record { front = λ k rest. rest }
left-flows mode.Text m columns s = record { front = λ k rest. rest }
left-flows mode.Nothing m columns s = record { front = λ k rest. rest }

-- ---- text

after-text : (m : Model) → IsText m → after m ≡ m
after-text Blocks t = refl
after-text (Phrases in_link) t = refl
after-text Items t = absurd t
after-text Parts t = absurd t
after-text Rows t = absurd t
after-text Cells t = absurd t
after-text BeforeCode t = absurd t
after-text BehindCode t = absurd t
after-text Words t = absurd t

speaks : (m : Model) → IsText m → Speaks m
speaks Blocks t b = refl
speaks (Phrases in_link) t b = refl
speaks Items t b = absurd t
speaks Parts t b = absurd t
speaks Rows t b = absurd t
speaks Cells t b = absurd t
speaks BeforeCode t b = absurd t
speaks BehindCode t b = absurd t
speaks Words t b = absurd t

-- elements of text stand wherever it does; a link, if that is in no link
record IsPhrase (e : Element) : Type 0 where
  stands : (m : Model) → IsText m → may_stand m e ≡ true

phrase-by : (e : Element) → may_stand Blocks e ≡ true → ((in_link : Bool) → may_stand (Phrases in_link) e ≡ true) → IsPhrase e
phrase-by e b p =
    record {
      stands = λ m. elim m as (λ x. IsText x → may_stand x e ≡ true) [
        | Blocks ↦ λ t. b
        | Phrases in_link ↦ λ t. p in_link
        | Items ↦ λ t. absurd t
        | Parts ↦ λ t. absurd t
        | Rows ↦ λ t. absurd t
        | Cells ↦ λ t. absurd t
        | BeforeCode ↦ λ t. absurd t
        | BehindCode ↦ λ t. absurd t
        | Words ↦ λ t. absurd t
      ];
    }

link-stands : (m : Model) → IsText m → (in_link m ≡ true → true ≡ false) → may_stand m Anchor ≡ true
link-stands Blocks t h = refl
link-stands (Phrases false) t h = refl
link-stands (Phrases true) t h = absurd (false≢true (sym (h refl)))
link-stands Items t h = absurd t
link-stands Parts t h = absurd t
link-stands Rows t h = absurd t
link-stands Cells t h = absurd t
link-stands BeforeCode t h = absurd t
link-stands BehindCode t h = absurd t
link-stands Words t h = absurd t

-- an element with text in it; and a void one
phrase-front : (m : Model) (e : Element) (attributes : List Attribute) (inner : List Piece) → IsText m → is_void e ≡ false → may_stand m e ≡ true
    → AreGiven (attributes_of e) (flat_map attribute attributes) → IsOf (inside m e) inner → (k : List Piece) → IsOf m k → IsOf m (Open e attributes ∷ (inner ++ (Close e ∷ k)))
phrase-front m e attributes inner t kind stands its content k rest =
    element-of m e attributes inner k kind stands its content (subst (λ x. IsOf x k) (sym (after-text m t)) rest)

void-front : (m : Model) (e : Element) (attributes : List Attribute) → IsText m → is_void e ≡ true → may_stand m e ≡ true
    → AreGiven (attributes_of e) (flat_map attribute attributes) → Flows m (Void e attributes ∷ [])
void-front m e attributes t kind stands its = record { front = λ k rest. void-of m e attributes k kind stands its (subst (λ x. IsOf x k) (sym (after-text m t)) rest) }

-- text in an element within a line
within-around : (m : Model) (e : Element) (attributes : List Attribute) (linked within : Bool) → IsText m → is_void e ≡ false → may_stand m e ≡ true
    → AreGiven (attributes_of e) (flat_map attribute attributes) → inside m e ≡ Phrases within → (within ≡ true → linked ≡ false) → Around m (within_line e attributes) linked
within-around m e attributes linked within t kind stands its holds apart =
    record {
      model = Phrases within;
      suits = tt;
      apart = apart;
      around = λ inner k fronted rest. phrase-front m e attributes inner t kind stands its (subst (λ x. IsOf x inner) (sym holds) (whole-of (Phrases within) inner refl fronted)) k rest;
    }

-- what emphasis holds is in a link if that is
phrases-hold : (m : Model) → IsText m → flow.phrases_in m ≡ Phrases (in_link m)
phrases-hold Blocks t = refl
phrases-hold (Phrases in_link) t = refl
phrases-hold Items t = absurd t
phrases-hold Parts t = absurd t
phrases-hold Rows t = absurd t
phrases-hold Cells t = absurd t
phrases-hold BeforeCode t = absurd t
phrases-hold BehindCode t = absurd t
phrases-hold Words t = absurd t

text-flows : (m : Model) (t : List ℕ) → IsText m → Flows m (Text t ∷ [])
text-flows m t s = record { front = λ k rest. text-of m t k (speaks m s) rest }

code-flows : (m : Model) (t : List ℕ) → IsText m → Flows m (Open Code [] ∷ Text t ∷ Close Code ∷ [])
code-flows m t s =
    record {
      front = phrase-front m Code [] (Text t ∷ []) s refl ((phrase-by Code refl (λ l. refl)).stands m s) (flow.AreGiven.missing _ [] refl flow.AreGiven.none)
          (text-of Words t [] (λ b. refl) (ended Words refl));
    }

module _ (options : CompileOptions) (bytes : List ℕ) (known : Known) (tab : ℕ) (safe : AreSafeOptions options) where
  raw-flows : (m : Model) (f h : List ℕ) → IsText m → Flows m (raw_or options f h ∷ [])
  raw-flows m f h s = subst (λ x. Flows m (cond x (Kept (cond options.gfm_tagfilter f h)) (Text h) ∷ [])) (sym safe.html) (text-flows m h s)

  link-around : (m : Model) (p : Option TargetParts) (linked : Bool) → IsText m → (in_link m ≡ true → true ≡ false) → linked ≡ false → Around m (link_to options p) linked
  link-around m None linked t h apart = through-around m mode.Text linked t (λ e. apart)
  link-around m (Some parts) linked t h apart =
      within-around m Anchor (Href (address_at options place.Href parts.destination) ∷ titled parts.title) linked true t refl (link-stands m t h) (link-given (address_at options place.Href parts.destination) parts.title (href-is options bytes known tab safe parts.destination)) refl
      (λ e. apart)

  image-around : (m : Model) (alt : List ℕ) (p : Option TargetParts) (linked : Bool) → IsText m → Around m (image_of options alt p) linked
  image-around m alt None linked t = alone-around m _ linked (text-flows m alt t)
  image-around m alt (Some parts) linked t =
      alone-around m _ linked
      (void-front m Image (Src (address_at options place.Src parts.destination) ∷ (Alt alt ∷ titled parts.title)) t refl ((phrase-by Image refl (λ l. refl)).stands m t)
      (image-given (address_at options place.Src parts.destination) alt parts.title (src-is options bytes known tab safe parts.destination)))

  call-link : (c : Called) → AreGiven (attributes_of Anchor) (flat_map attribute (Href (codes "#" ++ note_id c.number) ∷ Id (call_id c.number c.repeat) ∷ FootnoteCall ∷ []))
  call-link c =
      first-given (Href (codes "#" ++ note_id c.number)) _ _ refl
      (flow.AreGiven.missing _ _ refl
      (first-given (Id (call_id c.number c.repeat)) _ _ (call-id c.number c.repeat)
      (flow.AreGiven.missing _ _ refl (first-given FootnoteCall _ _ tt (flow.AreGiven.missing _ _ refl (flow.AreGiven.missing _ [] refl flow.AreGiven.none))))))

  call-around : (m : Model) (o : Option Called) (linked : Bool) → IsText m → (in_link m ≡ true → true ≡ false) → Around m (call_shape o) linked
  call-around m None linked t h = through-around m mode.Text linked t (λ e. absurd (false≢true (sym (h e))))
  call-around m (Some c) linked t h =
      let n = Phrases (in_link m) in
      let attributes = Href (codes "#" ++ note_id c.number) ∷ Id (call_id c.number c.repeat) ∷ FootnoteCall ∷ [] in
      let number : IsOf (Phrases true) (Text (decimal c.number) ∷ []) = text-of (Phrases true) (decimal c.number) [] (λ b. refl) (ended (Phrases true) refl) in
      let inner : IsOf n (Open Anchor attributes ∷ Text (decimal c.number) ∷ Close Anchor ∷ []) =
      phrase-front n Anchor attributes (Text (decimal c.number) ∷ []) tt refl (link-stands n tt h) (call-link c) number [] (ended n refl) in
      alone-around m _ linked
      (record {
        front = phrase-front m Superscript (classed (codes "footnote-ref")) (Open Anchor attributes ∷ Text (decimal c.number) ∷ Close Anchor ∷ []) t refl
            ((phrase-by Superscript refl (λ l. refl)).stands m t) (first-given (Classed (codes "footnote-ref")) [] [] refl flow.AreGiven.none)
            (subst (λ x. IsOf x (Open Anchor attributes ∷ Text (decimal c.number) ∷ Close Anchor ∷ [])) (sym (phrases-hold m t)) inner);
      })

  address-around : (m : Model) (url text : List ℕ) (linked : Bool) → IsText m → (in_link m ≡ true → true ≡ false) → is_allowed place.Href url ≡ true → Around m (address_link url text) linked
  address-around m url text linked t h allowed =
      alone-around m _ linked
      (record {
        front = phrase-front m Anchor (Href url ∷ []) (Text text ∷ []) t refl (link-stands m t h) (link-given url None allowed)
            (text-of (Phrases true) text [] (λ b. refl) (ended (Phrases true) refl));
      })

  autolink-around : (m : Model) (es : List Event) (linked : Bool) → IsText m → (in_link m ≡ true → true ≡ false) → Around m (autolink options bytes es) linked
  autolink-around m es linked t h = let address = autolink_address bytes es in address-around m _ address linked t h (email-is options bytes known tab safe (is_email es) address)

  literal-around : (m : Model) (scheme text : List ℕ) (linked : Bool) → IsText m → (in_link m ≡ true → true ≡ false) → Around m (literal options scheme text) linked
  literal-around m scheme text linked t h = address-around m _ text linked t h (href-is options bytes known tab safe (scheme ++ text))

  inline-around : (m : Model) (in_cell : Bool) (i : Inline) (es : List Event) (said alt : List ℕ) (linked : Bool) → IsText m → (in_link m ≡ true → has_links_by i linked ≡ false)
      → is_linked i linked ≡ false → Around m (inline_shape options bytes known tab in_cell i es said alt) linked
  inline-around m in_cell inline.Ending es said alt linked t h a = alone-around m _ linked (record { front = λ k rest. feed-of m k (speaks m t 10) rest })
  inline-around m in_cell inline.Break es said alt linked t h a = alone-around m _ linked (void-front m Break [] t refl ((phrase-by Break refl (λ l. refl)).stands m t) flow.AreGiven.none)
  inline-around m in_cell inline.Emphasis es said alt linked t h a =
      within-around m Emphasis [] linked (in_link m) t refl ((phrase-by Emphasis refl (λ l. refl)).stands m t) flow.AreGiven.none (phrases-hold m t) h
  inline-around m in_cell inline.Strong es said alt linked t h a =
      within-around m Strong [] linked (in_link m) t refl ((phrase-by Strong refl (λ l. refl)).stands m t) flow.AreGiven.none (phrases-hold m t) h
  inline-around m in_cell inline.Struck es said alt linked t h a =
      within-around m Deleted [] linked (in_link m) t refl ((phrase-by Deleted refl (λ l. refl)).stands m t) flow.AreGiven.none (phrases-hold m t) h
  inline-around m in_cell inline.Code es said alt linked t h a = alone-around m _ linked (code-flows m (cell_text in_cell (code_text bytes es)) t)
  inline-around m in_cell inline.Html es said alt linked t h a = alone-around m _ linked (raw-flows m (first_filtered (cell_text in_cell (html_text bytes es))) (cell_text in_cell (html_text bytes es)) t)
  inline-around m in_cell inline.Autolink es said alt linked t h a = autolink-around m es linked t h
  inline-around m in_cell inline.Www es said alt linked t h a = literal-around m (codes "http://") said linked t h
  inline-around m in_cell inline.Email es said alt linked t h a = literal-around m (codes "mailto:") said linked t h
  inline-around m in_cell inline.Address es said alt linked t h a = literal-around m [] said linked t h
  inline-around m in_cell inline.Link es said alt linked t h a = link-around m (parts_in_link bytes known.lookup es) linked t h a
  inline-around m in_cell inline.Image es said alt linked t h a = image-around m alt (parts_in_link bytes known.lookup es) linked t
  inline-around m in_cell inline.Check es said alt linked t h a = nothing-around m linked
  inline-around m in_cell inline.Call es said alt linked t h a = call-around m (known.called (place_of_first es)) linked t h
  inline-around m in_cell inline.Tail es said alt linked t h a = nothing-around m linked
  inline-around m in_cell inline.Other es said alt linked t h a =
      record { model = m; suits = t; apart = h; around = λ inner k fronted rest. text-of m said (inner ++ k) (speaks m t) (fronted.front k rest) }

  -- a box stands in text that is in no link
  free-text : (m : Model) → IsFree m → IsText m
  free-text Blocks t = tt
  free-text (Phrases true) t = absurd t
  free-text (Phrases false) t = tt
  free-text Items t = absurd t
  free-text Parts t = absurd t
  free-text Rows t = absurd t
  free-text Cells t = absurd t
  free-text BeforeCode t = absurd t
  free-text BehindCode t = absurd t
  free-text Words t = absurd t

  box-stands : (m : Model) → IsFree m → may_stand m Checkbox ≡ true
  box-stands Blocks t = refl
  box-stands (Phrases true) t = absurd t
  box-stands (Phrases false) t = refl
  box-stands Items t = absurd t
  box-stands Parts t = absurd t
  box-stands Rows t = absurd t
  box-stands Cells t = absurd t
  box-stands BeforeCode t = absurd t
  box-stands BehindCode t = absurd t
  box-stands Words t = absurd t

  box-given : (checked : Bool) → AreGiven (attributes_of Checkbox) (flat_map attribute (InputType ∷ cond checked (Checked ∷ Disabled ∷ []) (Disabled ∷ [])))
  box-given true = first-given InputType _ _ tt (first-given Checked _ _ tt (first-given Disabled [] [] tt flow.AreGiven.none))
  box-given false = first-given InputType _ _ tt (flow.AreGiven.missing _ _ refl (first-given Disabled [] [] tt flow.AreGiven.none))

  check-around : (m : Model) (checked : Bool) (linked : Bool) → IsFree m → Around m (check checked) linked
  check-around m checked linked t =
      alone-around m _ linked
      (void-front m Checkbox (InputType ∷ cond checked (Checked ∷ Disabled ∷ []) (Disabled ∷ [])) (free-text m t) refl (box-stands m t) (box-given checked))

  around-by : (m : Model) (c : Bool) (s t : Shape) (linked : Bool) → Around m s linked → Around m t linked → Around m (cond c s t) linked
  around-by m true s t linked h k = h
  around-by m false s t linked h k = k

  paragraph-around : (m : Model) (in_cell : Bool) (i : Inline) (es : List Event) (said alt : List ℕ) (linked : Bool) → IsFree m → (in_link m ≡ true → has_links_by i linked ≡ false)
      → is_linked i linked ≡ false → Around m (paragraph_shape options bytes known tab in_cell i es said alt) linked
  paragraph-around m in_cell i es said alt linked t h a =
      around-by m (is_check i) (check (is_checked es)) (inline_shape options bytes known tab in_cell i es said alt) linked (check-around m (is_checked es) linked t)
      (inline-around m in_cell i es said alt linked (free-text m t) h a)

  blocks-suit : (tight : Bool) → Suits (blocks tight) Blocks
  blocks-suit true = refl
  blocks-suit false = refl

  blocks-apart : (tight linked : Bool) → IsApart (blocks tight) Blocks linked
  blocks-apart true linked = λ e. absurd (false≢true e)
  blocks-apart false linked = λ e. absurd (false≢true e)

  items-suit : (loose : Bool) → Suits (items loose) Items
  items-suit true = refl
  items-suit false = refl

  items-apart : (loose linked : Bool) → IsApart (items loose) Items linked
  items-apart true linked = λ e. absurd (false≢true e)
  items-apart false linked = λ e. absurd (false≢true e)

  block-around : (tight : Bool) (b : Block) (es : List Event) (loose : Bool) (start : Option ℕ) (linked : Bool)
      → Around Blocks (block_shape options bytes known tab tight b es loose start) linked
  block-around true block.Paragraph es loose start linked = through-around Blocks mode.Paragraph linked tt (λ e. absurd (false≢true e))
  block-around false block.Paragraph es loose start linked = line-around Paragraph mode.Paragraph (Phrases false) linked refl refl refl refl refl tt (λ e. absurd (false≢true e))
  block-around tight block.HeadingAtx es loose start linked = heading-around (length_of_first name.HeadingAtxSequence es) linked
  block-around tight block.HeadingSetext es loose start linked = heading-around (setext_rank bytes es) linked
  block-around tight block.HeadingText es loose start linked = nothing-around Blocks linked
  block-around tight block.Quote es loose start linked = container-around BlockQuote [] mode.Flow Blocks linked refl refl flow.AreGiven.none refl refl refl refl (λ e. absurd (false≢true e))
  block-around tight block.Bullets es loose start linked =
      container-around UnorderedList [] (items loose) Items linked refl refl flow.AreGiven.none refl refl refl (items-suit loose) (items-apart loose linked)
  block-around tight block.Numbers es loose start linked =
      container-around OrderedList (ordered start) (items loose) Items linked refl refl (ordered-given start) refl refl refl (items-suit loose) (items-apart loose linked)
  block-around tight block.Item es loose start linked = through-around Blocks (blocks tight) linked (blocks-suit tight) (blocks-apart tight linked)
  block-around tight block.Fenced es loose start linked = code-around _ _ linked (language-given bytes (first_in name.CodeFencedFenceInfo es))
  block-around tight block.Indented es loose start linked = code-around [] _ linked (flow.AreGiven.missing _ [] refl flow.AreGiven.none)
  block-around tight block.Html es loose start linked =
      alone-around Blocks _ linked
      (record { front = λ k rest. fresh-of Blocks (raw options (html_flow bytes tab es) ∷ Fresh ∷ k) refl ((raw-flows Blocks (filtered (html_flow bytes tab es)) (html_flow bytes tab es) tt).front (Fresh ∷ k) (fresh-of Blocks k refl rest)) })
  block-around tight block.Rule es loose start linked =
      alone-around Blocks _ linked
      (record { front = λ k rest. fresh-of Blocks (Void ThematicBreak [] ∷ Feed ∷ k) refl (void-of Blocks ThematicBreak [] (Feed ∷ k) refl refl flow.AreGiven.none (feed-of Blocks k refl rest)) })
  block-around tight block.Table es loose start linked =
      container-around Table [] mode.Table Parts linked refl refl flow.AreGiven.none refl refl refl refl (λ e. absurd (false≢true e))
  block-around tight block.TableHead es loose start linked = nothing-around Blocks linked
  block-around tight block.TableBody es loose start linked = nothing-around Blocks linked
  block-around tight block.TableRow es loose start linked = nothing-around Blocks linked
  block-around tight block.TableCell es loose start linked = nothing-around Blocks linked
  block-around tight block.Other es loose start linked = nothing-around Blocks linked

  -- an item, among items
  item-around : (tight : Bool) (linked : Bool) → Around Items (line ListItem (blocks tight)) linked
  item-around tight linked =
      record {
        model = Blocks;
        suits = blocks-suit tight;
        apart = blocks-apart tight linked;
        around = λ inner k fronted rest.
            fresh-of Items (Open ListItem [] ∷ (inner ++ (Close ListItem ∷ Feed ∷ k))) refl (element-of Items ListItem [] inner (Feed ∷ k) refl refl (flow.AreGiven.missing _ [] refl flow.AreGiven.none) (whole-of Blocks inner refl fronted) (feed-of Items k refl rest));
      }

  items-around : (tight : Bool) (b : Block) (linked : Bool) → Around Items (item_shape tight b) linked
  items-around tight block.Item linked = item-around tight linked
  items-around tight block.Paragraph linked = nothing-around Items linked
  items-around tight block.HeadingAtx linked = nothing-around Items linked
  items-around tight block.HeadingSetext linked = nothing-around Items linked
  items-around tight block.HeadingText linked = nothing-around Items linked
  items-around tight block.Quote linked = nothing-around Items linked
  items-around tight block.Bullets linked = nothing-around Items linked
  items-around tight block.Numbers linked = nothing-around Items linked
  items-around tight block.Fenced linked = nothing-around Items linked
  items-around tight block.Indented linked = nothing-around Items linked
  items-around tight block.Html linked = nothing-around Items linked
  items-around tight block.Rule linked = nothing-around Items linked
  items-around tight block.Table linked = nothing-around Items linked
  items-around tight block.TableHead linked = nothing-around Items linked
  items-around tight block.TableBody linked = nothing-around Items linked
  items-around tight block.TableRow linked = nothing-around Items linked
  items-around tight block.TableCell linked = nothing-around Items linked
  items-around tight block.Other linked = nothing-around Items linked

  headings-around : (b : Block) (linked : Bool) → Around (Phrases false) (heading_shape b) linked
  headings-around block.HeadingText linked = through-around (Phrases false) mode.Text linked tt (λ e. absurd (false≢true e))
  headings-around block.Paragraph linked = nothing-around (Phrases false) linked
  headings-around block.HeadingAtx linked = nothing-around (Phrases false) linked
  headings-around block.HeadingSetext linked = nothing-around (Phrases false) linked
  headings-around block.Quote linked = nothing-around (Phrases false) linked
  headings-around block.Bullets linked = nothing-around (Phrases false) linked
  headings-around block.Numbers linked = nothing-around (Phrases false) linked
  headings-around block.Item linked = nothing-around (Phrases false) linked
  headings-around block.Fenced linked = nothing-around (Phrases false) linked
  headings-around block.Indented linked = nothing-around (Phrases false) linked
  headings-around block.Html linked = nothing-around (Phrases false) linked
  headings-around block.Rule linked = nothing-around (Phrases false) linked
  headings-around block.Table linked = nothing-around (Phrases false) linked
  headings-around block.TableHead linked = nothing-around (Phrases false) linked
  headings-around block.TableBody linked = nothing-around (Phrases false) linked
  headings-around block.TableRow linked = nothing-around (Phrases false) linked
  headings-around block.TableCell linked = nothing-around (Phrases false) linked
  headings-around block.Other linked = nothing-around (Phrases false) linked

  -- what is written of spans is content, wherever they stand
  blocks-at : (tight : Bool) (m : Model) (n : Name) (es : List Event) (loose : Bool) (start : Option ℕ) (linked : Bool) → m ≡ Blocks
      → Around m (block_shape options bytes known tab tight (block_of n) es loose start) linked
  blocks-at tight m n es loose start linked s =
      subst (λ x. Around x (block_shape options bytes known tab tight (block_of n) es loose start) linked) (sym s) (block-around tight (block_of n) es loose start linked)

  items-at : (tight : Bool) (m : Model) (n : Name) (linked : Bool) → m ≡ Items → Around m (item_shape tight (block_of n)) linked
  items-at tight m n linked s = subst (λ x. Around x (item_shape tight (block_of n)) linked) (sym s) (items-around tight (block_of n) linked)

  table-at : (m : Model) (b : Block) (es : List Event) (linked : Bool) → m ≡ Parts → Around m (table_shape b es) linked
  table-at m b es linked s = subst (λ x. Around x (table_shape b es) linked) (sym s) (table-around b es linked)

  rows-at : (head : Bool) (m : Model) (b : Block) (linked : Bool) → m ≡ Rows → Around m (row_shape head b) linked
  rows-at head m b linked s = subst (λ x. Around x (row_shape head b) linked) (sym s) (rows-around head b linked)

  cells-at : (head : Bool) (m : Model) (columns : List Event) (b : Block) (linked : Bool) → m ≡ Cells → Around m (cell_shape head columns b) linked
  cells-at head m columns b linked s = subst (λ x. Around x (cell_shape head columns b) linked) (sym s) (cells-around head columns b linked)

  shape-around : (w : Mode) (m : Model) (columns : List Event) (n : Name) (linked : Bool) (es : List Event) (loose : Bool) (start : Option ℕ) (said alt : List ℕ) → Suits w m
      → IsApart w m (has_links_by (inline_of n) linked) → is_linked (inline_of n) linked ≡ false → Around m (shape_by options bytes known tab w columns n es loose start said alt) linked
  shape-around mode.Flow m columns n linked es loose start said alt s a l = blocks-at false m n es loose start linked s
  shape-around mode.Tight m columns n linked es loose start said alt s a l = blocks-at true m n es loose start linked s
  shape-around mode.LooseItems m columns n linked es loose start said alt s a l = items-at false m n linked s
  shape-around mode.TightItems m columns n linked es loose start said alt s a l = items-at true m n linked s
  shape-around mode.Heading m columns n linked es loose start said alt s a l = subst (λ x. Around x (heading_shape (block_of n)) linked) (sym s) (headings-around (block_of n) linked)
  shape-around mode.Table m columns n linked es loose start said alt s a l = table-at m (block_of n) es linked s
  shape-around (mode.Rows head) m columns n linked es loose start said alt s a l = rows-at head m (block_of n) linked s
  shape-around (mode.Cells head) m columns n linked es loose start said alt s a l = cells-at head m columns (block_of n) linked s
  shape-around mode.Paragraph m columns n linked es loose start said alt s a l = paragraph-around m (is_in_cell columns) (inline_of n) es said alt linked s a l
  shape-around mode.Text m columns n linked es loose start said alt s a l = inline-around m (is_in_cell columns) (inline_of n) es said alt linked s a l
  shape-around mode.Nothing m columns n linked es loose start said alt s a l = nothing-around m linked

  pub pieces-flow : (w : Mode) (m : Model) (columns : List Event) (s : Spans) → Suits w m → IsApart w m (has_links s) → are_apart s ≡ true
      → Flows m (pieces options bytes known tab w columns s)
  pieces-flow w m columns Nothing suits apart h = left-flows w m columns suits
  pieces-flow w m columns (Span e f s behind) suits apart h =
      let i = inline_of e.name in
      let b = block_of e.name in
      let here = shape options bytes known tab w columns e f s in
      let within = columns_in b columns (events_of s) in
      let inner = pieces options bytes known tab here.inside within s in
      let outer = pieces options bytes known tab w (columns_behind b columns) behind in
      let unlinked = not-true (is_linked i (has_links s)) ((and_parts (not (is_linked i (has_links s))) (are_apart s && are_apart behind) h).0) in
      let both = (and_parts (not (is_linked i (has_links s))) (are_apart s && are_apart behind) h).1 in
      let es = events_of s in
      let it : Around m here (has_links s) = shape-around w m columns e.name (has_links s) es (is_loose es) (list_start bytes es) (said bytes e f s) (alt_of bytes s) suits (apart-first w m (has_links_by i (has_links s)) (has_links behind) apart) unlinked in
      let first = pieces-flow here.inside it.model within s it.suits it.apart ((and_parts (are_apart s) (are_apart behind) both).0) in
      let rest = pieces-flow w m (columns_behind b columns) behind suits (apart-rest w m (has_links_by i (has_links s)) (has_links behind) apart) ((and_parts (are_apart s) (are_apart behind) both).1) in
      record { front = λ k more. subst (IsOf m) (sym (moved options bytes known tab safe here.opened inner here.closed outer k)) (it.around inner (outer ++ k) first (rest.front k more)) }

pub html-flow : HtmlIsFlow
html-flow options bytes known tab events safe apart =
    let ps = pieces options bytes known tab mode.Flow [] (spans_of events) in
    whole-of Blocks ps refl (pieces-flow options bytes known tab safe mode.Flow Blocks [] (spans_of events) refl (λ e. absurd (false≢true e)) apart) true
