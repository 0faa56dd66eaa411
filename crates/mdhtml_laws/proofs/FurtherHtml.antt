-- HTML of events further on among the same bytes is the same; so is that of a document's sections, one behind another.
use Rattle.std.proofs.Common.{◌≡◌, ℕ, zero, suc, ◌+◌, ◌-◌, ◌<◌, ◌≤◌, List, [], ◌∷◌, ◌++◌, Option, None, Some, length, drop, take, map, refl, ap, sym, subst, ◌∙◌, arith, eqb-true, inl, inr}
use Rattle.std.proofs.lemmas.Bool.{false≢true, or_cases}
use Rattle.std.proofs.lemmas.List.{drop-append-le, map-append, take-append-le}
use Rattle.std.specs.List.{prefix_len, take_while}
use Rattle.std.specs.Prelude.{◌==◌, ◌||◌, ⊤, Bool, true, false, codes, cond, option_map, slice_get}
use Rattle.markdown_base.proofs.Common.{every-map, get-front}
use Rattle.markdown_base.specs.declared.configuration.CompileOptions.{CompileOptions}
use Rattle.markdown_base.specs.declared.event.Event.{Event}
use Rattle.markdown_base.specs.declared.event.Link.{Link}
use Rattle.markdown_base.specs.declared.event.Name.{Name}
use Rattle.markdown_base.specs.declared.event.Name.TheVariants as name
use Rattle.markdown_base.specs.Events.{IsBalanced, empty, is_enter, span}
use Rattle.markdown_tokenizer.proofs.Positions.Order.{every-back, every-front}
use Rattle.mdblock_containers.specs.Lists.{is_digit, is_loose, list_start}
use Rattle.mddocument_link_targets.specs.declared.targets.Parts.{Parts}
use Rattle.mddocument_link_targets.specs.Spans.{enters, first_in, inside}
use Rattle.mdgfm_literals.specs.Laws.{end_line, further_event}
use Rattle.mdgfm_literals.proofs.Parts.{events-stay, slice-behind, slice-stays}
use Rattle.mdhtml_document.specs.declared.names.Block.{Block}
use Rattle.mdhtml_document.specs.declared.names.Block.TheVariants as block
use Rattle.mdhtml_document.specs.declared.names.Inline.{Inline}
use Rattle.mdhtml_document.specs.declared.names.Inline.TheVariants as inline
use Rattle.mdhtml_document.specs.declared.shapes.Mode.{Mode}
use Rattle.mdhtml_document.specs.declared.shapes.Mode.TheVariants as mode
use Rattle.mdhtml_document.specs.Html.{Shape, address_at, address_link, alignment_of, alone, block_shape, cell, cell_shape, check, code, columns_behind, columns_in, empty_cell, empty_cells, behind_column, heading, html_by, image_of, inline_shape, is_check, is_in_cell, lacking, language, line, link_to, pieces, raw, raw_within, shape, shape_by, table_shape, container, uncalled}
use Rattle.mdhtml_document.specs.Names.{block_of, inline_of}
use Rattle.mdhtml_document.specs.Spans.{Nothing, Span, Spans, events_of, spans_of}
use Rattle.mdhtml_document.specs.Values.{alt_of, behind_first_line, cell_text, code_lines, said}
use Rattle.mdhtml_document.proofs.Both.{html-both, keep-events}
use Rattle.mdhtml_document.proofs.SpanFacts.{AreKinded, opened-kinded}
use Rattle.mdhtml_markup.specs.declared.addresses.Place.TheVariants as place
use Rattle.mdhtml_markup.specs.declared.elements.Element.TheVariants.{Code as CodeElement, TableBody}
use Rattle.mdhtml_markup.specs.Pieces.{Close, Fresh, Open, Piece, Text, html}
use Rattle.mdhtml_laws.proofs.Ended.{html-ends}
use Rattle.mdhtml_laws.proofs.FurtherBytes.{drop-behind, get-behind}
use Rattle.mdhtml_laws.proofs.FurtherSpans.{alignment-on, all_on, any-on, behind-column-on, behind-line-on, columns-behind-on, columns-in-on, events-of-on, first-on, loose-on, on, spans-of-on, spans_on}
use Rattle.mdhtml_laws.proofs.FurtherText.{AreFine, AreSame, IsFine, IsFineTree, address-on, alt-on, code-lines-on, code-text-on, html-flow-on, html-text-on, language-on, length-of-first-on, link-on, said-on, setext-on, start-on}
use Rattle.mdhtml_laws.specs.Moved.{BytesBehindDoNothing, HtmlMoves, HtmlOfSections, IsMarked, StandsIn}

module _ (links : Option Link → Option Link) (lines n : ℕ) (new old : List ℕ) (Fits Reads : ℕ → Type 0) (same : AreSame new old n Fits Reads) (options : CompileOptions) (lookup : (label : List ℕ) → Option Parts) (tab : ℕ) where
  abbrev more : List Event → List Event
  more es = all_on links lines n es

  abbrev the : Event → Event
  the e = on links lines n e

  abbrev Fine : List Event → Type 0
  Fine es = AreFine links lines n new old Fits Reads same es

  -- ---- columns

  cells-by : (k : ℕ) (head : Bool) (columns : List Event) → ((cs : List Event) → empty_cells k head (more cs) ≡ empty_cells k head cs) → (o : Option (List Event))
      → elim (option_map more o) as (λ (_ : Option (List Event)). List Piece) [ None ↦ [] | Some column ↦ empty_cell head (alignment_of column) ++ empty_cells k head (behind_column (more columns)) ]
      ≡ elim o as (λ (_ : Option (List Event)). List Piece) [ None ↦ [] | Some column ↦ empty_cell head (alignment_of column) ++ empty_cells k head (behind_column columns) ]
  cells-by k head columns rest None = refl
  cells-by k head columns rest (Some column) =
      (λ i. empty_cell head (alignment-on links lines n column i) ++ empty_cells k head (behind-column-on links lines n columns i))
      ∙ ap (λ (ps : List Piece). empty_cell head (alignment_of column) ++ ps) (rest (behind_column columns))

  cells-on : (k : ℕ) (head : Bool) (columns : List Event) → empty_cells k head (more columns) ≡ empty_cells k head columns
  cells-on zero head columns = refl
  cells-on (suc k) head columns =
      ap (λ (o : Option (List Event)). elim o as (λ (_ : Option (List Event)). List Piece) [ None ↦ [] | Some column ↦ empty_cell head (alignment_of column) ++ empty_cells k head (behind_column (more columns)) ])
      (first-on links lines n name.GfmTableDelimiterCell columns)
      ∙ cells-by k head columns (cells-on k head) (first_in name.GfmTableDelimiterCell columns)

  lacking-on : (m : Mode) (columns : List Event) → lacking m (more columns) ≡ lacking m columns
  lacking-on (mode.Cells head) columns = cells-on 100 head columns
  lacking-on (mode.Rows head) columns = refl
  lacking-on mode.Flow columns = refl
  lacking-on mode.Tight columns = refl
  lacking-on mode.LooseItems columns = refl
  lacking-on mode.TightItems columns = refl
  lacking-on mode.Heading columns = refl
  lacking-on mode.Table columns = refl
  lacking-on mode.Paragraph columns = refl
  lacking-on mode.Text columns = refl
  lacking-on mode.Nothing columns = refl

  in-cell-on : (columns : List Event) → is_in_cell (more columns) ≡ is_in_cell columns
  in-cell-on [] = refl
  in-cell-on (e ∷ es) = refl

  -- ---- shapes

  fine-either : (t : Bool) (xs ys : List Event) → Fine xs → Fine ys → Fine (cond t xs ys)
  fine-either true xs ys h k = h
  fine-either false xs ys h k = k

  fine-rest : (es : List Event) → Fine es → Fine (drop 1 es)
  fine-rest [] h = tt
  fine-rest (e ∷ es) h = h.1

  fine-lines : (es : List Event) → Fine es → Fine (behind_first_line es)
  fine-lines [] h = tt
  fine-lines (e ∷ es) h = fine-either (enters name.LineEnding e) (drop 1 es) (behind_first_line es) (fine-rest es h.1) (fine-lines es h.1)

  block-on : (tight : Bool) (b : Block) (es : List Event) (loose : Bool) (start : Option ℕ) → Fine es
      → block_shape options new (uncalled lookup) tab tight b (more es) loose start ≡ block_shape options old (uncalled lookup) tab tight b es loose start
  block-on tight block.Paragraph es loose start h = refl
  block-on tight block.HeadingAtx es loose start h = ap (λ k. line (heading k) mode.Heading) (length-of-first-on links lines n new old Fits Reads same name.HeadingAtxSequence es)
  block-on tight block.HeadingSetext es loose start h = ap (λ k. line (heading k) mode.Heading) (setext-on links lines n new old Fits Reads same es h)
  block-on tight block.HeadingText es loose start h = refl
  block-on tight block.Quote es loose start h = refl
  block-on tight block.Bullets es loose start h = refl
  block-on tight block.Numbers es loose start h = refl
  block-on tight block.Item es loose start h = refl
  block-on tight block.Fenced es loose start h =
      let rest = behind_first_line es in
      (λ i. code (language-on links lines n new old Fits Reads same es h i) (code_lines new tab (behind-line-on links lines n es i)))
      ∙ ap (code (language old (first_in name.CodeFencedFenceInfo es))) (code-lines-on links lines n new old Fits Reads same tab rest (fine-lines es h))
  block-on tight block.Indented es loose start h = ap (code []) (code-lines-on links lines n new old Fits Reads same tab es h)
  block-on tight block.Html es loose start h = ap (λ (t : List ℕ). alone (Fresh ∷ raw options t ∷ Fresh ∷ [])) (html-flow-on links lines n new old Fits Reads same tab es h)
  block-on tight block.Rule es loose start h = refl
  block-on tight block.Table es loose start h = refl
  block-on tight block.TableHead es loose start h = refl
  block-on tight block.TableBody es loose start h = refl
  block-on tight block.TableRow es loose start h = refl
  block-on tight block.TableCell es loose start h = refl
  block-on tight block.Other es loose start h = refl

  inline-on : (in_cell : Bool) (i : Inline) (es : List Event) (said alt : List ℕ) → Fine es → inline_shape options new (uncalled lookup) tab in_cell i (more es) said alt ≡ inline_shape options old (uncalled lookup) tab in_cell i es said alt
  inline-on in_cell inline.Ending es said alt h = refl
  inline-on in_cell inline.Break es said alt h = refl
  inline-on in_cell inline.Emphasis es said alt h = refl
  inline-on in_cell inline.Strong es said alt h = refl
  inline-on in_cell inline.Struck es said alt h = refl
  inline-on in_cell inline.Code es said alt h =
      ap (λ (t : List ℕ). alone (Open CodeElement [] ∷ Text (cell_text in_cell t) ∷ Close CodeElement ∷ [])) (code-text-on links lines n new old Fits Reads same es h)
  inline-on in_cell inline.Html es said alt h = ap (λ (t : List ℕ). alone (raw_within options (cell_text in_cell t) ∷ [])) (html-text-on links lines n new old Fits Reads same es h)
  inline-on in_cell inline.Autolink es said alt h =
      let address = address-on links lines n new old Fits Reads same es h in
      let email = any-on links lines n name.AutolinkEmail es in
      λ i. address_link (cond (email i) (codes "mailto:" ++ address i) (address_at options place.Href (address i))) (address i)
  inline-on in_cell inline.Www es said alt h = refl
  inline-on in_cell inline.Email es said alt h = refl
  inline-on in_cell inline.Address es said alt h = refl
  inline-on in_cell inline.Check es said alt h = refl
  inline-on in_cell inline.Call es said alt h = refl
  inline-on in_cell inline.Link es said alt h = ap (link_to options) (link-on links lines n new old Fits Reads same lookup es h)
  inline-on in_cell inline.Image es said alt h = ap (image_of options alt) (link-on links lines n new old Fits Reads same lookup es h)
  inline-on in_cell inline.Tail es said alt h = refl
  inline-on in_cell inline.Other es said alt h = refl

  table-on : (b : Block) (es : List Event) → table_shape b (more es) ≡ table_shape b es
  table-on block.TableBody es = ap (λ t. cond t (container TableBody [] (mode.Rows false)) (alone [])) (any-on links lines n name.GfmTableRow es)
  table-on block.TableHead es = refl
  table-on block.Paragraph es = refl
  table-on block.HeadingAtx es = refl
  table-on block.HeadingSetext es = refl
  table-on block.HeadingText es = refl
  table-on block.Quote es = refl
  table-on block.Bullets es = refl
  table-on block.Numbers es = refl
  table-on block.Item es = refl
  table-on block.Fenced es = refl
  table-on block.Indented es = refl
  table-on block.Html es = refl
  table-on block.Rule es = refl
  table-on block.Table es = refl
  table-on block.TableRow es = refl
  table-on block.TableCell es = refl
  table-on block.Other es = refl

  abbrev in_column : (head : Bool) → Option (List Event) → Shape
  in_column head o = elim o as (λ (_ : Option (List Event)). Shape) [ None ↦ alone [] | Some column ↦ cell head (alignment_of column) ]

  column-by : (head : Bool) (o : Option (List Event)) → in_column head (option_map more o) ≡ in_column head o
  column-by head None = refl
  column-by head (Some column) = ap (cell head) (alignment-on links lines n column)

  cell-on : (head : Bool) (columns : List Event) (b : Block) → cell_shape head (more columns) b ≡ cell_shape head columns b
  cell-on head columns block.TableCell = ap (in_column head) (first-on links lines n name.GfmTableDelimiterCell columns) ∙ column-by head (first_in name.GfmTableDelimiterCell columns)
  cell-on head columns block.Paragraph = refl
  cell-on head columns block.HeadingAtx = refl
  cell-on head columns block.HeadingSetext = refl
  cell-on head columns block.HeadingText = refl
  cell-on head columns block.Quote = refl
  cell-on head columns block.Bullets = refl
  cell-on head columns block.Numbers = refl
  cell-on head columns block.Item = refl
  cell-on head columns block.Fenced = refl
  cell-on head columns block.Indented = refl
  cell-on head columns block.Html = refl
  cell-on head columns block.Rule = refl
  cell-on head columns block.Table = refl
  cell-on head columns block.TableHead = refl
  cell-on head columns block.TableBody = refl
  cell-on head columns block.TableRow = refl
  cell-on head columns block.Other = refl

  text-on : (columns : List Event) (m : Name) (es : List Event) (said alt : List ℕ) → Fine es
      → inline_shape options new (uncalled lookup) tab (is_in_cell (more columns)) (inline_of m) (more es) said alt ≡ inline_shape options old (uncalled lookup) tab (is_in_cell columns) (inline_of m) es said alt
  text-on columns m es said alt h =
      ap (λ c. inline_shape options new (uncalled lookup) tab c (inline_of m) (more es) said alt) (in-cell-on columns) ∙ inline-on (is_in_cell columns) (inline_of m) es said alt h

  by-name-on : (m : Mode) (columns : List Event) (a : Name) (es : List Event) (loose : Bool) (start : Option ℕ) (said alt : List ℕ) → Fine es
      → shape_by options new (uncalled lookup) tab m (more columns) a (more es) loose start said alt ≡ shape_by options old (uncalled lookup) tab m columns a es loose start said alt
  by-name-on mode.Flow columns a es loose start said alt h = block-on false (block_of a) es loose start h
  by-name-on mode.Tight columns a es loose start said alt h = block-on true (block_of a) es loose start h
  by-name-on mode.LooseItems columns a es loose start said alt h = refl
  by-name-on mode.TightItems columns a es loose start said alt h = refl
  by-name-on mode.Heading columns a es loose start said alt h = refl
  by-name-on mode.Table columns a es loose start said alt h = table-on (block_of a) es
  by-name-on (mode.Rows head) columns a es loose start said alt h = refl
  by-name-on (mode.Cells head) columns a es loose start said alt h = cell-on head columns (block_of a)
  by-name-on mode.Paragraph columns a es loose start said alt h =
      λ i. cond (is_check (inline_of a)) (check (any-on links lines n name.GfmTaskListItemValueChecked es i)) (text-on columns a es said alt h i)
  by-name-on mode.Text columns a es loose start said alt h = text-on columns a es said alt h
  by-name-on mode.Nothing columns a es loose start said alt h = refl

  -- ---- pieces

  abbrev Tree : Spans → Type 0
  Tree s = IsFineTree links lines n new old Fits Reads same s

  shape-on : (m : Mode) (columns : List Event) (e f : Event) (s : Spans) → is_enter e.kind ≡ true → IsFine Fits Reads e → IsFine Fits Reads f → Fine (events_of s) → Tree s
      → shape options new (uncalled lookup) tab m (more columns) (the e) (the f) (spans_on links lines n s) ≡ shape options old (uncalled lookup) tab m columns e f s
  shape-on m columns e f s enter h k fine tree =
      let es = events_of s in
      let all = events-of-on links lines n s in
      let loose = loose-on links lines n es in
      let start = start-on links lines n new old Fits Reads same es fine in
      let own = said-on links lines n new old Fits Reads same e f s h k enter in
      let alt = alt-on links lines n new old Fits Reads same s tree in
      (λ i. shape_by options new (uncalled lookup) tab m (more columns) e.name (all i) (is_loose (all i)) (list_start new (all i)) (said new (the e) (the f) (spans_on links lines n s)) (alt_of new (spans_on links lines n s)))
      ∙ (λ i. shape_by options new (uncalled lookup) tab m (more columns) e.name (more es) (loose i) (start i) (own i) (alt i))
      ∙ by-name-on m columns e.name es (is_loose es) (list_start old es) (said old e f s) (alt_of old s) fine

  abbrev around : (inside : Mode → List Piece) → (behind : List Piece) → Shape → List Piece
  around inside behind here = here.opened ++ (inside here.inside ++ (here.closed ++ behind))

  pieces-on : (m : Mode) (columns : List Event) (s : Spans) → Tree s → pieces options new (uncalled lookup) tab m (more columns) (spans_on links lines n s) ≡ pieces options old (uncalled lookup) tab m columns s
  pieces-on m columns Nothing h = lacking-on m columns
  pieces-on m columns (Span e f s behind) h =
      let b = block_of e.name in
      let within = columns_in b columns (events_of s) in
      let next = columns_behind b columns in
      let there = shape options old (uncalled lookup) tab m columns e f s in
      let inner = λ (i : Mode). pieces options new (uncalled lookup) tab i (columns_in b (more columns) (events_of (spans_on links lines n s))) (spans_on links lines n s) in
      let columns-in : columns_in b (more columns) (events_of (spans_on links lines n s)) ≡ more within =
      ap (columns_in b (more columns)) (events-of-on links lines n s) ∙ columns-in-on links lines n b columns (events_of s)
      in
      ap (around inner (pieces options new (uncalled lookup) tab m (columns_behind b (more columns)) (spans_on links lines n behind))) (shape-on m columns e f s h.0 h.1 h.2 h.3 h.4)
      ∙ (λ i. there.opened
      ++ (pieces options new (uncalled lookup) tab there.inside (columns-in i) (spans_on links lines n s)
      ++ (there.closed ++ pieces options new (uncalled lookup) tab m (columns-behind-on links lines n b columns i) (spans_on links lines n behind))))
      ∙ (λ i. there.opened ++ (pieces-on there.inside within s h.4 i ++ (there.closed ++ pieces-on m next behind h.5 i)))

  fine-tree : (s : Spans) → AreKinded s → Fine (events_of s) → Tree s
  fine-tree Nothing k h = tt
  fine-tree (Span e f s behind) k h =
      let inner = every-front (IsFine Fits Reads) (events_of s) (f ∷ events_of behind) h.1 in
      let rest = every-back (IsFine Fits Reads) (events_of s) (f ∷ events_of behind) h.1 in
      (ap is_enter k.0, h.0, rest.0, inner, fine-tree s k.2 inner, fine-tree behind k.3 rest.1)

  html-on : (events : List Event) → IsBalanced events → Fine events → html_by options new (uncalled lookup) tab (more events) ≡ html_by options old (uncalled lookup) tab events
  html-on events balanced fine =
      let s = spans_of events in
      let tree = fine-tree s (opened-kinded events).0 (subst Fine (sym (keep-events events balanced)) fine) in
      ap (λ (t : Spans). html (pieces options new (uncalled lookup) tab mode.Flow [] t)) (spans-of-on links lines n events) ∙ ap html (pieces-on mode.Flow [] s tree)

-- ---- behind other bytes

behind-same : (before bytes : List ℕ) → AreSame (before ++ bytes) bytes (length before) (λ _. ⊤) (λ _. ⊤)
behind-same before bytes = record {
  ranges = λ i j h. slice-behind before bytes i j;
  bytes = λ i h. get-behind before bytes i;
  digits = λ i h. ap (take_while is_digit) (drop-behind before bytes i);
  before = λ i h some. let one : i + length before - 1 ≡ i - 1 + length before = omega arith in ap (slice_get (before ++ bytes)) one ∙ get-behind before bytes (i - 1);
}

pub html-moves : HtmlMoves
html-moves options lookup tab lines before bytes links events balanced marked =
    let Any : ℕ → Type 0 = λ _. ⊤ in
    html-on links lines (length before) (before ++ bytes) bytes Any Any (behind-same before bytes) options lookup tab events balanced
    (every-map IsMarked (IsFine Any Any) (λ e h. record { fits = tt; reads = λ _. tt; marked = h }) events marked)

-- ---- before other bytes

no-digit : (b : ℕ) → ((b == 10) || (b == 13)) ≡ true → is_digit b ≡ false
no-digit b h = elim (or_cases (b == 10) (b == 13) h) as (λ _. is_digit b ≡ false) [
  | inl one ↦ ap is_digit (eqb-true b 10 one)
  | inr other ↦ ap is_digit (eqb-true b 13 other)
]

last-digit : (t : Bool) (n : ℕ) → t ≡ false → (cond t (1 + n) 0 ≡ cond t (1 + 0) 0) × (cond t (1 + 0) 0 ≤ 1)
last-digit false n q = (refl, omega arith)
last-digit true n q = absurd (false≢true (sym q))

one-digit : (t : Bool) (n m most : ℕ) → (n ≡ m) × (m ≤ most) → (cond t (1 + n) 0 ≡ cond t (1 + m) 0) × (cond t (1 + m) 0 ≤ suc most)
one-digit false n m most k = (refl, omega arith)
one-digit true n m most k = let more = k.1 in (ap (λ i. 1 + i) k.0, omega (arith, more))

digits-before : (line behind : List ℕ) → end_line line ≡ true → 1 ≤ length line → (prefix_len is_digit (line ++ behind) ≡ prefix_len is_digit line) × (prefix_len is_digit line ≤ length line)
digits-before [] behind h some = absurd (omega (arith, some))
digits-before (b ∷ []) behind h some = last-digit (is_digit b) (prefix_len is_digit behind) (no-digit b h)
digits-before (b ∷ c ∷ cs) behind h some =
    one-digit (is_digit b) (prefix_len is_digit (c ∷ (cs ++ behind))) (prefix_len is_digit (c ∷ cs)) (length (c ∷ cs)) (digits-before (c ∷ cs) behind h (omega arith))

digits-end : (line behind : List ℕ) → end_line line ≡ true → 1 ≤ length line → take_while is_digit (line ++ behind) ≡ take_while is_digit line
digits-end line behind h some =
    let k = digits-before line behind h some in
    ap (λ n. take n (line ++ behind)) k.0 ∙ take-append-le (prefix_len is_digit line) line behind k.1

record IsRest (line : List ℕ) : Type 0 where
  ends : end_line line ≡ true
  some : 1 ≤ length line

rest-of : (bytes : List ℕ) (i : ℕ) → end_line bytes ≡ true → i < length bytes → IsRest (drop i bytes)
rest-of [] i h less = absurd (omega (arith, less))
rest-of (b ∷ bs) zero h less = record { ends = h; some = omega arith }
rest-of (b ∷ []) (suc i) h less = absurd (omega (arith, less))
rest-of (b ∷ c ∷ cs) (suc i) h less = rest-of (c ∷ cs) i h (omega (arith, less))

before-same : (bytes behind : List ℕ) → end_line bytes ≡ true → AreSame (bytes ++ behind) bytes 0 (λ i. i ≤ length bytes) (λ i. i < length bytes)
before-same bytes behind ends = record {
  ranges = λ i j h. slice-stays bytes behind i j h;
  bytes = λ i h. let z : i + 0 ≡ i = omega arith in ap (slice_get (bytes ++ behind)) z ∙ get-front bytes behind i h;
  digits = λ i h.
      let z : i + 0 ≡ i = omega arith in
      let rest = rest-of bytes i ends h in
      ap (λ k. take_while is_digit (drop k (bytes ++ behind))) z ∙ ap (take_while is_digit) (drop-append-le i bytes behind (omega (arith, h))) ∙ digits-end (drop i bytes) behind rest.ends rest.some;
  before = λ i h some. let z : i + 0 - 1 ≡ i - 1 = omega arith in ap (slice_get (bytes ++ behind)) z ∙ get-front bytes behind (i - 1) (omega (arith, h, some));
}

pub behind-nothing : BytesBehindDoNothing
behind-nothing options lookup tab bytes behind events ends balanced stand =
    let Fits : ℕ → Type 0 = λ i. i ≤ length bytes in
    let Reads : ℕ → Type 0 = λ i. i < length bytes in
    let fine = every-map (StandsIn bytes) (IsFine Fits Reads) (λ e h. record { fits = h.within; reads = h.reads; marked = h.marked }) events stand in
    ap (html_by options (bytes ++ behind) (uncalled lookup) tab) (sym (events-stay events))
    ∙ html-on (λ l. l) 0 0 (bytes ++ behind) bytes Fits Reads (before-same bytes behind ends) options lookup tab events balanced fine

-- ---- sections

balanced-on : (links : Option Link → Option Link) (lines n : ℕ) {es : List Event} → IsBalanced es → IsBalanced (all_on links lines n es)
balanced-on links lines n empty = empty
balanced-on links lines n (span e f xs ys is en ex same b c) =
    span (on links lines n e) (on links lines n f) (all_on links lines n xs) (all_on links lines n ys)
    (ap (all_on links lines n) is ∙ ap (λ (l : List Event). on links lines n e ∷ l) (map-append (on links lines n) xs (f ∷ ys))) en ex same (balanced-on links lines n b) (balanced-on links lines n c)

pub html-of-sections : HtmlOfSections
html-of-sections options lookup tab lines first second links xs ys ends bx by stand marked =
    let moved = map (further_event links lines (length first)) ys in
    html-both options (first ++ second) (uncalled lookup) tab xs moved bx (balanced-on links lines (length first) by) (html-ends options (first ++ second) (uncalled lookup) tab xs)
    ∙ (λ i. behind-nothing options lookup tab first second xs ends bx stand i ++ html-moves options lookup tab lines first second links ys by marked i)
