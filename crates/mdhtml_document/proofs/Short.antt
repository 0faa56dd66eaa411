-- HTML is not long: each shape adds few bytes to the texts that it writes, and no text is written twice but for links, titles and descriptions.
use Rattle.std.proofs.Common.{◌≡◌, ℕ, suc, ◌+◌, ◌*◌, ◌≤◌, List, [], ◌∷◌, ◌++◌, length, drop, ap, sym, refl, subst, ◌∙◌, arith, Option, None, Some}
use Rattle.std.proofs.lemmas.Bool.{and_parts, false≢true, not-true, or_parts}
use Rattle.std.proofs.lemmas.List.{length-append}
use Rattle.std.specs.Char.{is_ascii_whitespace}
use Rattle.std.specs.List.{flat_map, list_any, prefix_len, take_while}
use Rattle.std.specs.Prelude.{◌&&◌, not, Bool, true, false, cond, codes}
use Rattle.markdown_base.specs.declared.configuration.CompileOptions.{CompileOptions}
use Rattle.markdown_base.specs.declared.event.Event.{Event}
use Rattle.markdown_base.specs.declared.event.Name.{Name}
use Rattle.markdown_base.specs.declared.event.Name.TheVariants as name
use Rattle.mdblock_containers.specs.Lists.{is_loose, list_start}
use Rattle.mddocument_link_targets.specs.declared.targets.Parts.{Parts}
use Rattle.mddocument_link_targets.specs.declared.targets.Target.{Target}
use Rattle.mddocument_link_targets.specs.declared.targets.Target.TheVariants as target
use Rattle.mddocument_link_targets.specs.Spans.{behind, enters, first_in, inside, size_from}
use Rattle.mddocument_link_targets.specs.declared.strings.Reading.TheVariants.{Decoded}
use Rattle.mddocument_link_targets.specs.Strings.{decoded}
use Rattle.mddocument_link_targets.specs.Targets.{label_of, resource_parts, target_in}
use Rattle.mdhtml_document.specs.declared.names.Block.{Block}
use Rattle.mdhtml_document.specs.declared.names.Block.TheVariants as block
use Rattle.mdhtml_document.specs.declared.names.Inline.{Inline}
use Rattle.mdhtml_document.specs.declared.names.Inline.TheVariants as inline
use Rattle.mdhtml_document.specs.declared.shapes.Mode.{Mode}
use Rattle.mdhtml_document.specs.declared.shapes.Mode.TheVariants as mode
use Rattle.mdhtml_document.specs.Html.{Known, Shape, alignment_of, alone, block_shape, blocks, call_shape, cell, cell_shape, check, columns_behind, columns_in, container, heading_shape, image_of, inline_shape, is_check, is_checked, is_in_cell, item_shape, items, language, length_of_first, line, link_to, ordered, parts_in_link, pieces, references, referred, row_shape, setext_rank, shape, shape_by, size_of_target, table_shape, through}
use Rattle.mdhtml_document.specs.declared.notes.Called.{Called}
use Rattle.mdhtml_document.specs.Notes.{place_of_first}
use Rattle.mdhtml_document.proofs.ShortCalls.{call-short}
use Rattle.std.proofs.Math.Nat.{mul-add}
use Rattle.mdhtml_document.specs.HtmlLaws.{AreBrief, HtmlIsShort, calls, is_call, ahead, are_apart, has_links, has_links_by, is_linked, length_of_parts, room, rows}
use Rattle.mdhtml_document.specs.Names.{block_of, inline_of}
use Rattle.mdhtml_document.specs.Spans.{Nothing, Span, Spans, events_of, spans_of}
use Rattle.mdhtml_document.specs.Values.{alt_of, behind_first_line, cell_text, code_lines, code_text, html_flow, html_text, is_escape, said, unescaped}
use Rattle.mdhtml_document.specs.Walks.{is_left}
use Rattle.mdhtml_document.proofs.Both.{keep-events}
use Rattle.mdhtml_document.proofs.Rooms.{address-le, alt-le, block-le, code-le, code-lines-le, lines-le, room-append, room-behind, room-first, room-line, room_in, said-le, string-le, take-le, text-le, titles-le}
use Rattle.mdhtml_document.proofs.ShortShapes.{autolink-short, cell-short, code-short, container-short, cost_of, each-block, first-short, heading-short, html-longs, http-long, image-inside, image-short, IsShort, item-short, led, left-short, line-short, link-inside, link-short, literal-short, longs, longs-append, longs-span, mailto-long, nothing-short, part-short, quoted-short, raw-short, raw-within-short, row-short, row_room, spare, start-short, tag-long, thin, title-of-heading, unlinked, whole}
use Rattle.mdhtml_markup.specs.declared.elements.AttributeName.TheVariants as attr
use Rattle.mdhtml_markup.specs.declared.elements.Element.TheVariants.{BlockQuote, OrderedList, Paragraph, Table, TableBody, UnorderedList}
use Rattle.mdhtml_markup.specs.Escapes.{escaped}
use Rattle.mdhtml_markup.specs.Pieces.{Language, Piece, attribute, html_from}
use Rattle.mdhtml_markup.proofs.Texts.{escaped-short}

module _ (options : CompileOptions) (bytes : List ℕ) (known : Known) (tab digits : ℕ) (brief : AreBrief digits known) where
  abbrev size : (label : List ℕ) → ℕ
  size label = length_of_parts (known.lookup label)

  -- the room of a call, by what a span is
  abbrev call_room : Inline → ℕ
  call_room i = cond (is_call i) (digits + 8) 0

  abbrev own_at : Inline → List Event → ℕ
  own_at i es = referred bytes size i es 0 + call_room i

  -- ---- what links refer to

  referred-inner : (i : Inline) (es : List Event) (inner : ℕ) → is_left i ≡ false → inner ≤ referred bytes size i es inner
  referred-inner inline.Ending es inner left = omega arith
  referred-inner inline.Break es inner left = omega arith
  referred-inner inline.Emphasis es inner left = omega arith
  referred-inner inline.Strong es inner left = omega arith
  referred-inner inline.Struck es inner left = omega arith
  referred-inner inline.Code es inner left = omega arith
  referred-inner inline.Html es inner left = omega arith
  referred-inner inline.Autolink es inner left = omega arith
  referred-inner inline.Www es inner left = omega arith
  referred-inner inline.Email es inner left = omega arith
  referred-inner inline.Address es inner left = omega arith
  referred-inner inline.Check es inner left = omega arith
  referred-inner inline.Call es inner left = omega arith
  referred-inner inline.Link es inner left = omega arith
  referred-inner inline.Image es inner left = absurd (false≢true (sym left))
  referred-inner inline.Tail es inner left = omega arith
  referred-inner inline.Other es inner left = omega arith

  referred-own : (i : Inline) (es : List Event) (inner : ℕ) → referred bytes size i es 0 ≤ referred bytes size i es inner
  referred-own inline.Ending es inner = omega arith
  referred-own inline.Break es inner = omega arith
  referred-own inline.Emphasis es inner = omega arith
  referred-own inline.Strong es inner = omega arith
  referred-own inline.Struck es inner = omega arith
  referred-own inline.Code es inner = omega arith
  referred-own inline.Html es inner = omega arith
  referred-own inline.Autolink es inner = omega arith
  referred-own inline.Www es inner = omega arith
  referred-own inline.Email es inner = omega arith
  referred-own inline.Address es inner = omega arith
  referred-own inline.Check es inner = omega arith
  referred-own inline.Call es inner = omega arith
  referred-own inline.Link es inner = omega arith
  referred-own inline.Image es inner = omega arith
  referred-own inline.Tail es inner = omega arith
  referred-own inline.Other es inner = omega arith

  referred-link : (i : Inline) (es : List Event) (inner : ℕ) → i ≡ inline.Link → referred bytes size i es 0 + inner ≤ referred bytes size i es inner
  referred-link i es inner h = subst (λ j. referred bytes size j es 0 + inner ≤ referred bytes size j es inner) (sym h) (omega arith)

  cost-parts : (p : Option Parts) → cost_of p ≤ 9 * length_of_parts p
  cost-parts None = omega arith
  cost-parts (Some p) = omega arith

  abbrev target_by : Option (List Event) → (label : List ℕ) → Target
  target_by o label = elim o as (λ (_ : Option (List Event)). Target) [ None ↦ target.Label label | Some resource ↦ target.Parts (resource_parts bytes resource) ]

  abbrev parts_by : Target → Option Parts
  parts_by t = elim t as (λ (_ : Target). Option Parts) [ target.Parts parts ↦ Some parts | target.Label label ↦ known.lookup label ]

  leads-by : (o : Option (List Event)) (label : List ℕ) → cost_of (parts_by (target_by o label)) ≤ 15 * room_in tab o + 9 * size_of_target size (target_by o label)
  leads-by None label = let h = cost-parts (known.lookup label) in omega (arith, h)
  leads-by (Some es) label =
      let d = string-le bytes tab name.ResourceDestinationString es in
      let t = titles-le bytes tab name.ResourceTitle name.ResourceTitleString es in
      omega (arith, d, t)

  leads : (es : List Event) → cost_of (parts_in_link bytes known.lookup es) ≤ 15 * room tab es + 9 * size_of_target size (target_in bytes es)
  leads es =
      let rest = drop 1 es in
      let tail = behind rest in
      let by = leads-by (first_in name.Resource tail) (label_of bytes (inside rest) tail) in
      let first = room-first tab name.Resource tail in
      let less = room-behind tab (size_from 0 rest + 1) rest in
      let all = room-behind tab 1 es in
      omega (arith, by, first, less, all)

  -- ---- shapes

  language-by : (o : Option (List Event)) → length (flat_map attribute (language bytes o)) ≤ 6 * room_in tab o + 18
  language-by None = omega arith
  language-by (Some info) =
      let t = decoded bytes info in
      let word = take_while (λ b. not (is_ascii_whitespace b)) t in
      let all = first-short (Language word) [] in
      let q = quoted-short attr.Class (codes "language-" ++ escaped word) tt in
      let l = length-append (codes "language-") (escaped word) in
      let short = escaped-short word in
      let less = take-le (prefix_len (λ b. not (is_ascii_whitespace b)) t) t in
      let most = text-le bytes tab Decoded info in
      omega (arith, all, q, l, short, less, most)

  language-short : (es : List Event) → length (flat_map attribute (language bytes (first_in name.CodeFencedFenceInfo es))) ≤ 6 * room tab es + 18
  language-short es =
      let by = language-by (first_in name.CodeFencedFenceInfo es) in
      let first = room-first tab name.CodeFencedFenceInfo es in
      omega (arith, by, first)

  block-short : (i : Inline) (tight : Bool) (b : Block) (es : List Event) (loose : Bool) (start : Option ℕ) (few all own : ℕ) → is_left i ≡ false
      → length (flat_map attribute (ordered start)) ≤ 18 → room tab es + 1 ≤ all → IsShort i (block_shape options bytes known tab tight b es loose start) few all own
  block-short i true block.Paragraph es loose start few all own left s r = thin left (omega arith)
  block-short i false block.Paragraph es loose start few all own left s r = let h = line-short Paragraph mode.Paragraph (omega arith) (omega arith) in thin left (omega (arith, h))
  block-short i tight block.HeadingAtx es loose start few all own left s r = let h = heading-short (length_of_first name.HeadingAtxSequence es) mode.Heading in thin left (omega (arith, h))
  block-short i tight block.HeadingSetext es loose start few all own left s r = let h = heading-short (setext_rank bytes es) mode.Heading in thin left (omega (arith, h))
  block-short i tight block.HeadingText es loose start few all own left s r = nothing-short i few all own
  block-short i tight block.Quote es loose start few all own left s r = let h = container-short BlockQuote [] mode.Flow (omega arith) (omega arith) in thin left (omega (arith, h))
  block-short i tight block.Bullets es loose start few all own left s r = let h = container-short UnorderedList [] (items loose) (omega arith) (omega arith) in thin left (omega (arith, h))
  block-short i tight block.Numbers es loose start few all own left s r =
      let tag = tag-long OrderedList (flat_map attribute (ordered start)) in
      let h = container-short OrderedList (ordered start) (items loose) (omega (arith, tag, s)) (omega arith) in
      thin left (omega (arith, h))
  block-short i tight block.Item es loose start few all own left s r = thin left (omega arith)
  block-short i tight block.Fenced es loose start few all own left s r =
      let lines = behind_first_line es in
      let h = code-short (language bytes (first_in name.CodeFencedFenceInfo es)) (code_lines bytes tab lines) in
      let info = language-short es in
      let text = code-lines-le bytes tab lines in
      let less = room-line tab es in
      whole refl (omega (arith, h, info, text, less, r))
  block-short i tight block.Indented es loose start few all own left s r =
      let h = code-short [] (code_lines bytes tab es) in
      let text = code-lines-le bytes tab es in
      whole refl (omega (arith, h, text, r))
  block-short i tight block.Html es loose start few all own left s r =
      let h = raw-short options (html_flow bytes tab es) in
      let text = block-le bytes tab name.HtmlFlowData es in
      whole refl (omega (arith, h, text, r))
  block-short i tight block.Rule es loose start few all own left s r = whole refl (omega arith)
  block-short i tight block.Table es loose start few all own left s r = let h = container-short Table [] mode.Table (omega arith) (omega arith) in thin left (omega (arith, h))
  block-short i tight block.TableHead es loose start few all own left s r = nothing-short i few all own
  block-short i tight block.TableBody es loose start few all own left s r = nothing-short i few all own
  block-short i tight block.TableRow es loose start few all own left s r = nothing-short i few all own
  block-short i tight block.TableCell es loose start few all own left s r = nothing-short i few all own
  block-short i tight block.Other es loose start few all own left s r = nothing-short i few all own

  unescaped-by : (c : Bool) (b : ℕ) (t : List ℕ) (n : ℕ) → length t ≤ n → length (cond c t (b ∷ t)) ≤ suc n
  unescaped-by true b t n h = omega (arith, h)
  unescaped-by false b t n h = omega (arith, h)

  unescaped-le : (t : List ℕ) → length (unescaped t) ≤ length t
  unescaped-le [] = omega arith
  unescaped-le (b ∷ bs) = unescaped-by (is_escape b bs) b (unescaped bs) (length bs) (unescaped-le bs)

  cell-le : (c : Bool) (t : List ℕ) → length (cell_text c t) ≤ length t
  cell-le true t = unescaped-le t
  cell-le false t = omega arith

  inline-short : (in_cell : Bool) (i : Inline) (es : List Event) (said alt : List ℕ) (few all : ℕ) → length said ≤ few → few ≤ all → room tab es + 1 ≤ all → length alt ≤ all
      → IsShort i (inline_shape options bytes known tab in_cell i es said alt) few all (own_at i es)
  inline-short in_cell inline.Ending es said alt few all t f r a = whole refl (omega arith)
  inline-short in_cell inline.Break es said alt few all t f r a = whole refl (omega arith)
  inline-short in_cell inline.Emphasis es said alt few all t f r a = thin refl (omega arith)
  inline-short in_cell inline.Strong es said alt few all t f r a = thin refl (omega arith)
  inline-short in_cell inline.Struck es said alt few all t f r a = thin refl (omega arith)
  inline-short in_cell inline.Code es said alt few all t f r a =
      let text = code-le bytes tab es in
      let less = cell-le in_cell (code_text bytes es) in
      let short = escaped-short (cell_text in_cell (code_text bytes es)) in
      whole refl (omega (arith, text, less, short, r))
  inline-short in_cell inline.Html es said alt few all t f r a =
      let h = raw-within-short options (cell_text in_cell (html_text bytes es)) in
      let less = cell-le in_cell (html_text bytes es) in
      let text = lines-le bytes tab name.HtmlTextData 10 es in
      whole refl (omega (arith, h, less, text, r))
  inline-short in_cell inline.Autolink es said alt few all t f r a =
      let h = autolink-short options bytes es in
      let text = address-le bytes tab es in
      whole refl (omega (arith, h, text, r))
  inline-short in_cell inline.Www es said alt few all t f r a =
      let more = http-long said in
      let h = literal-short options (codes "http://") said (omega (arith, more)) in
      whole refl (omega (arith, h, t, f))
  inline-short in_cell inline.Email es said alt few all t f r a =
      let more = mailto-long said in
      let h = literal-short options (codes "mailto:") said (omega (arith, more)) in
      whole refl (omega (arith, h, t, f))
  inline-short in_cell inline.Address es said alt few all t f r a =
      let h = literal-short options [] said (omega arith) in
      whole refl (omega (arith, h, t, f))
  inline-short in_cell inline.Link es said alt few all t f r a =
      let p = parts_in_link bytes known.lookup es in
      let h = link-short options p in
      let most = leads es in
      led (link-inside options p) refl (omega (arith, h, most, r))
  inline-short in_cell inline.Image es said alt few all t f r a =
      let p = parts_in_link bytes known.lookup es in
      let h = image-short options alt p in
      let most = leads es in
      whole (image-inside options alt p) (omega (arith, h, most, r, a))
  inline-short in_cell inline.Check es said alt few all t f r a = whole refl (omega arith)
  inline-short in_cell inline.Call es said alt few all t f r a =
      let place = place_of_first es in
      call-short digits (known.called place) few all (0 + (digits + 8)) (λ c is. brief place c is) (omega arith)
  inline-short in_cell inline.Tail es said alt few all t f r a = whole refl (omega arith)
  inline-short in_cell inline.Other es said alt few all t f r a = let short = escaped-short said in thin refl (omega (arith, short, t))

  -- a box is 48 bytes
  check-by : (checked : Bool) (i : Inline) (few all own : ℕ) → 1 ≤ all → IsShort i (check checked) few all own
  check-by true i few all own r = whole refl (omega (arith, r))
  check-by false i few all own r = whole refl (omega (arith, r))

  paragraph-by : (is checked : Bool) (i : Inline) (s : Shape) (few all own : ℕ) → 1 ≤ all → IsShort i s few all own → IsShort i (cond is (check checked) s) few all own
  paragraph-by true checked i s few all own r h = check-by checked i few all own r
  paragraph-by false checked i s few all own r h = h

  by-name-short : (m : Mode) (columns : List Event) (n : Name) (es : List Event) (loose : Bool) (start : Option ℕ) (said alt : List ℕ) (few all : ℕ) → length (flat_map attribute (ordered start)) ≤ 18 → length said ≤ few → few ≤ all
      → room tab es + 1 ≤ all → length alt ≤ all → IsShort (inline_of n) (shape_by options bytes known tab m columns n es loose start said alt) few all (own_at (inline_of n) es)
  by-name-short mode.Flow columns n es loose start said alt few all s t f r a =
      let i = inline_of n in
      let own = own_at i es in
      each-block (λ b. IsShort i (block_shape options bytes known tab false b es loose start) few all own) n (λ b left. block-short i false b es loose start few all own left s r) (nothing-short i few all own)
  by-name-short mode.Tight columns n es loose start said alt few all s t f r a =
      let i = inline_of n in
      let own = own_at i es in
      each-block (λ b. IsShort i (block_shape options bytes known tab true b es loose start) few all own) n (λ b left. block-short i true b es loose start few all own left s r) (nothing-short i few all own)
  by-name-short mode.LooseItems columns n es loose start said alt few all s t f r a =
      let i = inline_of n in
      let own = own_at i es in
      each-block (λ b. IsShort i (item_shape false b) few all own) n (λ b left. item-short i false b few all own left) (nothing-short i few all own)
  by-name-short mode.TightItems columns n es loose start said alt few all s t f r a =
      let i = inline_of n in
      let own = own_at i es in
      each-block (λ b. IsShort i (item_shape true b) few all own) n (λ b left. item-short i true b few all own left) (nothing-short i few all own)
  by-name-short mode.Heading columns n es loose start said alt few all s t f r a =
      let i = inline_of n in
      let own = own_at i es in
      each-block (λ b. IsShort i (heading_shape b) few all own) n (λ b left. title-of-heading i b few all own left) (nothing-short i few all own)
  by-name-short mode.Table columns n es loose start said alt few all s t f r a =
      let i = inline_of n in
      let own = own_at i es in
      each-block (λ b. IsShort i (table_shape b es) few all own) n (λ b left. part-short i b es few all own left) (nothing-short i few all own)
  by-name-short (mode.Rows head) columns n es loose start said alt few all s t f r a =
      let i = inline_of n in
      let own = own_at i es in
      each-block (λ b. IsShort i (row_shape head b) few all own) n (λ b left. row-short i head b few all own left) (nothing-short i few all own)
  by-name-short (mode.Cells head) columns n es loose start said alt few all s t f r a =
      let i = inline_of n in
      let own = own_at i es in
      each-block (λ b. IsShort i (cell_shape head columns b) few all own) n (λ b left. cell-short i head columns b few all own left) (nothing-short i few all own)
  by-name-short mode.Paragraph columns n es loose start said alt few all s t f r a =
      let i = inline_of n in
      paragraph-by (is_check i) (is_checked es) i (inline_shape options bytes known tab (is_in_cell columns) i es said alt) few all (own_at i es) (omega (arith, r)) (inline-short (is_in_cell columns) i es said alt few all t f r a)
  by-name-short mode.Text columns n es loose start said alt few all s t f r a = inline-short (is_in_cell columns) (inline_of n) es said alt few all t f r a
  by-name-short mode.Nothing columns n es loose start said alt few all s t f r a = nothing-short (inline_of n) few all (own_at (inline_of n) es)

  -- ---- what is in a shape has room for the cells that a row lacks, if it is a row

  blocks-room : (tight : Bool) → spare (blocks tight) ≡ 0
  blocks-room true = refl
  blocks-room false = refl

  items-room : (loose : Bool) → spare (items loose) ≡ 0
  items-room true = refl
  items-room false = refl

  shape-room : (c : Bool) (x y : Shape) (n : ℕ) → spare x.inside ≤ n → spare y.inside ≤ n → spare (cond c x y).inside ≤ n
  shape-room true x y n h k = h
  shape-room false x y n h k = k

  block-room : (tight : Bool) (b : Block) (es : List Event) (loose : Bool) (start : Option ℕ) → spare (block_shape options bytes known tab tight b es loose start).inside ≤ row_room b
  block-room tight block.Paragraph es loose start = shape-room tight (through mode.Paragraph) (line Paragraph mode.Paragraph) 0 (omega arith) (omega arith)
  block-room tight block.Bullets es loose start = let h = items-room loose in omega (arith, h)
  block-room tight block.Numbers es loose start = let h = items-room loose in omega (arith, h)
  block-room tight block.Item es loose start = let h = blocks-room tight in omega (arith, h)
  block-room tight block.HeadingAtx es loose start = omega arith
  block-room tight block.HeadingSetext es loose start = omega arith
  block-room tight block.HeadingText es loose start = omega arith
  block-room tight block.Quote es loose start = omega arith
  block-room tight block.Fenced es loose start = omega arith
  block-room tight block.Indented es loose start = omega arith
  block-room tight block.Html es loose start = omega arith
  block-room tight block.Rule es loose start = omega arith
  block-room tight block.Table es loose start = omega arith
  block-room tight block.TableHead es loose start = omega arith
  block-room tight block.TableBody es loose start = omega arith
  block-room tight block.TableRow es loose start = omega arith
  block-room tight block.TableCell es loose start = omega arith
  block-room tight block.Other es loose start = omega arith

  item-room : (tight : Bool) (b : Block) → spare (item_shape tight b).inside ≤ row_room b
  item-room tight block.Item = let h = blocks-room tight in omega (arith, h)
  item-room tight block.Paragraph = omega arith
  item-room tight block.HeadingAtx = omega arith
  item-room tight block.HeadingSetext = omega arith
  item-room tight block.HeadingText = omega arith
  item-room tight block.Quote = omega arith
  item-room tight block.Bullets = omega arith
  item-room tight block.Numbers = omega arith
  item-room tight block.Fenced = omega arith
  item-room tight block.Indented = omega arith
  item-room tight block.Html = omega arith
  item-room tight block.Rule = omega arith
  item-room tight block.Table = omega arith
  item-room tight block.TableHead = omega arith
  item-room tight block.TableBody = omega arith
  item-room tight block.TableRow = omega arith
  item-room tight block.TableCell = omega arith
  item-room tight block.Other = omega arith

  heading-room : (b : Block) → spare (heading_shape b).inside ≤ row_room b
  heading-room block.Paragraph = omega arith
  heading-room block.HeadingAtx = omega arith
  heading-room block.HeadingSetext = omega arith
  heading-room block.HeadingText = omega arith
  heading-room block.Quote = omega arith
  heading-room block.Bullets = omega arith
  heading-room block.Numbers = omega arith
  heading-room block.Item = omega arith
  heading-room block.Fenced = omega arith
  heading-room block.Indented = omega arith
  heading-room block.Html = omega arith
  heading-room block.Rule = omega arith
  heading-room block.Table = omega arith
  heading-room block.TableHead = omega arith
  heading-room block.TableBody = omega arith
  heading-room block.TableRow = omega arith
  heading-room block.TableCell = omega arith
  heading-room block.Other = omega arith

  table-room : (b : Block) (es : List Event) → spare (table_shape b es).inside ≤ row_room b
  table-room block.TableBody es = shape-room (list_any (enters name.GfmTableRow) es) (container TableBody [] (mode.Rows false)) (alone []) 0 (omega arith) (omega arith)
  table-room block.Paragraph es = omega arith
  table-room block.HeadingAtx es = omega arith
  table-room block.HeadingSetext es = omega arith
  table-room block.HeadingText es = omega arith
  table-room block.Quote es = omega arith
  table-room block.Bullets es = omega arith
  table-room block.Numbers es = omega arith
  table-room block.Item es = omega arith
  table-room block.Fenced es = omega arith
  table-room block.Indented es = omega arith
  table-room block.Html es = omega arith
  table-room block.Rule es = omega arith
  table-room block.Table es = omega arith
  table-room block.TableHead es = omega arith
  table-room block.TableRow es = omega arith
  table-room block.TableCell es = omega arith
  table-room block.Other es = omega arith

  row-fits : (head : Bool) (b : Block) → spare (row_shape head b).inside ≤ row_room b
  row-fits head block.Paragraph = omega arith
  row-fits head block.HeadingAtx = omega arith
  row-fits head block.HeadingSetext = omega arith
  row-fits head block.HeadingText = omega arith
  row-fits head block.Quote = omega arith
  row-fits head block.Bullets = omega arith
  row-fits head block.Numbers = omega arith
  row-fits head block.Item = omega arith
  row-fits head block.Fenced = omega arith
  row-fits head block.Indented = omega arith
  row-fits head block.Html = omega arith
  row-fits head block.Rule = omega arith
  row-fits head block.Table = omega arith
  row-fits head block.TableHead = omega arith
  row-fits head block.TableBody = omega arith
  row-fits head block.TableRow = omega arith
  row-fits head block.TableCell = omega arith
  row-fits head block.Other = omega arith

  cell-room-by : (head : Bool) (o : Option (List Event)) → spare (elim o as (λ (_ : Option (List Event)). Shape) [ None ↦ alone [] | Some column ↦ cell head (alignment_of column) ]).inside ≡ 0
  cell-room-by head None = refl
  cell-room-by head (Some column) = refl

  cell-room : (head : Bool) (columns : List Event) (b : Block) → spare (cell_shape head columns b).inside ≤ row_room b
  cell-room head columns block.TableCell = let h = cell-room-by head (first_in name.GfmTableDelimiterCell columns) in omega (arith, h)
  cell-room head columns block.Paragraph = omega arith
  cell-room head columns block.HeadingAtx = omega arith
  cell-room head columns block.HeadingSetext = omega arith
  cell-room head columns block.HeadingText = omega arith
  cell-room head columns block.Quote = omega arith
  cell-room head columns block.Bullets = omega arith
  cell-room head columns block.Numbers = omega arith
  cell-room head columns block.Item = omega arith
  cell-room head columns block.Fenced = omega arith
  cell-room head columns block.Indented = omega arith
  cell-room head columns block.Html = omega arith
  cell-room head columns block.Rule = omega arith
  cell-room head columns block.Table = omega arith
  cell-room head columns block.TableHead = omega arith
  cell-room head columns block.TableBody = omega arith
  cell-room head columns block.TableRow = omega arith
  cell-room head columns block.Other = omega arith

  image-room : (alt : List ℕ) (q : Option Parts) → spare (image_of options alt q).inside ≡ 0
  image-room alt None = refl
  image-room alt (Some q) = refl

  link-room : (q : Option Parts) → spare (link_to options q).inside ≡ 0
  link-room None = refl
  link-room (Some q) = refl

  called-room : (o : Option Called) → spare (call_shape o).inside ≡ 0
  called-room None = refl
  called-room (Some c) = refl

  inline-room : (in_cell : Bool) (i : Inline) (es : List Event) (said alt : List ℕ) → spare (inline_shape options bytes known tab in_cell i es said alt).inside ≡ 0
  inline-room in_cell inline.Link es said alt = link-room (parts_in_link bytes known.lookup es)
  inline-room in_cell inline.Image es said alt = image-room alt (parts_in_link bytes known.lookup es)
  inline-room in_cell inline.Ending es said alt = refl
  inline-room in_cell inline.Break es said alt = refl
  inline-room in_cell inline.Emphasis es said alt = refl
  inline-room in_cell inline.Strong es said alt = refl
  inline-room in_cell inline.Struck es said alt = refl
  inline-room in_cell inline.Code es said alt = refl
  inline-room in_cell inline.Html es said alt = refl
  inline-room in_cell inline.Autolink es said alt = refl
  inline-room in_cell inline.Www es said alt = refl
  inline-room in_cell inline.Email es said alt = refl
  inline-room in_cell inline.Address es said alt = refl
  inline-room in_cell inline.Check es said alt = refl
  inline-room in_cell inline.Call es said alt = called-room (known.called (place_of_first es))
  inline-room in_cell inline.Tail es said alt = refl
  inline-room in_cell inline.Other es said alt = refl

  paragraph-room : (c : Bool) (x y : Shape) → spare x.inside ≡ 0 → spare y.inside ≡ 0 → spare (cond c x y).inside ≡ 0
  paragraph-room true x y h k = h
  paragraph-room false x y h k = k

  by-name-room : (m : Mode) (columns : List Event) (n : Name) (es : List Event) (loose : Bool) (start : Option ℕ) (said alt : List ℕ)
      → spare (shape_by options bytes known tab m columns n es loose start said alt).inside ≤ row_room (block_of n)
  by-name-room mode.Flow columns n es loose start said alt = block-room false (block_of n) es loose start
  by-name-room mode.Tight columns n es loose start said alt = block-room true (block_of n) es loose start
  by-name-room mode.LooseItems columns n es loose start said alt = item-room false (block_of n)
  by-name-room mode.TightItems columns n es loose start said alt = item-room true (block_of n)
  by-name-room mode.Heading columns n es loose start said alt = heading-room (block_of n)
  by-name-room mode.Table columns n es loose start said alt = table-room (block_of n) es
  by-name-room (mode.Rows head) columns n es loose start said alt = row-fits head (block_of n)
  by-name-room (mode.Cells head) columns n es loose start said alt = cell-room head columns (block_of n)
  by-name-room mode.Paragraph columns n es loose start said alt =
      let c = is_in_cell columns in
      let i = inline_of n in
      let h = paragraph-room (is_check i) (check (is_checked es)) (inline_shape options bytes known tab c i es said alt) refl (inline-room c i es said alt) in
      omega (arith, h)
  by-name-room mode.Text columns n es loose start said alt = let h = inline-room (is_in_cell columns) (inline_of n) es said alt in omega (arith, h)
  by-name-room mode.Nothing columns n es loose start said alt = omega arith

  -- ---- spans

  abbrev all_of : Mode → (columns : List Event) → Spans → List Piece
  all_of m columns s = pieces options bytes known tab m columns s

  abbrev here_of : Mode → (columns : List Event) → (e f : Event) → Spans → Shape
  here_of m columns e f s = shape options bytes known tab m columns e f s

  abbrev within_of : (columns : List Event) → Event → Spans → List Event
  within_of columns e s = columns_in (block_of e.name) columns (events_of s)

  abbrev behind_of : (columns : List Event) → Event → List Event
  behind_of columns e = columns_behind (block_of e.name) columns

  -- the room of an enter
  abbrev first_of : (e f : Event) → (s behind : Spans) → ℕ
  first_of e f s behind = 4 * ahead e (events_of s ++ f ∷ events_of behind) + (tab + 1)

  abbrev room_of : Spans → ℕ
  room_of s = room tab (events_of s)

  abbrev count_of : Spans → ℕ
  count_of s = length (events_of s)

  abbrev references_of : Spans → ℕ
  references_of s = references bytes size s

  abbrev pub calls_room : Spans → ℕ
  calls_room Nothing = 0
  calls_room (Span e f s behind) = call_room (inline_of e.name) + (calls_room s + calls_room behind)

  abbrev left_of : Spans → ℕ
  left_of s = references_of s + calls_room s

  abbrev own_of : Event → Spans → ℕ
  own_of e s = own_at (inline_of e.name) (events_of s)

  shape-short : (m : Mode) (columns : List Event) (e f : Event) (s behind : Spans)
      → IsShort (inline_of e.name) (here_of m columns e f s) (first_of e f s behind) (first_of e f s behind + room_of s) (own_of e s)
  shape-short m columns e f s behind =
      let es = events_of s in
      let own = said-le bytes e f s (events_of behind) in
      let alt = alt-le bytes tab s in
      by-name-short m columns e.name es (is_loose es) (list_start bytes es) (said bytes e f s) (alt_of bytes s) (first_of e f s behind) (first_of e f s behind + room_of s) (start-short bytes es)
      (omega (arith, own)) (omega arith) (omega arith) (omega (arith, alt))

  inside-room : (m : Mode) (columns : List Event) (e f : Event) (s : Spans) → spare (here_of m columns e f s).inside ≤ row_room (block_of e.name)
  inside-room m columns e f s = let es = events_of s in by-name-room m columns e.name es (is_loose es) (list_start bytes es) (said bytes e f s) (alt_of bytes s)

  none-written : (columns : List Event) (s : Spans) → longs (all_of mode.Nothing columns s) ≡ 0
  none-written columns Nothing = refl
  none-written columns (Span e f s behind) =
      let all = longs-append (all_of mode.Nothing (within_of columns e s) s) (all_of mode.Nothing (behind_of columns e) behind) in
      let inner = none-written (within_of columns e s) s in
      let rest = none-written (behind_of columns e) behind in
      omega (arith, all, inner, rest)

  span-room : (e f : Event) (s behind : Spans) → (first_of e f s behind + room_of s) + (room_of behind + 1) ≤ room_of (Span e f s behind)
  span-room e f s behind = let h = room-append tab (events_of s) (f ∷ events_of behind) in omega (arith, h)

  span-count : (e f : Event) (s behind : Spans) → count_of (Span e f s behind) ≡ (count_of s + count_of behind) + 2
  span-count e f s behind = let h = length-append (events_of s) (f ∷ events_of behind) in omega (arith, h)

  abbrev IsBelow : (most : ℕ) → Mode → (columns : List Event) → Spans → Type 0
  IsBelow most m columns s = longs (all_of m columns s) ≤ (((most + 24 * count_of s) + 9 * left_of s) + 2500 * rows s) + spare m

  abbrev inner_of : Mode → (columns : List Event) → (e f : Event) → Spans → List Piece
  inner_of m columns e f s = all_of (here_of m columns e f s).inside (within_of columns e s) s

  -- a span with no link in it
  linkless-by : (m : Mode) (columns : List Event) (e f : Event) (s behind : Spans)
      → IsShort (inline_of e.name) (here_of m columns e f s) (first_of e f s behind) (first_of e f s behind + room_of s) (own_of e s) → has_links_by (inline_of e.name) (has_links s) ≡ false
      → (has_links s ≡ false → IsBelow (21 * room_of s) (here_of m columns e f s).inside (within_of columns e s) s) → IsBelow (21 * room_of behind) m (behind_of columns e) behind
      → IsBelow (21 * room_of (Span e f s behind)) m columns (Span e f s behind)
  linkless-by m columns e f s behind (thin left bound) none inner rest =
      let i = inline_of e.name in
      let within = inner (unlinked i (has_links s) left none) in
      let spares = inside-room m columns e f s in
      let all = longs-span (here_of m columns e f s) (inner_of m columns e f s) (all_of m (behind_of columns e) behind) in
      let rooms = span-room e f s behind in
      let count = span-count e f s behind in
      let more = referred-inner i (events_of s) (references_of s) left in
      omega (arith, bound, within, spares, rest, all, rooms, count, more)
  linkless-by m columns e f s behind (whole is bound) none inner rest =
      let i = inline_of e.name in
      let within = ap (λ w. longs (all_of w (within_of columns e s) s)) is ∙ none-written (within_of columns e s) s in
      let all = longs-span (here_of m columns e f s) (inner_of m columns e f s) (all_of m (behind_of columns e) behind) in
      let rooms = span-room e f s behind in
      let count = span-count e f s behind in
      let more = referred-own i (events_of s) (references_of s) in
      omega (arith, bound, within, rest, all, rooms, count, more)
  linkless-by m columns e f s behind (led is link bound) none inner rest = absurd (false≢true (sym none ∙ ap (λ i. has_links_by i (has_links s)) link))

  linkless : (m : Mode) (columns : List Event) (s : Spans) → has_links s ≡ false → IsBelow (21 * room_of s) m columns s
  linkless m columns Nothing h = let few = left-short m columns in omega (arith, few)
  linkless m columns (Span e f s behind) h =
      let parts = or_parts (has_links_by (inline_of e.name) (has_links s)) (has_links behind) h in
      linkless-by m columns e f s behind (shape-short m columns e f s behind) parts.0 (λ none. linkless (here_of m columns e f s).inside (within_of columns e s) s none)
      (linkless m (behind_of columns e) behind parts.1)

  -- a span with no link in a link
  apart-by : (m : Mode) (columns : List Event) (e f : Event) (s behind : Spans)
      → IsShort (inline_of e.name) (here_of m columns e f s) (first_of e f s behind) (first_of e f s behind + room_of s) (own_of e s) → is_linked (inline_of e.name) (has_links s) ≡ false
      → IsBelow (36 * room_of s) (here_of m columns e f s).inside (within_of columns e s) s → IsBelow (36 * room_of behind) m (behind_of columns e) behind
      → IsBelow (36 * room_of (Span e f s behind)) m columns (Span e f s behind)
  apart-by m columns e f s behind (thin left bound) none inner rest =
      let i = inline_of e.name in
      let spares = inside-room m columns e f s in
      let all = longs-span (here_of m columns e f s) (inner_of m columns e f s) (all_of m (behind_of columns e) behind) in
      let rooms = span-room e f s behind in
      let count = span-count e f s behind in
      let more = referred-inner i (events_of s) (references_of s) left in
      omega (arith, bound, inner, spares, rest, all, rooms, count, more)
  apart-by m columns e f s behind (whole is bound) none inner rest =
      let i = inline_of e.name in
      let within = ap (λ w. longs (all_of w (within_of columns e s) s)) is ∙ none-written (within_of columns e s) s in
      let all = longs-span (here_of m columns e f s) (inner_of m columns e f s) (all_of m (behind_of columns e) behind) in
      let rooms = span-room e f s behind in
      let count = span-count e f s behind in
      let more = referred-own i (events_of s) (references_of s) in
      omega (arith, bound, within, rest, all, rooms, count, more)
  apart-by m columns e f s behind (led is link bound) none inner rest =
      let i = inline_of e.name in
      let free : has_links s ≡ false = ap (λ j. is_linked j (has_links s)) (sym link) ∙ none in
      let within = linkless (here_of m columns e f s).inside (within_of columns e s) s free in
      let spares = inside-room m columns e f s in
      let all = longs-span (here_of m columns e f s) (inner_of m columns e f s) (all_of m (behind_of columns e) behind) in
      let rooms = span-room e f s behind in
      let count = span-count e f s behind in
      let more = referred-link i (events_of s) (references_of s) link in
      omega (arith, bound, within, spares, rest, all, rooms, count, more)

  pub apart : (m : Mode) (columns : List Event) (s : Spans) → are_apart s ≡ true → IsBelow (36 * room_of s) m columns s
  apart m columns Nothing h = let few = left-short m columns in omega (arith, few)
  apart m columns (Span e f s behind) h =
      let i = inline_of e.name in
      let first = and_parts (not (is_linked i (has_links s))) (are_apart s && are_apart behind) h in
      let both = and_parts (are_apart s) (are_apart behind) first.1 in
      apart-by m columns e f s behind (shape-short m columns e f s behind) (not-true (is_linked i (has_links s)) first.0)
      (apart (here_of m columns e f s).inside (within_of columns e s) s both.0) (apart m (behind_of columns e) behind both.1)

  -- the room of calls is that of their number
  count-by : (i : Inline) → call_room i ≡ (digits + 8) * cond (is_call i) 1 0
  count-by i = by (is_call i)
    where
      by : (c : Bool) → cond c (digits + 8) 0 ≡ (digits + 8) * cond c 1 0
      by true = omega arith
      by false = omega arith

  pub calls-count : (s : Spans) → calls_room s ≡ (digits + 8) * calls s
  calls-count Nothing = omega arith
  calls-count (Span e f s behind) =
      let i = inline_of e.name in
      let one = count-by i in
      let inner = calls-count s in
      let rest = calls-count behind in
      let first = mul-add (digits + 8) (cond (is_call i) 1 0) (calls s + calls behind) in
      let second = mul-add (digits + 8) (calls s) (calls behind) in
      omega (arith, one, inner, rest, first, second)

pub html-short : HtmlIsShort
html-short options bytes known tab digits events balanced brief free =
    let s = spans_of events in
    let ps = pieces options bytes known tab mode.Flow [] s in
    let left = references bytes (λ label. length_of_parts (known.lookup label)) s in
    let bytes-of = html-longs true ps in
    let most = apart options bytes known tab digits brief mode.Flow [] s free in
    let count = calls-count options bytes known tab digits brief s in
    subst (λ (es : List Event). length (html_from true ps) ≤ (((36 * room tab es + 24 * length es) + 9 * left) + 9 * ((digits + 8) * calls s)) + 2500 * rows s) (keep-events events balanced)
    (omega (arith, bytes-of, most, count))
