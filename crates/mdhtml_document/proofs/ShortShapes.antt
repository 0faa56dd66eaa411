-- What one shape adds is short: its tags, attributes and numbers, and the cells that a row lacks.
use Rattle.std.proofs.Common.{◌≡◌, ℕ, suc, ◌+◌, ◌-◌, ◌*◌, ◌/◌, ◌<◌, ◌≤◌, List, [], ◌∷◌, ◌++◌, length, drop, ap, sym, refl, ◌∙◌, arith, lit<, Option, None, Some}
use Rattle.std.proofs.lemmas.Bool.{and_parts, false≢true}
use Rattle.std.proofs.lemmas.Bool.Decides.{nat_tests}
use Rattle.std.proofs.lemmas.Fmt.{length-decimal-le}
use Rattle.std.proofs.lemmas.List.{length-append}
use Rattle.std.proofs.lemmas.List.Concat.{flat_map-append}
use Rattle.std.specs.Fmt.{decimal}
use Rattle.std.specs.List.{flat_map, list_all, list_any}
use Rattle.std.specs.Option.{option_map_or}
use Rattle.std.specs.Prelude.{zero, ⊤, ◌==◌, ◌&&◌, ◌||◌, Bool, true, false, cond, codes, nat_le, option_and_then}
use denote.Enum.Bare.{same_true}
use Rattle.markdown_base.specs.contracts.event.Name.{the_type}
use Rattle.markdown_base.specs.declared.configuration.CompileOptions.{CompileOptions}
use Rattle.markdown_base.specs.declared.event.Event.{Event}
use Rattle.markdown_base.specs.declared.event.Name.{Name}
use Rattle.markdown_base.specs.declared.event.Name.TheVariants as name
use Rattle.markdown_base.specs.Events.{same_name}
use Rattle.mdblock_containers.specs.Lists.{Met, digits_at, in_first_prefix, is_digit, list_start, number_from, number_of}
use Rattle.mddocument_link_targets.specs.declared.targets.Parts.{Parts}
use Rattle.mddocument_link_targets.specs.Spans.{enters, first_in}
use Rattle.mdhtml_document.specs.declared.names.Block.{Block}
use Rattle.mdhtml_document.specs.declared.names.Block.TheVariants as block
use Rattle.mdhtml_document.specs.declared.names.Inline.{Inline}
use Rattle.mdhtml_document.specs.declared.names.Inline.TheVariants as inline
use Rattle.mdhtml_document.specs.declared.shapes.Mode.{Mode}
use Rattle.mdhtml_document.specs.declared.shapes.Mode.TheVariants as mode
use Rattle.mdhtml_document.specs.Html.{Shape, address_at, address_link, aligned, alignment_of, alone, autolink, behind_column, blocks, cell, cell_element, cell_shape, code, container, empty_cell, empty_cells, heading, heading_shape, image_of, item_shape, lacking, line, link_to, literal, ordered, raw, raw_within, row_shape, table_shape, titled}
use Rattle.mdhtml_document.specs.HtmlLaws.{has_links_by, is_row}
use Rattle.mdhtml_document.specs.Names.{block_of, blocks_by_name, inline_of}
use Rattle.mdhtml_document.specs.Values.{autolink_address, is_email}
use Rattle.mdhtml_document.specs.Walks.{is_left}
use Rattle.mdhtml_document.proofs.Entered.{named-each}
use Rattle.mdhtml_document.proofs.Rooms.{cond-le}
use Rattle.mdhtml_document.proofs.Safe.{all-taken}
use Rattle.mdhtml_markup.specs.Addresses.{allowed, written_address}
use Rattle.mdhtml_markup.specs.declared.addresses.Place.{Place}
use Rattle.mdhtml_markup.specs.declared.addresses.Place.TheVariants as place
use Rattle.mdhtml_markup.specs.declared.elements.Alignment.{Alignment}
use Rattle.mdhtml_markup.specs.declared.elements.Alignment.TheVariants as alignment
use Rattle.mdhtml_markup.specs.declared.elements.AttributeName.{AttributeName}
use Rattle.mdhtml_markup.specs.declared.elements.AttributeName.TheVariants as attr
use Rattle.mdhtml_markup.specs.declared.elements.Element.{Element}
use Rattle.mdhtml_markup.specs.declared.elements.Element.TheVariants.{Anchor, Code, DataCell, HeaderCell, Image, ListItem, TableBody, TableHead, TableRow}
use Rattle.mdhtml_markup.specs.Escapes.{escaped, kept, kept_byte, replacement}
use Rattle.mdhtml_markup.specs.Pieces.{Alt, Attribute, Close, Feed, Fresh, Href, Kept, Open, Piece, Src, Start, Text, Title, Void, attribute, html_from, is_fresh, written}
use Rattle.mdhtml_markup.specs.SafeHtml.{close_tag, is_allowed, name_of, open_tag, quoted, void_tag}
use Rattle.mdhtml_markup.specs.TagFilter.{filtered, filtered_byte, first_filtered, is_filtered}
use Rattle.mdhtml_markup.proofs.AddressLemmas.{addresses-short}
use Rattle.mdhtml_markup.proofs.Texts.{escaped-short}

-- ---- pieces

-- how long pieces are at most: with a line feed wherever one may be
abbrev pub longs : List Piece → ℕ
longs [] = 0
longs (p ∷ ps) = length (written false p) + longs ps

pub longs-append : (ps qs : List Piece) → longs (ps ++ qs) ≡ longs ps + longs qs
longs-append [] qs = omega arith
longs-append (p ∷ ps) qs = let h = longs-append ps qs in omega (arith, h)

pub longs-span : (here : Shape) (inner rest : List Piece) → longs (here.opened ++ (inner ++ (here.closed ++ rest))) ≡ ((longs here.opened + longs here.closed) + longs inner) + longs rest
longs-span here inner rest =
    let a = longs-append here.opened (inner ++ (here.closed ++ rest)) in
    let b = longs-append inner (here.closed ++ rest) in
    let c = longs-append here.closed rest in
    omega (arith, a, b, c)

piece-short : (fresh : Bool) (p : Piece) → length (written fresh p) ≤ length (written false p)
piece-short fresh (Open e attributes) = omega arith
piece-short fresh (Void e attributes) = omega arith
piece-short fresh (Close e) = omega arith
piece-short fresh (Text t) = omega arith
piece-short fresh (Kept h) = omega arith
piece-short fresh Feed = omega arith
piece-short true Fresh = omega arith
piece-short false Fresh = omega arith

pub html-longs : (fresh : Bool) (ps : List Piece) → length (html_from fresh ps) ≤ longs ps
html-longs fresh [] = omega arith
html-longs fresh (p ∷ ps) =
    let here = piece-short fresh p in
    let rest = html-longs (is_fresh fresh (written fresh p)) ps in
    let long = length-append (written fresh p) (html_from (is_fresh fresh (written fresh p)) ps) in
    omega (arith, here, rest, long)

-- ---- texts and addresses

kept-by : (b : ℕ) → length (kept_byte b) ≤ 3
kept-by b = cond-le (b == 0) replacement (b ∷ []) 3 (omega arith) (omega arith)

kept-short : (h : List ℕ) → length (kept h) ≤ 3 * length h
kept-short [] = omega arith
kept-short (b ∷ bs) =
    let here = kept-by b in
    let rest = kept-short bs in
    let long = length-append (kept_byte b) (kept bs) in
    omega (arith, here, rest, long)

-- of HTML whose tags are filtered, a byte becomes four at most
filtered-byte-short : (t : Bool) (b : ℕ) → length (kept (cond t (codes "&lt;") (b ∷ []))) ≤ 4
filtered-byte-short true b = omega arith
filtered-byte-short false b = let short = kept-short (b ∷ []) in omega (arith, short)

-- and those behind it no more than six
filtered-behind : (b : ℕ) (bs others : List ℕ) → length (kept others) ≤ 6 * length bs → length (kept (filtered_byte b bs ++ others)) ≤ 6 * length (b ∷ bs)
filtered-behind b bs others rest =
    let here = filtered-byte-short (is_filtered (b ∷ bs)) b in
    let all = ap length (flat_map-append kept_byte (filtered_byte b bs) others) in
    let both = length-append (kept (filtered_byte b bs)) (kept others) in
    omega (arith, here, all, both, rest)

filtered-short : (h : List ℕ) → length (kept (filtered h)) ≤ 6 * length h
filtered-short [] = omega arith
filtered-short (b ∷ bs) = filtered-behind b bs (filtered bs) (filtered-short bs)

first-filtered-short : (h : List ℕ) → length (kept (first_filtered h)) ≤ 6 * length h
first-filtered-short [] = omega arith
first-filtered-short (b ∷ bs) = let rest = kept-short bs in filtered-behind b bs bs (omega (arith, rest))

-- one of two addresses
chosen : (c : Bool) (x y : List ℕ) (n : ℕ) → length (written_address x) ≤ n → length (written_address y) ≤ n → length (written_address (cond c x y)) ≤ n
chosen true x y n h k = h
chosen false x y n h k = k

at-short : (options : CompileOptions) (at : Place) (url : List ℕ) → length (written_address (address_at options at url)) ≤ length (written_address url)
at-short options place.Href url =
    let most = length (written_address url) in
    chosen options.allow_dangerous_protocol url (allowed place.Href url) most (omega arith) (chosen (is_allowed place.Href url) url [] most (omega arith) (omega arith))
at-short options place.Src url =
    let most = length (written_address url) in
    chosen (options.allow_dangerous_protocol || options.allow_any_img_src) url (allowed place.Src url) most (omega arith) (chosen (is_allowed place.Src url) url [] most (omega arith) (omega arith))

-- ---- attributes

-- a name of five letters at most; the others have a constant value
abbrev IsBrief : AttributeName → Type 0
IsBrief attr.Checked = ⊥
IsBrief attr.Disabled = ⊥
IsBrief attr.FootnoteBack = ⊥
IsBrief attr.FootnoteCall = ⊥
IsBrief attr.Footnotes = ⊥
IsBrief attr.Label = ⊥
IsBrief a = ⊤

pub quoted-short : (a : AttributeName) (value : List ℕ) → IsBrief a → length (quoted a value) ≤ length value + 9
quoted-short attr.Align value brief = let l = length-append value (codes "\"") in omega (arith, l)
quoted-short attr.Alt value brief = let l = length-append value (codes "\"") in omega (arith, l)
quoted-short attr.Checked value brief = absurd brief
quoted-short attr.Class value brief = let l = length-append value (codes "\"") in omega (arith, l)
quoted-short attr.Disabled value brief = absurd brief
quoted-short attr.FootnoteBack value brief = absurd brief
quoted-short attr.FootnoteCall value brief = absurd brief
quoted-short attr.FootnoteClass value brief = let l = length-append value (codes "\"") in omega (arith, l)
quoted-short attr.Footnotes value brief = absurd brief
quoted-short attr.Id value brief = let l = length-append value (codes "\"") in omega (arith, l)
quoted-short attr.Label value brief = absurd brief
quoted-short attr.Href value brief = let l = length-append value (codes "\"") in omega (arith, l)
quoted-short attr.InputType value brief = let l = length-append value (codes "\"") in omega (arith, l)
quoted-short attr.Src value brief = let l = length-append value (codes "\"") in omega (arith, l)
quoted-short attr.Start value brief = let l = length-append value (codes "\"") in omega (arith, l)
quoted-short attr.Title value brief = let l = length-append value (codes "\"") in omega (arith, l)

-- an attribute in front of others
pub first-short : (a : Attribute) (more : List Attribute) → length (flat_map attribute (a ∷ more)) ≡ length (attribute a) + length (flat_map attribute more)
first-short a more = length-append (attribute a) (flat_map attribute more)

address-short : (options : CompileOptions) (at : Place) (a : AttributeName) (url : List ℕ) → IsBrief a → length (quoted a (written_address (address_at options at url))) ≤ 9 * length url + 9
address-short options at a url brief =
    let q = quoted-short a (written_address (address_at options at url)) brief in
    let chosen = at-short options at url in
    let short = addresses-short url in
    omega (arith, q, chosen, short)

text-short : (a : AttributeName) (t : List ℕ) → IsBrief a → length (quoted a (escaped t)) ≤ 6 * length t + 9
text-short a t brief = let q = quoted-short a (escaped t) brief in let short = escaped-short t in omega (arith, q, short)

titled-short : (title : Option (List ℕ)) → length (flat_map attribute (titled title)) ≤ 6 * option_map_or length title 0 + 9
titled-short None = omega arith
titled-short (Some t) =
    let all = first-short (Title t) [] in
    let short = text-short attr.Title t tt in
    omega (arith, all, short)

-- how long what a link or an image leads to makes it
abbrev pub cost_of : Option Parts → ℕ
cost_of parts = option_map_or (λ p. 9 * length p.destination + 6 * option_map_or length p.title 0) parts 0

link-attributes : (options : CompileOptions) (p : Parts) → length (flat_map attribute (Href (address_at options place.Href p.destination) ∷ titled p.title)) ≤ cost_of (Some p) + 18
link-attributes options p =
    let all = first-short (Href (address_at options place.Href p.destination)) (titled p.title) in
    let here = address-short options place.Href attr.Href p.destination tt in
    let rest = titled-short p.title in
    omega (arith, all, here, rest)

image-attributes : (options : CompileOptions) (alt : List ℕ) (p : Parts)
    → length (flat_map attribute (Src (address_at options place.Src p.destination) ∷ (Alt alt ∷ titled p.title))) ≤ (cost_of (Some p) + 6 * length alt) + 27
image-attributes options alt p =
    let all = first-short (Src (address_at options place.Src p.destination)) (Alt alt ∷ titled p.title) in
    let more = first-short (Alt alt) (titled p.title) in
    let here = address-short options place.Src attr.Src p.destination tt in
    let described = text-short attr.Alt alt tt in
    let rest = titled-short p.title in
    omega (arith, all, more, here, described, rest)

-- ---- numbers of lists

-- what a number is below that so many digits may follow, if all nine are below a thousand million
abbrev below : ℕ → ℕ
below zero = 1000000000
below (suc k) = below k / 10

below-most : (k : ℕ) → below k ≤ 1000000000
below-most zero = omega arith
below-most (suc k) = let h = below-most k in omega (arith, h)

digit-most : (b : ℕ) → is_digit b ≡ true → b ≤ 57
digit-most b h = grind (arith, nat_tests)

number-below : (k n : ℕ) (ds : List ℕ) → length ds ≤ k → list_all is_digit ds ≡ true → n < below k → number_from n ds < 1000000000
number-below k n [] l a h = let m = below-most k in omega (arith, m, h)
number-below zero n (d ∷ ds) l a h = absurd (omega (arith, l))
number-below (suc k) n (d ∷ ds) l a h =
    let both = and_parts (is_digit d) (list_all is_digit ds) a in
    let most = digit-most d both.0 in
    number-below k (10 * n + (d - 48)) ds (omega (arith, l)) both.1 (omega (arith, h, most))

start-by : (one : Bool) (n : ℕ) → n < 1000000000 → length (flat_map attribute (cond one [] (Start n ∷ []))) ≤ 18
start-by true n h = omega arith
start-by false n h =
    let all = first-short (Start n) [] in
    let q = quoted-short attr.Start (decimal n) tt in
    let few : length (decimal n) ≤ 9 = length-decimal-le 9 n (lit< tt) (omega (arith, h)) (omega (arith, h)) in
    omega (arith, all, q, few)

number-by : (some few : Bool) (ds : List ℕ) → nat_le (length ds) 9 ≡ few → list_all is_digit ds ≡ true
    → length (flat_map attribute (ordered (cond (some && few) (Some (number_from 0 ds)) None))) ≤ 18
number-by false few ds h a = omega arith
number-by true false ds h a = omega arith
number-by true true ds h a =
    let nine : length ds ≤ 9 = grind (arith, nat_tests, h) in
    let one : below 9 ≡ 1 = refl in
    start-by (number_from 0 ds == 1) (number_from 0 ds) (number-below 9 0 ds nine a (omega (arith, one)))

start-of : (bytes : List ℕ) (o : Option Met) → length (flat_map attribute (ordered (option_and_then (λ m. number_of (digits_at bytes m.event.point.index)) o))) ≤ 18
start-of bytes None = omega arith
start-of bytes (Some m) =
    let ds = digits_at bytes m.event.point.index in
    number-by (nat_le 1 (length ds)) (nat_le (length ds) 9) ds refl (all-taken is_digit (drop m.event.point.index bytes))

pub start-short : (bytes : List ℕ) (es : List Event) → length (flat_map attribute (ordered (list_start bytes es))) ≤ 18
start-short bytes es = start-of bytes (in_first_prefix name.ListItemValue es)

-- ---- shapes

-- The beginning and the end of a shape are short: but for text of its own, if spans in it are written too; but for all texts in it, if it is written at
-- once; and but for where it leads, if it is a link. What labels are defined as is counted by itself
pub data IsShort (i : Inline) (s : Shape) (few all own : ℕ) : Type 0 where
  thin : is_left i ≡ false → longs s.opened + longs s.closed ≤ 48 + 6 * few → IsShort i s few all own
  whole : s.inside ≡ mode.Nothing → longs s.opened + longs s.closed ≤ (48 + 21 * all) + 9 * own → IsShort i s few all own
  led : s.inside ≡ mode.Text → i ≡ inline.Link → longs s.opened + longs s.closed ≤ (48 + 15 * all) + 9 * own → IsShort i s few all own

pub nothing-short : (i : Inline) (few all own : ℕ) → IsShort i (alone []) few all own
nothing-short i few all own = whole refl (omega arith)

pub tag-long : (e : Element) (attributes : List ℕ) → length (open_tag e attributes) ≡ (length (codes "<" ++ name_of e) + length attributes) + 1
tag-long e attributes =
    let all = length-append (codes "<" ++ name_of e) (attributes ++ codes ">") in
    let end = length-append attributes (codes ">") in
    omega (arith, all, end)

void-long : (e : Element) (attributes : List ℕ) → length (void_tag e attributes) ≡ (length (codes "<" ++ name_of e) + length attributes) + 3
void-long e attributes =
    let all = length-append (codes "<" ++ name_of e) (attributes ++ codes " />") in
    let end = length-append attributes (codes " />") in
    omega (arith, all, end)

pub line-short : (e : Element) (m : Mode) → length (open_tag e []) ≤ 16 → length (close_tag e) ≤ 16 → longs (line e m).opened + longs (line e m).closed ≤ 48
line-short e m o c = omega (arith, o, c)

pub container-short : (e : Element) (attributes : List Attribute) (m : Mode) → length (open_tag e (flat_map attribute attributes)) ≤ 24 → length (close_tag e) ≤ 16
    → longs (container e attributes m).opened + longs (container e attributes m).closed ≤ 48
container-short e attributes m o c = omega (arith, o, c)

abbrev IsSmall : Element → Type 0
IsSmall e = (length (open_tag e []) ≤ 16) × (length (close_tag e) ≤ 16)

small-by : (c : Bool) (d e : Element) → IsSmall d → IsSmall e → IsSmall (cond c d e)
small-by true d e p q = p
small-by false d e p q = q

heading-small : (rank : ℕ) → IsSmall (heading rank)
heading-small rank =
    small-by (rank == 1) _ _ (omega arith, omega arith)
    (small-by (rank == 2) _ _ (omega arith, omega arith)
    (small-by (rank == 3) _ _ (omega arith, omega arith)
    (small-by (rank == 4) _ _ (omega arith, omega arith)
    (small-by (rank == 5) _ _ (omega arith, omega arith) (omega arith, omega arith)))))

pub heading-short : (rank : ℕ) (m : Mode) → longs (line (heading rank) m).opened + longs (line (heading rank) m).closed ≤ 48
heading-short rank m = let small = heading-small rank in line-short (heading rank) m small.0 small.1

pub code-short : (attributes : List Attribute) (t : List ℕ) → longs (code attributes t).opened ≤ (length (flat_map attribute attributes) + 6 * length t) + 26
code-short attributes t =
    let tag = tag-long Code (flat_map attribute attributes) in
    let short = escaped-short t in
    omega (arith, tag, short)

pub link-short : (options : CompileOptions) (p : Option Parts) → longs (link_to options p).opened + longs (link_to options p).closed ≤ 48 + cost_of p
link-short options None = omega arith
link-short options (Some p) =
    let all = link-attributes options p in
    let tag = tag-long Anchor (flat_map attribute (Href (address_at options place.Href p.destination) ∷ titled p.title)) in
    omega (arith, all, tag)

pub link-inside : (options : CompileOptions) (p : Option Parts) → (link_to options p).inside ≡ mode.Text
link-inside options None = refl
link-inside options (Some p) = refl

pub image-short : (options : CompileOptions) (alt : List ℕ) (p : Option Parts)
    → longs (image_of options alt p).opened + longs (image_of options alt p).closed ≤ (48 + cost_of p) + 6 * length alt
image-short options alt None = let short = escaped-short alt in omega (arith, short)
image-short options alt (Some p) =
    let all = image-attributes options alt p in
    let tag = void-long Image (flat_map attribute (Src (address_at options place.Src p.destination) ∷ (Alt alt ∷ titled p.title))) in
    omega (arith, all, tag)

pub image-inside : (options : CompileOptions) (alt : List ℕ) (p : Option Parts) → (image_of options alt p).inside ≡ mode.Nothing
image-inside options alt None = refl
image-inside options alt (Some p) = refl

raw-by : (c f : Bool) (k h : List ℕ) → length (kept k) ≤ 6 * length h → length (written false (cond c (Kept (cond f k h)) (Text h))) ≤ 6 * length h
raw-by true true k h short = short
raw-by true false k h short = let kept = kept-short h in omega (arith, kept)
raw-by false f k h short = escaped-short h

pub raw-short : (options : CompileOptions) (h : List ℕ) → length (written false (raw options h)) ≤ 6 * length h
raw-short options h = raw-by options.allow_dangerous_html options.gfm_tagfilter (filtered h) h (filtered-short h)

pub raw-within-short : (options : CompileOptions) (h : List ℕ) → length (written false (raw_within options h)) ≤ 6 * length h
raw-within-short options h = raw-by options.allow_dangerous_html options.gfm_tagfilter (first_filtered h) h (first-filtered-short h)

address-link-short : (url t : List ℕ) → longs (address_link url t).opened ≤ (length (written_address url) + 6 * length t) + 16
address-link-short url t =
    let all = first-short (Href url) [] in
    let q = quoted-short attr.Href (written_address url) tt in
    let tag = tag-long Anchor (flat_map attribute (Href url ∷ [])) in
    let short = escaped-short t in
    omega (arith, all, q, tag, short)

pub mailto-long : (t : List ℕ) → length (written_address (codes "mailto:" ++ t)) ≡ length (written_address t) + 7
mailto-long t =
    let e : length (written_address (codes "mailto:" ++ t)) ≡ suc (suc (suc (suc (suc (suc (suc (length (written_address t)))))))) = refl in
    omega (arith, e)

pub http-long : (t : List ℕ) → length (written_address (codes "http://" ++ t)) ≡ length (written_address t) + 7
http-long t =
    let e : length (written_address (codes "http://" ++ t)) ≡ suc (suc (suc (suc (suc (suc (suc (length (written_address t)))))))) = refl in
    omega (arith, e)

pub literal-short : (options : CompileOptions) (scheme t : List ℕ) → length (written_address (scheme ++ t)) ≤ length (written_address t) + 7
    → longs (literal options scheme t).opened + longs (literal options scheme t).closed ≤ 48 + 15 * length t
literal-short options scheme t more =
    let url = address_at options place.Href (scheme ++ t) in
    let whole = address-link-short url t in
    let less = at-short options place.Href (scheme ++ t) in
    let short = addresses-short t in
    omega (arith, whole, less, short, more)

pub autolink-short : (options : CompileOptions) (bytes : List ℕ) (es : List Event)
    → longs (autolink options bytes es).opened + longs (autolink options bytes es).closed ≤ 48 + 15 * length (autolink_address bytes es)
autolink-short options bytes es =
    let t = autolink_address bytes es in
    let url = cond (is_email es) (codes "mailto:" ++ t) (address_at options place.Href t) in
    let mail = mailto-long t in
    let less = at-short options place.Href t in
    let short = addresses-short t in
    let one : length (written_address url) ≤ 9 * length t + 7 =
    chosen (is_email es) (codes "mailto:" ++ t) (address_at options place.Href t) (9 * length t + 7) (omega (arith, mail, short)) (omega (arith, less, short))
    in
    let whole = address-link-short url t in
    omega (arith, whole, one)

-- ---- names

no-image : (n m : Name) → is_left (inline_of m) ≡ false → same_name n m ≡ true → is_left (inline_of n) ≡ false
no-image n m h same = ap (λ x. is_left (inline_of x)) (same_true the_type tt n m same) ∙ h

-- no block is an image
pub each-block : (P : Block → Type 0) (n : Name) → ((b : Block) → is_left (inline_of n) ≡ false → P b) → P block.Other → P (block_of n)
each-block P n some other =
    named-each P blocks_by_name block.Other n (
      (λ e. some block.Paragraph (no-image n name.Paragraph refl e)),
      (
        (λ e. some block.HeadingAtx (no-image n name.HeadingAtx refl e)),
        (
          (λ e. some block.HeadingSetext (no-image n name.HeadingSetext refl e)),
          (
            (λ e. some block.HeadingText (no-image n name.HeadingAtxText refl e)),
            (
              (λ e. some block.HeadingText (no-image n name.HeadingSetextText refl e)),
              (
                (λ e. some block.Quote (no-image n name.BlockQuote refl e)),
                (
                  (λ e. some block.Bullets (no-image n name.ListUnordered refl e)),
                  (
                    (λ e. some block.Numbers (no-image n name.ListOrdered refl e)),
                    (
                      (λ e. some block.Item (no-image n name.ListItem refl e)),
                      (
                        (λ e. some block.Fenced (no-image n name.CodeFenced refl e)),
                        (
                          (λ e. some block.Indented (no-image n name.CodeIndented refl e)),
                          (
                            (λ e. some block.Html (no-image n name.HtmlFlow refl e)),
                            (
                              (λ e. some block.Rule (no-image n name.ThematicBreak refl e)),
                              (
                                (λ e. some block.Table (no-image n name.GfmTable refl e)),
                                (
                                  (λ e. some block.TableHead (no-image n name.GfmTableHead refl e)),
                                  (
                                    (λ e. some block.TableBody (no-image n name.GfmTableBody refl e)),
                                    (
                                      (λ e. some block.TableRow (no-image n name.GfmTableRow refl e)),
                                      (
                                        (λ e. some block.TableCell (no-image n name.GfmTableCell refl e)),
                                        ((λ e. some block.HeadingText (no-image n name.GfmTableCellText refl e)), tt),
                                      ),
                                    ),
                                  ),
                                ),
                              ),
                            ),
                          ),
                        ),
                      ),
                    ),
                  ),
                ),
              ),
            ),
          ),
        ),
      ),
    )
    other

pub item-short : (i : Inline) (tight : Bool) (b : Block) (few all own : ℕ) → is_left i ≡ false → IsShort i (item_shape tight b) few all own
item-short i tight block.Item few all own left = let h = line-short ListItem (blocks tight) (omega arith) (omega arith) in thin left (omega (arith, h))
item-short i tight block.Paragraph few all own left = nothing-short i few all own
item-short i tight block.HeadingAtx few all own left = nothing-short i few all own
item-short i tight block.HeadingSetext few all own left = nothing-short i few all own
item-short i tight block.HeadingText few all own left = nothing-short i few all own
item-short i tight block.Quote few all own left = nothing-short i few all own
item-short i tight block.Bullets few all own left = nothing-short i few all own
item-short i tight block.Numbers few all own left = nothing-short i few all own
item-short i tight block.Fenced few all own left = nothing-short i few all own
item-short i tight block.Indented few all own left = nothing-short i few all own
item-short i tight block.Html few all own left = nothing-short i few all own
item-short i tight block.Rule few all own left = nothing-short i few all own
item-short i tight block.Table few all own left = nothing-short i few all own
item-short i tight block.TableHead few all own left = nothing-short i few all own
item-short i tight block.TableBody few all own left = nothing-short i few all own
item-short i tight block.TableRow few all own left = nothing-short i few all own
item-short i tight block.TableCell few all own left = nothing-short i few all own
item-short i tight block.Other few all own left = nothing-short i few all own

pub title-of-heading : (i : Inline) (b : Block) (few all own : ℕ) → is_left i ≡ false → IsShort i (heading_shape b) few all own
title-of-heading i block.HeadingText few all own left = thin left (omega arith)
title-of-heading i block.Paragraph few all own left = nothing-short i few all own
title-of-heading i block.HeadingAtx few all own left = nothing-short i few all own
title-of-heading i block.HeadingSetext few all own left = nothing-short i few all own
title-of-heading i block.Quote few all own left = nothing-short i few all own
title-of-heading i block.Bullets few all own left = nothing-short i few all own
title-of-heading i block.Numbers few all own left = nothing-short i few all own
title-of-heading i block.Item few all own left = nothing-short i few all own
title-of-heading i block.Fenced few all own left = nothing-short i few all own
title-of-heading i block.Indented few all own left = nothing-short i few all own
title-of-heading i block.Html few all own left = nothing-short i few all own
title-of-heading i block.Rule few all own left = nothing-short i few all own
title-of-heading i block.Table few all own left = nothing-short i few all own
title-of-heading i block.TableHead few all own left = nothing-short i few all own
title-of-heading i block.TableBody few all own left = nothing-short i few all own
title-of-heading i block.TableRow few all own left = nothing-short i few all own
title-of-heading i block.TableCell few all own left = nothing-short i few all own
title-of-heading i block.Other few all own left = nothing-short i few all own

-- parts of tables
body-short : (i : Inline) (some : Bool) (few all own : ℕ) → is_left i ≡ false → IsShort i (cond some (container TableBody [] (mode.Rows false)) (alone [])) few all own
body-short i true few all own left = let h = container-short TableBody [] (mode.Rows false) (omega arith) (omega arith) in thin left (omega (arith, h))
body-short i false few all own left = nothing-short i few all own

pub part-short : (i : Inline) (b : Block) (es : List Event) (few all own : ℕ) → is_left i ≡ false → IsShort i (table_shape b es) few all own
part-short i block.TableHead es few all own left = let h = container-short TableHead [] (mode.Rows true) (omega arith) (omega arith) in thin left (omega (arith, h))
part-short i block.TableBody es few all own left = body-short i (list_any (enters name.GfmTableRow) es) few all own left
part-short i block.Paragraph es few all own left = nothing-short i few all own
part-short i block.HeadingAtx es few all own left = nothing-short i few all own
part-short i block.HeadingSetext es few all own left = nothing-short i few all own
part-short i block.HeadingText es few all own left = nothing-short i few all own
part-short i block.Quote es few all own left = nothing-short i few all own
part-short i block.Bullets es few all own left = nothing-short i few all own
part-short i block.Numbers es few all own left = nothing-short i few all own
part-short i block.Item es few all own left = nothing-short i few all own
part-short i block.Fenced es few all own left = nothing-short i few all own
part-short i block.Indented es few all own left = nothing-short i few all own
part-short i block.Html es few all own left = nothing-short i few all own
part-short i block.Rule es few all own left = nothing-short i few all own
part-short i block.Table es few all own left = nothing-short i few all own
part-short i block.TableRow es few all own left = nothing-short i few all own
part-short i block.TableCell es few all own left = nothing-short i few all own
part-short i block.Other es few all own left = nothing-short i few all own

pub row-short : (i : Inline) (head : Bool) (b : Block) (few all own : ℕ) → is_left i ≡ false → IsShort i (row_shape head b) few all own
row-short i head block.TableRow few all own left = let h = container-short TableRow [] (mode.Cells head) (omega arith) (omega arith) in thin left (omega (arith, h))
row-short i head block.Paragraph few all own left = nothing-short i few all own
row-short i head block.HeadingAtx few all own left = nothing-short i few all own
row-short i head block.HeadingSetext few all own left = nothing-short i few all own
row-short i head block.HeadingText few all own left = nothing-short i few all own
row-short i head block.Quote few all own left = nothing-short i few all own
row-short i head block.Bullets few all own left = nothing-short i few all own
row-short i head block.Numbers few all own left = nothing-short i few all own
row-short i head block.Item few all own left = nothing-short i few all own
row-short i head block.Fenced few all own left = nothing-short i few all own
row-short i head block.Indented few all own left = nothing-short i few all own
row-short i head block.Html few all own left = nothing-short i few all own
row-short i head block.Rule few all own left = nothing-short i few all own
row-short i head block.Table few all own left = nothing-short i few all own
row-short i head block.TableHead few all own left = nothing-short i few all own
row-short i head block.TableBody few all own left = nothing-short i few all own
row-short i head block.TableCell few all own left = nothing-short i few all own
row-short i head block.Other few all own left = nothing-short i few all own

-- the tags of a cell
alignment-short : (a : Option Alignment) → length (flat_map attribute (aligned a)) ≤ 15
alignment-short None = omega arith
alignment-short (Some alignment.Left) = omega arith
alignment-short (Some alignment.Center) = omega arith
alignment-short (Some alignment.Right) = omega arith

cell-tags : (head : Bool) (a : Option Alignment)
    → (length (open_tag (cell_element head) (flat_map attribute (aligned a))) ≤ 19) × (length (close_tag (cell_element head)) ≡ 5)
cell-tags true a =
    let tag = tag-long HeaderCell (flat_map attribute (aligned a)) in
    let few = alignment-short a in
    (omega (arith, tag, few), refl)
cell-tags false a =
    let tag = tag-long DataCell (flat_map attribute (aligned a)) in
    let few = alignment-short a in
    (omega (arith, tag, few), refl)

cell-by : (i : Inline) (head : Bool) (o : Option (List Event)) (few all own : ℕ) → is_left i ≡ false
    → IsShort i (elim o as (λ (_ : Option (List Event)). Shape) [ None ↦ alone [] | Some column ↦ cell head (alignment_of column) ]) few all own
cell-by i head None few all own left = nothing-short i few all own
cell-by i head (Some column) few all own left =
    let tags = cell-tags head (alignment_of column) in
    let o = tags.0 in
    let c = tags.1 in
    thin left (omega (arith, o, c))

pub cell-short : (i : Inline) (head : Bool) (columns : List Event) (b : Block) (few all own : ℕ) → is_left i ≡ false → IsShort i (cell_shape head columns b) few all own
cell-short i head columns block.TableCell few all own left = cell-by i head (first_in name.GfmTableDelimiterCell columns) few all own left
cell-short i head columns block.Paragraph few all own left = nothing-short i few all own
cell-short i head columns block.HeadingAtx few all own left = nothing-short i few all own
cell-short i head columns block.HeadingSetext few all own left = nothing-short i few all own
cell-short i head columns block.HeadingText few all own left = nothing-short i few all own
cell-short i head columns block.Quote few all own left = nothing-short i few all own
cell-short i head columns block.Bullets few all own left = nothing-short i few all own
cell-short i head columns block.Numbers few all own left = nothing-short i few all own
cell-short i head columns block.Item few all own left = nothing-short i few all own
cell-short i head columns block.Fenced few all own left = nothing-short i few all own
cell-short i head columns block.Indented few all own left = nothing-short i few all own
cell-short i head columns block.Html few all own left = nothing-short i few all own
cell-short i head columns block.Rule few all own left = nothing-short i few all own
cell-short i head columns block.Table few all own left = nothing-short i few all own
cell-short i head columns block.TableHead few all own left = nothing-short i few all own
cell-short i head columns block.TableBody few all own left = nothing-short i few all own
cell-short i head columns block.TableRow few all own left = nothing-short i few all own
cell-short i head columns block.Other few all own left = nothing-short i few all own

-- the cells that a row lacks
empty-by : (head : Bool) (o : Option (List Event)) (more : List Piece) (n : ℕ) → longs more ≤ 25 * n
    → longs (elim o as (λ (_ : Option (List Event)). List Piece) [ None ↦ [] | Some column ↦ empty_cell head (alignment_of column) ++ more ]) ≤ 25 * suc n
empty-by head None more n h = omega arith
empty-by head (Some column) more n h =
    let tags = cell-tags head (alignment_of column) in
    let o = tags.0 in
    let c = tags.1 in
    omega (arith, h, o, c)

empty-short : (most : ℕ) (head : Bool) (columns : List Event) → longs (empty_cells most head columns) ≤ 25 * most
empty-short zero head columns = omega arith
empty-short (suc n) head columns = empty-by head (first_in name.GfmTableDelimiterCell columns) (empty_cells n head (behind_column columns)) n (empty-short n head (behind_column columns))

-- the room that they have, and that rows have for them
abbrev pub spare : Mode → ℕ
spare (mode.Cells head) = 2500
spare m = 0

abbrev pub row_room : Block → ℕ
row_room b = 2500 * cond (is_row b) 1 0

pub left-short : (m : Mode) (columns : List Event) → longs (lacking m columns) ≤ spare m
left-short (mode.Cells head) columns = let h = empty-short 100 head columns in omega (arith, h)
left-short mode.Flow columns = omega arith
left-short mode.Tight columns = omega arith
left-short mode.LooseItems columns = omega arith
left-short mode.TightItems columns = omega arith
left-short mode.Heading columns = omega arith
left-short mode.Table columns = omega arith
left-short (mode.Rows head) columns = omega arith
left-short mode.Paragraph columns = omega arith
left-short mode.Text columns = omega arith
left-short mode.Nothing columns = omega arith

-- what has a link in it has one by itself, or is an image
pub unlinked : (i : Inline) (inner : Bool) → is_left i ≡ false → has_links_by i inner ≡ false → inner ≡ false
unlinked inline.Ending inner left h = h
unlinked inline.Break inner left h = h
unlinked inline.Emphasis inner left h = h
unlinked inline.Strong inner left h = h
unlinked inline.Struck inner left h = h
unlinked inline.Code inner left h = h
unlinked inline.Html inner left h = h
unlinked inline.Autolink inner left h = absurd (false≢true (sym h))
unlinked inline.Www inner left h = absurd (false≢true (sym h))
unlinked inline.Email inner left h = absurd (false≢true (sym h))
unlinked inline.Address inner left h = absurd (false≢true (sym h))
unlinked inline.Link inner left h = absurd (false≢true (sym h))
unlinked inline.Check inner left h = h
unlinked inline.Call inner left h = absurd (false≢true (sym h))
unlinked inline.Image inner left h = absurd (false≢true (sym left))
unlinked inline.Tail inner left h = h
unlinked inline.Other inner left h = h
