-- The HTML of a document is safe: each shape opens and closes its tags in order, and lets nothing through.
use Rattle.std.proofs.Common.{◌≡◌, ℕ, ◌+◌, List, [], ◌∷◌, ◌++◌, ap, sym, refl, subst, ◌∙◌, Option, None, Some, append_assoc, append-nil, take}
use Rattle.std.proofs.Math.Numerals.{one-add}
use Rattle.std.specs.Char.{is_ascii_whitespace}
use Rattle.std.specs.List.{list_all, list_any, prefix_len, take_while}
use Rattle.std.specs.Prelude.{zero, suc, ◌&&◌, ◌||◌, ◌==◌, ⊤, Bool, true, false, cond, codes, not}
use Rattle.markdown_base.specs.declared.configuration.CompileOptions.{CompileOptions}
use Rattle.markdown_base.specs.declared.event.Event.{Event}
use Rattle.markdown_base.specs.declared.event.Name.{Name}
use Rattle.markdown_base.specs.declared.event.Name.TheVariants as name
use Rattle.mdhtml_document.specs.declared.names.Block.{Block}
use Rattle.mdhtml_document.specs.declared.names.Block.TheVariants as block
use Rattle.mdhtml_document.specs.declared.names.Inline.{Inline}
use Rattle.mdhtml_document.specs.declared.names.Inline.TheVariants as inline
use Rattle.mdhtml_document.specs.declared.shapes.Mode.{Mode}
use Rattle.mdhtml_document.specs.declared.shapes.Mode.TheVariants as mode
use Rattle.mdhtml_document.specs.Html.{Known, Shape, address_at, address_link, aligned, alignment_of, autolink, behind_column, block_shape, blocks, call_shape, cell, cell_element, cell_shape, check, code, columns_behind, columns_in, container, empty_cell, empty_cells, heading, heading_shape, image_of, inline_shape, is_check, is_checked, is_in_cell, item_shape, items, language, lacking, length_of_first, line, link_to, literal, ordered, parts_in_link, pieces, raw, raw_or, row_shape, setext_rank, shape, shape_by, table_shape, through, titled, told, alone, within_line}
use Rattle.mdhtml_document.specs.declared.notes.Called.{Called}
use Rattle.mdhtml_document.specs.Notes.{place_of_first}
use Rattle.mdhtml_document.proofs.NoteIds.{call-id}
use Rattle.mdhtml_document.specs.HtmlLaws.{AreSafeOptions, HtmlIsSafe, HtmlKeepsText}
use Rattle.mdhtml_document.specs.Names.{block_of, inline_of}
use Rattle.mdhtml_document.specs.Spans.{Nothing, Span, Spans, events_of, spans_of}
use Rattle.mdhtml_document.specs.Values.{autolink_address, behind_first_line, cell_text, code_lines, html_flow, html_text, is_email}
use Rattle.mdhtml_markup.proofs.FlowSafe.{blocks-text}
use Rattle.mdhtml_markup.specs.Addresses.{allowed}
use Rattle.mdhtml_markup.specs.declared.addresses.Place.{Place}
use Rattle.mdhtml_markup.specs.declared.addresses.Place.TheVariants as place
use Rattle.mdhtml_markup.specs.declared.elements.Alignment.{Alignment}
use Rattle.mdhtml_markup.specs.declared.elements.Element.{Element}
use Rattle.mdhtml_markup.specs.declared.elements.Element.TheVariants.{Anchor, BlockQuote, Code, Deleted, Emphasis, Image, ListItem, OrderedList, Paragraph, Strong, Table, TableBody, TableHead, TableRow, UnorderedList}
use Rattle.mdhtml_markup.specs.Pieces.{Alt, Attribute, Close, Feed, Fresh, Href, Kept, Piece, Src, Start, Text}
use Rattle.mdhtml_markup.specs.TagFilter.{filtered, first_filtered}
use Rattle.mdhtml_markup.specs.SafeHtml.{holds_blocks, holds_cells, holds_items, holds_parts, holds_rows, holds_text, is_allowed, is_void, stands_in}
use Rattle.mdhtml_markup.specs.SafePieces.{AreAllowed, AreSafe, IsTag}
use Rattle.mdhtml_markup.proofs.SafeLemmas.{pieces-safe}
use Rattle.mdhtml_markup.proofs.ShownText.{text-kept}
use Rattle.mddocument_link_targets.specs.declared.targets.Parts.{Parts}
use Rattle.mddocument_link_targets.specs.Spans.{enters, first_in}
use Rattle.mddocument_link_targets.specs.Strings.{decoded}

-- where spans may stand: items in a list, blocks in blocks, parts of tables in these, and text in all that are no tables
abbrev pub Stands : Mode → (tags : List Element) → Type 0
Stands mode.Flow tags = holds_blocks tags ≡ true
Stands mode.Tight tags = holds_blocks tags ≡ true
Stands mode.LooseItems tags = holds_items tags ≡ true
Stands mode.TightItems tags = holds_items tags ≡ true
Stands mode.Heading tags = holds_text tags ≡ true
Stands mode.Table tags = holds_parts tags ≡ true
Stands (mode.Rows head) tags = holds_rows tags ≡ true
Stands (mode.Cells head) tags = holds_cells tags ≡ true
Stands mode.Paragraph tags = holds_text tags ≡ true
Stands mode.Text tags = holds_text tags ≡ true
Stands mode.Nothing tags = ⊤

-- pieces of spans that are safe in front of safe ones
pub record Keep (m : Mode) (ps : List Piece) : Type 0 where
  pub keep : (tags : List Element) (k : List Piece) → Stands m tags → AreSafe tags k → AreSafe tags (ps ++ k)

-- and a shape, around such pieces
record KeepsShape (m : Mode) (s : Shape) : Type 0 where
  around : (inner : List Piece) → Keep s.inside inner → (tags : List Element) (k : List Piece) → Stands m tags → AreSafe tags k
      → AreSafe tags (s.opened ++ (inner ++ (s.closed ++ k)))

-- an element of text: it is closed, stands where text does, and text in it
record IsPlain (e : Element) : Type 0 where
  kind : is_void e ≡ false
  stands : (tags : List Element) → stands_in e tags ≡ holds_text tags
  holds : (tags : List Element) → holds_text (e ∷ tags) ≡ true

-- a block: it is closed, and stands in blocks
record IsBlock (e : Element) : Type 0 where
  kind : is_void e ≡ false
  stands : (tags : List Element) → stands_in e tags ≡ holds_blocks tags

plain-tag : (e : Element) (attributes : List Attribute) (tags : List Element) → IsPlain e → AreAllowed e attributes → holds_text tags ≡ true → IsTag false tags e attributes
plain-tag e attributes tags p a s = record { kind = p.kind; stands = p.stands tags ∙ s; allowed = a }

block-tag : (e : Element) (attributes : List Attribute) (tags : List Element) → IsBlock e → AreAllowed e attributes → holds_blocks tags ≡ true → IsTag false tags e attributes
block-tag e attributes tags p a s = record { kind = p.kind; stands = p.stands tags ∙ s; allowed = a }

-- pieces that stand with spans of a mode
through-keeps : (m n : Mode) → ((tags : List Element) → Stands m tags → Stands n tags) → KeepsShape m (through n)
through-keeps m n stands = record { around = λ inner kept tags k s h. kept.keep tags k (stands tags s) h }

alone-keeps : (m : Mode) (ps : List Piece) → Keep m ps → KeepsShape m (alone ps)
alone-keeps m ps own = record { around = λ inner kept tags k s h. own.keep tags (inner ++ k) s (kept.keep tags k tt h) }

nothing-keeps : (m : Mode) → KeepsShape m (alone [])
nothing-keeps m = alone-keeps m [] (record { keep = λ tags k s h. h })

-- where text may stand
abbrev Texts : Mode → Type 0
Texts m = (tags : List Element) → Stands m tags → holds_text tags ≡ true

within-keeps : (m : Mode) (e : Element) (attributes : List Attribute) → Texts m → IsPlain e → AreAllowed e attributes → KeepsShape m (within_line e attributes)
within-keeps m e attributes t p a = record { around = λ inner kept tags k s h. (plain-tag e attributes tags p a (t tags s), kept.keep (e ∷ tags) (Close e ∷ k) (p.holds tags) (refl, h)) }

container-keeps : (m : Mode) (e : Element) (attributes : List Attribute) (n : Mode) → ((tags : List Element) → Stands m tags → IsTag false tags e attributes)
    → ((tags : List Element) → Stands n (e ∷ tags)) → KeepsShape m (container e attributes n)
container-keeps m e attributes n tag inside =
    record { around = λ inner kept tags k s h. (tag tags s, kept.keep (e ∷ tags) (Fresh ∷ Close e ∷ Feed ∷ k) (inside tags) (refl, h)) }

line-keeps : (m : Mode) (e : Element) (n : Mode) → ((tags : List Element) → Stands m tags → IsTag false tags e []) → ((tags : List Element) → Stands n (e ∷ tags)) → KeepsShape m (line e n)
line-keeps m e n tag inside = record { around = λ inner kept tags k s h. (tag tags s, kept.keep (e ∷ tags) (Close e ∷ Feed ∷ k) (inside tags) (refl, h)) }

told-keeps : (m : Mode) (w : List ℕ) → Texts m → KeepsShape m (told w)
told-keeps m w t = record { around = λ inner kept tags k s h. (t tags s, kept.keep tags k (t tags s) h) }

code-keeps : (m : Mode) (attributes : List Attribute) (t : List ℕ) → AreAllowed Code attributes → ((tags : List Element) → Stands m tags → holds_blocks tags ≡ true) → KeepsShape m (code attributes t)
code-keeps m attributes t a stands =
    alone-keeps m _ (record { keep = λ tags k s h. (record { kind = refl; stands = stands tags s; allowed = tt }, (record { kind = refl; stands = refl; allowed = a }, (refl, (refl, (refl, h))))) })

-- ---- elements

block-by : (c : Bool) (d e : Element) → IsBlock d → IsBlock e → IsBlock (cond c d e)
block-by true d e p q = p
block-by false d e p q = q

block-heading : (rank : ℕ) → IsBlock (heading rank)
block-heading rank =
    block-by (rank == 1) _ _ (record { kind = refl; stands = λ tags. refl })
    (block-by (rank == 2) _ _ (record { kind = refl; stands = λ tags. refl })
    (block-by (rank == 3) _ _ (record { kind = refl; stands = λ tags. refl })
    (block-by (rank == 4) _ _ (record { kind = refl; stands = λ tags. refl })
    (block-by (rank == 5) _ _ (record { kind = refl; stands = λ tags. refl }) (record { kind = refl; stands = λ tags. refl })))))

-- an element that needs no attributes, and holds text
record IsBare (e : Element) : Type 0 where
  none : AreAllowed e []
  holds : (tags : List Element) → holds_text (e ∷ tags) ≡ true

bare-by : (c : Bool) (d e : Element) → IsBare d → IsBare e → IsBare (cond c d e)
bare-by true d e p q = p
bare-by false d e p q = q

bare-heading : (rank : ℕ) → IsBare (heading rank)
bare-heading rank =
    bare-by (rank == 1) _ _ (record { none = tt; holds = λ tags. refl })
    (bare-by (rank == 2) _ _ (record { none = tt; holds = λ tags. refl })
    (bare-by (rank == 3) _ _ (record { none = tt; holds = λ tags. refl })
    (bare-by (rank == 4) _ _ (record { none = tt; holds = λ tags. refl })
    (bare-by (rank == 5) _ _ (record { none = tt; holds = λ tags. refl }) (record { none = tt; holds = λ tags. refl })))))

-- ---- modes

blocks-in-items : (tight : Bool) (tags : List Element) → Stands (blocks tight) (ListItem ∷ tags)
blocks-in-items true tags = refl
blocks-in-items false tags = refl

blocks-stand : (tight : Bool) (tags : List Element) → holds_blocks tags ≡ true → Stands (blocks tight) tags
blocks-stand true tags h = h
blocks-stand false tags h = h

items-in-bullets : (loose : Bool) (tags : List Element) → Stands (items loose) (UnorderedList ∷ tags)
items-in-bullets true tags = refl
items-in-bullets false tags = refl

items-in-numbers : (loose : Bool) (tags : List Element) → Stands (items loose) (OrderedList ∷ tags)
items-in-numbers true tags = refl
items-in-numbers false tags = refl

-- ---- attributes

allowed-by : (at : Place) (url : List ℕ) (a : Bool) → is_allowed at url ≡ a → is_allowed at (cond a url []) ≡ true
allowed-by at url true h = h
allowed-by at url false h = refl

allowed-is : (at : Place) (url : List ℕ) → is_allowed at (allowed at url) ≡ true
allowed-is at url = allowed-by at url (is_allowed at url) refl

pub all-taken : (p : ℕ → Bool) (t : List ℕ) → list_all p (take_while p t) ≡ true
all-taken p [] = refl
all-taken p (b ∷ bs) =
    elim (p b) as (λ c. p b ≡ c → list_all p (take (cond c (1 + prefix_len p bs) 0) (b ∷ bs)) ≡ true) [
      | true ↦ λ h. ap (λ n. list_all p (take n (b ∷ bs))) (one-add (prefix_len p bs)) ∙ ap (λ c. c && list_all p (take_while p bs)) h ∙ all-taken p bs
      | false ↦ λ h. refl
    ] refl

pub language-is : (bytes : List ℕ) (info : Option (List Event)) → AreAllowed Code (language bytes info)
language-is bytes None = tt
language-is bytes (Some info) = (all-taken (λ b. not (is_ascii_whitespace b)) (decoded bytes info), tt)

start-by : (b : Bool) (n : ℕ) → AreAllowed OrderedList (cond b [] (Start n ∷ []))
start-by true n = tt
start-by false n = (tt, tt)

ordered-is : (n : Option ℕ) → AreAllowed OrderedList (ordered n)
ordered-is None = tt
ordered-is (Some n) = start-by (n == 1) n

link-is : (url : List ℕ) (title : Option (List ℕ)) → is_allowed place.Href url ≡ true → AreAllowed Anchor (Href url ∷ titled title)
link-is url None h = (h, tt)
link-is url (Some t) h = (h, (tt, tt))

module _ (options : CompileOptions) (bytes : List ℕ) (known : Known) (tab : ℕ) (safe : AreSafeOptions options) where
  pub href-is : (url : List ℕ) → is_allowed place.Href (address_at options place.Href url) ≡ true
  href-is url = ap (λ b. is_allowed place.Href (cond b url (allowed place.Href url))) safe.protocol ∙ allowed-is place.Href url

  pub src-is : (url : List ℕ) → is_allowed place.Src (address_at options place.Src url) ≡ true
  src-is url =
      ap (λ b. is_allowed place.Src (cond (b || options.allow_any_img_src) url (allowed place.Src url))) safe.protocol
      ∙ ap (λ b. is_allowed place.Src (cond b url (allowed place.Src url))) safe.images ∙ allowed-is place.Src url

  raw-by : (m : Mode) (b : Bool) (k h : List ℕ) → Texts m → b ≡ false → Keep m (cond b (Kept k) (Text h) ∷ [])
  raw-by m b k h t e = subst (λ x. Keep m (cond x (Kept k) (Text h) ∷ [])) (sym e) (record { keep = λ tags rest s r. (t tags s, r) })

  raw-safe : (m : Mode) (f h : List ℕ) → Texts m → Keep m (raw_or options f h ∷ [])
  raw-safe m f h t = raw-by m options.allow_dangerous_html (cond options.gfm_tagfilter f h) h t safe.html

  raw-block : (m : Mode) (h : List ℕ) → Texts m → Keep m (Fresh ∷ raw options h ∷ Fresh ∷ [])
  raw-block m h t = record { keep = λ tags k s r. (raw-safe m (filtered h) h t).keep tags (Fresh ∷ k) s r }

  link-keeps : (m : Mode) (p : Option Parts) → Texts m → KeepsShape m (link_to options p)
  link-keeps m None t = through-keeps m mode.Text t
  link-keeps m (Some parts) t = within-keeps m Anchor _ t (record { kind = refl; stands = λ tags. refl; holds = λ tags. refl }) (link-is (address_at options place.Href parts.destination) parts.title (href-is parts.destination))

  image-allowed : (url alt : List ℕ) (title : Option (List ℕ)) → is_allowed place.Src url ≡ true → AreAllowed Image (Src url ∷ (Alt alt ∷ titled title))
  image-allowed url alt None h = (h, (tt, tt))
  image-allowed url alt (Some t) h = (h, (tt, (tt, tt)))

  image-keeps : (m : Mode) (alt : List ℕ) (p : Option Parts) → Texts m → KeepsShape m (image_of options alt p)
  image-keeps m alt None t = alone-keeps m _ (record { keep = λ tags k s h. (t tags s, h) })
  image-keeps m alt (Some parts) t =
      alone-keeps m _
      (record {
        keep = λ tags k s h. (record { kind = refl; stands = t tags s; allowed = image-allowed (address_at options place.Src parts.destination) alt parts.title (src-is parts.destination) }, h);
      })

  pub email-is : (b : Bool) (a : List ℕ) → is_allowed place.Href (cond b (codes "mailto:" ++ a) (address_at options place.Href a)) ≡ true
  email-is true a = refl
  email-is false a = href-is a

  call-keeps : (m : Mode) (o : Option Called) → Texts m → KeepsShape m (call_shape o)
  call-keeps m None t = through-keeps m mode.Text t
  call-keeps m (Some c) t =
      alone-keeps m _
      (record {
        keep = λ tags k s h. (
          record { kind = refl; stands = t tags s; allowed = (refl, tt) },
          (record { kind = refl; stands = refl; allowed = (refl, (call-id c.number c.repeat, (tt, tt))) }, (refl, (refl, (refl, h)))),
        );
      })

  address-keeps : (m : Mode) (url text : List ℕ) → Texts m → is_allowed place.Href url ≡ true → KeepsShape m (address_link url text)
  address-keeps m url text t h = alone-keeps m _ (record { keep = λ tags k s r. (record { kind = refl; stands = t tags s; allowed = (h, tt) }, (refl, (refl, r))) })

  autolink-keeps : (m : Mode) (es : List Event) → Texts m → KeepsShape m (autolink options bytes es)
  autolink-keeps m es t = let address = autolink_address bytes es in address-keeps m _ address t (email-is (is_email es) address)

  literal-keeps : (m : Mode) (scheme text : List ℕ) → Texts m → KeepsShape m (literal options scheme text)
  literal-keeps m scheme text t = address-keeps m _ text t (href-is (scheme ++ text))

  block-keeps : (m : Mode) (tight : Bool) (b : Block) (es : List Event) (loose : Bool) (start : Option ℕ) → ((tags : List Element) → Stands m tags → holds_blocks tags ≡ true)
      → KeepsShape m (block_shape options bytes known tab tight b es loose start)
  block-keeps m true block.Paragraph es loose start stands = through-keeps m mode.Paragraph (λ tags s. blocks-text tags (stands tags s))
  block-keeps m false block.Paragraph es loose start stands =
      line-keeps m Paragraph mode.Paragraph (λ tags s. block-tag Paragraph [] tags (record { kind = refl; stands = λ tags. refl }) tt (stands tags s)) (λ tags. refl)
  block-keeps m tight block.HeadingAtx es loose start stands =
      let rank = length_of_first name.HeadingAtxSequence es in
      line-keeps m (heading rank) mode.Heading (λ tags s. block-tag (heading rank) [] tags (block-heading rank) (bare-heading rank).none (stands tags s)) (bare-heading rank).holds
  block-keeps m tight block.HeadingSetext es loose start stands =
      let rank = setext_rank bytes es in line-keeps m (heading rank) mode.Heading (λ tags s. block-tag (heading rank) [] tags (block-heading rank) (bare-heading rank).none (stands tags s)) (bare-heading rank).holds
  block-keeps m tight block.HeadingText es loose start stands = nothing-keeps m
  block-keeps m tight block.Quote es loose start stands =
      container-keeps m BlockQuote [] mode.Flow (λ tags s. block-tag BlockQuote [] tags (record { kind = refl; stands = λ tags. refl }) tt (stands tags s)) (λ tags. refl)
  block-keeps m tight block.Bullets es loose start stands =
      container-keeps m UnorderedList [] (items loose) (λ tags s. block-tag UnorderedList [] tags (record { kind = refl; stands = λ tags. refl }) tt (stands tags s)) (items-in-bullets loose)
  block-keeps m tight block.Numbers es loose start stands =
      container-keeps m OrderedList (ordered start) (items loose) (λ tags s. block-tag OrderedList (ordered start) tags (record { kind = refl; stands = λ tags. refl }) (ordered-is start) (stands tags s))
      (items-in-numbers loose)
  block-keeps m tight block.Item es loose start stands = through-keeps m (blocks tight) (λ tags s. blocks-stand tight tags (stands tags s))
  block-keeps m tight block.Fenced es loose start stands =
      code-keeps m (language bytes (first_in name.CodeFencedFenceInfo es)) (code_lines bytes tab (behind_first_line es)) (language-is bytes (first_in name.CodeFencedFenceInfo es)) stands
  block-keeps m tight block.Indented es loose start stands = code-keeps m [] (code_lines bytes tab es) tt stands
  block-keeps m tight block.Html es loose start stands = alone-keeps m _ (raw-block m (html_flow bytes tab es) (λ tags s. blocks-text tags (stands tags s)))
  block-keeps m tight block.Rule es loose start stands = alone-keeps m _ (record { keep = λ tags k s h. (record { kind = refl; stands = stands tags s; allowed = tt }, h) })
  block-keeps m tight block.Table es loose start stands =
      container-keeps m Table [] mode.Table (λ tags s. block-tag Table [] tags (record { kind = refl; stands = λ tags. refl }) tt (stands tags s)) (λ tags. refl)
  block-keeps m tight block.TableHead es loose start stands = nothing-keeps m
  block-keeps m tight block.TableBody es loose start stands = nothing-keeps m
  block-keeps m tight block.TableRow es loose start stands = nothing-keeps m
  block-keeps m tight block.TableCell es loose start stands = nothing-keeps m
  block-keeps m tight block.Other es loose start stands = nothing-keeps m

  -- an item, where one may stand
  item-keeps : (m : Mode) (tight : Bool) (b : Block) → ((tags : List Element) → Stands m tags → holds_items tags ≡ true) → KeepsShape m (item_shape tight b)
  item-keeps m tight block.Item stands = line-keeps m ListItem (blocks tight) (λ tags s. record { kind = refl; stands = stands tags s; allowed = tt }) (blocks-in-items tight)
  item-keeps m tight block.Paragraph stands = nothing-keeps m
  item-keeps m tight block.HeadingAtx stands = nothing-keeps m
  item-keeps m tight block.HeadingSetext stands = nothing-keeps m
  item-keeps m tight block.HeadingText stands = nothing-keeps m
  item-keeps m tight block.Quote stands = nothing-keeps m
  item-keeps m tight block.Bullets stands = nothing-keeps m
  item-keeps m tight block.Numbers stands = nothing-keeps m
  item-keeps m tight block.Fenced stands = nothing-keeps m
  item-keeps m tight block.Indented stands = nothing-keeps m
  item-keeps m tight block.Html stands = nothing-keeps m
  item-keeps m tight block.Rule stands = nothing-keeps m
  item-keeps m tight block.Table stands = nothing-keeps m
  item-keeps m tight block.TableHead stands = nothing-keeps m
  item-keeps m tight block.TableBody stands = nothing-keeps m
  item-keeps m tight block.TableRow stands = nothing-keeps m
  item-keeps m tight block.TableCell stands = nothing-keeps m
  item-keeps m tight block.Other stands = nothing-keeps m

  heading-keeps : (m : Mode) (b : Block) → Texts m → KeepsShape m (heading_shape b)
  heading-keeps m block.HeadingText t = through-keeps m mode.Text t
  heading-keeps m block.Paragraph t = nothing-keeps m
  heading-keeps m block.HeadingAtx t = nothing-keeps m
  heading-keeps m block.HeadingSetext t = nothing-keeps m
  heading-keeps m block.Quote t = nothing-keeps m
  heading-keeps m block.Bullets t = nothing-keeps m
  heading-keeps m block.Numbers t = nothing-keeps m
  heading-keeps m block.Item t = nothing-keeps m
  heading-keeps m block.Fenced t = nothing-keeps m
  heading-keeps m block.Indented t = nothing-keeps m
  heading-keeps m block.Html t = nothing-keeps m
  heading-keeps m block.Rule t = nothing-keeps m
  heading-keeps m block.Table t = nothing-keeps m
  heading-keeps m block.TableHead t = nothing-keeps m
  heading-keeps m block.TableBody t = nothing-keeps m
  heading-keeps m block.TableRow t = nothing-keeps m
  heading-keeps m block.TableCell t = nothing-keeps m
  heading-keeps m block.Other t = nothing-keeps m

  -- parts of a table
  body-keeps : (some : Bool) → KeepsShape mode.Table (cond some (container TableBody [] (mode.Rows false)) (alone []))
  body-keeps true = container-keeps mode.Table TableBody [] (mode.Rows false) (λ tags s. record { kind = refl; stands = s; allowed = tt }) (λ tags. refl)
  body-keeps false = nothing-keeps mode.Table

  table-keeps : (b : Block) (es : List Event) → KeepsShape mode.Table (table_shape b es)
  table-keeps block.TableHead es = container-keeps mode.Table TableHead [] (mode.Rows true) (λ tags s. record { kind = refl; stands = s; allowed = tt }) (λ tags. refl)
  table-keeps block.TableBody es = body-keeps (list_any (enters name.GfmTableRow) es)
  table-keeps block.Paragraph es = nothing-keeps mode.Table
  table-keeps block.HeadingAtx es = nothing-keeps mode.Table
  table-keeps block.HeadingSetext es = nothing-keeps mode.Table
  table-keeps block.HeadingText es = nothing-keeps mode.Table
  table-keeps block.Quote es = nothing-keeps mode.Table
  table-keeps block.Bullets es = nothing-keeps mode.Table
  table-keeps block.Numbers es = nothing-keeps mode.Table
  table-keeps block.Item es = nothing-keeps mode.Table
  table-keeps block.Fenced es = nothing-keeps mode.Table
  table-keeps block.Indented es = nothing-keeps mode.Table
  table-keeps block.Html es = nothing-keeps mode.Table
  table-keeps block.Rule es = nothing-keeps mode.Table
  table-keeps block.Table es = nothing-keeps mode.Table
  table-keeps block.TableRow es = nothing-keeps mode.Table
  table-keeps block.TableCell es = nothing-keeps mode.Table
  table-keeps block.Other es = nothing-keeps mode.Table

  row-keeps : (head : Bool) (b : Block) → KeepsShape (mode.Rows head) (row_shape head b)
  row-keeps head block.TableRow = container-keeps (mode.Rows head) TableRow [] (mode.Cells head) (λ tags s. record { kind = refl; stands = s; allowed = tt }) (λ tags. refl)
  row-keeps head block.Paragraph = nothing-keeps (mode.Rows head)
  row-keeps head block.HeadingAtx = nothing-keeps (mode.Rows head)
  row-keeps head block.HeadingSetext = nothing-keeps (mode.Rows head)
  row-keeps head block.HeadingText = nothing-keeps (mode.Rows head)
  row-keeps head block.Quote = nothing-keeps (mode.Rows head)
  row-keeps head block.Bullets = nothing-keeps (mode.Rows head)
  row-keeps head block.Numbers = nothing-keeps (mode.Rows head)
  row-keeps head block.Item = nothing-keeps (mode.Rows head)
  row-keeps head block.Fenced = nothing-keeps (mode.Rows head)
  row-keeps head block.Indented = nothing-keeps (mode.Rows head)
  row-keeps head block.Html = nothing-keeps (mode.Rows head)
  row-keeps head block.Rule = nothing-keeps (mode.Rows head)
  row-keeps head block.Table = nothing-keeps (mode.Rows head)
  row-keeps head block.TableHead = nothing-keeps (mode.Rows head)
  row-keeps head block.TableBody = nothing-keeps (mode.Rows head)
  row-keeps head block.TableCell = nothing-keeps (mode.Rows head)
  row-keeps head block.Other = nothing-keeps (mode.Rows head)

  cell-tag : (head : Bool) (a : Option Alignment) (tags : List Element) → holds_cells tags ≡ true → IsTag false tags (cell_element head) (aligned a)
  cell-tag true None tags s = record { kind = refl; stands = s; allowed = tt }
  cell-tag true (Some a) tags s = record { kind = refl; stands = s; allowed = (tt, tt) }
  cell-tag false None tags s = record { kind = refl; stands = s; allowed = tt }
  cell-tag false (Some a) tags s = record { kind = refl; stands = s; allowed = (tt, tt) }

  cell-text : (head : Bool) (tags : List Element) → holds_text (cell_element head ∷ tags) ≡ true
  cell-text true tags = refl
  cell-text false tags = refl

  cell-around : (head : Bool) (a : Option Alignment) → KeepsShape (mode.Cells head) (cell head a)
  cell-around head a =
      record { around = λ inner kept tags k s h. (cell-tag head a tags s, kept.keep (cell_element head ∷ tags) (Close (cell_element head) ∷ Feed ∷ k) (cell-text head tags) (refl, h)) }

  cell-by : (head : Bool) (o : Option (List Event)) → KeepsShape (mode.Cells head) (elim o as (λ (_ : Option (List Event)). Shape) [ None ↦ alone [] | Some column ↦ cell head (alignment_of column) ])
  cell-by head None = nothing-keeps (mode.Cells head)
  cell-by head (Some column) = cell-around head (alignment_of column)

  cell-keeps : (head : Bool) (columns : List Event) (b : Block) → KeepsShape (mode.Cells head) (cell_shape head columns b)
  cell-keeps head columns block.TableCell = cell-by head (first_in name.GfmTableDelimiterCell columns)
  cell-keeps head columns block.Paragraph = nothing-keeps (mode.Cells head)
  cell-keeps head columns block.HeadingAtx = nothing-keeps (mode.Cells head)
  cell-keeps head columns block.HeadingSetext = nothing-keeps (mode.Cells head)
  cell-keeps head columns block.HeadingText = nothing-keeps (mode.Cells head)
  cell-keeps head columns block.Quote = nothing-keeps (mode.Cells head)
  cell-keeps head columns block.Bullets = nothing-keeps (mode.Cells head)
  cell-keeps head columns block.Numbers = nothing-keeps (mode.Cells head)
  cell-keeps head columns block.Item = nothing-keeps (mode.Cells head)
  cell-keeps head columns block.Fenced = nothing-keeps (mode.Cells head)
  cell-keeps head columns block.Indented = nothing-keeps (mode.Cells head)
  cell-keeps head columns block.Html = nothing-keeps (mode.Cells head)
  cell-keeps head columns block.Rule = nothing-keeps (mode.Cells head)
  cell-keeps head columns block.Table = nothing-keeps (mode.Cells head)
  cell-keeps head columns block.TableHead = nothing-keeps (mode.Cells head)
  cell-keeps head columns block.TableBody = nothing-keeps (mode.Cells head)
  cell-keeps head columns block.TableRow = nothing-keeps (mode.Cells head)
  cell-keeps head columns block.Other = nothing-keeps (mode.Cells head)

  -- the cells that a row lacks
  empty-by : (head : Bool) (o : Option (List Event)) (more : List Piece) → Keep (mode.Cells head) more
      → Keep (mode.Cells head) (elim o as (λ (_ : Option (List Event)). List Piece) [ None ↦ [] | Some column ↦ empty_cell head (alignment_of column) ++ more ])
  empty-by head None more kept = record { keep = λ tags k s h. h }
  empty-by head (Some column) more kept = record { keep = λ tags k s h. (cell-tag head (alignment_of column) tags s, (refl, kept.keep tags k s h)) }

  empty-keeps : (most : ℕ) (head : Bool) (columns : List Event) → Keep (mode.Cells head) (empty_cells most head columns)
  empty-keeps zero head columns = record { keep = λ tags k s h. h }
  empty-keeps (suc n) head columns = empty-by head (first_in name.GfmTableDelimiterCell columns) (empty_cells n head (behind_column columns)) (empty-keeps n head (behind_column columns))

  left-keeps : (m : Mode) (columns : List Event) → Keep m (lacking m columns)
  left-keeps (mode.Cells head) columns = empty-keeps 100 head columns
  left-keeps mode.Flow columns = record { keep = λ tags k s h. h }
  left-keeps mode.Tight columns = record { keep = λ tags k s h. h }
  left-keeps mode.LooseItems columns = record { keep = λ tags k s h. h }
  left-keeps mode.TightItems columns = record { keep = λ tags k s h. h }
  left-keeps mode.Heading columns = record { keep = λ tags k s h. h }
  left-keeps mode.Table columns = record { keep = λ tags k s h. h }
  left-keeps (mode.Rows head) columns = record { keep = λ tags k s h. h }
  left-keeps mode.Paragraph columns = record { keep = λ tags k s h. h }
  left-keeps mode.Text columns = record { keep = λ tags k s h. h }
  left-keeps mode.Nothing columns = record { keep = λ tags k s h. h }

  inline-keeps : (m : Mode) (in_cell : Bool) (i : Inline) (es : List Event) (said alt : List ℕ) → Texts m → KeepsShape m (inline_shape options bytes known tab in_cell i es said alt)
  inline-keeps m in_cell inline.Ending es said alt t = alone-keeps m _ (record { keep = λ tags k s h. h })
  inline-keeps m in_cell inline.Break es said alt t = alone-keeps m _ (record { keep = λ tags k s h. (record { kind = refl; stands = t tags s; allowed = tt }, h) })
  inline-keeps m in_cell inline.Emphasis es said alt t = within-keeps m Emphasis [] t (record { kind = refl; stands = λ tags. refl; holds = λ tags. refl }) tt
  inline-keeps m in_cell inline.Strong es said alt t = within-keeps m Strong [] t (record { kind = refl; stands = λ tags. refl; holds = λ tags. refl }) tt
  inline-keeps m in_cell inline.Struck es said alt t = within-keeps m Deleted [] t (record { kind = refl; stands = λ tags. refl; holds = λ tags. refl }) tt
  inline-keeps m in_cell inline.Code es said alt t = alone-keeps m _ (record { keep = λ tags k s h. (record { kind = refl; stands = t tags s; allowed = tt }, (refl, (refl, h))) })
  inline-keeps m in_cell inline.Html es said alt t = alone-keeps m _ (raw-safe m (first_filtered (cell_text in_cell (html_text bytes es))) (cell_text in_cell (html_text bytes es)) t)
  inline-keeps m in_cell inline.Autolink es said alt t = autolink-keeps m es t
  inline-keeps m in_cell inline.Www es said alt t = literal-keeps m (codes "http://") said t
  inline-keeps m in_cell inline.Email es said alt t = literal-keeps m (codes "mailto:") said t
  inline-keeps m in_cell inline.Address es said alt t = literal-keeps m [] said t
  inline-keeps m in_cell inline.Link es said alt t = link-keeps m (parts_in_link bytes known.lookup es) t
  inline-keeps m in_cell inline.Image es said alt t = image-keeps m alt (parts_in_link bytes known.lookup es) t
  inline-keeps m in_cell inline.Check es said alt t = nothing-keeps m
  inline-keeps m in_cell inline.Call es said alt t = call-keeps m (known.called (place_of_first es)) t
  inline-keeps m in_cell inline.Tail es said alt t = nothing-keeps m
  inline-keeps m in_cell inline.Other es said alt t = told-keeps m said t

  check-keeps : (m : Mode) (checked : Bool) → Texts m → KeepsShape m (check checked)
  check-keeps m true t = alone-keeps m _ (record { keep = λ tags k s h. (record { kind = refl; stands = t tags s; allowed = (tt, (tt, (tt, tt))) }, h) })
  check-keeps m false t = alone-keeps m _ (record { keep = λ tags k s h. (record { kind = refl; stands = t tags s; allowed = (tt, (tt, tt)) }, h) })

  keeps-by : (m : Mode) (c : Bool) (s t : Shape) → KeepsShape m s → KeepsShape m t → KeepsShape m (cond c s t)
  keeps-by m true s t h k = h
  keeps-by m false s t h k = k

  shape-keeps : (m : Mode) (columns : List Event) (n : Name) (es : List Event) (loose : Bool) (start : Option ℕ) (said alt : List ℕ)
      → KeepsShape m (shape_by options bytes known tab m columns n es loose start said alt)
  shape-keeps mode.Flow columns n es loose start said alt = block-keeps mode.Flow false (block_of n) es loose start (λ tags s. s)
  shape-keeps mode.Tight columns n es loose start said alt = block-keeps mode.Tight true (block_of n) es loose start (λ tags s. s)
  shape-keeps mode.LooseItems columns n es loose start said alt = item-keeps mode.LooseItems false (block_of n) (λ tags s. s)
  shape-keeps mode.TightItems columns n es loose start said alt = item-keeps mode.TightItems true (block_of n) (λ tags s. s)
  shape-keeps mode.Heading columns n es loose start said alt = heading-keeps mode.Heading (block_of n) (λ tags s. s)
  shape-keeps mode.Table columns n es loose start said alt = table-keeps (block_of n) es
  shape-keeps (mode.Rows head) columns n es loose start said alt = row-keeps head (block_of n)
  shape-keeps (mode.Cells head) columns n es loose start said alt = cell-keeps head columns (block_of n)
  shape-keeps mode.Paragraph columns n es loose start said alt =
      let i = inline_of n in
      let c = is_in_cell columns in
      keeps-by mode.Paragraph (is_check i) (check (is_checked es)) (inline_shape options bytes known tab c i es said alt) (check-keeps mode.Paragraph (is_checked es) (λ tags s. s))
      (inline-keeps mode.Paragraph c i es said alt (λ tags s. s))
  shape-keeps mode.Text columns n es loose start said alt = inline-keeps mode.Text (is_in_cell columns) (inline_of n) es said alt (λ tags s. s)
  shape-keeps mode.Nothing columns n es loose start said alt = nothing-keeps mode.Nothing

  -- what is behind is moved to the end
  pub moved : (a b c d k : List Piece) → (a ++ (b ++ (c ++ d))) ++ k ≡ a ++ (b ++ (c ++ (d ++ k)))
  moved a b c d k = append_assoc a (b ++ (c ++ d)) k ∙ ap (λ (x : List Piece). a ++ x) (append_assoc b (c ++ d) k ∙ ap (λ (x : List Piece). b ++ x) (append_assoc c d k))

  pub pieces-keep : (m : Mode) (columns : List Event) (s : Spans) → Keep m (pieces options bytes known tab m columns s)
  pieces-keep m columns Nothing = left-keeps m columns
  pieces-keep m columns (Span e f s behind) =
      let b = block_of e.name in
      let here = shape options bytes known tab m columns e f s in
      let inner = pieces options bytes known tab here.inside (columns_in b columns (events_of s)) s in
      let rest = pieces options bytes known tab m (columns_behind b columns) behind in
      record {
        keep = λ tags k stands h. subst (AreSafe tags) (sym (moved here.opened inner here.closed rest k))
            ((shape-keeps m columns e.name _ _ _ _ _).around inner (pieces-keep here.inside (columns_in b columns (events_of s)) s) tags (rest ++ k) stands
            ((pieces-keep m (columns_behind b columns) behind).keep tags k stands h));
      }

-- pieces behind which nothing comes
pub ends : (ps : List Piece) → Keep mode.Flow ps → AreSafe [] ps
ends ps kept = subst (AreSafe []) (append-nil ps) (kept.keep [] [] refl refl)

pub html-safe : HtmlIsSafe
html-safe options bytes known tab events safe =
    let ps = pieces options bytes known tab mode.Flow [] (spans_of events) in
    pieces-safe true [] ps (ends ps (pieces-keep options bytes known tab safe mode.Flow [] (spans_of events)))

pub html-text : HtmlKeepsText
html-text options bytes known tab events safe =
    let ps = pieces options bytes known tab mode.Flow [] (spans_of events) in
    text-kept true [] ps (ends ps (pieces-keep options bytes known tab safe mode.Flow [] (spans_of events)))
