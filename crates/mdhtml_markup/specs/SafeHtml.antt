-- Safe HTML, as bytes. This file is all that must be believed: it knows nothing of Markdown, nor of what wrote the bytes.
--
-- Where the bytes stand: between the tags of an element that holds blocks (`div`, `article`, `section`, `td`, `li`), in the body of an HTML page that
-- declares UTF-8, and not within an `a`, `p`, `button` or heading of that page.
--
-- What is promised of them to the page and its readers, whoever wrote the document and whatever is in it:
--   no script runs: there are no elements, attributes and schemes of addresses but those below, and a text or a value never ends where it should not;
--   what is behind them in the page stays where it is: each tag is closed, in order, where a browser closes it.
--
-- What is not promised: where links lead (`//host` is another host), what images tell a host or ask of it, length, depth of nesting, text that misleads;
-- anything where a script of the page takes titles, texts or classes for HTML, or a template engine takes text for a program; anything in other places
-- (values of attributes, comments, `script`, `style`, `textarea`, `title`, SVG, MathML, XHTML), in other encodings, or once the bytes are changed.
use Rattle.std.specs.Char.{is_ascii_alphanumeric, is_ascii_digit, is_ascii_whitespace, to_ascii_lowercase}
use Rattle.std.specs.List.{list_all, list_any}
use Rattle.std.specs.Prelude.{◌≡◌, ℕ, zero, suc, ◌==◌, ◌&&◌, ◌||◌, not, Bool, true, false, cond, List, [], ◌∷◌, ◌++◌, length, map, Option, None, Some, is_some, option_map, bytes_eq, codes}
use Rattle.mdhtml_markup.specs.declared.addresses.Place.{Place}
use Rattle.mdhtml_markup.specs.declared.addresses.Place.TheVariants as place
use Rattle.mdhtml_markup.specs.declared.elements.Alignment.{Alignment}
use Rattle.mdhtml_markup.specs.declared.elements.Alignment.TheVariants as alignment
use Rattle.mdhtml_markup.specs.declared.elements.AttributeName.{AttributeName}
use Rattle.mdhtml_markup.specs.declared.elements.AttributeName.TheVariants as name
use Rattle.mdhtml_markup.specs.declared.elements.Element.{Element}
use Rattle.mdhtml_markup.specs.declared.elements.Element.TheVariants.{Anchor, BlockQuote, Break, Checkbox, Code, DataCell, Deleted, Emphasis, HeaderCell, Heading1, Heading2, Heading3, Heading4, Heading5, Heading6, Image, ListItem, OrderedList, Paragraph, Preformatted, Section, Strong, Superscript, Table, TableBody, TableHead, TableRow, ThematicBreak, UnorderedList}

-- ---- elements

-- the elements, by name. None of them holds text that is not read as HTML, or things that are none of HTML
abbrev pub name_of : Element → List ℕ
name_of Anchor = codes "a"
name_of BlockQuote = codes "blockquote"
name_of Break = codes "br"
name_of Checkbox = codes "input"
name_of Code = codes "code"
name_of DataCell = codes "td"
name_of Deleted = codes "del"
name_of Emphasis = codes "em"
name_of HeaderCell = codes "th"
name_of Heading1 = codes "h1"
name_of Heading2 = codes "h2"
name_of Heading3 = codes "h3"
name_of Heading4 = codes "h4"
name_of Heading5 = codes "h5"
name_of Heading6 = codes "h6"
name_of Image = codes "img"
name_of ListItem = codes "li"
name_of OrderedList = codes "ol"
name_of Paragraph = codes "p"
name_of Preformatted = codes "pre"
name_of Section = codes "section"
name_of Strong = codes "strong"
name_of Superscript = codes "sup"
name_of Table = codes "table"
name_of TableBody = codes "tbody"
name_of TableHead = codes "thead"
name_of TableRow = codes "tr"
name_of ThematicBreak = codes "hr"
name_of UnorderedList = codes "ul"

-- The elements that hold nothing and are not closed. Of each other one a browser takes `<em />` for `<em>`, which stays open
abbrev pub is_void : Element → Bool
is_void Break = true
is_void Checkbox = true
is_void Image = true
is_void ThematicBreak = true
is_void e = false

-- Items stand directly in lists; and blocks directly in what all of this stands in, in quotations and in items. Elsewhere a browser may close a tag
-- before its close tag comes, and take that one for the page's: the second `</h2>` of `<h1><ul><h2><h2></h2></h2></ul></h1>` closes the `h1`, and then
-- `</ul>` closes a list of the page. (An `a` in an `a` ends that one, and nothing of the page)
abbrev pub holds_items : (tags : List Element) → Bool
holds_items (OrderedList ∷ tags) = true
holds_items (UnorderedList ∷ tags) = true
holds_items tags = false

abbrev pub holds_blocks : (tags : List Element) → Bool
holds_blocks [] = true
holds_blocks (BlockQuote ∷ tags) = true
holds_blocks (ListItem ∷ tags) = true
holds_blocks (Section ∷ tags) = true
holds_blocks tags = false

-- Parts of tables stand directly in what they are parts of, and nothing else does: elsewhere a browser leaves such a tag out, or closes a cell of the page by
-- it; and what is no part of a table it puts in front of that
abbrev pub holds_parts : (tags : List Element) → Bool
holds_parts (Table ∷ tags) = true
holds_parts tags = false

abbrev pub holds_rows : (tags : List Element) → Bool
holds_rows (TableBody ∷ tags) = true
holds_rows (TableHead ∷ tags) = true
holds_rows tags = false

abbrev pub holds_cells : (tags : List Element) → Bool
holds_cells (TableRow ∷ tags) = true
holds_cells tags = false

abbrev pub holds_text : (tags : List Element) → Bool
holds_text tags = not (holds_parts tags || (holds_rows tags || holds_cells tags))

-- an element may stand behind these open tags, the innermost first
abbrev pub stands_in : Element → (tags : List Element) → Bool
stands_in ListItem tags = holds_items tags
stands_in DataCell tags = holds_cells tags
stands_in HeaderCell tags = holds_cells tags
stands_in TableBody tags = holds_parts tags
stands_in TableHead tags = holds_parts tags
stands_in TableRow tags = holds_rows tags
stands_in Anchor tags = holds_text tags
stands_in Break tags = holds_text tags
stands_in Checkbox tags = holds_text tags
stands_in Code tags = holds_text tags
stands_in Deleted tags = holds_text tags
stands_in Emphasis tags = holds_text tags
stands_in Image tags = holds_text tags
stands_in Strong tags = holds_text tags
stands_in Superscript tags = holds_text tags
stands_in e tags = holds_blocks tags

-- ---- attributes

abbrev pub attribute_name : AttributeName → List ℕ
attribute_name name.Align = codes "align"
attribute_name name.Alt = codes "alt"
attribute_name name.Checked = codes "checked"
attribute_name name.Class = codes "class"
attribute_name name.Disabled = codes "disabled"
attribute_name name.FootnoteBack = codes "data-footnote-backref"
attribute_name name.FootnoteCall = codes "data-footnote-ref"
attribute_name name.FootnoteClass = codes "class"
attribute_name name.Footnotes = codes "data-footnotes"
attribute_name name.Href = codes "href"
attribute_name name.Id = codes "id"
attribute_name name.InputType = codes "type"
attribute_name name.Label = codes "aria-label"
attribute_name name.Src = codes "src"
attribute_name name.Start = codes "start"
attribute_name name.Title = codes "title"

-- the attributes that an element may have, in this order
abbrev pub attributes_of : Element → List AttributeName
attributes_of Anchor = name.Href ∷ name.Title ∷ name.Id ∷ name.FootnoteClass ∷ name.FootnoteCall ∷ name.FootnoteBack ∷ name.Label ∷ []
attributes_of Checkbox = name.InputType ∷ name.Checked ∷ name.Disabled ∷ []
attributes_of Code = name.Class ∷ []
attributes_of DataCell = name.Align ∷ []
attributes_of HeaderCell = name.Align ∷ []
attributes_of Image = name.Src ∷ name.Alt ∷ name.Title ∷ []
attributes_of ListItem = name.Id ∷ []
attributes_of OrderedList = name.Start ∷ []
attributes_of Section = name.FootnoteClass ∷ name.Footnotes ∷ []
attributes_of Superscript = name.FootnoteClass ∷ []
attributes_of e = []

-- The attributes that an element must have of these: an `input` of another type sends what is typed, or fetches an image, and one that is not disabled is a
-- control of the page's form
abbrev pub must_be_given : AttributeName → Bool
must_be_given name.InputType = true
must_be_given name.Disabled = true
must_be_given a = false

-- ---- text

-- The bytes that text does not have: the marks of HTML; NUL, without which there is no mark where a browser takes the bytes for UTF-16; and the escape
-- byte, without which they have no meaning but ASCII's where it takes them for ISO-2022-JP. (`>` is a mark by habit alone)
abbrev pub is_mark : ℕ → Bool
is_mark b = list_any (λ c. b == c) (codes "<>&\"") || ((b == 0) || (b == 27))

-- the entities: what stands behind `&`, and the byte that a browser reads
abbrev pub Entity : Type 0
Entity = List ℕ × ℕ

abbrev pub entities : List Entity
entities = (codes "amp;", 38) ∷ (codes "#x27;", 39) ∷ (codes "lt;", 60) ∷ (codes "gt;", 62) ∷ (codes "quot;", 34) ∷ (codes "#x1B;", 27) ∷ []

-- what is behind a front, if bytes begin with that
abbrev pub behind : (front l : List ℕ) → Option (List ℕ)
behind [] l = Some l
behind (f ∷ front) [] = None
behind (f ∷ front) (b ∷ l) = cond (f == b) (behind front l) None

-- the first of these entities that bytes begin with
abbrev pub entity_among : List Entity → List ℕ → Option Entity
entity_among [] l = None
entity_among (e ∷ es) l = cond (is_some (behind e.0 l)) (Some e) (entity_among es l)

abbrev pub entity_at : List ℕ → Option Entity
entity_at l = entity_among entities l

-- a byte is text, in front of others: it is no mark, or the `&` (38) of an entity
abbrev pub is_text_byte : (b : ℕ) (behind : List ℕ) → Bool
is_text_byte b behind = cond (b == 38) (is_some (entity_at behind)) (not (is_mark b))

abbrev pub is_text : List ℕ → Bool
is_text [] = true
is_text (b ∷ bs) = is_text_byte b bs && is_text bs

-- What a browser reads of a text: each entity is the byte that it stands for. These many bytes are skipped first
abbrev pub undone_from : (skipped : ℕ) → List ℕ → List ℕ
undone_from skipped [] = []
undone_from (suc n) (b ∷ bs) = undone_from n bs
undone_from zero (b ∷ bs) =
    elim (b == 38) [
      | false ↦ b ∷ undone_from 0 bs
      | true ↦ elim (entity_at bs) [ None ↦ b ∷ undone_from 0 bs | Some e ↦ e.1 ∷ undone_from (length e.0) bs ]
    ]

abbrev pub undone : List ℕ → List ℕ
undone t = undone_from 0 t

-- ---- addresses

-- The bytes that stand for themselves in an address, also in quotes. No white space and no control byte, which a browser would leave out; and no
-- backslash, which it reads as `/`
abbrev pub is_plain : ℕ → Bool
is_plain b = list_any (λ c. c == b) (codes "-_.+!*(),%#@?=;:/$~") || is_ascii_alphanumeric b

-- the bytes of an address
abbrev pub is_address_byte : ℕ → Bool
is_address_byte b = is_plain b || ((b == 38) || (b == 39))

-- The scheme of an address, if it has one: what is before its first colon (58), if no `/` (47), `?` (63) or `#` (35) comes before that
abbrev pub scheme_of : List ℕ → Option (List ℕ)
scheme_of [] = None
scheme_of (b ∷ bs) =
    cond (b == 58) (Some [])
    (cond ((b == 47) || ((b == 63) || (b == 35))) None (option_map (λ scheme. b ∷ scheme) (scheme_of bs)))

-- the schemes that addresses may have, by where they stand
abbrev pub schemes : Place → List (List ℕ)
schemes place.Href = codes "http" ∷ codes "https" ∷ codes "irc" ∷ codes "ircs" ∷ codes "mailto" ∷ codes "xmpp" ∷ []
schemes place.Src = codes "http" ∷ codes "https" ∷ []

-- a scheme is one of these, in upper or lower case
abbrev pub is_known : Place → List ℕ → Bool
is_known at scheme = list_any (λ known. bytes_eq (map to_ascii_lowercase scheme) known) (schemes at)

-- an address is allowed: it has no scheme, or one of these
abbrev pub is_allowed : Place → List ℕ → Bool
is_allowed at url = elim (scheme_of url) [ None ↦ true | Some scheme ↦ is_known at scheme ]

-- ---- values

-- an address in quotes: as a browser reads it, it has the bytes of addresses alone, and is allowed
abbrev pub is_safe_address : Place → List ℕ → Bool
is_safe_address at value = is_text value && (list_all is_address_byte (undone value) && is_allowed at (undone value))

-- One class, which begins with `language-`: no white space, with which it would be many. Classes are hooks of the page's scripts and styles
abbrev pub is_language : List ℕ → Bool
is_language value = elim (behind (codes "language-") value) [ None ↦ false | Some word ↦ is_text word && list_all (λ b. not (is_ascii_whitespace b)) word ]

-- The classes of footnotes: of their section, of calls and of links back
abbrev pub footnote_classes : List (List ℕ)
footnote_classes = codes "footnotes" ∷ codes "footnote-ref" ∷ codes "footnote-backref" ∷ []

abbrev pub is_footnote_class : List ℕ → Bool
is_footnote_class value = list_any (λ word. bytes_eq value word) footnote_classes

-- An id: behind a prefix that is not empty, letters, digits and hyphens. An id is a name in `window` and `document` of the page: without a prefix a document
-- could give names that scripts of the page read
abbrev pub id_prefix : List ℕ
id_prefix = codes "user-content-"

abbrev pub is_id_byte : ℕ → Bool
is_id_byte b = is_ascii_alphanumeric b || (b == 45)

abbrev pub is_id : List ℕ → Bool
is_id value = elim (behind id_prefix value) [ None ↦ false | Some rest ↦ list_all is_id_byte rest ]

-- where the text of a cell stands, in words
abbrev pub word_of : Alignment → List ℕ
word_of alignment.Left = codes "left"
word_of alignment.Center = codes "center"
word_of alignment.Right = codes "right"

abbrev pub alignments : List (List ℕ)
alignments = word_of alignment.Left ∷ word_of alignment.Center ∷ word_of alignment.Right ∷ []

abbrev pub is_alignment : List ℕ → Bool
is_alignment value = list_any (λ word. bytes_eq value word) alignments

abbrev pub is_value : AttributeName → List ℕ → Bool
is_value name.Align value = is_alignment value
is_value name.Alt value = is_text value
is_value name.Checked value = bytes_eq value []
is_value name.Class value = is_language value
is_value name.Disabled value = bytes_eq value []
is_value name.FootnoteBack value = bytes_eq value []
is_value name.FootnoteCall value = bytes_eq value []
is_value name.FootnoteClass value = is_footnote_class value
is_value name.Footnotes value = bytes_eq value []
is_value name.Href value = is_safe_address place.Href value
is_value name.Id value = is_id value
is_value name.InputType value = bytes_eq value (codes "checkbox")
is_value name.Label value = is_text value
is_value name.Src value = is_safe_address place.Src value
is_value name.Start value = list_all is_ascii_digit value
is_value name.Title value = is_text value

-- an attribute in a tag, with the space before it
abbrev pub quoted : AttributeName → (value : List ℕ) → List ℕ
quoted a value = (codes " " ++ attribute_name a) ++ (codes "=\"" ++ (value ++ codes "\""))

-- attributes of these names, in this order: each once, or not at all unless it must be given
pub data AreAttributes : List AttributeName → List ℕ → Type 0 where
  none : AreAttributes [] []
  missing : (a : AttributeName) (names : List AttributeName) {l : List ℕ} → must_be_given a ≡ false → AreAttributes names l → AreAttributes (a ∷ names) l
  given : (a : AttributeName) (names : List AttributeName) (value more : List ℕ) {l : List ℕ} → l ≡ quoted a value ++ more → is_value a value ≡ true
      → AreAttributes names more → AreAttributes (a ∷ names) l

-- ---- tags

abbrev pub open_tag : Element → (attributes : List ℕ) → List ℕ
open_tag e attributes = (codes "<" ++ name_of e) ++ (attributes ++ codes ">")

abbrev pub void_tag : Element → (attributes : List ℕ) → List ℕ
void_tag e attributes = (codes "<" ++ name_of e) ++ (attributes ++ codes " />")

abbrev pub close_tag : Element → List ℕ
close_tag e = (codes "</" ++ name_of e) ++ codes ">"

-- a byte may be said behind these open tags: a line feed anywhere
abbrev pub is_said : (tags : List Element) → ℕ → Bool
is_said tags b = holds_text tags || (b == 10)

-- Safe HTML, behind tags that are open, the innermost first. `IsSafeHtml []` is the whole
pub data IsSafeHtml : (tags : List Element) → List ℕ → Type 0 where
  end : IsSafeHtml [] []
  text : (tags : List Element) (b : ℕ) (h : List ℕ) {l : List ℕ} → l ≡ b ∷ h → is_said tags b ≡ true → is_text_byte b h ≡ true → IsSafeHtml tags h → IsSafeHtml tags l
  opened : (tags : List Element) (e : Element) (attributes h : List ℕ) {l : List ℕ} → l ≡ open_tag e attributes ++ h
      → is_void e ≡ false → stands_in e tags ≡ true → AreAttributes (attributes_of e) attributes → IsSafeHtml (e ∷ tags) h → IsSafeHtml tags l
  void : (tags : List Element) (e : Element) (attributes h : List ℕ) {l : List ℕ} → l ≡ void_tag e attributes ++ h
      → is_void e ≡ true → stands_in e tags ≡ true → AreAttributes (attributes_of e) attributes → IsSafeHtml tags h → IsSafeHtml tags l
  closed : (tags : List Element) (e : Element) (h : List ℕ) {l : List ℕ} → l ≡ close_tag e ++ h → IsSafeHtml tags h → IsSafeHtml (e ∷ tags) l
