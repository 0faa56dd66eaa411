-- A test of safe HTML that can be run: it reads the bytes once, from the front.
use Rattle.std.specs.Char.{is_ascii_alphanumeric}
use Rattle.std.specs.List.{prefix_len, take_while}
use Rattle.std.specs.Prelude.{ℕ, zero, suc, ◌==◌, ◌&&◌, not, Bool, true, false, cond, List, [], ◌∷◌, ◌++◌, drop, length, Option, None, Some, option_and_then, option_map, bytes_eq, codes}
use Rattle.mdhtml_markup.specs.declared.elements.AttributeName.{AttributeName}
use Rattle.mdhtml_markup.specs.declared.elements.Element.{Element}
use Rattle.mdhtml_markup.specs.declared.elements.Element.TheVariants.{Anchor, BlockQuote, Break, Checkbox, Code, DataCell, Deleted, Emphasis, HeaderCell, Heading1, Heading2, Heading3, Heading4, Heading5, Heading6, Image, ListItem, OrderedList, Paragraph, Preformatted, Section, Strong, Superscript, Table, TableBody, TableHead, TableRow, ThematicBreak, UnorderedList}
use Rattle.mdhtml_markup.specs.SafeHtml.{attribute_name, attributes_of, behind, is_said, is_text_byte, is_value, is_void, must_be_given, name_of, stands_in}

-- the element of a name
abbrev pub elements : List Element
elements =
    Anchor ∷ BlockQuote ∷ Break ∷ Checkbox ∷ Code ∷ DataCell ∷ Deleted ∷ Emphasis ∷ HeaderCell ∷ Heading1 ∷ Heading2 ∷ Heading3 ∷ Heading4 ∷ Heading5 ∷ Heading6 ∷ Image ∷ ListItem
    ∷ OrderedList ∷ Paragraph ∷ Preformatted ∷ Section ∷ Strong ∷ Superscript ∷ Table ∷ TableBody ∷ TableHead ∷ TableRow ∷ ThematicBreak ∷ UnorderedList ∷ []

abbrev pub named : List Element → List ℕ → Option Element
named [] name = None
named (e ∷ es) name = cond (bytes_eq name (name_of e)) (Some e) (named es name)

-- what is in front of an attribute's value
abbrev pub front_of : AttributeName → List ℕ
front_of a = (codes " " ++ attribute_name a) ++ codes "=\""

-- what is behind a value: the first quotation mark ends it
abbrev pub behind_value : AttributeName → List ℕ → Option (List ℕ)
behind_value a l = cond (is_value a (take_while (λ b. not (b == 34)) l)) (behind (codes "\"") (drop (prefix_len (λ b. not (b == 34)) l) l)) None

-- what is behind an attribute, if there is one of this name or need be none, and behind attributes
abbrev pub behind_attribute : AttributeName → List ℕ → Option (List ℕ)
behind_attribute a l = elim (behind (front_of a) l) [ None ↦ cond (must_be_given a) None (Some l) | Some value ↦ behind_value a value ]

abbrev pub behind_attributes : List AttributeName → List ℕ → Option (List ℕ)
behind_attributes [] l = Some l
behind_attributes (a ∷ names) l = option_and_then (behind_attributes names) (behind_attribute a l)

-- what is behind the name of an element in a tag, up to the tag's end
abbrev pub tag_end : Element → List ℕ
tag_end e = cond (is_void e) (codes " />") (codes ">")

abbrev pub behind_name : Element → List ℕ → Option (List ℕ)
behind_name e l = option_and_then (behind (tag_end e)) (behind_attributes (attributes_of e) l)

-- tags that are open, and what is to be read behind them
abbrev pub Rest : Type 0
Rest = List Element × List ℕ

-- behind `</`: the innermost open tag is closed
abbrev pub behind_close : (tags : List Element) → List ℕ → Option Rest
behind_close [] l = None
behind_close (e ∷ tags) l = option_map (λ rest. (tags, rest)) (option_and_then (behind (codes ">")) (behind (name_of e) l))

-- behind the `<` of a tag of an element, which may stand here
abbrev pub behind_element : (tags : List Element) → Option Element → List ℕ → Option Rest
behind_element tags None l = None
behind_element tags (Some e) l = cond (stands_in e tags) (option_map (λ rest. (cond (is_void e) tags (e ∷ tags), rest)) (behind_name e l)) None

-- behind `<`
abbrev pub behind_mark : (tags : List Element) → List ℕ → Option Rest
behind_mark tags l =
    elim (behind (codes "/") l) [
      | Some rest ↦ behind_close tags rest
      | None ↦ behind_element tags (named elements (take_while is_ascii_alphanumeric l)) (drop (prefix_len is_ascii_alphanumeric l) l)
    ]

-- safe HTML behind these tags, of fewer bytes than this
abbrev pub is_safe_below : (limit : ℕ) → (tags : List Element) → List ℕ → Bool
is_safe_below zero tags l = false
is_safe_below (suc n) [] [] = true
is_safe_below (suc n) (e ∷ tags) [] = false
is_safe_below (suc n) tags (b ∷ l) =
    elim (b == 60) [
      | false ↦ (is_said tags b && is_text_byte b l) && is_safe_below n tags l
      | true ↦ elim (behind_mark tags l) [ None ↦ false | Some rest ↦ is_safe_below n rest.0 rest.1 ]
    ]

-- safe HTML behind tags that are open, and safe HTML
abbrev pub is_safe_behind : (tags : List Element) → List ℕ → Bool
is_safe_behind tags h = is_safe_below (suc (length h)) tags h

abbrev pub is_safe_html : List ℕ → Bool
is_safe_html h = is_safe_behind [] h
