-- Pieces whose bytes are safe HTML. Nothing here need be believed: it is by the law that it serves.
use Rattle.std.specs.Char.{is_ascii_whitespace}
use Rattle.std.specs.List.{list_all}
use Rattle.std.specs.Prelude.{◌≡◌, not, ⊤, ℕ, Bool, true, false, cond, List, [], ◌∷◌, Option, None, Some, bytes_eq, codes}
use Rattle.mdhtml_markup.specs.declared.addresses.Place.TheVariants as place
use Rattle.mdhtml_markup.specs.declared.elements.AttributeName.{AttributeName}
use Rattle.mdhtml_markup.specs.declared.elements.AttributeName.TheVariants as name
use Rattle.mdhtml_markup.specs.declared.elements.Element.{Element}
use Rattle.mdhtml_markup.specs.Pieces.{Aligned, Alt, Attribute, Checked, Classed, Close, Disabled, Feed, FootnoteBack, FootnoteCall, Footnotes, Fresh, Href, Id, InputType, Kept, Label, Language, Open, Piece, Src, Start, Text, Title, Void}
use Rattle.mdhtml_markup.specs.SafeHtml.{attribute_name, attributes_of, holds_text, is_allowed, is_footnote_class, is_id, is_void, must_be_given, stands_in}

-- an attribute by what it says: an address is allowed, a language has no white space, a class is one of footnotes, and an id has its prefix
abbrev pub IsAllowed : Attribute → Type 0
IsAllowed (Aligned a) = ⊤
IsAllowed (Alt t) = ⊤
IsAllowed Checked = ⊤
IsAllowed (Classed word) = is_footnote_class word ≡ true
IsAllowed Disabled = ⊤
IsAllowed FootnoteBack = ⊤
IsAllowed FootnoteCall = ⊤
IsAllowed Footnotes = ⊤
IsAllowed (Href url) = is_allowed place.Href url ≡ true
IsAllowed (Id i) = is_id i ≡ true
IsAllowed InputType = ⊤
IsAllowed (Label t) = ⊤
IsAllowed (Language t) = list_all (λ b. not (is_ascii_whitespace b)) t ≡ true
IsAllowed (Src url) = is_allowed place.Src url ≡ true
IsAllowed (Start n) = ⊤
IsAllowed (Title t) = ⊤

abbrev pub name_of_attribute : Attribute → AttributeName
name_of_attribute (Aligned a) = name.Align
name_of_attribute (Alt t) = name.Alt
name_of_attribute Checked = name.Checked
name_of_attribute (Classed word) = name.FootnoteClass
name_of_attribute Disabled = name.Disabled
name_of_attribute FootnoteBack = name.FootnoteBack
name_of_attribute FootnoteCall = name.FootnoteCall
name_of_attribute Footnotes = name.Footnotes
name_of_attribute (Href url) = name.Href
name_of_attribute (Id i) = name.Id
name_of_attribute InputType = name.InputType
name_of_attribute (Label t) = name.Label
name_of_attribute (Language t) = name.Class
name_of_attribute (Src url) = name.Src
name_of_attribute (Start n) = name.Start
name_of_attribute (Title t) = name.Title

-- what a name is told by: two are written `class`
abbrev pub word_for : AttributeName → List ℕ
word_for name.FootnoteClass = codes "class of footnotes"
word_for n = attribute_name n

-- the names behind a name, if it is one of them and none before it must be given
abbrev pub later : AttributeName → List AttributeName → Option (List AttributeName)
later a [] = None
later a (n ∷ names) = cond (bytes_eq (word_for a) (word_for n)) (Some names) (cond (must_be_given n) None (later a names))

-- none of these need be given
abbrev pub AreFree : List AttributeName → Type 0
AreFree [] = ⊤
AreFree (n ∷ names) = elim (must_be_given n) [ true ↦ ⊥ | false ↦ AreFree names ]

-- attributes of these names, in this order, each once at most, and all that must be given; and allowed
abbrev pub AreAllowedBy : List AttributeName → List Attribute → Type 0
AreAllowedBy names [] = AreFree names
AreAllowedBy names (a ∷ attributes) =
    elim (later (name_of_attribute a) names) [ None ↦ ⊥ | Some more ↦ IsAllowed a × AreAllowedBy more attributes ]

-- and of an element
abbrev pub AreAllowed : Element → List Attribute → Type 0
AreAllowed e attributes = AreAllowedBy (attributes_of e) attributes

-- a tag that may be written behind tags that are open, with or without a close tag
pub record IsTag (void : Bool) (tags : List Element) (e : Element) (attributes : List Attribute) : Type 0 where
  pub kind : is_void e ≡ void
  pub stands : stands_in e tags ≡ true
  pub allowed : AreAllowed e attributes

abbrev pub Closes : (tags : List Element) → Element → (rest : (tags : List Element) → Type 0) → Type 0
Closes [] e rest = ⊥
Closes (d ∷ tags) e rest = (d ≡ e) × rest tags

-- Pieces behind tags that are open, the innermost first: each tag and each text may stand where it is, tags are closed in order, and no HTML is kept
abbrev pub AreSafe : (tags : List Element) → List Piece → Type 0
AreSafe tags [] = tags ≡ []
AreSafe tags (Open e attributes ∷ ps) = IsTag false tags e attributes × AreSafe (e ∷ tags) ps
AreSafe tags (Void e attributes ∷ ps) = IsTag true tags e attributes × AreSafe tags ps
AreSafe tags (Close e ∷ ps) = Closes tags e (λ o. AreSafe o ps)
AreSafe tags (Text t ∷ ps) = (holds_text tags ≡ true) × AreSafe tags ps
AreSafe tags (Kept h ∷ ps) = ⊥
AreSafe tags (Feed ∷ ps) = AreSafe tags ps
AreSafe tags (Fresh ∷ ps) = AreSafe tags ps
