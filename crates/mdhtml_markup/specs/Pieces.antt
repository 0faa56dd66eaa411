-- HTML as pieces: tags from a list, with attributes from a list; texts; and line breaks.
use Rattle.std.specs.Fmt.{decimal}
use Rattle.std.specs.List.{flat_map}
use Rattle.std.specs.Prelude.{ℕ, ◌==◌, Bool, true, cond, List, [], ◌∷◌, ◌++◌, codes}
use Rattle.mdhtml_markup.specs.Addresses.{written_address}
use Rattle.mdhtml_markup.specs.declared.elements.Alignment.{Alignment}
use Rattle.mdhtml_markup.specs.declared.elements.AttributeName.TheVariants as name
use Rattle.mdhtml_markup.specs.declared.elements.Element.{Element}
use Rattle.mdhtml_markup.specs.Escapes.{escaped, kept}
use Rattle.mdhtml_markup.specs.SafeHtml.{close_tag, open_tag, quoted, void_tag, word_of}

-- the attributes that are written, each with what it says
pub data Attribute : Type 0 where
  Aligned : Alignment → Attribute
  Alt : List ℕ → Attribute
  Checked : Attribute
  Classed : List ℕ → Attribute
  Disabled : Attribute
  FootnoteBack : Attribute
  FootnoteCall : Attribute
  Footnotes : Attribute
  Href : List ℕ → Attribute
  Id : List ℕ → Attribute
  InputType : Attribute
  Label : List ℕ → Attribute
  Language : List ℕ → Attribute
  Src : List ℕ → Attribute
  Start : ℕ → Attribute
  Title : List ℕ → Attribute

abbrev pub attribute : Attribute → List ℕ
attribute (Aligned a) = quoted name.Align (word_of a)
attribute (Alt t) = quoted name.Alt (escaped t)
attribute Checked = quoted name.Checked []
attribute (Classed word) = quoted name.FootnoteClass word
attribute Disabled = quoted name.Disabled []
attribute FootnoteBack = quoted name.FootnoteBack []
attribute FootnoteCall = quoted name.FootnoteCall []
attribute Footnotes = quoted name.Footnotes []
attribute (Href url) = quoted name.Href (written_address url)
attribute (Id i) = quoted name.Id i
attribute InputType = quoted name.InputType (codes "checkbox")
attribute (Label t) = quoted name.Label (escaped t)
attribute (Language t) = quoted name.Class (codes "language-" ++ escaped t)
attribute (Src url) = quoted name.Src (written_address url)
attribute (Start n) = quoted name.Start (decimal n)
attribute (Title t) = quoted name.Title (escaped t)

pub data Piece : Type 0 where
  -- <p>, <br />, </p>
  Open : Element → List Attribute → Piece
  Void : Element → List Attribute → Piece
  Close : Element → Piece
  -- a text, escaped
  Text : List ℕ → Piece
  -- HTML of the document, as it is
  Kept : List ℕ → Piece
  -- a line feed, and one unless a line has just begun
  Feed : Piece
  Fresh : Piece

-- what is written of a piece, where a line has just begun or not
abbrev pub written : (fresh : Bool) → Piece → List ℕ
written fresh (Open e attributes) = open_tag e (flat_map attribute attributes)
written fresh (Void e attributes) = void_tag e (flat_map attribute attributes)
written fresh (Close e) = close_tag e
written fresh (Text t) = escaped t
written fresh (Kept h) = kept h
written fresh Feed = 10 ∷ []
written fresh Fresh = cond fresh [] (10 ∷ [])

-- a line has just begun behind bytes, if one had before them or not
abbrev pub is_fresh : Bool → List ℕ → Bool
is_fresh fresh [] = fresh
is_fresh fresh (b ∷ []) = b == 10
is_fresh fresh (b ∷ (c ∷ cs)) = is_fresh fresh (c ∷ cs)

-- the bytes of pieces
abbrev pub html_from : (fresh : Bool) → List Piece → List ℕ
html_from fresh [] = []
html_from fresh (p ∷ ps) = written fresh p ++ html_from (is_fresh fresh (written fresh p)) ps

abbrev pub html : List Piece → List ℕ
html ps = html_from true ps
