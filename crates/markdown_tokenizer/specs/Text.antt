-- The text of a tokenizer: the virtual bytes of the ranges that were pushed, in order.
use Rattle.std.specs.Prelude.{◌≡◌, ℕ, ◌<◌, true, cond, List, [], ◌∷◌, ◌++◌, ◌⊎◌, filter, All}
use Rattle.markdown_base.specs.declared.event.Point.{Point}
use Rattle.markdown_base.specs.declared.configuration.ParseOptions.{ParseOptions}
use Rattle.markdown_base.specs.Virtual.{Seat, virtual, IsTabSize, IsWithinLimit}
pub use Rattle.markdown_base.specs.Places.{in_range}
use Rattle.markdown_base.specs.Places.{stands_before, is_upto, denotes_same, IsPointOf}

-- What a machine may read at any time: the document's bytes, the options, and the tab size in columns
pub record Given : Type 0 where
  pub bytes : List ℕ
  pub options : ParseOptions
  pub tab : ℕ

-- What was pushed so far: where it starts, its virtual bytes, and where it ends
pub record Text : Type 0 where
  pub start : Point
  pub seats : List Seat
  pub end : Point

-- nothing was pushed yet
abbrev pub empty_text : Point → Text
empty_text p = record { start = p; seats = []; end = p }

-- A range of the document, from a place up to another; or a gap, which is passed up to a place and never read
pub data Piece : Type 0 where
  pushed : Point → Point → Piece
  passed : Point → Piece

-- the text with a piece put at its end. A gap adds no byte; a gap up to where the text already ends changes nothing.
abbrev pub followed_by : Given → Text → Piece → Text
followed_by g text (pushed from to) = record text { seats = text.seats ++ filter (in_range from to) (virtual g.tab g.bytes); end = to }
followed_by g text (passed p) = cond (denotes_same g.tab g.bytes p text.end) text (record text { end = p })

abbrev pub followed_by_all : Given → Text → List Piece → Text
followed_by_all g text [] = text
followed_by_all g text (piece ∷ rest) = followed_by_all g (followed_by g text piece) rest

-- a piece can follow a text. A range begins where the text ends, and does not run backwards; a gap is empty, or goes from the beginning of
-- a line to a later place of that line.
abbrev pub FitsAfter : Given → Text → Piece → Type 0
FitsAfter g text (pushed from to) =
    IsPointOf g.tab g.bytes from × IsPointOf g.tab g.bytes to
    × (denotes_same g.tab g.bytes from text.end ≡ true) × (is_upto g.tab g.bytes from to ≡ true)
FitsAfter g text (passed p) =
    IsPointOf g.tab g.bytes p
    × ((denotes_same g.tab g.bytes p text.end ≡ true)
    ⊎ ((text.end.column ≡ 1) × (p.line ≡ text.end.line) × (stands_before text.end p ≡ true)))

-- the pieces can follow the text, one after another
abbrev pub CanFollow : Given → Text → List Piece → Type 0
CanFollow g text [] = Unit {0}
CanFollow g text (piece ∷ rest) = FitsAfter g text piece × CanFollow g (followed_by g text piece) rest

-- A possible document: its bytes are below 256, the tab size is the options' and from 1 to 16 columns, and it is within the limit
pub record IsDocument (g : Given) : Type 0 where
  pub bytes : All (λ b. b < 256) g.bytes
  pub tab : IsTabSize g.tab
  pub limit : IsWithinLimit g.tab g.bytes
  pub one_size : g.tab ≡ g.options.tab_size

-- a text is made of some pieces, from a place of a document on
pub record IsText (g : Given) (text : Text) : Type 0 where
  pub document : IsDocument g
  pub starts : IsPointOf g.tab g.bytes text.start
  pub pieces : List Piece
  pub follow : CanFollow g (empty_text text.start) pieces
  pub is : text ≡ followed_by_all g (empty_text text.start) pieces
