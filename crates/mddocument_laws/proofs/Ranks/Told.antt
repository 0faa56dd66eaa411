-- What the events of a leaf block tell: the rank of a heading, whatever its text is read as.
use Rattle.mddocument_laws.proofs.Prelude.{list_any, ⊤, Event, Seat, Line, LeafBlock, atx_heading, setext_heading, text_of, Mark, block_around, run, unindented, enters, rank_at, ◌≡◌, ℕ, false, List, [], ◌∷◌, ◌++◌, map, Option, None, Some}
use Rattle.markdown_base.specs.declared.event.Name.TheVariants as name

abbrev pub events_of : List Mark → List Event
events_of marks = map (λ (mark : Mark). mark.0) marks

-- what texts of paragraphs are read as enters no underline
abbrev pub EntersNoUnderline : (List Line → List Mark) → Type 0
EntersNoUnderline read = (lines : List Line) → list_any (enters name.HeadingSetextUnderlineSequence) (events_of (read lines)) ≡ false

-- the rank of the heading that the first of these events enters
abbrev pub rank_of_first : (given : List ℕ) → List Event → Option ℕ
rank_of_first given [] = None
rank_of_first given (e ∷ es) = rank_at given e es

module _ (bytes : List ℕ) where
  -- the events of a heading, by what its text is read as, of an ATX heading or of other lines; it has no strings
  abbrev pub heading_events : (List Seat → List Mark) → (List Line → List Mark) → LeafBlock → List Event
  heading_events text lines block = events_of (block_around bytes text lines (λ seats. []) block)

  -- By the bytes that the document has, of which some may be others where letters are shown: the rank of an ATX heading is the number of `#` that its line begins with, behind white space. That of a setext heading is the one that its
  -- underline gives. Both are told, whatever their texts are read as, and whatever is behind
  abbrev pub TellsItsRank : (given : List ℕ) → LeafBlock → Type 0
  TellsItsRank given (atx_heading line) =
      (text : List Seat → List Mark) (lines : List Line → List Mark) (behind : List Event) → rank_of_first given (heading_events text lines (atx_heading line) ++ behind) ≡ Some (run 35 (unindented (text_of line)))
  TellsItsRank given (setext_heading rank texts underline) =
      (text : List Seat → List Mark) (lines : List Line → List Mark) (behind : List Event) → EntersNoUnderline lines
      → rank_of_first given (heading_events text lines (setext_heading rank texts underline) ++ behind) ≡ Some rank
  TellsItsRank given _ = ⊤
