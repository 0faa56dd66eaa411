-- Letters in place of lazy underlines, so that leaf blocks are read of them as of text.
use Rattle.std.specs.Prelude.{◌≡◌, ℕ, suc, ◌+◌, ◌==◌, ◌&&◌, not, Bool, true, cond, List, [], ◌∷◌, take, drop, map, is_some}
use Rattle.std.specs.List.{flat_map, list_any}
use Rattle.markdown_base.specs.declared.configuration.Constructs.{Constructs}
use Rattle.markdown_base.specs.declared.event.Event.{Event}
use Rattle.markdown_base.specs.declared.event.Point.{Point}
use Rattle.markdown_base.specs.Places.{is_upto, points, shown}
use Rattle.markdown_base.specs.Virtual.{Seat, virtual}
use Rattle.markdown_tokenizer.specs.Text.{Given, Text}
use Rattle.markdown_children.specs.Reads.{text_from}
use Rattle.mdconstructs_machines.specs.LineEvents.{lines_in}
use Rattle.mdblock_leaf_blocks.specs.LineKinds.{indent, underline_rank}
use Rattle.mdblock_containers.specs.Rows.{Row, rest_of, rows}

-- the letter: `a`
abbrev pub letter : ℕ
letter = 97

-- bytes, of which the first has this index, with the letter at the places whose index is one of these
abbrev pub lettered_from : (index : ℕ) → (at : List ℕ) → List ℕ → List ℕ
lettered_from index at [] = []
lettered_from index at (b ∷ bs) = cond (list_any (λ i. i == index) at) letter b ∷ lettered_from (suc index) at bs

-- A document with the letter at these indices
abbrev pub with_letters : (at : List ℕ) → List ℕ → List ℕ
with_letters at bytes = lettered_from 0 at bytes

-- ---- letters keep places

-- a byte is no tab, and no part of a line ending
abbrev pub is_plain : ℕ → Bool
is_plain b = not (b == 9) && (not (b == 10) && not (b == 13))

-- where a letter stands is such a byte, of bytes of which the first has this index
abbrev pub ArePlainFrom : (index : ℕ) → (at bytes : List ℕ) → Type 0
ArePlainFrom index at [] = Unit {0}
ArePlainFrom index at (b ∷ bs) = (list_any (λ i. i == index) at ≡ true → is_plain b ≡ true) × ArePlainFrom (suc index) at bs

-- a virtual byte, or the letter at its place
abbrev pub lettered_seat : (at : List ℕ) → Seat → Seat
lettered_seat at s = record s { byte = cond (list_any (λ i. i == s.point.index) at) letter s.byte }

abbrev pub lettered_text : (at : List ℕ) → Text → Text
lettered_text at text = record text { seats = map (lettered_seat at) text.seats }

-- With letters the virtual text has the same places, and other bytes only there; places are shown at the same points, and in the same order
pub record LettersKeepPlaces (t : ℕ) (at bytes : List ℕ) : Type 0 where
  pub seats : virtual t (with_letters at bytes) ≡ map (lettered_seat at) (virtual t bytes)
  pub shown_at : (p : Point) → shown (with_letters at bytes) p ≡ shown bytes p
  pub all_points : points t (with_letters at bytes) ≡ points t bytes
  pub order : (p q : Point) → is_upto t (with_letters at bytes) p q ≡ is_upto t bytes p q

-- and the text of each chain of a list is the same but for the letters
abbrev pub LettersKeepTexts : (at : List ℕ) → Given → Type 0
LettersKeepTexts at g = (events : List Event) (c : ℕ) → text_from (record g { bytes = with_letters at g.bytes }) events c ≡ lettered_text at (text_from g events c)

module _ (on : Constructs) where
  -- The index of a lazy underline's first mark: "The setext heading underline cannot be a lazy continuation line in a list item or block quote"
  -- (CommonMark, 4.3), so the line is text of the paragraph
  abbrev pub lazy_underline : Row → List ℕ
  lazy_underline row =
      let rest = rest_of row in
      cond (row.is_lazy && is_some (underline_rank on rest)) (map (λ s. s.point.index) (take 1 (drop (row.columns + indent rest) row.line))) []

  -- those of a document, by its virtual bytes
  abbrev pub lazy_underlines : List Seat → List ℕ
  lazy_underlines seats = flat_map lazy_underline (rows on (lines_in seats))
