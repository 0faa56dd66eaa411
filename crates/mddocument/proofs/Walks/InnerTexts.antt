-- Virtual bytes of texts of lines: of the last line those of its text, and of the others all.
use Rattle.std.proofs.Common.{not, List, [], ◌∷◌, ◌++◌}
use Rattle.std.specs.List.{AllByRecursion}
use Rattle.markdown_base.proofs.Common.{every-filter}
use Rattle.markdown_base.specs.Virtual.{Seat}
use Rattle.markdown_tokenizer.proofs.Positions.Order.{every-all}
use Rattle.mdconstructs_machines.specs.LineEvents.{is_line_ending, line_text}
use Rattle.mdblock_leaf_blocks.specs.LeafBlocks.{Line}

module _ (Inner : Seat → Type 0) where
  abbrev pub AreInner : List Seat → Type 0
  AreInner seats = AllByRecursion Inner seats

  -- of each line but the last all virtual bytes are inner ones; of the last those of its text
  abbrev pub AreTextLines : List Line → Type 0
  AreTextLines [] = Unit {0}
  AreTextLines (line ∷ []) = AreInner (line_text line)
  AreTextLines (line ∷ next ∷ lines) = AreInner line × AreTextLines (next ∷ lines)

  pub inner-text : (s : List Seat) → AreInner s → AreInner (line_text s)
  inner-text s h = every-filter Inner (λ x. not (is_line_ending x)) s h

  pub texts-front : (xs ys : List Line) → AreTextLines (xs ++ ys) → AreTextLines xs
  texts-front [] ys h = tt
  texts-front (x ∷ []) [] h = h
  texts-front (x ∷ []) (y ∷ ys) h = inner-text x h.0
  texts-front (x ∷ next ∷ xs) ys h = (h.0, texts-front (next ∷ xs) ys h.1)

-- ---- where all virtual bytes are inner ones
abbrev pub AnySeat : Seat → Type 0
AnySeat s = Unit {0}

pub any-seats : (seats : List Seat) → AllByRecursion AnySeat seats
any-seats seats = every-all AnySeat (λ s. tt) seats

pub any-each : (lines : List Line) → AllByRecursion (AllByRecursion AnySeat) lines
any-each lines = every-all (AllByRecursion AnySeat) any-seats lines

pub any-lines : (lines : List Line) → AreTextLines AnySeat lines
any-lines [] = tt
any-lines (line ∷ []) = any-seats (line_text line)
any-lines (line ∷ next ∷ lines) = (any-seats line, any-lines (next ∷ lines))
