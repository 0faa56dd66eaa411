-- Lines of a paragraph as the code keeps them.
use Rattle.std.specs.Prelude.{◌≡◌, ◌≤◌, ℕ, List, [], ◌∷◌, drop, length}
use Rattle.mdblock_leaf_blocks.specs.LeafBlocks.{text_of}
use Rattle.mdblock_lines.specs.Lines.{line_bytes}
use Rattle.mdblock_containers.specs.declared.spans.RowAt.{RowAt}
use Rattle.mdblock_containers.specs.Rows.{Row}

module _ (t : ℕ) (bytes : List ℕ) where
  -- a line has these virtual bytes and these prefixes
  pub record HasText (x : RowAt) (r : Row) : Type 0 where
    pub inside : x.span.start ≤ length bytes
    pub text : text_of r.line ≡ line_bytes t x.span.number 1 x.span.start (drop x.span.start bytes)
    pub columns : x.row.columns ≡ r.columns
    pub within : r.columns ≤ length (text_of r.line)

  abbrev pub HaveTexts : List RowAt → List Row → Type 0
  HaveTexts [] [] = Unit {0}
  HaveTexts [] (r ∷ rs) = ⊥
  HaveTexts (x ∷ xs) [] = ⊥
  HaveTexts (x ∷ xs) (r ∷ rs) = HasText x r × HaveTexts xs rs
