-- The lines of a section that is a table, as its rows are written.
use Rattle.std.proofs.Common.{◌≡◌, ℕ, suc, List, [], ◌∷◌, arith, drop, length, length-drop, ap, ◌∙◌, subst, sym}
use Rattle.std.specs.List.{AllByRecursion}
use Rattle.mdblock_leaf_blocks.specs.LeafBlocks.{text_of}
use Rattle.mdblock_leaf_blocks.specs.LineKinds.{indent}
use Rattle.mdblock_lines.specs.Containers.{Container}
use Rattle.mdblock_lines.specs.Lines.{line_bytes}
use Rattle.mdblock_containers.specs.declared.spans.RowAt.{RowAt}
use Rattle.mdblock_containers.specs.Rows.{Row, rest_of}
use Rattle.mdblock_containers.specs.Skeleton.{Part}
use Rattle.mdblock_containers.specs.Spans.{IsRowIn}
use Rattle.mdblock_containers.specs.Stretches.{AreFurther}
use Rattle.mdblock_containers.proofs.DocumentRows.{text_of_line_at}
use Rattle.mdblock_table_marks.specs.Lines.{AreLines, CanBeTable, HasText}
use Rattle.mdblock_definitions.specs.Sectioned.{AreTableRows, IsFilled, IsSectionOf}
use Rattle.mdblock_definitions.specs.Skeleton.{all_rows}
use Rattle.mdblock_definitions.proofs.SectionFacts.{section-lines}

module _ (t : ℕ) (bytes : List ℕ) (stack : List Container) where
  -- a line with text has columns behind its prefixes
  line-has-text : (number start : ℕ) (x : RowAt) (r : Row) → IsRowIn t bytes stack number start x r → IsFilled r → HasText x
  line-has-text number start x r row filled =
      let size : x.span.size ≡ length (line_bytes t number 1 start (drop start bytes)) = row.placed.size_is in
      let text : text_of r.line ≡ line_bytes t number 1 start (drop start bytes) = ap text_of row.line ∙ text_of_line_at t number start (drop start bytes) in
      omega (arith, size, ap (λ (l : List ℕ). length l) text, filled, row.is.columns, length-drop r.columns (text_of r.line), length-drop (indent (rest_of r)) (rest_of r))

  lines-have-text : (number start : ℕ) (xs : List RowAt) (rs : List Row) → AreFurther t bytes stack number start xs rs → AllByRecursion IsFilled rs → AllByRecursion HasText xs
  lines-have-text number start [] [] are filled = tt
  lines-have-text number start [] (r ∷ rs) are filled = absurd are
  lines-have-text number start (x ∷ xs) [] are filled = absurd are
  lines-have-text number start (x ∷ xs) (r ∷ rs) are filled = (line-has-text number start x r are.0 filled.0, lines-have-text (suc number) x.span.next xs rs are.2 filled.1)

  module _ (x : RowAt) (xs : List RowAt) (p : Part) (s : IsSectionOf t bytes stack x xs p) where
    pub table-lines : (rows : List RowAt) → rows ≡ x ∷ xs → AreLines t bytes stack rows (all_rows p)
    table-lines rows e =
        let here = section-lines t bytes stack x xs p s in
        subst (λ (l : List RowAt). AreLines t bytes stack l (all_rows p)) (sym e)
        (record { stands = record { placed = here.0.placed; outside = here.0.outside }; line = here.0.line; columns = here.0.columns }, here.1)

    pub section-tabled : AreTableRows p.more → CanBeTable (x ∷ xs)
    section-tabled rows = by xs p.more s.further rows
      where
        by : (ys : List RowAt) (rs : List Row) → AreFurther t bytes stack (suc s.left.number) x.span.next ys rs → AreTableRows rs → CanBeTable (x ∷ ys)
        by [] [] are rows = absurd rows
        by [] (r ∷ rs) are rows = absurd are
        by (y ∷ ys) [] are rows = absurd are
        by (y ∷ ys) (r ∷ rs) are rows = lines-have-text (suc (suc s.left.number)) y.span.next ys rs are.2 rows
