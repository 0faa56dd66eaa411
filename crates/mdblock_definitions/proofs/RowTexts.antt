-- Lines of a document have their texts.
use Rattle.std.proofs.Common.{◌≡◌, ℕ, suc, List, [], ◌∷◌, ap, arith, drop, length, subst, sym, ◌∙◌}
use Rattle.mdblock_leaf_blocks.specs.LeafBlocks.{text_of}
use Rattle.mdblock_lines.specs.Containers.{Container}
use Rattle.mdblock_lines.specs.Lines.{line_bytes}
use Rattle.mdblock_containers.specs.declared.spans.RowAt.{RowAt}
use Rattle.mdblock_containers.specs.Parts.{open_behind}
use Rattle.mdblock_containers.specs.Rows.{Row}
use Rattle.mdblock_containers.specs.Spans.{AreRowsIn, IsRowIn}
use Rattle.mdblock_containers.specs.Stretches.{AreFurther}
use Rattle.mdblock_containers.specs.Views.{IsRow}
use Rattle.mdblock_containers.proofs.DocumentRows.{text_of_line_at}
use Rattle.mdblock_definitions.specs.Held.{HasText}
use Rattle.mdblock_definitions.specs.Seen.{AreThese}

module _ (t : ℕ) (bytes : List ℕ) (stack : List Container) where
  has-text : (number start : ℕ) (x : RowAt) (r : Row) → IsRowIn t bytes stack number start x r → HasText t bytes x r
  has-text number start x r row =
      let here : text_of r.line ≡ line_bytes t number 1 start (drop start bytes) = ap text_of row.line ∙ text_of_line_at t number start (drop start bytes) in
      record {
        inside = omega (arith, row.placed.inside, row.placed.start_is);
        text = here ∙ (λ k. line_bytes t (sym row.placed.number_is k) 1 (sym row.placed.start_is k) (drop (sym row.placed.start_is k) bytes));
        columns = row.is.columns;
        within = omega (arith, row.placed.columns, row.is.columns, row.placed.size_is, ap (λ (l : List ℕ). length l) here);
      }

  same-number : (number start : ℕ) (x : RowAt) (r : Row) → IsRowIn t bytes stack number start x r → IsRow x.span.number x.row r
  same-number number start x r row = subst (λ (n : ℕ). IsRow n x.row r) (sym row.placed.number_is) row.is

  -- the first line of a part, or one of its further lines
  pub these-one : (number start : ℕ) (x : RowAt) (r : Row) (xs : List RowAt) (rs : List Row) → IsRowIn t bytes stack number start x r → AreThese t bytes xs rs → AreThese t bytes (x ∷ xs) (r ∷ rs)
  these-one number start x r xs rs row more = record { rows = (same-number number start x r row, more.rows); texts = (has-text number start x r row, more.texts) }

  pub these-further : (number start : ℕ) (xs : List RowAt) (rs : List Row) → AreFurther t bytes stack number start xs rs → AreThese t bytes xs rs
  these-further number start [] [] are = record { rows = tt; texts = tt }
  these-further number start [] (r ∷ rs) are = absurd are
  these-further number start (x ∷ xs) [] are = absurd are
  these-further number start (x ∷ xs) (r ∷ rs) are = these-one number start x r xs rs are.0 (these-further (suc number) x.span.next xs rs are.2)

-- the lines of a document from one on
pub these-in : (t : ℕ) (bytes : List ℕ) (stack : List Container) (number start : ℕ) (xs : List RowAt) (rs : List Row) → AreRowsIn t bytes stack number start xs rs → AreThese t bytes xs rs
these-in t bytes stack number start [] [] are = record { rows = tt; texts = tt }
these-in t bytes stack number start [] (r ∷ rs) are = absurd are
these-in t bytes stack number start (x ∷ xs) [] are = absurd are
these-in t bytes stack number start (x ∷ xs) (r ∷ rs) are = these-one t bytes stack number start x r xs rs are.0 (these-in t bytes (open_behind stack r) (suc number) x.span.next xs rs are.1)
