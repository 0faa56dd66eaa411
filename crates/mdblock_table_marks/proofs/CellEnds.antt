-- Marks made of spans end behind the texts of cells.
use Rattle.std.proofs.Common.{◌≡◌, ℕ, Bool, false, List, [], ◌∷◌, ◌++◌, refl, ap, ◌∙◌}
use Rattle.std.specs.Prelude.{None}
use Rattle.markdown_base.specs.declared.event.Kind.TheVariants.{Exit}
use Rattle.markdown_base.specs.declared.event.Name.{Name}
use Rattle.markdown_base.specs.Virtual.{Seat, end_after}
use Rattle.mdconstructs_machines.specs.Spans.{event}
use Rattle.mdblock_leaf_blocks.specs.LeafEvents.{Mark, span_marks}
use Rattle.mdblock_containers.specs.Rows.{Row}
use Rattle.mdblock_containers.proofs.AnySpans.{IsKeptByAnySpans}
use Rattle.mdblock_table_marks.specs.CellPlaces.{ends_entering}
use Rattle.mdblock_table_marks.specs.Cells.{enters_cell}
use Rattle.mdblock_table_marks.specs.TableMarks.{rows_marks}
use Rattle.mdblock_table_marks.proofs.TableShapes.{tables-keep}

pub ends-both : (b : Bool) (xs ys : List Mark) → ends_entering b (xs ++ ys) ≡ ends_entering (ends_entering b xs) ys
ends-both b [] ys = refl
ends-both b ((e, c) ∷ xs) ys = ends-both (enters_cell e) xs ys

module _ (bytes : List ℕ) where
  abbrev pub IsOut : List Mark → List Seat → Type 0
  IsOut marks seats = ends_entering false marks ≡ false

  span-out : (n : Name) (ss : List Seat) (inside : List Mark) → ends_entering false inside ≡ false → ends_entering false (span_marks bytes n ss inside) ≡ false
  span-out n [] inside h = h
  span-out n (s ∷ ss) inside h = ends-both _ inside ((event bytes Exit n (end_after s.end ss), None) ∷ [])

  pub out-kept-by : IsKeptByAnySpans bytes IsOut
  out-kept-by = record {
    none = refl;
    both = λ xs ys a b h k. ends-both false xs ys ∙ ap (λ x. ends_entering x ys) h ∙ k;
    alone = λ n ss. span-out n ss [] refl;
    around = λ n ss inside void h. span-out n ss inside h;
  }

  pub tables-out : (header : Row) (rows : List Row) → ends_entering false (rows_marks bytes header rows) ≡ false
  tables-out header rows = tables-keep bytes IsOut out-kept-by header rows
