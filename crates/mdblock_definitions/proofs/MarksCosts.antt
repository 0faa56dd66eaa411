-- What it costs to write the parts of definitions.
use Rattle.std.proofs.Common.{◌≡◌, ◌∙◌, ℕ, ◌+◌, ◌*◌, ◌≤◌, List, [], ◌∷◌, ap, arith, drop, length}
use Rattle.std.proofs.lemmas.List.{drop-drop}
use Rattle.mdblock_lines.specs.Containers.{Container}
use Rattle.mdblock_lines.specs.Lines.{line_bytes}
use Rattle.mdblock_containers.specs.declared.spans.RowAt.{RowAt}
use Rattle.mdblock_containers.specs.Costs.{columns_in}
use Rattle.mdblock_containers.specs.Rows.{Row}
use Rattle.mdblock_definitions.specs.declared.marks.Cursor.{Cursor}
use Rattle.mdblock_definitions.specs.Costs.{left_to_write, to_write}
use Rattle.mdblock_definitions.specs.Cursor.{AreLines, HaveLines, columns_left}

-- the columns that are left of a line
pub leaf-fits : (xs : List RowAt) (c : Cursor) (n : ℕ) → n ≤ columns_left c.at.columns (drop c.row xs) → 2 * n ≤ left_to_write xs c
leaf-fits xs c n w = by (drop c.row xs) w
  where
    by : (ys : List RowAt) → n ≤ columns_left c.at.columns ys → 2 * n ≤ to_write c.at.columns ys
    by [] w = omega (arith, w)
    by (y ∷ ys) w = omega (arith, w)

-- within a line
pub leaf-paid : (xs : List RowAt) (c : Cursor) (n : ℕ) → n ≤ columns_left c.at.columns (drop c.row xs) → to_write (c.at.columns + n) (drop c.row xs) + 2 * n ≡ left_to_write xs c
leaf-paid xs c n w = by (drop c.row xs) w
  where
    by : (ys : List RowAt) → n ≤ columns_left c.at.columns ys → to_write (c.at.columns + n) ys + 2 * n ≡ to_write c.at.columns ys
    by [] w = omega (arith, w)
    by (y ∷ ys) w = omega (arith, w)

pub leaf-pays : (xs : List RowAt) (c d : Cursor) (n : ℕ) → d.row ≡ c.row → d.at.columns ≡ c.at.columns + n → n ≤ columns_left c.at.columns (drop c.row xs) → left_to_write xs d + 2 * n ≡ left_to_write xs c
leaf-pays xs c d n er ec w = (λ k. to_write (ec k) (drop (er k) xs) + 2 * n) ∙ leaf-paid xs c n w

-- the line behind that of a cursor
pub line-pays : (xs : List RowAt) (c d : Cursor) (y : RowAt) (zs : List RowAt) (turns after : ℕ) → drop (c.row + 1) xs ≡ y ∷ zs → d.row ≡ c.row + 1 → after ≤ turns + 8 * y.span.size + 4
    → after + left_to_write xs d + 8 ≤ turns + left_to_write xs c
line-pays xs c d y zs turns after behind er cost = let more = before (drop c.row xs) (drop-drop 1 c.row xs ∙ behind) in omega (arith, cost, more, next)
  where
    next : left_to_write xs d ≤ 2 * y.span.size + 12 * columns_in zs
    next = let is : left_to_write xs d ≡ to_write d.at.columns (y ∷ zs) = ap (to_write d.at.columns) (ap (λ r. drop r xs) er ∙ behind) in omega (arith, is)

    before : (ys : List RowAt) → drop 1 ys ≡ y ∷ zs → 12 * columns_in (y ∷ zs) ≤ to_write c.at.columns ys
    before [] e = absurd (omega (arith, ap (λ (l : List RowAt). length l) e))
    before (v ∷ ys) e = omega (arith, ap columns_in e)

pub first-size : (t : ℕ) (bytes : List ℕ) (stack : List Container) (y : RowAt) (zs : List RowAt) → HaveLines t bytes stack (y ∷ zs) → y.span.size ≡ length (line_bytes t y.span.number 1 y.span.start (drop y.span.start bytes))
first-size t bytes stack y zs lines = by lines.all lines.are
  where
    by : (all : List Row) → AreLines t bytes stack (y ∷ zs) all → y.span.size ≡ length (line_bytes t y.span.number 1 y.span.start (drop y.span.start bytes))
    by [] are = absurd are
    by (r ∷ rs) are = are.0.placed.size_is
