-- Lines cut before and behind each table, by a test of lines: whether a line is a delimiter row, or a row behind one. The header row of a table is the
-- line before its delimiter row.
use Rattle.std.specs.Prelude.{ℕ, zero, suc, Bool, true, false, cond, List, [], ◌∷◌, take, drop}
use Rattle.std.specs.List.{prefix_len}
use Rattle.mdblock_containers.specs.Rows.{Row}

-- A piece of lines: a table, or lines without one
pub record Cut : Type 0 where
  pub is_table : Bool
  pub rows : List Row

abbrev pub untabled : List Row → Cut
untabled rows = record { is_table = false; rows = rows }

abbrev pub tabled : List Row → Cut
tabled rows = record { is_table = true; rows = rows }

module _ (is_in_table : Row → Bool) where
  -- the first of these lines is a delimiter row, or a row behind one
  abbrev pub begins_in_table : List Row → Bool
  begins_in_table [] = false
  begins_in_table (row ∷ rows) = is_in_table row

  -- how many lines come before the header row of the first table: behind that comes a delimiter row
  abbrev pub before_table : List Row → ℕ
  before_table [] = 0
  before_table (row ∷ rows) = cond (begins_in_table rows) 0 (suc (before_table rows))

  -- how many lines a table has whose header row is the first of these
  abbrev pub table_lines : List Row → ℕ
  table_lines [] = 0
  table_lines (row ∷ rows) = suc (prefix_len is_in_table rows)

  -- lines, cut before and behind each table, into so many pairs of pieces at most
  abbrev pub cut_at_tables : (bound : ℕ) → List Row → List Cut
  cut_at_tables zero rows = []
  cut_at_tables (suc bound) [] = []
  cut_at_tables (suc bound) (row ∷ rows) =
      let all = row ∷ rows in
      let n = before_table all in
      let behind = drop n all in
      let m = table_lines behind in
      untabled (take n all) ∷ tabled (take m behind) ∷ cut_at_tables bound (drop m behind)
