-- Lines cut at tables: pieces hold all lines, and lines without a table are one piece.
use Rattle.std.proofs.Common.{◌≡◌, ◌≤◌, ℕ, zero, suc, ◌+◌, Bool, true, false, cond, List, [], ◌∷◌, ◌++◌, length, take, drop, refl, ap, ◌∙◌, arith, length-drop}
use Rattle.std.specs.List.{AllByRecursion, flat_map}
use Rattle.std.proofs.lemmas.List.{drop_all, take-append-drop, take_all}
use Rattle.mdblock_containers.specs.Rows.{Row}
use Rattle.mdblock_table_marks.specs.Laws.{CutsHoldLines, CutsNeedTables}
use Rattle.mdblock_table_marks.specs.TableCuts.{Cut, before_table, begins_in_table, cut_at_tables, table_lines, tabled, untabled}

module _ (is_in_table : Row → Bool) where
  -- each pair of pieces has a line
  pub pair-some : (row : Row) (rows : List Row) → let all = row ∷ rows in let n = before_table is_in_table all in 1 ≤ n + table_lines is_in_table (drop n all)
  pair-some row rows = by (begins_in_table is_in_table rows)
    where
      by : (b : Bool) → let n = cond b 0 (suc (before_table is_in_table rows)) in 1 ≤ n + table_lines is_in_table (drop n (row ∷ rows))
      by true = omega arith
      by false = omega arith

  hold : (bound : ℕ) (rows : List Row) → length rows ≤ bound → flat_map (λ (c : Cut). c.rows) (cut_at_tables is_in_table bound rows) ≡ rows
  hold zero [] few = refl
  hold zero (row ∷ rows) few = absurd (omega (arith, few))
  hold (suc bound) [] few = refl
  hold (suc bound) (row ∷ rows) few =
      let all = row ∷ rows in
      let n = before_table is_in_table all in
      let behind = drop n all in
      let m = table_lines is_in_table behind in
      let some = pair-some row rows in
      let rest = hold bound (drop m behind) (omega (arith, few, some, length-drop m behind, length-drop n all)) in
      ap (λ l. take n all ++ (take m behind ++ l)) rest ∙ ap (λ l. take n all ++ l) (take-append-drop m behind) ∙ take-append-drop n all

  -- ---- no table
  pub before-all : (rows : List Row) → AllByRecursion (λ r. is_in_table r ≡ false) rows → before_table is_in_table rows ≡ length rows
  before-all [] h = refl
  before-all (row ∷ rows) h = ap (λ b. cond b 0 (suc (before_table is_in_table rows))) (none rows h.1) ∙ ap suc (before-all rows h.1)
    where
      none : (rows : List Row) → AllByRecursion (λ r. is_in_table r ≡ false) rows → begins_in_table is_in_table rows ≡ false
      none [] k = refl
      none (r ∷ rs) k = k.0

  nothing-left : (bound : ℕ) → cut_at_tables is_in_table bound [] ≡ []
  nothing-left zero = refl
  nothing-left (suc bound) = refl

  abbrev pieces : ℕ → List Row → List Cut
  pieces bound behind = let m = table_lines is_in_table behind in tabled (take m behind) ∷ cut_at_tables is_in_table bound (drop m behind)

  pub one-piece : (bound : ℕ) (all : List Row) (n : ℕ) → length all ≤ n → untabled (take n all) ∷ pieces bound (drop n all) ≡ untabled all ∷ tabled [] ∷ []
  one-piece bound all n le = (λ i. untabled (take_all n all le i) ∷ pieces bound (drop_all n all le i)) ∙ ap (λ l. untabled all ∷ tabled [] ∷ l) (nothing-left bound)

pub cuts_hold_lines : CutsHoldLines
cuts_hold_lines is_in_table bound rows few = hold is_in_table bound rows few

pub cuts_need_tables : CutsNeedTables
cuts_need_tables is_in_table bound row rows none =
    let all = row ∷ rows in
    let n = before-all is_in_table all none in
    one-piece is_in_table bound all (before_table is_in_table all) (omega (arith, n))
