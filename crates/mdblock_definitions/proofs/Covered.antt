-- Each line is in exactly one section.
use Rattle.std.proofs.Common.{◌≡◌, ◌≤◌, ◌∙◌, ℕ, zero, suc, List, [], ◌∷◌, ◌++◌, Bool, true, false, cond, ap, append-nil, arith, drop, length, map, refl, take}
use Rattle.std.specs.List.{AllByRecursion, flat_map}
use Rattle.std.specs.Prelude.{◌&&◌, nat_le}
use Rattle.std.proofs.lemmas.Bool.Decides.{nat_tests}
use Rattle.std.proofs.lemmas.Grind.{flat_map-append}
use Rattle.std.proofs.lemmas.List.{length-drop, take-append-drop}
use Rattle.markdown_base.proofs.Common.{every-append}
use Rattle.markdown_base.specs.declared.configuration.Constructs.{Constructs}
use Rattle.mdblock_containers.specs.Rows.{Row, is_paragraph}
use Rattle.mdblock_containers.specs.Skeleton.{Part, further, parts, parts_in}
use Rattle.mdblock_table_marks.proofs.TableCuts.{cuts_hold_lines}
use Rattle.mdblock_table_marks.specs.TableCuts.{Cut, cut_at_tables}
use Rattle.mdinline_labels.specs.declared.definitions.Definition.{Definition}
use Rattle.mdinline_labels.specs.Definitions.{definitions}
use Rattle.mdblock_definitions.specs.Laws.{SectionsHoldLines}
use Rattle.mdblock_definitions.specs.Sections.{Section, before_defined, begins_text, cut, defined_in, defining, in_same, lines, paragraph_of, sections_in, sections_of, text_in, undefined, is_in_table, sections_of_cut, tabled}
use Rattle.mdblock_definitions.specs.Skeleton.{all_rows}
use Rattle.mdblock_definitions.proofs.CutAlike.{undefined-is}

abbrev pub rows_of : List Section → List Row
rows_of ss = flat_map (λ s. all_rows s.part) ss

-- the lines of parts are all lines
pub lines-of-parts : (b : ℕ) (rs : List Row) → length rs ≤ b → flat_map all_rows (parts_in b rs) ≡ rs
lines-of-parts b [] h = none b
  where
    none : (b : ℕ) → flat_map all_rows (parts_in b []) ≡ []
    none zero = refl
    none (suc b) = refl
lines-of-parts zero (r ∷ rs) h = absurd (omega (arith, h))
lines-of-parts (suc b) (r ∷ rs) h =
    let n = cond r.is_blank 0 (further rs) in
    ap (λ xs. r ∷ take n rs ++ xs) (lines-of-parts b (drop n rs) (omega (arith, h, length-drop n rs)))
    ∙ ap (λ xs. r ∷ xs) (take-append-drop n rs)

plain-lines : (around : Part) (ps : List Part) → rows_of (map (λ p. record { part = p; inside = lines false }) (map (in_same around) ps)) ≡ flat_map all_rows ps
plain-lines around [] = refl
plain-lines around (p ∷ ps) = ap (λ xs. all_rows p ++ xs) (plain-lines around ps)

undefined-lines : (x : Bool) (around : Part) (rs : List Row) → rows_of (undefined x around rs) ≡ rs
undefined-lines x around rs = ap rows_of (undefined-is x around rs) ∙ by (parts rs) ∙ lines-of-parts (length rs) rs (omega (arith))
  where
    by : (ps : List Part) → rows_of (sections_of (x && begins_text rs) (map (in_same around) ps)) ≡ flat_map all_rows ps
    by [] = refl
    by (p ∷ ps) = ap (λ xs. all_rows p ++ xs) (plain-lines around ps)

defining-lines : (ds : List Definition) (around : Part) (rs : List Row) → rows_of (defining ds around rs) ≡ rs
defining-lines ds around [] = refl
defining-lines ds around (r ∷ rs) = append-nil (r ∷ rs)

module _ (on : Constructs) where
  -- definitions have a line at least
  pub some-defined : (r : Row) (rs : List Row) → before_defined on false (r ∷ rs) ≡ 0 → 1 ≤ defined_in on (r ∷ rs)
  some-defined r rs h = by (nat_le 1 (defined_in on (r ∷ rs))) refl h
    where
      by : (x : Bool) → nat_le 1 (defined_in on (r ∷ rs)) ≡ x → cond x 0 (suc (before_defined on (is_paragraph r.leaf) rs)) ≡ 0 → 1 ≤ defined_in on (r ∷ rs)
      by true e k = grind (arith, nat_tests, e)
      by false e k = absurd (omega (arith, k))

  -- so fewer lines are left behind them
  pub fewer-left : (r : Row) (rs : List Row) (b : ℕ) → length (r ∷ rs) ≤ suc b
      → let behind = drop (before_defined on false (r ∷ rs)) (r ∷ rs) in length (drop (defined_in on behind) behind) ≤ b
  fewer-left r rs b h = by (before_defined on false (r ∷ rs)) refl
    where
      by : (n : ℕ) → before_defined on false (r ∷ rs) ≡ n → length (drop (defined_in on (drop n (r ∷ rs))) (drop n (r ∷ rs))) ≤ b
      by zero e = omega (arith, h, some-defined r rs e, length-drop (defined_in on (r ∷ rs)) (r ∷ rs))
      by (suc n) e = omega (arith, h, length-drop (defined_in on (drop n rs)) (drop n rs), length-drop n rs)

  pub cut-lines : (b : ℕ) (x : Bool) (around : Part) (rs : List Row) → length rs ≤ b → rows_of (sections_in on b x around rs) ≡ rs
  cut-lines zero x around [] h = refl
  cut-lines zero x around (r ∷ rs) h = absurd (omega (arith, h))
  cut-lines (suc b) x around [] h = refl
  cut-lines (suc b) x around (r ∷ rs) h =
      let all : List Row = r ∷ rs in
      let n = before_defined on false all in
      let behind = drop n all in
      let d = defined_in on behind in
      let front = undefined x around (take n all) in
      let middle = defining (definitions (text_in (paragraph_of behind))) around (take d behind) in
      let back = sections_in on b true around (drop d behind) in
      flat_map-append (λ s. all_rows s.part) front (middle ++ back)
      ∙ ap (λ ys. ys ++ rows_of (middle ++ back)) (undefined-lines x around (take n all))
      ∙ ap (λ ys. take n all ++ ys)
      (flat_map-append (λ s. all_rows s.part) middle back
      ∙ ap (λ ys. ys ++ rows_of back) (defining-lines (definitions (text_in (paragraph_of behind))) around (take d behind))
      ∙ ap (λ ys. take d behind ++ ys) (cut-lines b true around (drop d behind) (fewer-left r rs b h))
      ∙ take-append-drop d behind)
      ∙ take-append-drop n all

  -- ---- lines cut at tables

  -- what holds of each section of lines of a part without a table, and of each table, holds of all
  pub cuts-every : (around : Part) (Of : Section → Type 0) → ((rs : List Row) → AllByRecursion Of (sections_in on (length rs) false around rs)) → ((rs : List Row) → AllByRecursion Of (tabled around rs))
      → (cs : List Cut) → AllByRecursion Of (flat_map (sections_of_cut on around) cs)
  cuts-every around Of plain table [] = tt
  cuts-every around Of plain table (c ∷ cs) = every-append Of (sections_of_cut on around c) (flat_map (sections_of_cut on around) cs) (by c.is_table) (cuts-every around Of plain table cs)
    where
      by : (b : Bool) → AllByRecursion Of (cond b (tabled around c.rows) (sections_in on (length c.rows) false around c.rows))
      by true = table c.rows
      by false = plain c.rows

  tabled-lines : (around : Part) (rs : List Row) → rows_of (tabled around rs) ≡ rs
  tabled-lines around [] = refl
  tabled-lines around (r ∷ rs) = append-nil (r ∷ rs)

  -- each line of the pieces is in exactly one section
  cut-rows : (around : Part) (cs : List Cut) → rows_of (flat_map (sections_of_cut on around) cs) ≡ flat_map (λ (c : Cut). c.rows) cs
  cut-rows around [] = refl
  cut-rows around (c ∷ cs) =
      flat_map-append (λ s. all_rows s.part) (sections_of_cut on around c) (flat_map (sections_of_cut on around) cs)
      ∙ ap (λ ys. ys ++ rows_of (flat_map (sections_of_cut on around) cs)) (by c.is_table)
      ∙ ap (λ ys. c.rows ++ ys) (cut-rows around cs)
    where
      by : (b : Bool) → rows_of (cond b (tabled around c.rows) (sections_in on (length c.rows) false around c.rows)) ≡ c.rows
      by true = tabled-lines around c.rows
      by false = cut-lines (length c.rows) false around c.rows (omega arith)

  pub cuts-lines : (b : ℕ) (around : Part) (rs : List Row) → length rs ≤ b → rows_of (flat_map (sections_of_cut on around) (cut_at_tables is_in_table b rs)) ≡ rs
  cuts-lines b around rs few = cut-rows around (cut_at_tables is_in_table b rs) ∙ cuts_hold_lines is_in_table b rs few

  pub part-lines : (p : Part) → rows_of (cut on p) ≡ all_rows p
  part-lines p = by p.first.is_blank
    where
      by : (x : Bool) → rows_of (cond x (record { part = p; inside = lines false } ∷ []) (flat_map (sections_of_cut on p) (cut_at_tables is_in_table (suc (length p.more)) (all_rows p)))) ≡ all_rows p
      by true = append-nil (all_rows p)
      by false = cuts-lines (suc (length p.more)) p (all_rows p) (omega arith)

  all-lines : (ps : List Part) → rows_of (flat_map (cut on) ps) ≡ flat_map all_rows ps
  all-lines [] = refl
  all-lines (p ∷ ps) =
      flat_map-append (λ s. all_rows s.part) (cut on p) (flat_map (cut on) ps)
      ∙ ap (λ ys. ys ++ rows_of (flat_map (cut on) ps)) (part-lines p)
      ∙ ap (λ ys. all_rows p ++ ys) (all-lines ps)

pub sections-hold-lines : SectionsHoldLines
sections-hold-lines on rows = all-lines on (parts rows) ∙ lines-of-parts (length rows) rows (omega (arith))
