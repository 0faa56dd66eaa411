-- What the sections of lines of a part have that are cut at tables, if those of lines without a table have it, and each table.
use Rattle.std.proofs.Common.{◌≡◌, ℕ, zero, suc, ◌+◌, Bool, true, false, cond, List, [], ◌∷◌, ◌++◌, length, drop, take, refl, sym, ap, subst, ◌∙◌, arith}
use Rattle.std.specs.List.{flat_map, prefix_len, AllByRecursion}
use Rattle.std.proofs.lemmas.Bool.{false≢true}
use Rattle.markdown_base.specs.declared.configuration.Constructs.{Constructs}
use Rattle.markdown_base.proofs.Common.{every-append}
use Rattle.mdblock_containers.specs.Rows.{Row}
use Rattle.mdblock_containers.specs.Skeleton.{Part}
use Rattle.mdblock_table_marks.specs.TableCuts.{before_table, begins_in_table, cut_at_tables, table_lines}
use Rattle.mdblock_definitions.specs.Sections.{Section, is_in_table, sections_in, sections_of_cut, table, tabled}

-- the second of some lines, if they have a first, is in a table
abbrev GoesOn : List Row → Type 0
GoesOn rs = (rows : List Row) (header : Row) → rs ≡ header ∷ rows → begins_in_table is_in_table rows ≡ true

-- behind the lines before the first table comes its header row, and then a line of it
begins-behind : (all : List Row) → GoesOn (drop (before_table is_in_table all) all)
begins-behind [] rows header e = absurd (cc)
begins-behind (r ∷ rs) rows header e = by (begins-behind rs rows header) (begins_in_table is_in_table rs) refl e
  where
    by : (drop (before_table is_in_table rs) rs ≡ header ∷ rows → begins_in_table is_in_table rows ≡ true)
        → (x : Bool) → begins_in_table is_in_table rs ≡ x → drop (cond x 0 (suc (before_table is_in_table rs))) (r ∷ rs) ≡ header ∷ rows → begins_in_table is_in_table rows ≡ true
    by more true ex k = ap (begins_in_table is_in_table) (sym (ap (drop 1) k)) ∙ ex
    by more false ex k = more k

-- What is so of sections, by what is so of the lines before them (`Ready`) and of lines that begin with a header row (`Headed`)
module _ (on : Constructs) (around : Part) (Is : Section → Type 0) (Ready Headed : List Row → Type 0) where
  -- lines without a table, and those behind them
  abbrev pub PlainIs : Type 0
  PlainIs = (n : ℕ) (rs : List Row) → Ready rs → AllByRecursion Is (sections_in on (length (take n rs)) false around (take n rs)) × Headed (drop n rs)

  -- a table of a header row, a delimiter row and rows behind it, and the lines behind those
  abbrev pub TableIs : Type 0
  TableIs = (header row : Row) (rs : List Row) → Headed (header ∷ row ∷ rs) → is_in_table row ≡ true
      → let n = prefix_len is_in_table rs in Is (record { part = record around { first = header; more = row ∷ take n rs }; inside = table }) × Ready (drop n rs)

  abbrev pieces : ℕ → List Row → List Section
  pieces b rs = flat_map (sections_of_cut on around) (cut_at_tables is_in_table b rs)

  headed-are : (b : ℕ) (rs : List Row) → TableIs → ((rows : List Row) → Ready rows → AllByRecursion Is (pieces b rows)) → Headed rs → GoesOn rs
      → let n = table_lines is_in_table rs in AllByRecursion Is (tabled around (take n rs) ++ pieces b (drop n rs))
  headed-are zero [] one more h begins = tt
  headed-are (suc b) [] one more h begins = tt
  headed-are b (header ∷ []) one more h begins = absurd (false≢true (begins [] header refl))
  headed-are b (header ∷ r ∷ rs) one more h begins =
      let is : is_in_table r ≡ true = begins (r ∷ rs) header refl in
      let n = prefix_len is_in_table rs in
      let next : 1 + n ≡ suc n = omega arith in
      let many : prefix_len is_in_table (r ∷ rs) ≡ suc n = ap (λ x. cond x (1 + n) 0) is ∙ next in
      let here = one header r rs h is in
      subst (λ (k : ℕ). AllByRecursion Is (tabled around (take (suc k) (header ∷ r ∷ rs)) ++ pieces b (drop k (r ∷ rs)))) (sym many) (here.0, more (drop n rs) here.1)

  pub cuts-are : PlainIs → TableIs → (b : ℕ) (rs : List Row) → Ready rs → AllByRecursion Is (flat_map (sections_of_cut on around) (cut_at_tables is_in_table b rs))
  cuts-are plain one zero rs h = tt
  cuts-are plain one (suc b) [] h = tt
  cuts-are plain one (suc b) (r ∷ rs) h =
      let all : List Row = r ∷ rs in
      let n = before_table is_in_table all in
      let behind = drop n all in
      let m = table_lines is_in_table behind in
      let front = plain n all h in
      every-append Is (sections_in on (length (take n all)) false around (take n all)) (tabled around (take m behind) ++ pieces b (drop m behind)) front.0
      (headed-are b behind one (λ rows ready. cuts-are plain one b rows ready) front.1 (begins-behind all))
