-- Where tables begin and end among lines, line by line; and their sections, table by table.
use Rattle.std.proofs.Common.{◌≡◌, ◌<◌, ◌≤◌, ◌+◌, ◌-◌, ℕ, zero, suc, true, false, cond, List, [], ◌∷◌, ◌++◌, append-nil, append_assoc, arith, drop, length, refl, sym, ap, subst, take, ◌∙◌}
use Rattle.std.specs.List.{flat_map, prefix_len}
use Rattle.std.proofs.lemmas.List.{drop-drop, length-drop, length-take-le, take_rest}
use Rattle.markdown_base.specs.declared.configuration.Constructs.{Constructs}
use Rattle.mdblock_containers.specs.Ahead.{AreRows}
use Rattle.mdblock_containers.specs.declared.spans.RowAt.{RowAt}
use Rattle.mdblock_containers.specs.Rows.{Row}
use Rattle.mdblock_containers.specs.Skeleton.{Part}
use Rattle.mdblock_table_marks.proofs.TableCuts.{pair-some}
use Rattle.mdblock_table_marks.specs.TableCuts.{before_table, begins_in_table, cut_at_tables, table_lines}
use Rattle.mdblock_definitions.specs.Costs.{bytes_in}
use Rattle.mdblock_definitions.specs.declared.sections.Section.{Section as CodeSection}
use Rattle.mdblock_definitions.specs.Sections.{Section, is_in_table, sections_in, sections_of_cut, tabled}
use Rattle.mdblock_definitions.specs.Seen.{AreSections, AreThese}
use Rattle.mdblock_definitions.proofs.SectionCosts.{bytes-cut, bytes-more, bytes-some}
use Rattle.mdblock_definitions.proofs.SectionLemmas.{next-line, these-left}

-- ---- lines of a part, piece by piece

-- `n` lines from one on: where they end, and what bytes they have
pub record HasPiece (t : ℕ) (bytes : List ℕ) (rows : List RowAt) (i n : ℕ) : Type 0 where
  pub within : i + n ≤ length rows
  pub some : n ≤ bytes_in t bytes (take ((i + n) - i) (drop i rows))
  pub paid : bytes_in t bytes (take (i + n) rows) ≡ bytes_in t bytes (take i rows) + bytes_in t bytes (take ((i + n) - i) (drop i rows))
  pub left : bytes_in t bytes (take (i + n) rows) + (length rows - (i + n)) ≤ bytes_in t bytes rows

pub has-piece : (t : ℕ) (bytes : List ℕ) (rows : List RowAt) (i n : ℕ) → i ≤ length rows → n ≤ length (take (length rows - i) (drop i rows)) → HasPiece t bytes rows i n
has-piece t bytes rows i n inside few =
    let rest = ap (λ (l : List RowAt). length l) (take_rest rows i) in
    let within : i + n ≤ length rows = omega (arith, few, rest, length-drop i rows, inside) in
    let size : length (take n (drop i rows)) ≡ n = length-take-le n (drop i rows) (omega (arith, within, length-drop i rows)) in
    let many : (i + n) - i ≡ n = omega arith in
    let same : bytes_in t bytes (take ((i + n) - i) (drop i rows)) ≡ bytes_in t bytes (take n (drop i rows)) = ap (λ k. bytes_in t bytes (take k (drop i rows))) many in
    record {
      within = within;
      some = omega (arith, same, size, bytes-some t bytes (take n (drop i rows)));
      paid = bytes-more t bytes i n rows ∙ ap (λ k. bytes_in t bytes (take i rows) + k) (sym same);
      left = omega (arith, bytes-cut t bytes (i + n) rows, bytes-some t bytes (drop (i + n) rows), length-drop (i + n) rows);
    }

-- `n` lines before a table, and `m` of it, as they are counted
pub record HasPair (all : List Row) (i n m : ℕ) : Type 0 where
  pub before : n ≡ before_table is_in_table (drop i all)
  pub lines : m ≡ table_lines is_in_table (drop n (drop i all))
  pub some : 1 ≤ n + m

pub has-pair : (t : ℕ) (bytes : List ℕ) (rows : List RowAt) (all : List Row) (i n m : ℕ) → AreThese t bytes rows all → i < length rows
    → ((left : List Row) → AreRows (take (length rows - i) (drop i rows)) left → n ≡ before_table is_in_table left)
    → ((left : List Row) → AreRows (take (length rows - (i + n)) (drop (i + n) rows)) left → m ≡ table_lines is_in_table left) → HasPair all i n m
has-pair t bytes rows all i n m these inside first second =
    let line = next-line rows all i these.rows inside in
    let left = drop i all in
    let before : n ≡ before_table is_in_table left = first left (these-left t bytes rows all i these).rows in
    let lines : m ≡ table_lines is_in_table (drop n left) = second (drop (i + n) all) (these-left t bytes rows all (i + n) these).rows ∙ ap (table_lines is_in_table) (sym (drop-drop n i all)) in
    let pair = pair-some is_in_table line.row (drop (i + 1) all) in
    let front : n ≡ before_table is_in_table (line.row ∷ drop (i + 1) all) = before ∙ ap (before_table is_in_table) line.rest in
    let back : m ≡ table_lines is_in_table (drop (before_table is_in_table (line.row ∷ drop (i + 1) all)) (line.row ∷ drop (i + 1) all)) = lines ∙ (λ k. table_lines is_in_table (drop (front k) (line.rest k))) in
    record { before = before; lines = lines; some = omega (arith, pair, front, back) }

-- ---- before the first table

-- `n` lines were passed, and these are left
abbrev pub Passed : (all left : List Row) → (n : ℕ) → Type 0
Passed all left n = before_table is_in_table all ≡ n + before_table is_in_table left

pub passed-none : (all : List Row) → Passed all all 0
passed-none all = omega arith

pub passed-more : (all left behind : List Row) (r : Row) (n : ℕ) → left ≡ r ∷ behind → begins_in_table is_in_table behind ≡ false → Passed all left n → Passed all behind (n + 1)
passed-more all left behind r n e none h =
    let step : before_table is_in_table left ≡ suc (before_table is_in_table behind) = ap (before_table is_in_table) e ∙ ap (λ b. cond b 0 (suc (before_table is_in_table behind))) none in
    omega (arith, h, step)

pub passed-found : (all left behind : List Row) (r : Row) (n : ℕ) → left ≡ r ∷ behind → begins_in_table is_in_table behind ≡ true → Passed all left n → n ≡ before_table is_in_table all
passed-found all left behind r n e some h =
    let step : before_table is_in_table left ≡ 0 = ap (before_table is_in_table) e ∙ ap (λ b. cond b 0 (suc (before_table is_in_table behind))) some in
    omega (arith, h, step)

pub passed-all : (all left : List Row) (n : ℕ) → left ≡ [] → Passed all left n → n ≡ before_table is_in_table all
passed-all all left n e h = let step : before_table is_in_table left ≡ 0 = ap (before_table is_in_table) e in omega (arith, h, step)

-- ---- lines of a table

abbrev pub InTable : (all left : List Row) → (n : ℕ) → Type 0
InTable all left n = table_lines is_in_table all ≡ n + prefix_len is_in_table left

pub in-first : (all : List Row) (r : Row) (rs : List Row) → all ≡ r ∷ rs → InTable all (drop 1 all) 1
in-first all r rs e = let step : table_lines is_in_table all ≡ suc (prefix_len is_in_table (drop 1 all)) = ap (table_lines is_in_table) e ∙ ap (λ l. suc (prefix_len is_in_table (drop 1 l))) (sym e) in omega (arith, step)

pub in-more : (all left behind : List Row) (r : Row) (n : ℕ) → left ≡ r ∷ behind → is_in_table r ≡ true → InTable all left n → InTable all behind (n + 1)
in-more all left behind r n e is h =
    let step : prefix_len is_in_table left ≡ 1 + prefix_len is_in_table behind = ap (prefix_len is_in_table) e ∙ ap (λ b. cond b (1 + prefix_len is_in_table behind) 0) is in
    omega (arith, h, step)

pub in-end : (all left behind : List Row) (r : Row) (n : ℕ) → left ≡ r ∷ behind → is_in_table r ≡ false → InTable all left n → n ≡ table_lines is_in_table all
in-end all left behind r n e is h =
    let step : prefix_len is_in_table left ≡ 0 = ap (prefix_len is_in_table) e ∙ ap (λ b. cond b (1 + prefix_len is_in_table behind) 0) is in
    omega (arith, h, step)

pub in-all : (all left : List Row) (n : ℕ) → left ≡ [] → InTable all left n → n ≡ table_lines is_in_table all
in-all all left n e h = let step : prefix_len is_in_table left ≡ 0 = ap (prefix_len is_in_table) e in omega (arith, h, step)

-- ---- sections

module _ (on : Constructs) (around : Part) where
  abbrev made : (bound : ℕ) → List Row → List Section
  made bound rows = flat_map (sections_of_cut on around) (cut_at_tables is_in_table bound rows)

  -- sections so far, those of the lines that are left, and all
  pub record TablesCut (xs : List CodeSection) (left : List Row) (target : List Section) : Type 0 where
    pub front : List Section
    pub bound : ℕ
    pub few : length left ≤ bound
    pub are : AreSections xs front
    pub same : front ++ made bound left ≡ target

  pub tables-init : (xs : List CodeSection) (all : List Row) → xs ≡ [] → TablesCut xs all (made (length all) all)
  tables-init xs all e = record { front = []; bound = length all; few = omega arith; are = subst (λ (l : List CodeSection). AreSections l []) (sym e) tt; same = refl }

  pub tables-end : (xs : List CodeSection) (left : List Row) (target : List Section) → left ≡ [] → TablesCut xs left target → AreSections xs target
  tables-end xs left target e w = subst (AreSections xs) (sym (append-nil w.front) ∙ ap (λ l. w.front ++ l) (sym (none w.bound)) ∙ ap (λ l. w.front ++ made w.bound l) (sym e) ∙ w.same) w.are
    where
      none : (b : ℕ) → made b [] ≡ []
      none zero = refl
      none (suc b) = refl

  -- the lines before a table, and the table
  pub tables-more : (xs zs : List CodeSection) (n m : ℕ) (left next rs : List Row) (r : Row) (target : List Section) → left ≡ r ∷ rs → n ≡ before_table is_in_table left → m ≡ table_lines is_in_table (drop n left) → next ≡ drop m (drop n left) → 1 ≤ n + m
      → ((before : List Section) → AreSections xs before → AreSections zs ((before ++ sections_in on (length (take n left)) false around (take n left)) ++ tabled around (take m (drop n left))))
      → TablesCut xs left target → TablesCut zs next target
  tables-more xs zs n m left next rs r target el en em ex some hz w = by w.bound w.few w.same
    where
      a : List Section
      a = sections_in on (length (take n left)) false around (take n left)

      b : List Section
      b = tabled around (take m (drop n left))

      by : (bound : ℕ) → length left ≤ bound → w.front ++ made bound left ≡ target → TablesCut zs next target
      by zero few same = absurd (omega (arith, few, ap (λ (l : List Row). length l) el))
      by (suc bound) few same =
          let step : made (suc bound) left ≡ a ++ (b ++ made bound (drop m (drop n left))) =
          ap (made (suc bound)) el
          ∙ (λ i. let l = sym el i in let u = before_table is_in_table l in let behind = drop u l in let v = table_lines is_in_table behind in
          sections_in on (length (take u l)) false around (take u l) ++ (tabled around (take v behind) ++ made bound (drop v behind)))
          ∙ (λ i. let u = sym en i in let behind = drop u left in let v = table_lines is_in_table behind in
          sections_in on (length (take u left)) false around (take u left) ++ (tabled around (take v behind) ++ made bound (drop v behind)))
          ∙ (λ i. a ++ (tabled around (take (sym em i) (drop n left)) ++ made bound (drop (sym em i) (drop n left)))) in
          record {
            front = (w.front ++ a) ++ b;
            bound = bound;
            few = omega (arith, few, some, ap (λ (l : List Row). length l) ex, length-drop m (drop n left), length-drop n left, ap (λ (l : List Row). length l) el);
            are = hz w.front w.are;
            same = append_assoc (w.front ++ a) b (made bound next) ∙ append_assoc w.front a (b ++ made bound next) ∙ ap (λ l. w.front ++ (a ++ (b ++ made bound l))) ex ∙ ap (λ l. w.front ++ l) (sym step) ∙ same;
          }
