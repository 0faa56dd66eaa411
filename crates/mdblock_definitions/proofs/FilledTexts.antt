-- Lines behind which a paragraph or a table goes on have text, and a line of a table comes behind such a line.
use Rattle.std.proofs.Common.{◌≡◌, ℕ, zero, suc, Bool, true, false, cond, List, [], ◌∷◌, ◌++◌, drop, length, refl, sym, ap, take, ◌∙◌}
use Rattle.std.specs.Prelude.{◌&&◌, ◌||◌, is_some}
use Rattle.std.proofs.lemmas.Bool.{false≢true}
use Rattle.markdown_base.specs.declared.configuration.Constructs.{Constructs}
use Rattle.markdown_base.proofs.Common.{and-right}
use Rattle.markdown_base.proofs.Facts.Bools.{and-left}
use Rattle.mdblock_leaf_blocks.specs.HtmlLines.{ends, waits_for_blank}
use Rattle.mdblock_leaf_blocks.specs.LeafBlocks.{Line, interrupts}
use Rattle.mdblock_leaf_blocks.specs.LineKinds.{LineKind, blank, closes, fence, heading, html, indented, is_blank_line, line_kind, text, thematic_break, underline_rank}
use Rattle.mdblock_tables.specs.Tables.{is_row}
use Rattle.mdblock_containers.specs.Prefixes.{containers_of}
use Rattle.mdblock_containers.specs.Rows.{Before, Leaf, Row, closed, is_paragraph, is_table, leaf_after, open_fence, open_html, open_paragraph, open_table, opened_by, rest_of}
use Rattle.mdblock_containers.specs.Rows as without
use Rattle.mdblock_definitions.specs.Rows.{Known, begins_table, is_row_of_table, known_after, row_of, row_without, rows_from, underlines_nothing}
use Rattle.mdblock_definitions.specs.Sectioned.{FollowsText, TextsAreFilled, holds_text}
use Rattle.mdblock_definitions.proofs.KnownReads.{blank-open, blank-without}

-- ---- fewer lines

follows-take : (r : Row) (n : ℕ) (rs : List Row) → FollowsText r rs → FollowsText r (take n rs)
follows-take r zero rs h = tt
follows-take r (suc n) [] h = tt
follows-take r (suc n) (s ∷ rs) h = h

pub texts-take : (n : ℕ) (rs : List Row) → TextsAreFilled rs → TextsAreFilled (take n rs)
texts-take zero rs h = tt
texts-take (suc n) [] h = tt
texts-take (suc n) (r ∷ rs) h = (h.0, (follows-take r n rs h.1.0, texts-take n rs h.1.1))

pub texts-drop : (n : ℕ) (rs : List Row) → TextsAreFilled rs → TextsAreFilled (drop n rs)
texts-drop zero rs h = h
texts-drop (suc n) [] h = tt
texts-drop (suc n) (r ∷ rs) h = texts-drop n rs h.1.1

pub texts-front : (xs ys : List Row) → TextsAreFilled (xs ++ ys) → TextsAreFilled xs
texts-front [] ys h = tt
texts-front (x ∷ []) ys h = (h.0, (tt, tt))
texts-front (x ∷ y ∷ xs) ys h = (h.0, (h.1.0, texts-front (y ∷ xs) ys h.1.1))

pub texts-back : (xs ys : List Row) → TextsAreFilled (xs ++ ys) → TextsAreFilled ys
texts-back [] ys h = h
texts-back (x ∷ xs) ys h = texts-back xs ys h.1.1

-- ---- which lines are in a table

module _ (on : Constructs) where
  -- no line opens a table alone
  opened-none : (kind : LineKind) (t : List ℕ) → is_table (opened_by on kind t) ≡ false
  opened-none blank t = refl
  opened-none indented t = refl
  opened-none heading t = refl
  opened-none (fence f) t = refl
  opened-none (html kind) t = by (ends kind t)
    where
      by : (x : Bool) → is_table (cond x closed (open_html kind)) ≡ false
      by true = refl
      by false = refl
  opened-none thematic_break t = refl
  opened-none text t = refl

  either-none : (b : Bool) (x y : Leaf) → is_table x ≡ false → is_table y ≡ false → is_table (cond b x y) ≡ false
  either-none true x y h k = h
  either-none false x y h k = k

  pub after-none : (leaf : Leaf) (t : List ℕ) → is_table (leaf_after on leaf t) ≡ false
  after-none closed t = opened-none (line_kind on t) t
  after-none open_paragraph t = either-none (is_some (underline_rank on t)) closed _ refl (either-none (interrupts (line_kind on t)) (opened_by on (line_kind on t) t) open_paragraph (opened-none (line_kind on t) t) refl)
  after-none (open_fence f) t = either-none (closes on f t) closed (open_fence f) refl refl
  after-none (open_html kind) t = either-none (cond (waits_for_blank kind) (is_blank_line t) (ends kind t)) closed (open_html kind) refl refl
  after-none open_table t = opened-none (line_kind on t) t

  pub plain-none : (b : Before) (n : ℕ) (line : Line) → is_table (without.row_of on b n line).leaf ≡ false
  plain-none b n line =
      let row = without.row_of on b n line in
      let leaf = leaf_after on (cond row.stays b.leaf closed) (rest_of row) in
      either-none row.is_left_blank closed (cond row.is_lazy open_paragraph leaf) refl (either-none row.is_lazy open_paragraph leaf refl (after-none (cond row.stays b.leaf closed) (rest_of row)))

  module _ (k : Known) (n : ℕ) (line : Line) where
    abbrev plain : Row
    plain = without.row_of on k.before n line

    abbrev row : Row
    row = row_without on k n line

    pub without-none : is_table row.leaf ≡ false
    without-none = either-none (underlines_nothing on k plain) open_paragraph plain.leaf refl (plain-none k.before n line)

    -- what a table goes on behind would be text without it
    pub text-without : holds_text (row_of on k n line) ≡ true → is_paragraph row.leaf ≡ true
    text-without = by (is_row_of_table on k row) refl
      where
        by : (w : Bool) → is_row_of_table on k row ≡ w → (is_paragraph (cond w open_table row.leaf) || is_table (cond w open_table row.leaf)) ≡ true → is_paragraph row.leaf ≡ true
        by true e h = and-left (is_paragraph row.leaf) _ (and-right row.stays _ (and-right on.gfm_table _ e))
        by false e h = or-left (is_paragraph row.leaf) (is_table row.leaf) without-none h
          where
            or-left : (a b : Bool) → b ≡ false → (a || b) ≡ true → a ≡ true
            or-left true b e h = refl
            or-left false b e h = absurd (false≢true (sym e ∙ h))

    -- and so it is not blank
    pub text-not-blank : holds_text (row_of on k n line) ≡ true → plain.is_blank ≡ false
    text-not-blank h = by plain.is_blank refl
      where
        by : (x : Bool) → plain.is_blank ≡ x → x ≡ false
        by false e = refl
        by true e = absurd (false≢true (sym (ap is_paragraph (blank-without on k n line e) ∙ blank-open on k n line e) ∙ text-without h))

    -- a line in a table comes behind text, or a line of the table
    pub table-before : is_table (row_of on k n line).leaf ≡ true → (is_paragraph k.before.leaf || is_table k.before.leaf) ≡ true
    table-before = by (is_row_of_table on k row) refl
      where
        either : (p t a b : Bool) → ((p && a) || (t && b)) ≡ true → (p || t) ≡ true
        either true t a b h = refl
        either false true a b h = refl
        either false false a b h = h

        by : (w : Bool) → is_row_of_table on k row ≡ w → is_table (cond w open_table row.leaf) ≡ true → (is_paragraph k.before.leaf || is_table k.before.leaf) ≡ true
        by true e h = either (is_paragraph k.before.leaf) (is_table k.before.leaf) (begins_table on k row) (is_row (rest_of row)) (and-right (is_paragraph row.leaf) _ (and-right row.stays _ (and-right on.gfm_table _ e)))
        by false e h = absurd (false≢true (sym without-none ∙ h))

    -- and only where tables are on
    pub table-on : is_table (row_of on k n line).leaf ≡ true → on.gfm_table ≡ true
    table-on = by (is_row_of_table on k row) refl
      where
        by : (w : Bool) → is_row_of_table on k row ≡ w → is_table (cond w open_table row.leaf) ≡ true → on.gfm_table ≡ true
        by true e h = and-left on.gfm_table _ e
        by false e h = absurd (false≢true (sym without-none ∙ h))

  -- what goes on behind a line, the line says
  pub text-behind : (b : Before) (r : Row) → (is_paragraph (without.known_after on b r).leaf || is_table (without.known_after on b r).leaf) ≡ true → holds_text r ≡ true
  text-behind b r = by r.is_left_blank r.is_lazy
    where
      known : (x y : Bool) → Before
      known x y = cond x (record b { depth = length r.went_on; leaf = closed }) (cond y (record b { leaf = r.leaf }) (record { stack = containers_of r.went_on ++ containers_of r.begun; depth = length (containers_of r.went_on ++ containers_of r.begun); leaf = r.leaf }))

      by : (x y : Bool) → (is_paragraph (known x y).leaf || is_table (known x y).leaf) ≡ true → (is_paragraph r.leaf || is_table r.leaf) ≡ true
      by true y e = absurd (false≢true e)
      by false true e = e
      by false false e = e

  pub follows-from : (k : Known) (n : ℕ) (line : Line) (ls : List Line) → FollowsText (row_of on k n line) (rows_from on (known_after on k (row_of on k n line)) (suc n) ls)
  follows-from k n line [] = tt
  follows-from k n line (l ∷ ls) = λ e. let here = row_of on k n line in text-behind k.before here (table-before (known_after on k here) (suc n) l e)
