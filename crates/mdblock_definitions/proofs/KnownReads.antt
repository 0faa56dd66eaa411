-- How lines are read where paragraphs may begin with definitions: as containers read them, but for leaf blocks. A blank line is no underline.
use Rattle.std.proofs.Common.{◌≡◌, ℕ, suc, ◌+◌, Bool, true, false, cond, List, [], ◌∷◌, arith, drop, length, refl, ap, ◌∙◌, sym}
use Rattle.std.specs.Prelude.{◌&&◌, is_some, ◌||◌}
use Rattle.std.proofs.Math.Bool.{and-false}
use Rattle.std.proofs.lemmas.Bool.{false≢true}
use Rattle.markdown_base.specs.declared.configuration.Constructs.{Constructs}
use Rattle.markdown_base.proofs.Common.{and-right}
use Rattle.mdconstructs_tables.specs.Breaks.{is_white}
use Rattle.mdblock_leaf_blocks.specs.LeafBlocks.{Line}
use Rattle.mdblock_leaf_blocks.specs.LineKinds.{indent, is_blank_line, underline_rank, unindented}
use Rattle.mdblock_containers.specs.Rows.{Row, nothing_known, open_paragraph, rest_of, Leaf, closed, is_paragraph, is_table, leaf_after, open_table}
use Rattle.mdblock_containers.specs.Rows as without
use Rattle.mdblock_tables.specs.Tables.{is_row}
use Rattle.mdblock_containers.proofs.CostLemmas.{blank_leaf, blank_not_lazy}
use Rattle.mdblock_containers.proofs.LazyLemmas.{underline_some}
use Rattle.mdblock_containers.proofs.RowReads.{Reads}
use Rattle.mdblock_definitions.specs.Rows.{Known, is_behind_text, is_used_up, known_after, row_of, underlines_nothing, begins_table, row_without}

-- a test of three parts, or of four, whose last one fails
pub third-fails : (a b : Bool) → (a && (b && false)) ≡ false
third-fails a b = ap (λ (x : Bool). a && x) (and-false b) ∙ and-false a

pub fourth-fails : (a b c : Bool) → (a && (b && (c && false))) ≡ false
fourth-fails a b c = ap (λ (x : Bool). a && x) (third-fails b c) ∙ and-false a

-- nothing is behind the white space of a blank line
pub blank-unindented : (t : List ℕ) → is_blank_line t ≡ true → unindented t ≡ []
blank-unindented [] h = refl
blank-unindented (b ∷ bs) h = by (is_white b) h (blank-unindented bs (and-right (is_white b) (is_blank_line bs) h))
  where
    by : (x : Bool) → (x && is_blank_line bs) ≡ true → unindented bs ≡ [] → drop (cond x (1 + indent bs) 0) (b ∷ bs) ≡ []
    by true e rest = let on : 1 + indent bs ≡ suc (indent bs) = omega arith in (λ k. drop (on k) (b ∷ bs)) ∙ rest
    by false e rest = absurd (false≢true e)

module _ (on : Constructs) (k : Known) (n : ℕ) (line : Line) where
  abbrev plain : Row
  plain = without.row_of on k.before n line

  -- a blank line is no underline
  pub blank-nothing : plain.is_blank ≡ true → underlines_nothing on k plain ≡ false
  blank-nothing h = by on.definition (is_behind_text k.before plain) (is_some (underline_rank on (rest_of plain))) (is_used_up k.text) refl
    where
      none : is_some (underline_rank on (rest_of plain)) ≡ true → ⊥
      none e = let some = underline_some on (rest_of plain) e in let nothing = ap (λ (l : List ℕ). length l) (blank-unindented (rest_of plain) h) in absurd (omega (arith, some, nothing))

      by : (a b c d : Bool) → is_some (underline_rank on (rest_of plain)) ≡ c → (a && (b && (c && d))) ≡ false
      by false b c d e = refl
      by true false c d e = refl
      by true true false d e = refl
      by true true true d e = absurd (none e)

  -- and no text: no paragraph is open behind it
  pub blank-open : plain.is_blank ≡ true → is_paragraph plain.leaf ≡ false
  blank-open h =
      none plain.is_left_blank plain.is_lazy (blank_not_lazy on k.before n line h) (leaf_after on (cond plain.stays k.before.leaf closed) (rest_of plain)) (blank_leaf on (cond plain.stays k.before.leaf closed) (rest_of plain) h)
    where
      none : (left lazy : Bool) → lazy ≡ false → (leaf : Leaf) → is_paragraph leaf ≡ false → is_paragraph (cond left closed (cond lazy open_paragraph leaf)) ≡ false
      none true lazy e leaf h = refl
      none false true e leaf h = absurd (false≢true (sym e))
      none false false e leaf h = h

  pub blank-without : plain.is_blank ≡ true → (row_without on k n line).leaf ≡ plain.leaf
  blank-without h = ap (λ x. cond x open_paragraph plain.leaf) (blank-nothing h)

  -- so it is in no table
  pub blank-same : plain.is_blank ≡ true → (row_of on k n line).leaf ≡ plain.leaf
  blank-same h =
      let row = row_without on k n line in
      let more = (is_paragraph k.before.leaf && begins_table on k row) || (is_table k.before.leaf && is_row (rest_of row)) in
      let no : is_paragraph row.leaf ≡ false = ap is_paragraph (blank-without h) ∙ blank-open h in
      ap (λ b. cond (on.gfm_table && (row.stays && (b && more))) open_table row.leaf) no ∙ ap (λ b. cond b open_table row.leaf) (third-fails on.gfm_table row.stays) ∙ blank-without h

-- as definitions have them read
abbrev pub known-reads : (on : Constructs) → Reads on
known-reads on = record {
  Known = Known;
  before = λ k. k.before;
  leaf = λ k n l. (row_of on k n l).leaf;
  next = known_after on;
  same_next = λ k r. refl;
  same_blank = λ k n l h. blank-same on k n l h;
}

-- what is known before the first line
abbrev pub nothing : Constructs → Known
nothing on = record { before = nothing_known on; text = [] }
