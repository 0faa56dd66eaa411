-- Lines of a document behind which a paragraph is open have text.
use Rattle.std.proofs.Common.{◌≡◌, ℕ, suc, ◌+◌, ◌≤◌, Bool, true, false, cond, List, [], ◌∷◌, arith, drop, length, sym, subst}
use Rattle.std.specs.Prelude.{◌&&◌}
use Rattle.std.proofs.lemmas.Bool.{false≢true}
use Rattle.markdown_base.specs.declared.configuration.Constructs.{Constructs}
use Rattle.mdconstructs_tables.specs.Breaks.{is_white}
use Rattle.mdblock_leaf_blocks.specs.LeafBlocks.{Line}
use Rattle.mdblock_leaf_blocks.specs.LineKinds.{indent, is_blank_line, unindented}
use Rattle.mdblock_containers.specs.Rows.{nothing_known, rest_of}
use Rattle.mdblock_definitions.specs.Rows.{Known, known_after, row_of, rows, rows_from}
use Rattle.mdblock_definitions.specs.Sectioned.{TextsAreFilled}
use Rattle.mdblock_definitions.proofs.FilledTexts.{follows-from, text-not-blank}

-- a line that is not blank has text behind its white space
some-filled : (t : List ℕ) → is_blank_line t ≡ false → 1 ≤ length (unindented t)
some-filled [] h = absurd (false≢true (sym h))
some-filled (b ∷ bs) h = by (is_white b) h (some-filled bs)
  where
    by : (x : Bool) → (x && is_blank_line bs) ≡ false → (is_blank_line bs ≡ false → 1 ≤ length (unindented bs)) → 1 ≤ length (drop (cond x (1 + indent bs) 0) (b ∷ bs))
    by true e rest = let on : 1 + indent bs ≡ suc (indent bs) = omega arith in subst (λ (n : ℕ). 1 ≤ length (drop n (b ∷ bs))) (sym on) (rest e)
    by false e rest = omega arith

texts-from : (on : Constructs) (k : Known) (n : ℕ) (ls : List Line) → TextsAreFilled (rows_from on k n ls)
texts-from on k n [] = tt
texts-from on k n (l ∷ ls) =
    let row = row_of on k n l in (
      (λ e. let not-blank = text-not-blank on k n l e in (not-blank, some-filled (rest_of row) not-blank)),
      (follows-from on k n l ls, texts-from on (known_after on k row) (suc n) ls),
    )

pub all-texts : (on : Constructs) (ls : List Line) → TextsAreFilled (rows on ls)
all-texts on ls = texts-from on (record { before = nothing_known on; text = [] }) 1 ls
