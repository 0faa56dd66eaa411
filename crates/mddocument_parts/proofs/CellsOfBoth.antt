-- The texts of cells as texts of their own, in events behind others: in both.
use Rattle.std.proofs.Common.{◌≡◌, ◌∙◌, ℕ, Bool, true, false, cond, List, [], ◌∷◌, ◌++◌, ap, length, map, refl, sym}
use Rattle.std.specs.Prelude.{◌&&◌}
use Rattle.markdown_base.specs.declared.configuration.Constructs.{Constructs}
use Rattle.markdown_base.specs.declared.event.Event.{Event}
use Rattle.markdown_base.specs.declared.event.Name.TheVariants as name
use Rattle.markdown_base.specs.Events.{IsBalanced, empty, is_enter, same_name, span}
use Rattle.mdblock_table_marks.specs.Cells.{as_text, celled, enters_cell, with_cells}
use Rattle.mdblock_table_marks.proofs.CellLemmas.{celled-length}
use Rattle.mddocument_parts.specs.Moved.{moved_event}

-- the last of events enters the text of a cell, or, if there is none, so did the one before
abbrev ends : Bool → List Event → Bool
ends b [] = b
ends b (e ∷ es) = ends (enters_cell e) es

ends-append : (b : Bool) (xs ys : List Event) → ends b (xs ++ ys) ≡ ends (ends b xs) ys
ends-append b [] ys = refl
ends-append b (x ∷ xs) ys = ends-append (enters_cell x) xs ys

-- the last of balanced events is an exit
ends-balanced : {es : List Event} → IsBalanced es → ends false es ≡ false
ends-balanced empty = refl
ends-balanced (span e f xs ys are enters exits same b c) =
    let none : enters_cell f ≡ false = ap (λ k. is_enter k && same_name f.name name.GfmTableCellText) exits in
    ap (ends false) are ∙ ends-append (enters_cell e) xs (f ∷ ys) ∙ ap (λ x. ends x ys) none ∙ ends-balanced c

ends-celled : (b c : Bool) (es : List Event) → ends b (celled c es) ≡ ends b es
ends-celled b c [] = refl
ends-celled b true (e ∷ es) = ends-celled (enters_cell e) (enters_cell e) es
ends-celled b false (e ∷ es) = ends-celled (enters_cell e) (enters_cell e) es

celled-append : (b : Bool) (xs ys : List Event) → celled b (xs ++ ys) ≡ celled b xs ++ celled (ends b xs) ys
celled-append b [] ys = refl
celled-append b (x ∷ xs) ys = ap (λ l. cond b (as_text x) x ∷ l) (celled-append (enters_cell x) xs ys)

celled-moved : (lines bytes events : ℕ) (b : Bool) (es : List Event) → celled b (map (moved_event lines bytes events) es) ≡ map (moved_event lines bytes events) (celled b es)
celled-moved lines bytes events b [] = refl
celled-moved lines bytes events true (e ∷ es) = ap (λ l. moved_event lines bytes events (as_text e) ∷ l) (celled-moved lines bytes events (enters_cell e) es)
celled-moved lines bytes events false (e ∷ es) = ap (λ l. moved_event lines bytes events e ∷ l) (celled-moved lines bytes events (enters_cell e) es)

-- They are of both, if the first are balanced
pub cells-of-both : (on : Constructs) (lines bytes : ℕ) (xs ys : List Event) → IsBalanced (with_cells on xs)
    → with_cells on (xs ++ map (moved_event lines bytes (length xs)) ys) ≡ with_cells on xs ++ map (moved_event lines bytes (length (with_cells on xs))) (with_cells on ys)
cells-of-both on lines bytes xs ys = by on.gfm_table
  where
    by : (b : Bool) → IsBalanced (cond b (celled false xs) xs)
        → cond b (celled false (xs ++ map (moved_event lines bytes (length xs)) ys)) (xs ++ map (moved_event lines bytes (length xs)) ys)
        ≡ cond b (celled false xs) xs ++ map (moved_event lines bytes (length (cond b (celled false xs) xs))) (cond b (celled false ys) ys)
    by true balanced =
        celled-append false xs (map (moved_event lines bytes (length xs)) ys)
        ∙ ap (λ b. celled false xs ++ celled b (map (moved_event lines bytes (length xs)) ys)) (sym (ends-celled false false xs) ∙ ends-balanced balanced)
        ∙ ap (λ l. celled false xs ++ l) (celled-moved lines bytes (length xs) false ys)
        ∙ ap (λ n. celled false xs ++ map (moved_event lines bytes n) (celled false ys)) (sym (celled-length false xs))
    by false balanced = refl
