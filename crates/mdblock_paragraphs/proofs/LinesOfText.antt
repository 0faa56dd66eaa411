-- Lines of text are one paragraph by the definition of leaf blocks.
use Rattle.std.proofs.Common.{◌≡◌, ◌∙◌, ℕ, zero, suc, ◌+◌, false, cond, List, [], ◌∷◌, ap, arith, drop, length, not, refl, take, take_all}
use Rattle.std.proofs.lemmas.List.{drop_all}
use Rattle.std.specs.List.{AllByRecursion}
use Rattle.markdown_base.specs.declared.configuration.Constructs.{Constructs}
use Rattle.mdblock_leaf_blocks.specs.LeafBlocks.{LeafBlock, Line, block_of_kind, blocks_in, content_at, ends_text, lines_until, paragraph, underlined}
use Rattle.mdblock_paragraphs.specs.Paragraphs.{LinesOfTextAreAParagraph}

-- none of these lines ends a text
none-ends : (on : Constructs) (ls : List Line) → AllByRecursion (λ (next : Line). ends_text on next ≡ false) ls → lines_until (ends_text on) ls ≡ length ls
none-ends on [] h = refl
none-ends on (l ∷ ls) h =
    let one : 1 + lines_until (ends_text on) ls ≡ suc (length ls) = omega (arith, none-ends on ls h.1) in
    ap (λ b. cond (not b) (1 + lines_until (ends_text on) ls) 0) h.0 ∙ one

no-blocks : (on : Constructs) (bound : ℕ) → blocks_in on bound [] ≡ []
no-blocks on zero = refl
no-blocks on (suc bound) = refl

pub one-paragraph : LinesOfTextAreAParagraph
one-paragraph on line more is none =
    let all : List Line = line ∷ more in
    let n = suc (length more) in
    let count : suc (lines_until (ends_text on) more) ≡ n = ap suc (none-ends on more none) in
    let whole : underlined on (take n all) (drop n all) ≡ (paragraph all, n) = (λ i. underlined on (take_all n all (omega arith) i) (drop_all n all (omega arith) i)) in
    let content : content_at on all ≡ (paragraph all, n) = ap (λ m. underlined on (take m all) (drop m all)) count ∙ whole in
    ap (λ kind. (block_of_kind on kind line more).0 ∷ blocks_in on (length more) (drop (block_of_kind on kind line more).1 all)) is
    ∙ ap (λ (x : LeafBlock × ℕ). x.0 ∷ blocks_in on (length more) (drop x.1 all)) content
    ∙ ap (λ ls. paragraph all ∷ blocks_in on (length more) ls) (drop_all n all (omega arith))
    ∙ ap (λ bs. paragraph all ∷ bs) (no-blocks on (length more))
