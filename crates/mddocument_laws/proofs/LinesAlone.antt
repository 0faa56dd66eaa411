-- Where no line is text whatever it looks like, leaf blocks are those of lines alone.
use Rattle.mddocument_laws.proofs.Prelude.{◌≡◌, ◌∙◌, ◌&&◌, ℕ, zero, suc, Bool, false, cond, List, [], ◌∷◌, ap, drop, length, refl, take, Constructs, Line, LeafBlock, block_of_kind, blocks_in, further_code, indented_code, leaf_blocks, text_of, underlined, LineKind, blank, fence, heading, html, indented, line_kind, text, thematic_break, nat_le}
use Rattle.mdblock_leaf_blocks.specs.LeafBlocks.{is_blank, is_indented}
use Rattle.mdblock_text_lines.specs.TextLines as told

-- no line is text whatever it looks like
abbrev pub is_text_nowhere : Line → Bool
is_text_nowhere line = false

module _ (on : Constructs) where
  code-alone : (lines : List Line) → told.further_code on is_text_nowhere lines ≡ further_code on lines
  code-alone [] = refl
  code-alone (line ∷ lines) = let kind = line_kind on (text_of line) in ap (λ n. cond (is_indented on kind) (suc n) (cond (is_blank on kind && nat_le 1 n) (suc n) 0)) (code-alone lines)

  underlined-alone : (lines behind : List Line) → told.underlined on is_text_nowhere lines behind ≡ underlined on lines behind
  underlined-alone lines [] = refl
  underlined-alone lines (next ∷ behind) = refl

  block-alone : (kind : LineKind) (line : Line) (lines : List Line) → told.block_of_kind on is_text_nowhere kind line lines ≡ block_of_kind on kind line lines
  block-alone blank line lines = refl
  block-alone indented line lines = let more = code-alone lines in λ i. (indented_code (take (suc (more i)) (line ∷ lines)), suc (more i))
  block-alone heading line lines = refl
  block-alone (fence f) line lines = refl
  block-alone (html kind) line lines = refl
  block-alone thematic_break line lines = refl
  block-alone text line lines = underlined-alone _ _

  cuts-alone : (bound : ℕ) (lines : List Line) → told.blocks_in on is_text_nowhere bound lines ≡ blocks_in on bound lines
  cuts-alone zero lines = refl
  cuts-alone (suc bound) [] = refl
  cuts-alone (suc bound) (line ∷ lines) =
      let cut = block_of_kind on (line_kind on (text_of line)) line lines in
      ap (λ (c : LeafBlock × ℕ). c.0 ∷ told.blocks_in on is_text_nowhere bound (drop c.1 (line ∷ lines))) (block-alone (line_kind on (text_of line)) line lines)
      ∙ ap (λ l. cut.0 ∷ l) (cuts-alone bound (drop cut.1 (line ∷ lines)))

  pub blocks-alone : (lines : List Line) → told.leaf_blocks on is_text_nowhere lines ≡ leaf_blocks on lines
  blocks-alone lines = cuts-alone (length lines) lines
