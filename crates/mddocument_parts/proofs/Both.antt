-- The leaf blocks of a document are those of its parts.
use Rattle.mddocument_parts.proofs.Prelude.{◌≡◌, ℕ, ◌&&◌, List, [], ◌∷◌, ◌++◌, true, not, length, sym, ap, ◌∙◌, map, append-nil, and-right, and-left, Constructs, Line, leaf_blocks, lines_in, line_kind, BlocksOfBoth, first_at_rest, line_endings, moved_block, moved_line, moved_lines, begins_near, is_at_rest, is_open_behind, virtual}
use Rattle.mddocument_parts.proofs.MovedBlocks.{blocks-move, text-moved}
use Rattle.mddocument_parts.proofs.Rests.{rests-cut-blocks}
use Rattle.mddocument_parts.proofs.Virtual.{lines-of-both}

module _ (on : Constructs) (l n : ℕ) where
  -- a moved line is at a rest where the line is
  rest-moved : (before : List Line) (line : Line) → is_at_rest on before (moved_line l n line) ≡ is_at_rest on before line
  rest-moved before line = ap (λ t. begins_near (line_kind on t) && not (is_open_behind on before)) (text-moved l n line)

  apart-moved : (before lines : List Line) → first_at_rest on before lines ≡ true → leaf_blocks on (before ++ moved_lines l n lines) ≡ leaf_blocks on before ++ map (moved_block l n) (leaf_blocks on lines)
  apart-moved before [] h = ap (leaf_blocks on) (append-nil before) ∙ sym (append-nil (leaf_blocks on before))
  apart-moved before (line ∷ lines) h = rests-cut-blocks on before (moved_line l n line) (moved_lines l n lines) (rest-moved before line ∙ h) ∙ ap (λ r. leaf_blocks on before ++ r) (blocks-move on l n (line ∷ lines))

pub blocks-of-both : BlocksOfBoth
blocks-of-both on t a b h =
    ap (leaf_blocks on) (lines-of-both t a b (and-left _ _ h))
    ∙ apart-moved on (line_endings a) (length a) (lines_in (virtual t a)) (lines_in (virtual t b)) (and-right _ _ h)
